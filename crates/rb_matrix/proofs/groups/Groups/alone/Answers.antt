use Rattle.std.proofs.Common.{◌∙◌}
use Rattle.rb_matrix.proofs.Grouping.{merge-none}
use Rattle.rb_matrix.proofs.groups.Groups.alone.Goals as goal

pub returns : goal.returns
returns c = merge-none c.group.result.now ∙ c.group.ensures
