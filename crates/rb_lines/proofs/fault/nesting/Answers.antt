use Rattle.std.proofs.Common.{append_assoc, rules}
use Rattle.rb_lines.proofs.fault.nesting.Goals as goal

pub returns : goal.returns
returns c = simp append_assoc (search rules)
