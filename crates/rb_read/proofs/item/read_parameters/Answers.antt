use Rattle.std.proofs.Common.{rules}
use Rattle.rb_read.specs.inner.Reading.{param_tree}
use Rattle.rb_read.proofs.item.read_parameters.Goals as goal

pub returns : goal.returns
returns c = c.read_any_closed.ensures (param_tree c.args.total) (λ ps r h. search rules)
