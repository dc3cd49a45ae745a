use Rattle.std.proofs.Common.{rules}
use Rattle.rb_read.specs.inner.Reading.{con_tree}
use Rattle.rb_read.proofs.item.read_constructors.Goals as goal

pub returns : goal.returns
returns c = c.read_some_closed.ensures (con_tree c.args.total) (λ ps r h. search rules)
