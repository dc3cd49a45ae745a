use Rattle.std.proofs.Common.{rules}
use Rattle.rb_read.specs.inner.Tokens.{number}
use Rattle.rb_read.proofs.item.read_shape.Goals as goal

pub returns : goal.returns
returns c = c.read_some_closed.ensures number (λ ps r h. search rules)
