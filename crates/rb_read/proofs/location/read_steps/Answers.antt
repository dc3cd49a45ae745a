use Rattle.std.proofs.Common.{rules}
use Rattle.rb_syntax.specs.declared.token.Symbol.TheVariants as symbol
use Rattle.rb_read.specs.inner.Starting.{is_symbol}
use Rattle.rb_read.specs.inner.Reading.{loc_step}
use Rattle.rb_read.proofs.location.read_steps.Goals as goal

pub returns : goal.returns
returns c = c.read_each.ensures (λ t. is_symbol symbol.Arrow t) loc_step (λ ps r h. search rules) (λ ps r h. search rules)
