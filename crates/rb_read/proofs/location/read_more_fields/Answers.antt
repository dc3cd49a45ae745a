use Rattle.std.proofs.Common.{rules}
use Rattle.rb_syntax.specs.declared.token.Symbol.TheVariants as symbol
use Rattle.rb_read.specs.inner.Starting.{is_symbol}
use Rattle.rb_read.specs.inner.Reading.{field_in, more_fields}
use Rattle.rb_read.proofs.location.read_more_fields.Goals as goal

pub returns : goal.returns
unfolding more_fields
returns c = c.read_each.ensures (λ t. is_symbol symbol.Dot t) field_in (λ ps r h. search rules) (λ ps r h. search rules)
