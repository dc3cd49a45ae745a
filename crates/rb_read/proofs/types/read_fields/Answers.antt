use Rattle.std.proofs.Common.{rules}
use Rattle.rb_read.specs.inner.Reading.{type_tree}
use Rattle.rb_read.proofs.types.read_fields.Goals as goal

pub returns : goal.returns
returns c = c.read_in_parens.ensures (type_tree c.args.total) (λ ps r h. search rules)
