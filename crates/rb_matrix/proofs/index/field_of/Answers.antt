use Rattle.rb_matrix.proofs.Keys.{field-there}
use Rattle.rb_matrix.proofs.index.field_of.Goals as goal

pub returns-in-Con : goal.returns-in-Con
returns-in-Con c = field-there c.args.pat.now c.in-Con.field-0 c.in-Con.field-1 c.in-Con.pats c.args.field c.get.result c.in-Con.is c.get.ensures.value
