use Rattle.std.proofs.Common.{rules}
use Rattle.rb_trim.proofs.Facts.{stays_so}
use Rattle.rb_trim.proofs.telling.stays.Goals as goal

pub returns : goal.returns
returns c = λ t. stays_so c.args.facts.now c.args.instr.now c.args.fact.now (search rules) (search rules) (c.keeps_content.ensures t)
