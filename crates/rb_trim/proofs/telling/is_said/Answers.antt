use Rattle.std.proofs.Common.{rules, arith}
use Rattle.rb_trim.proofs.Facts.{said_so}
use Rattle.rb_trim.proofs.telling.is_said.Goals as goal

pub returns : goal.returns
returns c = λ t.
    said_so c.args.facts.now c.args.told c.args.instr.now c.args.fact.now c.in-Some.said c.source-from.result
    c.in-Some.is c.source-from.ensures (omega arith) (search rules) (search rules) (c.keeps_content.ensures t)
