use Rattle.std.proofs.Common.{rules, arith}
use Rattle.rb_trim.specs.inner.Following.{IsToldBy}
use Rattle.rb_trim.proofs.Facts.{made_itself, made_again, untold}
use Rattle.rb_trim.proofs.telling.is_made.Goals as goal

pub returns-then-eq : goal.returns-then-eq
returns-then-eq c = λ t.
    made_itself c.args.facts.now c.args.instr.now c.in-Some.told c.in-Some.ensures c.args.fact.now
    (omega arith) (search rules)
    (untold c.is_told_by.result (IsToldBy c.in-Some.told.content c.in-Some.told.slot) c.is_told_by.ensures c.if-is_told_by.false)

pub returns-else-from-told : goal.returns-else-from-told
returns-else-from-told c = λ t.
    made_again c.args.facts.now c.args.instr.now c.in-Some.told c.in-Some.ensures c.args.fact.now c.in-Same.from
    (omega arith) c.in-Same.is (λ e. omega (arith, e)) (c.is_known.ensures t)
