use Rattle.std.proofs.Common.{sym}
use Rattle.rb_coding.proofs.LeafLemmas.{num_num, num_con, con_num, then_con, else_con}
use Rattle.rb_coding.proofs.leaf.+matching.Goals as goal

pub matches-returns-in-Num-layer_at : goal.matches-returns-in-Num-layer_at
matches-returns-in-Num-layer_at t c = rw c.in-Num.is (num_num _ c.in-Num.field-0 c.in-Num.n c.in-Num-layer_at.m c.in-Num-layer_at.ensures)

pub matches-returns-in-Con-layer_at : goal.matches-returns-in-Con-layer_at
matches-returns-in-Con-layer_at t c = rw c.in-Num.is (num_con _ c.in-Num.field-0 c.in-Num.n _ _ c.in-Con-layer_at.ensures.0)

pub matches-returns-in-Num-layer_at-2 : goal.matches-returns-in-Num-layer_at-2
matches-returns-in-Num-layer_at-2 t c = rw c.in-Con.is (con_num _ c.in-Con.field-0 c.in-Con.con c.in-Con.pats _ c.in-Num-layer_at-2.ensures)

pub matches-returns-then-con-number : goal.matches-returns-then-con-number
matches-returns-then-con-number t c =
    rw c.in-Con.is (then_con _ c.in-Con.field-0 c.in-Con.con c.in-Con.pats c.in-Con-layer_at-2.number _ c.in-Con-layer_at-2.ensures.0 c.if-con-number.true
    (rw c.as_slice.ensures at c.all_match.ensures (sym c.in-Con-layer_at-2.ensures.1)))

pub matches-returns-else-con-number : goal.matches-returns-else-con-number
matches-returns-else-con-number t c =
    rw c.in-Con.is (else_con _ c.in-Con.field-0 c.in-Con.con c.in-Con.pats c.in-Con-layer_at-2.number c.in-Con-layer_at-2.ensures.0 c.if-con-number.false)
