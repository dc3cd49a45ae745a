use Rattle.std.proofs.Common.{sym, arith}
use Rattle.std.proofs.lemmas.Bool.{lt-ltb}
use Rattle.rb_matrix.proofs.Powers.{two-pow-le}
use Rattle.rb_matrix.proofs.specialization.holds.Goals as goal

pub returns-then-bits-ge64 : goal.returns-then-bits-ge64
returns-then-bits-ge64 c =
    let wide = two-pow-le 64 c.args.bits c.if-bits-ge64.true in
    sym (lt-ltb _ _ (omega (arith, wide, c.ranges.number)))
