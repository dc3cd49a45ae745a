use Rattle.std.proofs.Common.{◌≡◌, length, true, Some, refl, arith, subst}
use Rattle.std.specs.Prelude.{slice_get}
use Rattle.std.specs.Bool.{OnTrue}
use Rattle.std.proofs.lemmas.Option.{slice_get_read}
use Rattle.rb_matrix.specs.inner.Against.{Covers}
use Rattle.rb_matrix.proofs.Covering.{covered-more, covered-all, covers-where}
use Rattle.rb_matrix.proofs.apart.+covering.Goals as goal

pub cover_each-loop-i-preserved : goal.cover_each-loop-i-preserved
cover_each-loop-i-preserved t c =
    let ps = c.args.ones.now in let qs = c.args.others.now in let i = c.loop-i.i in let p = c.index-ones-i.result in let q = c.index-others-i.result in
    let at : slice_get ps i ≡ Some p = slice_get_read ps _ i p refl (omega arith) c.index-ones-i.is in
    let bt : slice_get qs i ≡ Some q = slice_get_read qs _ i q refl (omega arith) c.index-others-i.is in
    let hit : c.covers.result ≡ true = grind (arith, c.if-not-covers.false) in
    covered-more i ps qs p q at bt (subst (λ b. OnTrue b (Covers p q)) hit c.covers.ensures) c.loop-i.invariant

pub covers-returns-else-con-known : goal.covers-returns-else-con-known
covers-returns-else-con-known t c =
    covers-where c.in-Con.field-0 c.in-Con-other.field-0 c.in-Con.con c.in-Con-other.known c.in-Con.pats c.in-Con-other.others (grind (arith, c.if-con-known.false))
    c.args.one.now c.args.other.now c.in-Con.is c.in-Con-other.is
    c.as_slice.result.now c.as_slice-in-Con-other.result.now c.as_slice.ensures c.as_slice-in-Con-other.ensures c.cover_each.result c.cover_each.ensures

pub cover_each-returns : goal.cover_each-returns
cover_each-returns t c =
    let ps = c.args.ones.now in let qs = c.args.others.now in
    let same : length ps ≡ length qs = grind (arith, c.if-ones-others.false) in
    covered-all c.loop-i.i ps qs same (omega arith) c.loop-i.invariant
