use Rattle.std.proofs.Common.{◌≡◌, Some, refl, subst}
use Rattle.std.specs.Prelude.{slice_get, slice_index_or}
use Rattle.std.specs.Bool.{OnTrue}
use Rattle.std.proofs.lemmas.Option.{slice_get_read}
use Rattle.rb_matrix.specs.inner.Against.{Covers}
use Rattle.rb_matrix.proofs.Differing.{any-at}
use Rattle.rb_matrix.proofs.index.are_covering.Goals as goal

pub returns-then-covers : goal.returns-then-covers
returns-then-covers c =
    let pats = c.args.pats.now in let p = c.args.pat.now in let q = c.in-Some.other.now in
    let j = slice_index_or c.args.numbers.now c.loop-number.number-index 0 in
    let at : slice_get pats j ≡ Some q = slice_get_read pats _ j q refl c.in-Some.ensures.lookup.3.0 c.in-Some.ensures.lookup.1 in
    λ v m. any-at pats j q v at (subst (λ b. OnTrue b (Covers q p)) c.if-covers.true c.covers.ensures v m)
