use Rattle.std.proofs.Common.{refl, subst}
use Rattle.std.proofs.lemmas.Result.{IfOk-weaker}
use Rattle.rb_matrix.specs.inner.Against.{AreRowsNear, StandFor}
use Rattle.rb_matrix.proofs.Differing.{rows-stand}
use Rattle.rb_matrix.proofs.coverage.rows_against.Goals as goal

pub returns : goal.returns
returns c =
    let pats = c.args.pats.now in let p = c.args.pat.now in let js = c.in_ok-near.near in
    IfOk-weaker c.rows_near.result (AreRowsNear p pats c.as_slice.result.now) (StandFor p pats)
    (λ rows h. rows-stand p pats js rows (subst (λ l. AreRowsNear p pats l rows) c.as_slice.ensures h) (c.in_ok-near.ensures pats refl c.requires.indexes))
    c.rows_near.ensures
