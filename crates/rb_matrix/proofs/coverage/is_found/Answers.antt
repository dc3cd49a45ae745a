use Rattle.std.proofs.Common.{◌≡◌, subst, refl, take, Some}
use Rattle.std.specs.Bool.{OnTrue}
use Rattle.std.specs.Prelude.{slice_get}
use Rattle.std.proofs.lemmas.Option.{slice_get_read}
use Rattle.std.proofs.lemmas.Result.{IfOk-weaker}
use Rattle.rb_matrix.specs.inner.Against.{IsCovered}
use Rattle.rb_matrix.specs.inner.OneColumn.{IsReachAnswer, IsUseful, IsUseAnswer}
use Rattle.rb_matrix.proofs.Exhausts.{reach-answer, covered-unreached, useful-reached}
use Rattle.rb_matrix.proofs.coverage.is_found.Goals as goal

pub returns : goal.returns
returns c =
    let types = c.args.types.now in let ty = c.args.ty in let pats = c.args.pats.now in let i = c.args.i in let p = c.index-pats-i.result in
    let at : slice_get pats i ≡ Some p = slice_get_read pats _ i p refl c.requires.within c.index-pats-i.is in
    IfOk-weaker c.is_useful.result (IsUseAnswer types ty (take i pats) p) (IsReachAnswer types ty pats i)
    (reach-answer types ty pats i p at) c.is_useful.ensures

pub returns-then-has_covering : goal.returns-then-has_covering
returns-then-has_covering c =
    let pats = c.args.pats.now in let i = c.args.i in let p = c.index-pats-i.result in
    let at : slice_get pats i ≡ Some p = slice_get_read pats _ i p refl c.requires.within c.index-pats-i.is in
    covered-unreached c.args.types.now c.args.ty pats i p at (subst (λ b. OnTrue b (IsCovered p (take i pats))) c.if-has_covering.true c.has_covering.ensures)

pub returns-then-branch : goal.returns-then-branch
returns-then-branch c =
    let types = c.args.types.now in let ty = c.args.ty in let pats = c.args.pats.now in let i = c.args.i in let p = c.index-pats-i.result in
    let at : slice_get pats i ≡ Some p = slice_get_read pats _ i p refl c.requires.within c.index-pats-i.is in
    useful-reached types ty pats i p at (subst (λ b. OnTrue b (IsUseful types ty (take i pats) p)) c.if-branch.true c.in_ok-has_probe.ensures)
