use Rattle.std.specs.Bool.{OnTrue}
use Rattle.std.proofs.lemmas.Result.{IfOk-weaker}
use Rattle.rb_matrix.specs.inner.OneColumn.{IsUseful, IsUseAnswer}
use Rattle.rb_matrix.proofs.Exhausts.{useful-covered}
use Rattle.rb_matrix.proofs.coverage.has_probe.Goals as goal

pub returns : goal.returns
returns c =
    let types = c.args.types.now in let ty = c.args.ty in let before = c.args.before.now in let p = c.args.pat.now in let q = c.in_ok-probe.probe in
    IfOk-weaker c.is_useful.result (IsUseAnswer types ty before q) (λ b. OnTrue b (IsUseful types ty before p))
    (useful-covered types ty before p q c.in_ok-probe.ensures) c.is_useful.ensures
