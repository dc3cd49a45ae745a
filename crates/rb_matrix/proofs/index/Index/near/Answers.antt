use Rattle.std.proofs.Common.{◌≡◌, ◌++◌, ap, subst, ◌∙◌}
use Rattle.std.proofs.lemmas.Result.{IfOk-weaker}
use Rattle.rb_matrix.specs.inner.Index.{HasKey, AreNear}
use Rattle.rb_matrix.proofs.Keys.{near-all, near-group}
use Rattle.rb_matrix.proofs.index.Index.near.Goals as goal

pub returns-in_default : goal.returns-in_default
returns-in_default c =
    let x = c.args.self.now in let p = c.args.pat.now in let n = c.args.count in
    IfOk-weaker c.numbers_below.result _ (AreNear p n x) (λ js all. near-all p n x js all) c.numbers_below.ensures

pub returns : goal.returns
returns c =
    let x = c.args.self.now in let p = c.args.pat.now in let n = c.args.count in let k = c.in-Some.key in
    IfOk-weaker c.concat.result (λ js. js ≡ x.numbers.keyless ++ c.group.result.now) (AreNear p n x)
    (λ js is. near-group p n x js k (subst (λ path. HasKey p path k) c.as_slice.ensures c.in-Some.ensures) (is ∙ ap (λ l. x.numbers.keyless ++ l) c.group.ensures))
    c.concat.ensures
