use Rattle.std.proofs.Common.{List}
use Rattle.std.proofs.lemmas.Result.{err_from_is_err_and}
use Rattle.rb_accept.specs.Accepting.{IsRefused}
use Rattle.rb_accept.specs.Arguments.{IsMisfit}
use Rattle.rb_command.specs.View.{limits_view}
use Rattle.rb_core.specs.declared.value.Value.{Value}
use Rattle.rb_layout.specs.declared.agreed.LaidOut.{LaidOut}
use Rattle.rb_lines.specs.Answer.{Due}
use Rattle.rb_lines.proofs.Meeting.{met, refused_met}
use Rattle.rb_target.specs.declared.code.CodeFun.{CodeFun}
use Rattle.ribbit_tool.specs.Image.{Images, ImagesFile}
use Rattle.ribbit_tool.proofs.Preparing.{refused_due, misfit_due, prepared_due}
use Rattle.ribbit_tool.proofs.image.image_bytes.Goals as goal

pub returns-in_err-accepted : goal.returns-in_err-accepted
returns-in_err-accepted g c =
    let limits = limits_view c.args.limits in
    let Then : LaidOut → List CodeFun → List Value → Due → Type 0 = λ agreed code args d. Images agreed code args limits d in
    let p = err_from_is_err_and c.from_residual.result c.from_residual.ensures.1 in
    rw (p.1, p.2) (refused_met (λ due. IsRefused c.args.bytes.now due) (λ due. ImagesFile limits c.args.words.now c.args.bytes.now due)
    (refused_due c.args.words.now c.args.bytes.now Then) c.args.steps.now.taken _ c.in_err-accepted.ensures.refused)

pub returns-in_err-prepared : goal.returns-in_err-prepared
returns-in_err-prepared g c =
    let limits = limits_view c.args.limits in
    let Then : LaidOut → List CodeFun → List Value → Due → Type 0 = λ agreed code args d. Images agreed code args limits d in
    let a = c.in_ok-accepted.accepted in
    let p = err_from_is_err_and c.from_residual-in_err-prepared.result c.from_residual-in_err-prepared.ensures.1 in
    rw (p.1, p.2) (refused_met (λ due. IsMisfit a.agreed.covered.program c.args.words.now due)
    (λ due. ImagesFile limits c.args.words.now c.args.bytes.now due)
    (misfit_due c.args.words.now c.args.bytes.now Then a c.in_ok-accepted.ensures.accepted) c.args.steps.now.taken _ c.in_err-prepared.ensures.refused)

pub returns : goal.returns
returns g c =
    let limits = limits_view c.args.limits in
    let Then : LaidOut → List CodeFun → List Value → Due → Type 0 = λ agreed code args d. Images agreed code args limits d in
    let a = c.in_ok-accepted.accepted in
    let r = c.in_ok-prepared.prepared in
    met (λ due. Images a.agreed r.code r.args limits due) (λ due. ImagesFile limits c.args.words.now c.args.bytes.now due)
    (prepared_due c.args.words.now c.args.bytes.now Then a c.in_ok-accepted.ensures.accepted r.code r.args c.in_ok-prepared.ensures.prepared c.in_ok-prepared.ensures.spelled)
    c.args.steps.now.taken c.image_prepared.new.steps.taken c.image_prepared.result c.image_prepared.ensures
