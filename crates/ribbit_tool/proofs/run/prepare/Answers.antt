use Rattle.std.proofs.Common.{ap, subst, ◌∙◌}
use Rattle.std.proofs.lemmas.Result.{err_from_is_err_and}
use Rattle.rb_accept.specs.Arguments.{IsMisfit, Spell}
use Rattle.rb_accept.proofs.ArgumentLaws.{spelled_typed}
use Rattle.rb_core.specs.declared.program.Program.{Program}
use Rattle.rb_lines.proofs.Meeting.{refusal_met}
use Rattle.ribbit_tool.proofs.run.prepare.Goals as goal

pub returns-in_err-args-clause-refused : goal.returns-in_err-args-clause-refused
returns-in_err-args-clause-refused c =
    let program = c.args.agreed.now.covered.program in
    let same = c.program.ensures.same ∙ ap (λ x. x.program) c.covered.ensures.same in
    let p = err_from_is_err_and c.from_residual-in_err-args.result c.from_residual-in_err-args.ensures.1 in
    rw (p.1, p.2) (refusal_met (λ due. IsMisfit program c.args.words.now due) (λ due. IsMisfit program c.args.words.now due) (λ due h. h) _
    (rw same at c.in_err-args.ensures.refused))

pub returns-clause-prepared : goal.returns-clause-prepared
returns-clause-prepared c =
    let same = c.program.ensures.same ∙ ap (λ x. x.program) c.covered.ensures.same in
    record {
      compiled = c.in_ok-code.ensures;
      typed = spelled_typed c.args.agreed.now.covered.program c.args.words.now c.in_ok-args.args
          (subst (λ (x : Program). Spell x c.args.words.now c.in_ok-args.args) same c.in_ok-args.ensures.read);
    }

pub returns-clause-spelled : goal.returns-clause-spelled
returns-clause-spelled c =
    let same = c.program.ensures.same ∙ ap (λ x. x.program) c.covered.ensures.same in
    subst (λ (x : Program). Spell x c.args.words.now c.in_ok-args.args) same c.in_ok-args.ensures.read
