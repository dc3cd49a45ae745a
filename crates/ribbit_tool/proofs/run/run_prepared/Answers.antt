use Rattle.std.proofs.Common.{◌≡◌, ℕ, ◌+◌, List, true, map, ap, sym, subst, ◌∙◌}
use Rattle.rb_bytes.specs.Memory.{empty_memory}
use Rattle.rb_command.specs.View.{limits_view}
use Rattle.rb_core.specs.Typing.{param_types}
use Rattle.rb_core.specs.Values.{all_of_types, is_of_type}
use Rattle.rb_core.specs.declared.program.Program.{Program}
use Rattle.rb_core.specs.declared.value.Value.{Value}
use Rattle.rb_lines.specs.View.{Meets}
use Rattle.rb_lines.proofs.Meeting.{met}
use Rattle.rb_rel.specs.Answers as answer
use Rattle.rb_run.specs.Answering.{meant_by}
use Rattle.rb_run.specs.Calling.{IsCounted}
use Rattle.ribbit_tool.specs.Run.{Runs, answer_due, source_answer, value_line}
use Rattle.ribbit_tool.proofs.run.run_prepared.Goals as goal

pub answer_main-requires-clause-typed : goal.answer_main-requires-clause-typed
answer_main-requires-clause-typed g c =
    let p = c.args.agreed.now.covered.program in
    subst (λ (vs : List Value). all_of_types (map (is_of_type p.types) vs) (param_types p.funs p.main) ≡ true) (sym c.as_slice-args.ensures) c.requires.typed

pub returns : goal.returns
returns g c =
    let agreed = c.args.agreed.now in
    let p = agreed.covered.program in
    let r = c.args.prepared.now in
    let limits = limits_view c.args.limits in
    let k = c.in_ok-answer.ensures.counted in
    let counted = subst (λ (vs : List Value). IsCounted agreed r.code vs limits.calls (empty_memory limits.region) k.0 k.1) c.as_slice-args.ensures k.3 in
    let answered = c.in_ok-answer.ensures.answer ∙ ap (λ (vs : List Value). source_answer p agreed.layouts limits vs) c.as_slice-args.ensures in
    let before = c.args.steps.now.taken in
    let same = c.program.ensures.same ∙ ap (λ x. x.program) c.covered.ensures.same in
    let Said : Program → answer.Answer → ℕ → Type 0 = λ x s now. Meets (λ due. due ≡ answer_due (value_line x) limits.calls s k.0) before now c.show.result in
    met (λ due. due ≡ answer_due (value_line p) limits.calls (source_answer p agreed.layouts limits r.args) k.0) (λ due. Runs agreed r.code r.args limits due)
    (λ due e. record { taken = k.0; switches = k.1; counted = counted; shown = e })
    before c.answer_main.new.steps.taken c.show.result
    (subst (λ now. Said p (source_answer p agreed.layouts limits r.args) now) (sym k.2)
    (subst (λ s. Said p s (before + k.0)) answered (subst (λ x. Said x (meant_by c.in_ok-answer.answer) (before + k.0)) same (c.show.ensures before k.0))))
