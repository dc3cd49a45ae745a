use Rattle.std.proofs.Common.{◌≡◌, ℕ, ◌+◌, List, true, map, ap, sym, subst, ◌∙◌}
use Rattle.rb_bytes.specs.Memory.{empty_memory}
use Rattle.rb_command.specs.View.{limits_view}
use Rattle.rb_core.specs.Typing.{param_types}
use Rattle.rb_core.specs.Values.{all_of_types, is_of_type}
use Rattle.rb_core.specs.declared.program.Program.{Program}
use Rattle.rb_core.specs.declared.value.Value.{Value}
use Rattle.rb_lines.specs.View.{Meets}
use Rattle.rb_lines.proofs.Meeting.{met}
use Rattle.rb_rel.specs.Answers as answer
use Rattle.rb_run.specs.Answering.{meant_by}
use Rattle.rb_run.specs.Calling.{IsCounted}
use Rattle.ribbit_tool.specs.Count.{Counts, IsMainTally, count_text}
use Rattle.ribbit_tool.specs.Run.{answer_due, source_answer}
use Rattle.ribbit_tool.proofs.count.count_prepared.Goals as goal

pub count_main-requires-clause-typed : goal.count_main-requires-clause-typed
count_main-requires-clause-typed g c =
    let p = c.args.agreed.now.covered.program in
    subst (λ (vs : List Value). all_of_types (map (is_of_type p.types) vs) (param_types p.funs p.main) ≡ true) (sym c.as_slice-args.ensures) c.requires.typed

pub returns : goal.returns
returns g c =
    let agreed = c.args.agreed.now in
    let p = agreed.covered.program in
    let r = c.args.prepared.now in
    let limits = limits_view c.args.limits in
    let region = empty_memory limits.region in
    let k = c.in_ok-counted.ensures.counted in
    let tally = c.in_ok-counted.counted.tally in
    let same_args = c.as_slice-args.ensures in
    let counted = subst (λ (vs : List Value). IsCounted agreed r.code vs limits.calls region k.0 tally.switches) same_args k.2 in
    let answered = c.in_ok-counted.ensures.answer ∙ ap (λ (vs : List Value). source_answer p agreed.layouts limits vs) same_args in
    let tallied = subst (λ (vs : List Value). IsMainTally p agreed.layouts limits vs tally) same_args c.in_ok-counted.ensures.tallied in
    let before = c.args.steps.now.taken in
    let same = c.program.ensures.same ∙ ap (λ x. x.program) c.covered.ensures.same in
    let Said : Program → answer.Answer → ℕ → Type 0 = λ x s now. Meets (λ due. due ≡ answer_due (count_text x tally) limits.calls s k.0) before now c.show.result in
    met (λ due. due ≡ answer_due (count_text p tally) limits.calls (source_answer p agreed.layouts limits r.args) k.0) (λ due. Counts agreed r.code r.args limits due)
    (λ due e. record { taken = k.0; tally = tally; counted = counted; tallied = tallied; shown = e })
    before c.count_main.new.steps.taken c.show.result
    (subst (λ now. Said p (source_answer p agreed.layouts limits r.args) now) (sym k.1)
    (subst (λ s. Said p s (before + k.0)) answered (subst (λ x. Said x (meant_by c.in_ok-counted.counted.answer) (before + k.0)) same (c.show.ensures before k.0))))
