use Rattle.std.proofs.Common.{◌≡◌, List, true, map, sym, subst, ◌∙◌}
use Rattle.rb_bytes.specs.Memory.{Memory, empty_memory}
use Rattle.rb_command.specs.View.{limits_view}
use Rattle.rb_core.specs.Typing.{param_types}
use Rattle.rb_core.specs.Values.{all_of_types, is_of_type}
use Rattle.rb_core.specs.declared.value.Value.{Value}
use Rattle.rb_image_text.specs.MemoryImages.{memory_image}
use Rattle.rb_image_text.specs.Text.{image_text}
use Rattle.rb_lines.specs.Answer.{Due}
use Rattle.rb_lines.specs.View.{Meets}
use Rattle.rb_lines.proofs.Meeting.{met}
use Rattle.rb_run.specs.Calling.{IsCalled, IsCounted}
use Rattle.ribbit_tool.specs.Exec.{end_due}
use Rattle.ribbit_tool.specs.Image.{Images}
use Rattle.ribbit_tool.proofs.ImageLaws.{shows_end}
use Rattle.ribbit_tool.proofs.image.image_prepared.Goals as goal

pub call_main-requires-clause-typed : goal.call_main-requires-clause-typed
call_main-requires-clause-typed g c =
    let p = c.args.agreed.now.covered.program in
    subst (λ (vs : List Value). all_of_types (map (is_of_type p.types) vs) (param_types p.funs p.main) ≡ true) (sym c.as_slice-args.ensures) c.requires.typed

pub show-requires-clause-ended : goal.show-requires-clause-ended
show-requires-clause-ended g c = (c.as_slice-args.result.now, c.args.limits.calls, c.in_ok-memory.memory, c.in_ok-ran.ensures.called)

pub returns : goal.returns
returns g c =
    let agreed = c.args.agreed.now in
    let r = c.args.prepared.now in
    let limits = limits_view c.args.limits in
    let region = empty_memory limits.region in
    let k = c.in_ok-ran.ensures.counted in
    let ran = c.in_ok-ran.ran in
    let same_args = c.as_slice-args.ensures in
    let counted = subst (λ (vs : List Value). IsCounted agreed r.code vs limits.calls region k.0 ran.switches) same_args (
    subst (λ (m : Memory). IsCounted agreed r.code c.as_slice-args.result.now limits.calls m k.0 ran.switches) c.in_ok-memory.ensures.value k.2) in
    let called = subst (λ (vs : List Value). IsCalled agreed vs limits.calls region ran.end c.call_main.new.memory) same_args (
    subst (λ (m : Memory). IsCalled agreed c.as_slice-args.result.now limits.calls m ran.end c.call_main.new.memory) c.in_ok-memory.ensures.value c.in_ok-ran.ensures.called) in
    let before = c.args.steps.now.taken in
    let memory = c.call_main.new.memory in
    let s = shows_end agreed r.args limits ran.end memory called k.0 in
    let Said : Due → Type 0 = λ due. due ≡ end_due (λ words. image_text (memory_image words memory)) limits.calls ran.end k.0 in
    met Said (λ due. Images agreed r.code r.args limits due)
    (λ due e. record { taken = k.0; switches = ran.switches; counted = counted; words = s.words; memory = memory; show = s.show; shown = e ∙ s.due })
    before c.call_main.new.steps.taken c.show.result
    (subst (λ now. Meets Said before now c.show.result) (sym k.1) (c.show.ensures before k.0))
