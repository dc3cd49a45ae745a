use Rattle.std.proofs.Common.{◌≡◌, ℕ, ◌-◌, ◌<◌, ◌≤◌, ◌++◌, ◌∙◌, List, length, drop, take, refl, sym, ap, subst, arith}
use Rattle.std.proofs.lemmas.Option.{slice_get_read}
use Rattle.std.proofs.lemmas.List.{with_items_is, take-append-drop, length-drop}
use Rattle.std.specs.Prelude.{slice_get}
use Rattle.std.specs.Vec.{with_items}
use Rattle.rb_target.specs.Meaning.{from, body_in, slots_in}
use Rattle.rb_target.specs.Laws.{Law}
use Rattle.rb_target.specs.declared.instr.Instr.{Instr}
use Rattle.rb_machine.proofs.Quiet.{quiet_stretch}
use Rattle.rb_machine.proofs.Turns.{stretch_turned, stretch_ended}
use Rattle.rb_machine.specs.inner.Turns.{IsLeave, waiting_slots, current_slots}
use Rattle.rb_machine.specs.inner.Stretches.{IsQuietFrom}
use Rattle.rb_machine.specs.declared.state.State.{State}
use Rattle.rb_machine.proofs.turn.stretch_turn.Goals as goal

pub stretch_above-requires-clause-valid : goal.stretch_above-requires-clause-valid
stretch_above-requires-clause-valid g c =
    let s = c.args.state.now in
    let funs = c.args.funs.now in
    let f = c.index-funs-state.result in
    let known = slice_get_read funs (length funs) s.fun f refl c.requires.sound.place.known c.index-funs-state.is in
    c.requires.valid.each s.fun f known

pub stretch_above-requires-clause-laws : goal.stretch_above-requires-clause-laws
stretch_above-requires-clause-laws g c callee =
    let s = c.args.state.now in
    let funs = c.args.funs.now in
    let known = slice_get_read funs (length funs) s.fun c.index-funs-state.result refl c.requires.sound.place.known c.index-funs-state.is in
    subst (λ (b : List Instr). Law b callee (from b callee)) (ap body_in known) (c.requires.laws.unrolls s.fun callee)

pub stretch_above-requires-clause-inside : goal.stretch_above-requires-clause-inside
stretch_above-requires-clause-inside g c =
    let s = c.args.state.now in
    let funs = c.args.funs.now in
    let known = slice_get_read funs (length funs) s.fun c.index-funs-state.result refl c.requires.sound.place.known c.index-funs-state.is in
    subst (λ (b : List Instr). s.pc < length b) (ap body_in known) c.requires.sound.place.inside

pub stretch_above-requires-clause-base : goal.stretch_above-requires-clause-base
stretch_above-requires-clause-base g c = subst (λ (xs : List ℕ). c.args.state.now.base ≤ length xs) (sym c.as_mut_slice.ensures.value) c.requires.sound.fits

pub stretch_above-requires-clause-slots : goal.stretch_above-requires-clause-slots
stretch_above-requires-clause-slots g c =
    let s = c.args.state.now in
    let funs = c.args.funs.now in
    let known = slice_get_read funs (length funs) s.fun c.index-funs-state.result refl c.requires.sound.place.known c.index-funs-state.is in
    ap (λ (xs : List ℕ). length (drop s.base xs)) c.as_mut_slice.ensures.value ∙ c.requires.sound.place.slots ∙ ap slots_in known

pub stretch_above-requires-clause-switches : goal.stretch_above-requires-clause-switches
stretch_above-requires-clause-switches g c =
    let s = c.args.state.now in
    let funs = c.args.funs.now in
    let known = slice_get_read funs (length funs) s.fun c.index-funs-state.result refl c.requires.sound.place.known c.index-funs-state.is in
    let body = ap length (ap body_in known) in
    omega (arith, c.requires.sound.bounded, body)

pub stretch_above-requires-clause-checks : goal.stretch_above-requires-clause-checks
stretch_above-requires-clause-checks g c off =
    let s = c.args.state.now in
    let funs = c.args.funs.now in
    let f = c.index-funs-state.result in
    let m = g.M.ByteMemory.memory c.args.memory.now in
    let known = slice_get_read funs (length funs) s.fun f refl c.requires.sound.place.known c.index-funs-state.is in
    let quiet = subst (λ (b : List Instr). IsQuietFrom b s.pc (current_slots s) m s.switches) (ap body_in known) (quiet_stretch funs c.args.depth c.requires.laws s m (c.requires.checks off)) in
    subst (λ (xs : List ℕ). IsQuietFrom f.body s.pc (drop s.base xs) m s.switches) (sym c.as_mut_slice.ensures.value) quiet

pub returns-in-At-clause-gives : goal.returns-in-At-clause-gives
returns-in-At-clause-gives g c =
    let s = c.args.state.now in
    let funs = c.args.funs.now in
    let f = c.index-funs-state.result in
    let memory = g.M.ByteMemory.memory in
    let known = slice_get_read funs (length funs) s.fun f refl c.requires.sound.place.known c.index-funs-state.is in
    let now = c.as_mut_slice.result.now in
    let new = c.stretch_above.new.stack in
    let slots : drop s.base now ≡ current_slots s = ap (drop s.base) c.as_mut_slice.ensures.value in
    let below : take s.base new ≡ waiting_slots s = c.in-At.ensures.below ∙ ap (take s.base) c.as_mut_slice.ensures.value in
    let stack = with_items_is s.stack new (c.stretch_above.auto.stack ∙ c.as_mut_slice.ensures.len) ∙ sym (take-append-drop s.base new) ∙ ap (λ xs. xs ++ drop s.base new) below in
    let keeps : length (drop s.base new) ≡ length (drop s.base now) = length-drop s.base new ∙ ap (λ n. n - s.base) c.stretch_above.auto.stack ∙ sym (length-drop s.base now) in
    let s' : State = record { fun = s.fun; pc = c.in-At.pc; base = s.base; stack = with_items s.stack new; left = s.left; frames = s.frames; switches = c.stretch_above.new.switches; results = s.results } in
    let stop = c.in-At.ensures.stop in
    let leaves = subst (λ (b : List Instr). IsLeave (slice_get b c.in-At.pc) c.in-At.leave) (sym (ap body_in known)) stop.3 in (
      stretch_turned funs c.args.depth c.requires.valid c.requires.laws s s' (memory c.args.memory.now) (memory c.stretch_above.new.memory) c.in-At.pc (c.stretch_above.new.steps.taken - c.args.steps.now.taken) (drop s.base now) (drop s.base new) f known c.requires.sound stop.0 stop.1 stop.2
          slots stack keeps refl refl refl refl refl refl c.in-At.ensures.same,
      leaves,
    )

pub returns-in-Ends-clause-gives : goal.returns-in-Ends-clause-gives
returns-in-Ends-clause-gives g c =
    let s = c.args.state.now in
    let funs = c.args.funs.now in
    let f = c.index-funs-state.result in
    let memory = g.M.ByteMemory.memory in
    let known = slice_get_read funs (length funs) s.fun f refl c.requires.sound.place.known c.index-funs-state.is in
    let slots : drop s.base c.as_mut_slice.result.now ≡ current_slots s = ap (drop s.base) c.as_mut_slice.ensures.value in
    let s' : State = record { fun = s.fun; pc = s.pc; base = s.base; stack = s.stack; left = s.left; frames = s.frames; switches = c.stretch_above.new.switches; results = s.results } in
    stretch_ended funs c.args.depth c.requires.valid c.requires.laws s s' (memory c.args.memory.now) (memory c.stretch_above.new.memory) c.in-Ends.end (c.stretch_above.new.steps.taken - c.args.steps.now.taken) (drop s.base c.as_mut_slice.result.now) f known
    c.in-Ends.ensures.stop slots refl c.in-Ends.ensures.same
