use Rattle.std.proofs.Common.{◌≡◌, ℕ, ◌+◌, ◌-◌, List, [], ◌++◌, take, drop, length, ◌∙◌, ap, sym, subst, refl, arith}
use Rattle.std.proofs.lemmas.Grind.{common_steps}
use Rattle.std.proofs.lemmas.Option.{slice_get_read}
use Rattle.std.specs.Prelude.{slice_get}
use Rattle.std.proofs.lemmas.List.{with_items_is}
use Rattle.rb_target.specs.Meaning.{slots_at, put_slots, body_of, slots_in}
use Rattle.rb_target.specs.Validity.{AreSlots}
use Rattle.rb_machine.proofs.Turns.{return_turned, return_ended, results_fit, alone, frame_of, frame_fits, frame_place, cut_back, long_fits}
use Rattle.rb_machine.specs.inner.Turns.{call_dests, slot_count, waiting_slots, current_slots}
use Rattle.rb_machine.specs.declared.state.State.{State}
use Rattle.rb_machine.proofs.calls.return_turn.Goals as goal

pub fill-requires-clause-long : goal.fill-requires-clause-long
fill-requires-clause-long c =
    let s = c.args.state.now in
    let none : s.frames.items ≡ [] = grind (arith, common_steps) in
    let long = results_fit c.args.funs.now c.args.depth c.requires.valid s c.args.froms.now c.requires.sound c.requires.instr none in
    rw (c.as_mut_slice.ensures.value, c.replace-words.ensures.value) long

pub fill-requires-clause-froms : goal.fill-requires-clause-froms
fill-requires-clause-froms c =
    let s = c.args.state.now in
    let none : s.frames.items ≡ [] = grind (arith, common_steps) in
    let whole = alone c.args.funs.now c.args.depth c.requires.valid s c.requires.sound none ∙ sym c.as_slice.ensures.value in
    subst (λ (xs : List ℕ). AreSlots (length xs) c.args.froms.now) whole c.requires.froms

pub overflow_sub-base : goal.overflow_sub-base
overflow_sub-base c =
    let s = c.args.state.now in
    let funs = c.args.funs.now in
    let f = c.index-funs-frame.result in
    let frame = frame_of funs c.args.depth c.requires.valid s c.pop.new.self.items c.in-Some.frame c.requires.sound c.in-Some.ensures.items in
    let known = slice_get_read funs (length funs) c.in-Some.frame.fun f refl frame.known c.index-funs-frame.is in
    let fits = frame_fits funs c.args.depth c.requires.valid s c.pop.new.self.items c.in-Some.frame f c.requires.sound c.in-Some.ensures.items known in
    omega (arith, fits)

pub give_back-requires-clause-place : goal.give_back-requires-clause-place
give_back-requires-clause-place c =
    let s = c.args.state.now in
    let funs = c.args.funs.now in
    let f = c.index-funs-frame.result in
    let frame = frame_of funs c.args.depth c.requires.valid s c.pop.new.self.items c.in-Some.frame c.requires.sound c.in-Some.ensures.items in
    let known = slice_get_read funs (length funs) c.in-Some.frame.fun f refl frame.known c.index-funs-frame.is in
    frame_place funs c.args.depth c.requires.valid s c.pop.new.self.items c.in-Some.frame f _ c.requires.sound c.in-Some.ensures.items known c.as_mut_slice-in-Some.ensures.value

pub overflow_add-state : goal.overflow_add-state
overflow_add-state c =
    let frame = frame_of c.args.funs.now c.args.depth c.requires.valid c.args.state.now c.pop.new.self.items c.in-Some.frame c.requires.sound c.in-Some.ensures.items in
    let inside = frame.goes_on in
    let long = long_fits c.args.funs.now c.args.depth c.requires.valid c.in-Some.frame.fun frame.known in
    omega (arith, inside, long)

pub returns-in-None : goal.returns-in-None
returns-in-None c m =
    let s = c.args.state.now in
    let none : s.frames.items ≡ [] = grind (arith, common_steps) in
    let words : c.from_vec.result ≡ slots_at s.stack.items c.args.froms.now =
    c.from_vec.ensures ∙ with_items_is c.replace-words.result c.fill.new.words (c.fill.auto.words ∙ c.as_mut_slice.ensures.len) ∙ (rw c.as_slice.ensures.value at c.fill.ensures) in
    return_ended c.args.funs.now c.args.depth c.requires.valid c.requires.laws s s
    c.args.froms.now c.requires.sound c.requires.instr none refl refl _ words _ refl m

pub returns-in-Some : goal.returns-in-Some
returns-in-Some c m =
    let s = c.args.state.now in
    let funs = c.args.funs.now in
    let frame = c.in-Some.frame in
    let f = c.index-funs-frame.result in
    let waits = frame_of funs c.args.depth c.requires.valid s c.pop.new.self.items frame c.requires.sound c.in-Some.ensures.items in
    let known = slice_get_read funs (length funs) frame.fun f refl waits.known c.index-funs-frame.is in
    let fits = frame_fits funs c.args.depth c.requires.valid s c.pop.new.self.items frame f c.requires.sound c.in-Some.ensures.items known in
    let width : slot_count funs frame.fun ≡ f.slots = ap slots_in known in
    let ds = call_dests (slice_get (body_of funs frame.fun) frame.pc) in
    let ws = slots_at (current_slots s) c.args.froms.now in
    let given : c.give_back.new.stack ≡ (take (s.base - f.slots) s.stack.items ++ put_slots (drop (s.base - f.slots) (waiting_slots s)) ds ws) ++ drop s.base s.stack.items =
    rw c.as_mut_slice-in-Some.ensures.value at c.give_back.ensures in
    let stack : c.truncate.new.self.items ≡ take (s.base - f.slots) s.stack.items ++ put_slots (drop (s.base - f.slots) (waiting_slots s)) ds ws =
    c.truncate.ensures.items ∙ ap (take s.base) (with_items_is s.stack c.give_back.new.stack (c.give_back.auto.stack ∙ c.as_mut_slice-in-Some.ensures.len))
    ∙ cut_back s.stack.items c.give_back.new.stack (s.base - f.slots) s.base ds ws (omega arith) c.requires.sound.fits given in
    let s' : State = record { fun = frame.fun; pc = frame.pc + 1; base = s.base - f.slots; stack = c.truncate.new.self; left = s.left; frames = c.pop.new.self; switches = s.switches; results = s.results } in
    let base : s'.base + slot_count funs frame.fun ≡ s.base = omega (arith, fits, width) in
    return_turned funs c.args.depth c.requires.valid c.requires.laws s s' c.pop.new.self.items frame c.args.froms.now c.requires.sound c.requires.instr
    c.in-Some.ensures.items refl refl refl refl refl refl base stack m
