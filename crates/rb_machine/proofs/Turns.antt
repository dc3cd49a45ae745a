-- The turns of a run.
use Rattle.std.proofs.Common.{◌≡◌, ℕ, zero, suc, ◌+◌, ◌-◌, ◌^◌, ◌<◌, ◌≤◌, List, [], ◌∷◌, ◌++◌, length, map, take, drop, replicate, set, get_or, add-one, Some, All, refl, sym, subst, ap, ◌∙◌, arith, length-append}
use Rattle.std.specs.Prelude.{slice_get, slice_set}
use Rattle.std.proofs.lemmas.List.{length-replicate, length-map, length-drop, length-take-le, take-append-drop, take-take, take_at, drop_at, drop_all, length-set}
use Rattle.std.proofs.lemmas.List.Elements.{All-push, All-pop}
use Rattle.std.proofs.lemmas.Option.{slice_get_within}
use Rattle.rb_bytes.specs.Memory.{Memory}
use Rattle.rb_target.specs.Meaning.{World, CallEnd, over, Callee, act, from, enter, body_in, body_of, slots_in, taken, slots_at, first_slots, put_slots, with_left, after_call}
use Rattle.rb_target.specs.Validity.{IsFine, IsValid, AreSlots}
use Rattle.rb_target.specs.Laws.{IsLawful, IsFinal}
use Rattle.rb_target.specs.declared.outcome.End.{End}
use Rattle.rb_target.specs.declared.outcome.End.TheVariants.{Returned, Spent}
use Rattle.rb_target.specs.declared.code.CodeFun.{CodeFun}
use Rattle.rb_target.specs.declared.instr.Instr.{Instr}
use Rattle.rb_target.specs.declared.instr.Instr.TheVariants.{Call, Return}
use Rattle.rb_target.proofs.Calling.{enter_none}
use Rattle.rb_machine.proofs.Rest.{known_at, callee_from, valid_begins, valid_goes_on, IsNoReturn, room_in-push, held_in-push, unwind_push, unwind_final, enter_some}
use Rattle.rb_machine.specs.inner.Turns.{call_dests, slot_count, unwind, waiting_slots, current_slots, world_of, rest_of, room_at, room_in, work, slots_in_wait, outermost, results_in, IsPlace, IsFrame, StateIsSound, Turned, Ended}
use Rattle.rb_machine.specs.declared.state.Frame.{Frame}
use Rattle.rb_machine.specs.declared.state.State.{State}

abbrev pub waiting : State → Frame
waiting s = record { fun = s.fun; pc = s.pc }

-- where the slots of another call are put on the stack
grown : (s s' : State) (xs : List ℕ) → s'.base ≡ length s.stack.items → s'.stack.items ≡ s.stack.items ++ xs → (waiting_slots s' ≡ s.stack.items) × (current_slots s' ≡ xs)
grown s s' xs base' stack' = (
  ap (λ n. take n s'.stack.items) base' ∙ ap (take (length s.stack.items)) stack' ∙ take_at s.stack.items xs _ refl,
  ap (λ n. drop n s'.stack.items) base' ∙ ap (drop (length s.stack.items)) stack' ∙ drop_at s.stack.items xs _ refl,
)

outermost-push : (frames : List Frame) (frame : Frame) (fun : ℕ) → outermost (frames ++ frame ∷ []) fun ≡ outermost frames frame.fun
outermost-push [] frame fun = refl
outermost-push (x ∷ frames) frame fun = refl

put_slots_nil : (slots ds : List ℕ) → put_slots slots ds [] ≡ slots
put_slots_nil slots [] = refl
put_slots_nil slots (d ∷ ds) = refl

-- no word is left to be put
pub put_none : (f : ℕ → ℕ) (slots ds froms : List ℕ) (k : ℕ) → length froms ≤ k → put_slots slots (drop k ds) (map f (drop k froms)) ≡ slots
put_none f slots ds froms k le = rw (drop_all k froms le) (put_slots_nil slots (drop k ds))

length-put_slots : (slots ds ws : List ℕ) → length (put_slots slots ds ws) ≡ length slots
length-put_slots slots [] ws = refl
length-put_slots slots (d ∷ ds) [] = refl
length-put_slots slots (d ∷ ds) (w ∷ ws) = length-put_slots (slice_set slots d w) ds ws ∙ length-set slots d w

-- a stack whose last call gave its results back, without its slots
pub cut_back : (stack new : List ℕ) (base top : ℕ) (ds ws : List ℕ) → base ≤ top → top ≤ length stack → new ≡ (take base stack ++ put_slots (drop base (take top stack)) ds ws) ++ drop top stack
    → take top new ≡ take base stack ++ put_slots (drop base (take top stack)) ds ws
cut_back stack new base top ds ws le within is =
    let put = put_slots (drop base (take top stack)) ds ws in
    let short : base ≤ length stack = omega arith in
    let long : length (take base stack ++ put) ≡ top =
    omega (arith, length-append (take base stack) put, length-take-le base stack short, length-put_slots (drop base (take top stack)) ds ws, length-drop base (take top stack), length-take-le top stack within) in
    ap (take top) is ∙ take_at (take base stack ++ put) (drop top stack) top long

-- one word more is filled in
fill_suc : (f : ℕ → ℕ) (froms ws : List ℕ) (k : ℕ) → length ws ≡ length froms → k < length froms → set (map f (take k froms) ++ drop k ws) k (f (get_or froms k 0)) ≡ map f (take (suc k) froms) ++ drop (suc k) ws
fill_suc f [] ws k e lt = absurd (omega arith)
fill_suc f (x ∷ froms) [] k e lt = absurd (omega arith)
fill_suc f (x ∷ froms) (w ∷ ws) zero e lt = refl
fill_suc f (x ∷ froms) (w ∷ ws) (suc k) e lt = ap (λ l. f x ∷ l) (fill_suc f froms ws k (omega arith) (omega arith))

pub fill_more : (f : ℕ → ℕ) (froms ws : List ℕ) (k : ℕ) → length ws ≡ length froms → k < length froms → set (map f (take k froms) ++ drop k ws) k (f (get_or froms k 0)) ≡ map f (take (k + 1) froms) ++ drop (k + 1) ws
fill_more f froms ws k e lt = rw (add-one k) (fill_suc f froms ws k e lt)

pub first_slots_is : (funs : List CodeFun) (n : ℕ) (f : CodeFun) → slice_get funs n ≡ Some f → (slots froms : List ℕ) → slots_at slots froms ++ replicate (f.slots - length froms) 0 ≡ first_slots funs n (slots_at slots froms)
first_slots_is funs n f e slots froms = rw (e, length-map) refl

module _ (funs : List CodeFun) (depth : ℕ) (valid : IsValid funs) where
  -- the body of a known function
  body_is : (n : ℕ) (lt : n < length funs) → body_of funs n ≡ (known_at funs n valid lt).it.body
  body_is n lt = ap body_in (known_at funs n valid lt).is

  at_body : (n pc : ℕ) (i : Instr) (lt : n < length funs) → slice_get (body_of funs n) pc ≡ Some i → slice_get (known_at funs n valid lt).it.body pc ≡ Some i
  at_body n pc i lt is = ap (λ b. slice_get b pc) (sym (body_is n lt)) ∙ is

  pub fine_at : (n pc : ℕ) (i : Instr) (lt : n < length funs) → slice_get (body_of funs n) pc ≡ Some i → IsFine funs (known_at funs n valid lt).it pc i
  fine_at n pc i lt is = (known_at funs n valid lt).valid.each pc i (at_body n pc i lt is)

  pub goes_on_at : (n pc : ℕ) (i : Instr) → n < length funs → slice_get (body_of funs n) pc ≡ Some i → IsNoReturn i → pc + 1 < length (body_of funs n)
  goes_on_at n pc i lt is other =
      let k = known_at funs n valid lt in
      let h = valid_goes_on funs k.it pc i k.valid (at_body n pc i lt is) other in
      rw (body_is n lt) h

  pub long_fits : (n : ℕ) → n < length funs → length (body_of funs n) < 2 ^ 64
  long_fits n lt =
      let k = known_at funs n valid lt in
      let small = k.valid.small.2 in
      rw (body_is n lt) small

  slots_is : (n : ℕ) (lt : n < length funs) → slots_in (slice_get funs n) ≡ (known_at funs n valid lt).it.slots
  slots_is n lt = ap slots_in (known_at funs n valid lt).is

  -- a list of slots of the function, at a place in it
  slots_fit : (n pc : ℕ) (slots xs : List ℕ) (place : IsPlace funs n pc slots) → AreSlots (known_at funs n valid place.known).it.slots xs → AreSlots (length slots) xs
  slots_fit n pc slots xs place fine = subst (λ k. AreSlots k xs) (sym (place.slots ∙ slots_is n place.known)) fine

  pub return_fits : (n pc : ℕ) (slots froms : List ℕ) (place : IsPlace funs n pc slots) → slice_get (body_of funs n) pc ≡ Some (Return froms) → AreSlots (length slots) froms
  return_fits n pc slots froms place is = slots_fit n pc slots froms place (fine_at n pc _ place.known is).slots

  pub call_fits : (n pc f : ℕ) (slots ds froms : List ℕ) (place : IsPlace funs n pc slots) → slice_get (body_of funs n) pc ≡ Some (Call f ds froms) → AreSlots (length slots) froms
  call_fits n pc f slots ds froms place is = slots_fit n pc slots froms place (fine_at n pc _ place.known is).slots.1

  pub dests_fit : (n pc f : ℕ) (slots ds froms : List ℕ) (place : IsPlace funs n pc slots) → slice_get (body_of funs n) pc ≡ Some (Call f ds froms) → AreSlots (length slots) ds
  dests_fit n pc f slots ds froms place is = slots_fit n pc slots ds place (fine_at n pc _ place.known is).slots.0

  pub callee_known : (n pc f : ℕ) (slots ds froms : List ℕ) (place : IsPlace funs n pc slots) → slice_get (body_of funs n) pc ≡ Some (Call f ds froms) → f < length funs
  callee_known n pc f slots ds froms place is =
      let k = (callee_from funs f ds froms (slice_get funs f) valid refl (fine_at n pc _ place.known is).calls).0 in
      slice_get_within funs f k.it k.is

  results_is : (n : ℕ) (lt : n < length funs) → results_in (slice_get funs n) ≡ (known_at funs n valid lt).it.results
  results_is n lt = ap results_in (known_at funs n valid lt).is

  -- there is room for what the outermost function returns
  pub results_fit : (s : State) (froms : List ℕ) → StateIsSound funs depth s → slice_get (body_of funs s.fun) s.pc ≡ Some (Return froms) → s.frames.items ≡ [] → length s.results.items ≡ length froms
  results_fit s froms sound is none =
      let fits = (fine_at s.fun s.pc _ sound.place.known is).calls in
      sound.results ∙ ap (λ (fs : List Frame). results_in (slice_get funs (outermost fs s.fun))) none ∙ results_is s.fun sound.place.known ∙ sym fits

  last_frame : (frames : List Frame) (frame : Frame) → All (λ (x : Frame). IsFrame funs x) (frames ++ frame ∷ []) → All (λ (x : Frame). IsFrame funs x) frames × IsFrame funs frame
  last_frame frames frame all = All-pop (λ (x : Frame). IsFrame funs x) (frames ++ frame ∷ []) frames (Some frame) refl all

  -- the stack holds the slots of those that wait and of the current call
  pub stack_length : (s : State) → StateIsSound funs depth s → length s.stack.items ≡ s.base + slot_count funs s.fun
  stack_length s sound = omega (arith, length-drop s.base s.stack.items, sound.fits, sound.place.slots)

  pub waiting_length : (s : State) → StateIsSound funs depth s → length (waiting_slots s) ≡ slots_in_wait funs s.frames.items
  waiting_length s sound = length-take-le s.base s.stack.items sound.fits ∙ sound.base

  -- the last call that waits
  pub frame_of : (s : State) (frames : List Frame) (frame : Frame) → StateIsSound funs depth s → s.frames.items ≡ frames ++ frame ∷ [] → IsFrame funs frame
  frame_of s frames frame sound is = (last_frame frames frame (rw is at sound.frames)).1

  -- the slots of a call that nothing waits for are the whole stack
  pub alone : (s : State) → StateIsSound funs depth s → s.frames.items ≡ [] → current_slots s ≡ s.stack.items
  alone s sound none = ap (λ n. drop n s.stack.items) (sound.base ∙ ap (slots_in_wait funs) none)

  -- the slots of the last call that waits end where those of the current one begin
  pub frame_fits : (s : State) (frames : List Frame) (frame : Frame) (f : CodeFun) → StateIsSound funs depth s → s.frames.items ≡ frames ++ frame ∷ [] → slice_get funs frame.fun ≡ Some f → slots_in_wait funs frames + f.slots ≡ s.base
  frame_fits s frames frame f sound is known = sym (sound.base ∙ ap (slots_in_wait funs) is ∙ held_in-push funs frames frame ∙ ap (λ k. slots_in_wait funs frames + k) (ap slots_in known))

  pub frame_place : (s : State) (frames : List Frame) (frame : Frame) (f : CodeFun) (stack : List ℕ) → StateIsSound funs depth s → s.frames.items ≡ frames ++ frame ∷ [] → slice_get funs frame.fun ≡ Some f → stack ≡ s.stack.items
      → IsPlace funs frame.fun frame.pc (drop (s.base - f.slots) (take s.base stack))
  frame_place s frames frame f stack sound is known same =
      let fr = frame_of s frames frame sound is in
      let goes_on = fr.goes_on in
      let fits = frame_fits s frames frame f sound is known in
      let long = length-take-le s.base stack (subst (λ (xs : List ℕ). s.base ≤ length xs) (sym same) sound.fits) in
      let width : length (drop (s.base - f.slots) (take s.base stack)) ≡ f.slots = omega (arith, length-drop (s.base - f.slots) (take s.base stack)) in
      record { known = fr.known; inside = omega (arith, goes_on); slots = width ∙ sym (ap slots_in known) }

  -- no more words than the callee has slots
  pub call_few : (n pc f : ℕ) (slots ds froms : List ℕ) (it : CodeFun) (place : IsPlace funs n pc slots) → slice_get (body_of funs n) pc ≡ Some (Call f ds froms) → slice_get funs f ≡ Some it → length froms ≤ it.slots
  call_few n pc f slots ds froms it place is known =
      let called = callee_from funs f ds froms (slice_get funs f) valid refl (fine_at n pc _ place.known is).calls in
      subst (λ (k : ℕ). length froms ≤ k) (ap slots_in known) called.1

  module _ (laws : IsLawful funs) where
    from_at : (callee : Callee) (n pc : ℕ) (slots : List ℕ) (w : World) (i : Instr) → slice_get (body_of funs n) pc ≡ Some i → from (body_of funs n) callee pc slots w ≡ act i (from (body_of funs n) callee) callee pc slots (taken w)
    from_at callee n pc slots w i is = (laws.unrolls n callee).step pc i slots w is

    call_same : (s s' : State) (left f : ℕ) (ds froms : List ℕ) → StateIsSound funs depth s → slice_get (body_of funs s.fun) s.pc ≡ Some (Call f ds froms) → s.left ≡ suc left
        → s'.fun ≡ f → s'.pc ≡ 0 → s'.left ≡ left → s'.switches ≡ s.switches → waiting_slots s' ≡ s.stack.items → current_slots s' ≡ first_slots funs f (slots_at (current_slots s) froms) → s'.frames.items ≡ s.frames.items ++ waiting s ∷ []
        → (m : Memory) (t : ℕ) → rest_of funs depth s m t ≡ rest_of funs depth s' m (t + 1)
    call_same s s' left f ds froms sound instr l fun' pc' left' switches' below' slots' frames' m t =
        let n = length s.frames.items in
        let slots = current_slots s in
        let below = waiting_slots s in
        let w = taken (world_of s m t) in
        let callee = enter funs (depth - n) in
        let back = callee f (slots_at slots froms) w in
        let go = from (body_of funs s.fun) callee in
        let pos : 0 < depth - n = omega (arith, sound.nested) in
        let whole : below ++ slots ≡ s.stack.items = take-append-drop s.base s.stack.items in
        let first = ap (λ o. unwind funs depth s.frames.items below o) (from_at callee s.fun s.pc slots (world_of s m t) (Call f ds froms) instr) in
        let second = ap (λ o. unwind funs depth s.frames.items below (after_call back.ended back.world (λ words. go (s.pc + 1) (put_slots slots (call_dests o) words) back.world))) (sym instr) in
        let third = sym (unwind_push funs depth s.frames.items (waiting s) below slots back (waiting_length s sound) sound.place.slots) in
        let fourth = ap (λ xs. unwind funs depth (s.frames.items ++ waiting s ∷ []) xs back) whole in
        let fifth = ap (λ o. unwind funs depth (s.frames.items ++ waiting s ∷ []) s.stack.items o) (enter_some funs (depth - n) left f (slots_at slots froms) w l pos) in
        let deep : depth - n - 1 ≡ depth - length s'.frames.items = omega (arith, ap length frames', length-append s.frames.items (waiting s ∷ [])) in
        let sixth : unwind funs depth (s.frames.items ++ waiting s ∷ []) s.stack.items (from (body_of funs f) (enter funs (depth - n - 1)) 0 (first_slots funs f (slots_at slots froms)) (with_left w left)) ≡ rest_of funs depth s' m (t + 1) = cc in
        first ∙ second ∙ third ∙ fourth ∙ fifth ∙ sixth

    pub call_turned : (s s' : State) (left f : ℕ) (ds froms : List ℕ) → StateIsSound funs depth s → slice_get (body_of funs s.fun) s.pc ≡ Some (Call f ds froms) → s.left ≡ suc left
        → s'.fun ≡ f → s'.pc ≡ 0 → s'.left ≡ left → s'.switches ≡ s.switches → s'.results.items ≡ s.results.items → s'.base ≡ length s.stack.items
        → s'.stack.items ≡ s.stack.items ++ first_slots funs f (slots_at (current_slots s) froms) → s'.frames.items ≡ s.frames.items ++ waiting s ∷ []
        → (m : Memory) → Turned funs depth s m s' m 1
    call_turned s s' left f ds froms sound instr l fun' pc' left' switches' results' base' stack' frames' m =
        let fine = fine_at s.fun s.pc _ sound.place.known instr in
        let called = callee_from funs f ds froms (slice_get funs f) valid refl fine.calls in
        let callee = called.0 in
        let first = first_slots funs f (slots_at (current_slots s) froms) in
        let more = grown s s' first base' stack' in
        let body' : body_of funs f ≡ callee.it.body = ap body_in callee.is in
        let rooms = ap (room_in funs) frames' ∙ room_in-push funs s.frames.items (waiting s) in
        let held = ap (slots_in_wait funs) frames' ∙ held_in-push funs s.frames.items (waiting s) in
        let here : room_at funs s'.fun s'.pc ≡ room_at funs f 0 = ap (λ n. room_at funs n s'.pc) fun' ∙ ap (λ p. room_at funs f p) pc' in
        let begins = valid_begins funs callee.it callee.valid in
        let short = callee.valid.small.2 in
        let goes_on : s.pc + 1 < length (body_of funs s.fun) = goes_on_at s.fun s.pc _ sound.place.known instr tt in
        let less : work funs s' + 1 ≤ work funs s = omega (arith, ap length body') in
        let slots_length : length first ≡ slot_count funs f = simp (length-append, length-replicate, length-map) (omega (arith, called.1)) in
        let inside : 0 < length (body_of funs f) = omega (arith, ap length body') in
        let place : IsPlace funs f 0 first = record { known = slice_get_within funs f callee.it callee.is; inside = inside; slots = slots_length } in
        let wait : IsFrame funs (waiting s) = record { known = sound.place.known; goes_on = goes_on } in
        let frames = All-push (λ (frame : Frame). IsFrame funs frame) s.frames.items (waiting s) sound.frames wait in
        let outer : outermost s'.frames.items s'.fun ≡ outermost s.frames.items s.fun = ap (λ (fs : List Frame). outermost fs s'.fun) frames' ∙ outermost-push s.frames.items (waiting s) s'.fun in
        record {
          sound = record {
            place = rw (fun', pc', more.1) place;
            frames = rw frames' frames;
            base = omega (arith, base', stack_length s sound, sound.base, held);
            fits = omega (arith, base', ap length stack', length-append s.stack.items first);
            nested = omega (arith, sound.nested, ap length frames', length-append s.frames.items (waiting s ∷ []));
            results = ap length results' ∙ sound.results ∙ ap (λ n. results_in (slice_get funs n)) (sym outer);
            bounded = omega (arith, sound.bounded);
          };
          less = less;
          same = λ t. call_same s s' left f ds froms sound instr l fun' pc' left' switches' more.0 more.1 frames' m t;
        }

    pub return_turned : (s s' : State) (frames : List Frame) (frame : Frame) (froms : List ℕ) → StateIsSound funs depth s → slice_get (body_of funs s.fun) s.pc ≡ Some (Return froms)
        → s.frames.items ≡ frames ++ frame ∷ [] → s'.frames.items ≡ frames → s'.fun ≡ frame.fun → s'.pc ≡ frame.pc + 1 → s'.left ≡ s.left → s'.switches ≡ s.switches → s'.results.items ≡ s.results.items
        → s'.base + slot_count funs frame.fun ≡ s.base
        → s'.stack.items ≡ take s'.base s.stack.items ++ put_slots (drop s'.base (waiting_slots s)) (call_dests (slice_get (body_of funs frame.fun) frame.pc)) (slots_at (current_slots s) froms)
        → (m : Memory) → Turned funs depth s m s' m 1
    return_turned s s' frames frame froms sound instr old frames' fun' pc' left' switches' results' base' stack' m =
        let slots = current_slots s in
        let below = waiting_slots s in
        let n = length s.frames.items in
        let callee = enter funs (depth - n) in
        let both = last_frame frames frame (rw old at sound.frames) in
        let words = slots_at slots froms in
        let held = ap (slots_in_wait funs) old ∙ held_in-push funs frames frame in
        let held' = ap (slots_in_wait funs) frames' in
        let base : s'.base ≡ slots_in_wait funs frames = omega (arith, sound.base) in
        let long = length-take-le s.base s.stack.items sound.fits in
        let within : s'.base ≤ length below = omega arith in
        let under : take s'.base below ≡ take s'.base s.stack.items = take-take s'.base s.base s.stack.items (omega arith) in
        let front : List ℕ = take s'.base s.stack.items in
        let slots_before : List ℕ = drop s'.base below in
        let front_length : length front ≡ s'.base = length-take-le s'.base s.stack.items (omega (arith, sound.fits)) in
        let width : length slots_before ≡ slot_count funs frame.fun = omega (arith, length-drop s'.base below) in
        let whole : front ++ slots_before ≡ below = ap (λ xs. xs ++ slots_before) (sym under) ∙ take-append-drop s'.base below in
        let put = put_slots slots_before (call_dests (slice_get (body_of funs frame.fun) frame.pc)) words in
        let put_length : length put ≡ slot_count funs frame.fun = length-put_slots slots_before _ words ∙ width in
        let below' : waiting_slots s' ≡ front = ap (take s'.base) stack' ∙ take_at front put s'.base front_length in
        let slots' : current_slots s' ≡ put = ap (drop s'.base) stack' ∙ drop_at front put s'.base front_length in
        let rooms = ap (room_in funs) old ∙ room_in-push funs frames frame in
        let rooms' = ap (room_in funs) frames' in
        let here : room_at funs s'.fun s'.pc ≡ room_at funs frame.fun (frame.pc + 1) = ap (λ k. room_at funs k s'.pc) fun' ∙ ap (λ p. room_at funs frame.fun p) pc' in
        let goes_on = both.1.goes_on in
        let inside = sound.place.inside in
        let less : work funs s' + 1 ≤ work funs s = omega arith in
        let place : IsPlace funs frame.fun (frame.pc + 1) put = record { known = both.1.known; inside = goes_on; slots = put_length } in
        let outer : outermost s'.frames.items s'.fun ≡ outermost s.frames.items s.fun = ap (λ (fs : List Frame). outermost fs s'.fun) frames' ∙ ap (outermost frames) fun' ∙ sym (outermost-push frames frame s.fun) ∙ ap (λ (fs : List Frame). outermost fs s.fun) (sym old) in
        record {
          sound = record {
            place = rw (fun', pc', slots') place;
            frames = rw frames' both.0;
            base = base ∙ sym held';
            fits = omega (arith, ap length stack', length-append front put);
            nested = omega (arith, sound.nested, ap length old, ap length frames', length-append frames (frame ∷ []));
            results = ap length results' ∙ sound.results ∙ ap (λ k. results_in (slice_get funs k)) (sym outer);
            bounded = omega (arith, sound.bounded);
          };
          less = less;
          same = λ t.
              let w = taken (world_of s m t) in
              let o = over (Returned words s.left) w in
              let first = ap (λ o. unwind funs depth s.frames.items below o) (from_at callee s.fun s.pc slots (world_of s m t) (Return froms) instr) in
              let second = ap (λ fs. unwind funs depth fs below o) old in
              let third = ap (λ xs. unwind funs depth (frames ++ frame ∷ []) xs o) (sym whole) in
              let fourth = unwind_push funs depth frames frame front slots_before o (front_length ∙ base) width in
              let fifth : unwind funs depth frames front (from (body_of funs frame.fun) (enter funs (depth - length frames)) (frame.pc + 1) put w) ≡ rest_of funs depth s' m (t + 1) = cc in
              first ∙ second ∙ third ∙ fourth ∙ fifth;
        }

    pub return_ended : (s s' : State) (froms : List ℕ) → StateIsSound funs depth s → slice_get (body_of funs s.fun) s.pc ≡ Some (Return froms) → s.frames.items ≡ []
        → s'.left ≡ s.left → s'.switches ≡ s.switches → (words : List ℕ) → words ≡ slots_at s.stack.items froms → (left : ℕ) → left ≡ s.left
        → (m : Memory) → Ended funs depth s m (Returned words left) s' m 1
    return_ended s s' froms sound instr none left' switches' words words' left l m t =
        let callee = enter funs (depth - length s.frames.items) in
        let w = taken (world_of s m t) in
        let base : s.base ≡ 0 = sound.base ∙ ap (slots_in_wait funs) none in
        let slots : current_slots s ≡ s.stack.items = ap (λ n. drop n s.stack.items) base in
        let given : words ≡ slots_at (current_slots s) froms = words' ∙ ap (λ xs. slots_at xs froms) (sym slots) in
        let first = ap (λ o. unwind funs depth s.frames.items (waiting_slots s) o) (from_at callee s.fun s.pc (current_slots s) (world_of s m t) (Return froms) instr) in
        let second = ap (λ fs. unwind funs depth fs (waiting_slots s) (over (Returned (slots_at (current_slots s) froms) s.left) w)) none in
        let third : over (Returned (slots_at (current_slots s) froms) s.left) w ≡ over (Returned words left) (world_of s' m (t + 1)) = cc in
        first ∙ second ∙ third

    pub spent_ended : (s : State) (f : ℕ) (ds froms : List ℕ) → StateIsSound funs depth s → slice_get (body_of funs s.fun) s.pc ≡ Some (Call f ds froms) → s.left ≡ 0
        → (m : Memory) → Ended funs depth s m Spent s m 1
    spent_ended s f ds froms sound instr l m t =
        let n = length s.frames.items in
        let slots = current_slots s in
        let below = waiting_slots s in
        let callee = enter funs (depth - n) in
        let w = taken (world_of s m t) in
        let go = from (body_of funs s.fun) callee in
        let first = ap (λ o. unwind funs depth s.frames.items below o) (from_at callee s.fun s.pc slots (world_of s m t) (Call f ds froms) instr) in
        let second = ap (λ (back : CallEnd). unwind funs depth s.frames.items below (after_call back.ended back.world (λ words. go (s.pc + 1) (put_slots slots ds words) back.world))) (enter_none funs (depth - n) f (slots_at slots froms) w l) in
        first ∙ second ∙ unwind_final funs laws depth s.frames.items below Spent w tt

    -- a stretch of the current call
    pub stretch_turned : (s s' : State) (m m' : Memory) (pc count : ℕ) (slots slots' : List ℕ) (f : CodeFun) → slice_get funs s.fun ≡ Some f → StateIsSound funs depth s → pc < length f.body → s.pc + count ≤ pc → s.pc + (s'.switches - s.switches) ≤ pc
        → slots ≡ current_slots s → s'.stack.items ≡ waiting_slots s ++ slots' → length slots' ≡ length slots
        → s'.fun ≡ s.fun → s'.pc ≡ pc → s'.base ≡ s.base → s'.left ≡ s.left → s'.frames.items ≡ s.frames.items → s'.results.items ≡ s.results.items
        → ((callee : Callee) (left taken : ℕ) → from f.body callee s.pc slots (record { left = left; memory = m; switches = s.switches; taken = taken })
        ≡ from f.body callee pc slots' (record { left = left; memory = m'; switches = s'.switches; taken = taken + count }))
        → Turned funs depth s m s' m' count
    stretch_turned s s' m m' pc count slots slots' f known sound inside counted switched old stack' keeps fun' pc' base' left' frames' results' flow =
        let body : f.body ≡ body_of funs s.fun = sym (ap body_in known) in
        let inside' : pc < length (body_of funs s.fun) = subst (λ (b : List Instr). pc < length b) body inside in
        let below_length = length-take-le s.base s.stack.items sound.fits in
        let below' : waiting_slots s' ≡ waiting_slots s = ap (λ n. take n s'.stack.items) base' ∙ ap (take s.base) stack' ∙ take_at (waiting_slots s) slots' s.base below_length in
        let new : current_slots s' ≡ slots' = ap (λ n. drop n s'.stack.items) base' ∙ ap (drop s.base) stack' ∙ drop_at (waiting_slots s) slots' s.base below_length in
        let here : room_at funs s'.fun s'.pc ≡ room_at funs s.fun pc = ap (λ k. room_at funs k s'.pc) fun' ∙ ap (λ p. room_at funs s.fun p) pc' in
        let rooms = ap (room_in funs) frames' in
        let less : work funs s' + count ≤ work funs s = omega arith in
        let place : IsPlace funs s.fun pc slots' = record { known = sound.place.known; inside = inside'; slots = keeps ∙ ap length old ∙ sound.place.slots } in
        let outer : outermost s'.frames.items s'.fun ≡ outermost s.frames.items s.fun = ap (λ (fs : List Frame). outermost fs s'.fun) frames' ∙ ap (outermost s.frames.items) fun' in
        record {
          sound = record {
            place = rw (fun', pc', new) place;
            frames = rw frames' sound.frames;
            base = base' ∙ sound.base ∙ ap (slots_in_wait funs) (sym frames');
            fits = omega (arith, base', ap length stack', length-append (waiting_slots s) slots');
            nested = omega (arith, sound.nested, ap length frames');
            results = ap length results' ∙ sound.results ∙ ap (λ k. results_in (slice_get funs k)) (sym outer);
            bounded = omega (arith, sound.bounded);
          };
          less = less;
          same = λ k.
              let callee = enter funs (depth - length s.frames.items) in
              let w' : World = record { left = s.left; memory = m'; switches = s'.switches; taken = k + count } in
              let there = subst (λ (b : List Instr). from b callee s.pc slots (world_of s m k) ≡ from b callee pc slots' w') body (flow callee s.left k) in
              let flows : from (body_of funs s.fun) callee s.pc (current_slots s) (world_of s m k) ≡ from (body_of funs s.fun) callee pc slots' w' =
              subst (λ x. from (body_of funs s.fun) callee s.pc x (world_of s m k) ≡ from (body_of funs s.fun) callee pc slots' w') old there in
              let first = ap (λ o. unwind funs depth s.frames.items (waiting_slots s) o) flows in
              let second : unwind funs depth s.frames.items (waiting_slots s) (from (body_of funs s.fun) (enter funs (depth - length s.frames.items)) pc slots' w') ≡ rest_of funs depth s' m' (k + count) = cc in
              first ∙ second;
        }

    pub stretch_ended : (s s' : State) (m m' : Memory) (e : End) (count : ℕ) (slots : List ℕ) (f : CodeFun) → slice_get funs s.fun ≡ Some f → IsFinal e → slots ≡ current_slots s → s'.left ≡ s.left
        → ((callee : Callee) (left taken : ℕ) → from f.body callee s.pc slots (record { left = left; memory = m; switches = s.switches; taken = taken })
        ≡ over e (record { left = left; memory = m'; switches = s'.switches; taken = taken + count }))
        → Ended funs depth s m e s' m' count
    stretch_ended s s' m m' e count slots f known final old left' flow k =
        let callee = enter funs (depth - length s.frames.items) in
        let w' : World = record { left = s.left; memory = m'; switches = s'.switches; taken = k + count } in
        let there = subst (λ (b : List Instr). from b callee s.pc slots (world_of s m k) ≡ over e w') (sym (ap body_in known)) (flow callee s.left k) in
        let flows : from (body_of funs s.fun) callee s.pc (current_slots s) (world_of s m k) ≡ over e w' = subst (λ x. from (body_of funs s.fun) callee s.pc x (world_of s m k) ≡ over e w') old there in
        let first = ap (λ o. unwind funs depth s.frames.items (waiting_slots s) o) flows in
        let second : over e w' ≡ over e (world_of s' m' (k + count)) = ap (λ n. over e (record { left = n; memory = m'; switches = s'.switches; taken = k + count })) (sym left') in
        first ∙ unwind_final funs laws depth s.frames.items (waiting_slots s) e w' final ∙ second
