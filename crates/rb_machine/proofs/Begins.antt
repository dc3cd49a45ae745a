-- How a run begins.
use Rattle.std.proofs.Common.{◌≡◌, ℕ, suc, ◌+◌, ◌-◌, ◌<◌, List, [], ◌++◌, length, drop, replicate, Some, All, sym, ap, ◌∙◌, arith, length-append}
use Rattle.std.specs.Prelude.{slice_get}
use Rattle.std.proofs.lemmas.List.{length-replicate}
use Rattle.std.proofs.lemmas.List.Elements.{All-nil}
use Rattle.std.proofs.lemmas.Option.{slice_get_within}
use Rattle.rb_bytes.specs.Memory.{Memory}
use Rattle.rb_target.specs.Meaning.{World, from, enter, body_in, body_of, run_of, slots_in, first_slots, with_left}
use Rattle.rb_target.specs.Validity.{IsValid}
use Rattle.rb_target.specs.declared.code.CodeFun.{CodeFun}
use Rattle.rb_machine.proofs.Rest.{valid_begins, enter_some}
use Rattle.rb_machine.specs.inner.Turns.{unwind, waiting_slots, current_slots, world_of, rest_of, room_in, slots_in_wait, outermost, results_in, IsFrame, StateIsSound}
use Rattle.rb_machine.specs.declared.state.Frame.{Frame}
use Rattle.rb_machine.specs.declared.state.State.{State}

module _ (funs : List CodeFun) (depth : ℕ) (s : State) (f : CodeFun) (words : List ℕ) (known : slice_get funs s.fun ≡ Some f) (pc : s.pc ≡ 0) (base : s.base ≡ 0) (none : s.frames.items ≡ []) (left : s.left ≡ depth) (switches : s.switches ≡ 0)
    (stack : s.stack.items ≡ words ++ replicate (f.slots - length words) 0) where
  current : current_slots s ≡ words ++ replicate (f.slots - length words) 0
  current = ap (λ n. drop n s.stack.items) base ∙ stack

  pub first_sound : IsValid funs → length words ≡ f.params → depth < 1000000000 → s.results.items ≡ [] ++ replicate f.results 0 → StateIsSound funs depth s
  first_sound valid params small results =
      let v = valid.each s.fun f known in
      let body : body_of funs s.fun ≡ f.body = ap body_in known in
      let begins = valid_begins funs f v in
      let short = v.small.2 in
      let room = ap (room_in funs) none in
      let held = ap (slots_in_wait funs) none in
      let fits = v.params in
      let long : length (words ++ replicate (f.slots - length words) 0) ≡ f.slots = simp (length-append, length-replicate) (omega arith) in
      let lengths = ap length current in
      let outer : outermost s.frames.items s.fun ≡ s.fun = ap (λ (fs : List Frame). outermost fs s.fun) none in
      let empty : All (λ (x : Frame). IsFrame funs x) [] = All-nil (λ (x : Frame). IsFrame funs x) in
      record {
        place = record { known = slice_get_within funs s.fun f known; inside = omega (arith, ap length body); slots = lengths ∙ long ∙ sym (ap slots_in known) };
        frames = rw none empty;
        base = base ∙ sym held;
        fits = omega arith;
        nested = omega (arith, ap length none);
        results = ap length results ∙ length-replicate f.results 0 ∙ sym (ap results_in (ap (slice_get funs) outer ∙ known));
        bounded = omega (arith, ap length body);
      }

  pub first_whole : (m : Memory) → run_of funs (depth + 1) s.fun words m ≡ rest_of funs depth s m 0
  first_whole m =
      let w : World = record { left = depth + 1; memory = m; switches = 0; taken = 0 } in
      let one : depth + 1 ≡ suc depth = omega arith in
      let some : 0 < depth + 1 = omega arith in
      let deep : depth + 1 - 1 ≡ depth - length s.frames.items = omega (arith, ap length none) in
      let slots_in_f : first_slots funs s.fun words ≡ current_slots s = ap (λ o. words ++ replicate (slots_in o - length words) 0) known ∙ sym current in
      let first = enter_some funs (depth + 1) depth s.fun words w one some in
      let second : from (body_of funs s.fun) (enter funs (depth + 1 - 1)) 0 (first_slots funs s.fun words) (with_left w depth) ≡ from (body_of funs s.fun) (enter funs (depth - length s.frames.items)) s.pc (current_slots s) (world_of s m 0) = cc in
      let third : unwind funs depth [] (waiting_slots s) (from (body_of funs s.fun) (enter funs (depth - length s.frames.items)) s.pc (current_slots s) (world_of s m 0)) ≡ rest_of funs depth s m 0 = cc in
      first ∙ second ∙ third
