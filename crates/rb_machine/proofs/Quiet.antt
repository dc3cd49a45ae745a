-- Where the rest of a run does not trap, its next load or store does not.
use Rattle.std.proofs.Common.{◌≡◌, ℕ, ◌+◌, ◌-◌, List, length, Some, Result, Ok, Err, refl, sym, ap, ◌∙◌, subst}
use Rattle.std.specs.Prelude.{IsOk, slice_get}
use Rattle.rb_bytes.specs.Memory.{Memory}
use Rattle.rb_bytes.specs.declared.fault.Trap.{Trap}
use Rattle.rb_target.specs.Meaning.{World, CallEnd, Callee, act, from, enter, body_of, taken, after_load, after_store}
use Rattle.rb_target.specs.Laws.{IsLawful, IsFinal, Law}
use Rattle.rb_target.specs.declared.outcome.End.{End}
use Rattle.rb_target.specs.declared.outcome.End.TheVariants.{Trapped}
use Rattle.rb_target.specs.declared.code.CodeFun.{CodeFun}
use Rattle.rb_target.specs.declared.instr.Instr.{Instr}
use Rattle.rb_target.specs.declared.instr.Instr.TheVariants.{Load, Store}
use Rattle.rb_machine.proofs.Rest.{unwind_end}
use Rattle.rb_machine.specs.Runs.{IsNotTrapped}
use Rattle.rb_machine.specs.inner.Turns.{unwind, waiting_slots, current_slots, world_of, IsQuiet, MayRun}
use Rattle.rb_machine.specs.inner.Stretches.{IsQuietFrom}
use Rattle.rb_machine.specs.declared.state.Frame.{Frame}
use Rattle.rb_machine.specs.declared.state.State.{State}

load_ok : (r : Result ℕ Trap) (w : World) (go : ℕ → CallEnd) → IsNotTrapped (after_load r w go).ended → IsOk r
load_ok (Ok x) w go h = refl
load_ok (Err t) w go h = absurd h

store_ok : (r : Result (Unit {0}) Trap) (w : World) (go : CallEnd) → IsNotTrapped (after_store r w go).ended → IsOk r
store_ok (Ok x) w go h = refl
store_ok (Err t) w go h = absurd h

module _ (body : List Instr) (laws : (callee : Callee) → Law body callee (from body callee)) where
  quiet_at : (pc : ℕ) (slots : List ℕ) (m : Memory) (switches : ℕ) (i : Instr) → slice_get body pc ≡ Some i → (quiet : IsQuietFrom body pc slots m switches)
      → IsNotTrapped (act i (from body quiet.0) quiet.0 pc slots (taken (record { left = quiet.1; memory = m; switches = switches; taken = quiet.2 }))).ended
  quiet_at pc slots m switches i is quiet =
      subst (λ (o : CallEnd). IsNotTrapped o.ended) ((laws quiet.0).step pc i slots (record { left = quiet.1; memory = m; switches = switches; taken = quiet.2 }) is) quiet.3

  pub may_run : (pc : ℕ) (slots : List ℕ) (m : Memory) (switches : ℕ) (i : Instr) → slice_get body pc ≡ Some i → IsQuietFrom body pc slots m switches → MayRun m slots i
  may_run pc slots m switches (Load d a offset width) is quiet = load_ok _ _ _ (quiet_at pc slots m switches _ is quiet)
  may_run pc slots m switches (Store a offset width v) is quiet = store_ok _ _ _ (quiet_at pc slots m switches _ is quiet)
  may_run pc slots m switches i is quiet = tt

-- what comes later of a body that does not trap does not trap
pub quiet_later : (body : List Instr) (start pc : ℕ) (slots slots' : List ℕ) (m m' : Memory) (switches switches' count : ℕ)
    → ((callee : Callee) (left taken : ℕ) → from body callee start slots (record { left = left; memory = m; switches = switches; taken = taken })
    ≡ from body callee pc slots' (record { left = left; memory = m'; switches = switches'; taken = taken + count }))
    → IsQuietFrom body start slots m switches → IsQuietFrom body pc slots' m' switches'
quiet_later body start pc slots slots' m m' switches switches' count same quiet =
    (quiet.0, quiet.1, quiet.2 + count, subst (λ (o : CallEnd). IsNotTrapped o.ended) (same quiet.0 quiet.1 quiet.2) quiet.3)

module _ (funs : List CodeFun) (depth : ℕ) (laws : IsLawful funs) where
  -- a trap of the current call ends the run
  inner_quiet : (frames : List Frame) (stack : List ℕ) (o : CallEnd) (e : End) → o.ended ≡ e → IsNotTrapped (unwind funs depth frames stack o).ended → IsNotTrapped e
  inner_quiet frames stack o (Trapped t) is h = absurd (subst IsNotTrapped (ap (λ (r : CallEnd). r.ended) (unwind_end funs laws depth frames stack o (subst IsFinal (sym is) tt)) ∙ is) h)
  inner_quiet frames stack o e is h = tt

  pub quiet_stretch : (s : State) (m : Memory) → IsQuiet funs depth s m → IsQuietFrom (body_of funs s.fun) s.pc (current_slots s) m s.switches
  quiet_stretch s m quiet =
      let callee = enter funs (depth - length s.frames.items) in
      let o = from (body_of funs s.fun) callee s.pc (current_slots s) (world_of s m quiet.0) in
      (callee, s.left, quiet.0, inner_quiet s.frames.items (waiting_slots s) o o.ended refl quiet.1)
