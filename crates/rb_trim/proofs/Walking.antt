-- From each instruction of a body on, the shorter body does alike.
use Rattle.std.proofs.Common.{◌≡◌, ℕ, zero, suc, ◌+◌, ◌-◌, ◌<◌, ◌≤◌, ◌⊎◌, inl, inr, List, [], ◌∷◌, ◌++◌, map, length, replicate, length-append, get_or-set_other, get_or-set_same, ◌≢◌, Option, Some, None, refl, sym, subst, ap, ◌∙◌, arith}
use Rattle.std.proofs.lemmas.List.{length-set, length-replicate}
use Rattle.std.proofs.lemmas.Option.{slice_get_within, same_Some}
use Rattle.std.specs.Prelude.{slice_get, slice_index, slice_set, IfSome, All}
use Rattle.rb_bits.specs.Words.{take_of}
use Rattle.rb_bytes.specs.Memory.{load_of}
use Rattle.rb_target.specs.Meaning.{World, CallEnd, Next, Callee, act, over, taken, from, alu_of, after_load, after_switch, with_switch, target_of, slots_at}
use Rattle.rb_target.specs.declared.outcome.End.TheVariants.{Returned}
use Rattle.rb_target.specs.Laws.{Law}
use Rattle.rb_target.specs.Validity.{IsTarget, TargetsFit, EndsInReturn, IsFine, IsValidFun}
use Rattle.rb_target.specs.declared.instr.SwitchArm.{SwitchArm}
use Rattle.rb_target.specs.declared.instr.Instr.{Instr}
use Rattle.rb_target.specs.declared.instr.Instr.TheVariants.{Const, Copy, Alu, Take, Put, Load, Store, Place, Jump, Switch, Call, Return}
use Rattle.rb_target.specs.declared.code.CodeFun.{CodeFun}
use Rattle.rb_trim.specs.declared.fact.Fact.{Fact}
use Rattle.rb_trim.specs.declared.hints.Hints.{Hints}
use Rattle.rb_trim.specs.Trimming.{IsNoDearer}
use Rattle.rb_trim.specs.inner.Facts.{Hold, FactSays, Turns}
use Rattle.rb_trim.specs.inner.Following.{Sets}
use Rattle.rb_trim.specs.inner.Moving.{IsUnread, IsReached, IsPlain, SlotIsRead, Agree, NumbersAreApart, IsDest, IsName, AreNames, IsMoved, IsCopied, IsInto, IsFolded, FindsWay, ComesBack, IsBack, landing_in, moved_arm, LivesOn, FallsOn, JumpsOn, HintsHold, EndsOn, facts_at, place, end, landing, IsIdle, IsJumped, LeadsAhead, InstrIsKept, IsLeftOut, IsSkipped, IsStep}
use Rattle.rb_trim.proofs.Outcomes.{Near, near_taken, near_behind, over_near, load_near, near_switched, near_more}
use Rattle.rb_trim.proofs.Slots.{AgreeOn, Borne, same_or, ever, widened, onward, set_agrees, set_unread, names_same}
use Rattle.rb_trim.proofs.Acting.{CallsNear, Comes, LedTo, acts_alike, moved_target, led_to, switch_near, first_or}

get_some : (xs : List Instr) (k : ℕ) → k < length xs → (i : Instr) × (slice_get xs k ≡ Some i)
get_some [] k lt = absurd (omega (arith, lt))
get_some (x ∷ xs) zero lt = (x, refl)
get_some (x ∷ xs) (suc k) lt = get_some xs k (omega (arith, lt))

-- what does not return is not the last instruction
module _ (body : List Instr) (ends : EndsInReturn body) (pc : ℕ) (i : Instr) (is : slice_get body pc ≡ Some i) where
  inside : ((froms : List ℕ) → i ≡ Return froms → ⊥) → pc + 1 < length body
  inside unlike =
      let lt : pc < length body = slice_get_within body pc i is in
      elim (near_end lt) [
        | inl more ↦ more
        | inr last ↦
            let there : slice_get body pc ≡ Some (Return ends.0) = ap (λ n. slice_get body n) last ∙ ends.1 in
            absurd (unlike ends.0 (same_Some i (Return ends.0) (sym is ∙ there)))
      ]
    where
      near_end : pc < length body → (pc + 1 < length body) ⊎ (pc ≡ length body - 1)
      near_end lt = grind arith

-- each place where a run goes on lies behind, within the body
module _ (h : Hints) (body : List Instr) (ends : EndsInReturn body) (pc : ℕ) where
  abbrev pub Falls : Instr → ℕ → Type 0
  Falls i t = (pc < t) × (t < length body) × FallsOn h pc i t

  abbrev pub Jumps : Instr → Option Fact → ℕ → Type 0
  Jumps i told t = (pc < t) × (t < length body) × JumpsOn h pc i told t

  other_led : (i : Instr) (other : Option ℕ) → IfSome other (λ t. IsTarget (length body) pc t) → IfSome other (JumpsOn h pc i None) → IfSome other (Jumps i None)
  other_led i None fit known = fit
  other_led i (Some t) fit known = (fit.0, fit.1, known)

  next : (i : Instr) → slice_get body pc ≡ Some i → ((froms : List ℕ) → i ≡ Return froms → ⊥) → FallsOn h pc i (pc + 1) → Falls i (pc + 1)
  next i is unlike known = (omega arith, inside body ends pc i is unlike, known)

  pub led_behind : (i : Instr) → slice_get body pc ≡ Some i → TargetsFit (length body) pc i → LeadsAhead (FallsOn h pc i) (JumpsOn h pc i) i pc → LeadsAhead (Falls i) (Jumps i) i pc
  led_behind (Const d c) is fit known = next (Const d c) is (λ froms e. cc) known
  led_behind (Copy d a) is fit known = next (Copy d a) is (λ froms e. cc) known
  led_behind (Alu op n d a b) is fit known = next (Alu op n d a b) is (λ froms e. cc) known
  led_behind (Take d a o l) is fit known = next (Take d a o l) is (λ froms e. cc) known
  led_behind (Put d a o l) is fit known = next (Put d a o l) is (λ froms e. cc) known
  led_behind (Load d a offset width) is fit known = next (Load d a offset width) is (λ froms e. cc) known
  led_behind (Store a offset width v) is fit known = next (Store a offset width v) is (λ froms e. cc) known
  led_behind (Place d size align) is fit known = next (Place d size align) is (λ froms e. cc) known
  led_behind (Jump t) is fit known = (fit.0, fit.1, known)
  led_behind (Switch a other arms) is fit known =
      (other_led (Switch a other arms) other fit.0 known.0, λ k d lt. ((fit.1 k d lt).0, (fit.1 k d lt).1, known.1 k d lt))
  led_behind (Call f ds froms) is fit known = next (Call f ds froms) is (λ froms e. cc) known
  led_behind (Return froms) is fit known = tt

-- the forms of what is left out
module _ (h : Hints) (pc : ℕ) where
  pub ends_case : (i : Instr) → EndsOn h pc i → ((t : ℕ) × (i ≡ Jump t) × (end h pc ≡ end h t)) ⊎ ((end h pc ≡ end h (pc + 1)) × IsIdle h (facts_at h pc) pc i)
  ends_case (Const d c) on = inr on
  ends_case (Copy d a) on = inr on
  ends_case (Alu op n d a b) on = inr on
  ends_case (Take d a o l) on = inr on
  ends_case (Put d a o l) on = inr on
  ends_case (Load d a offset width) on = inr on
  ends_case (Store a offset width v) on = inr on
  ends_case (Place d size align) on = inr on
  ends_case (Jump t) on = inl (t, refl, on)
  ends_case (Switch a other arms) on = inr on
  ends_case (Call f ds froms) on = inr on
  ends_case (Return froms) on = inr on

  pub left_case : (i : Instr) → IsLeftOut h pc i → ((t : ℕ) × (i ≡ Jump t) × (landing h t ≡ place h pc)) ⊎ IsIdle h (facts_at h pc) pc i
  left_case (Const d c) on = inr on
  left_case (Copy d a) on = inr on
  left_case (Alu op n d a b) on = inr on
  left_case (Take d a o l) on = inr on
  left_case (Put d a o l) on = inr on
  left_case (Load d a offset width) on = inr on
  left_case (Store a offset width v) on = inr on
  left_case (Place d size align) on = inr on
  left_case (Jump t) on = inl (t, refl, on)
  left_case (Switch a other arms) on = inr on
  left_case (Call f ds froms) on = inr on
  left_case (Return froms) on = inr on

-- an instruction that is left out
module _ (h : Hints) (slots pc : ℕ) (facts : List Fact) (old : Callee) (F : ℕ → Type 0) (J : Option Fact → ℕ → Type 0) (next : Next) (s s' : List ℕ) (w : World) (o : CallEnd)
    (long : slots ≤ length s) (agree : Agree h pc s s') (hold : Hold s w.memory facts) where
  abbrev pub PassesOn : Instr → Type 0
  PassesOn i = (s1 : List ℕ) → F (pc + 1) → Turns i s w.memory s1 w.memory → slots ≤ length s1 → Agree h (pc + 1) s1 s' → IsNoDearer o (next (pc + 1) s1 w)

  passes : (i : Instr) (d x : ℕ) → ((k : ℕ) → Sets i k → d ≡ k) → IsUnread h (pc + 1) d → F (pc + 1) → LivesOn h pc i (pc + 1) → Turns i s w.memory (slice_set s d x) w.memory → PassesOn i
      → IsNoDearer o (next (pc + 1) (slice_set s d x) w)
  passes i d x sets unread to lives turns go = go (slice_set s d x) to turns (omega (arith, long, length-set s d x)) (set_unread h pc i (pc + 1) d x s s' agree lives sets unread.by)

  pub idle_acts : (i : Instr) → IsIdle h facts pc i → LeadsAhead F J i pc → (F (pc + 1) → LivesOn h pc i (pc + 1)) → PassesOn i → IsNoDearer o (act i next old pc s w)
  idle_acts (Const d c) idle leads lives go = passes (Const d c) d c (λ k e. e) idle leads (lives leads) (refl, refl) go
  idle_acts (Copy d a) idle leads lives go = passes (Copy d a) d (slice_index s a) (λ k e. e) idle leads (lives leads) (refl, refl) go
  idle_acts (Alu op n d a b) idle leads lives go = passes (Alu op n d a b) d (alu_of op n (slice_index s a) (slice_index s b)) (λ k e. e) idle leads (lives leads) (refl, refl) go
  idle_acts (Take d a o1 l) idle leads lives go = passes (Take d a o1 l) d (take_of (slice_index s a) o1 l) (λ k e. e) idle leads (lives leads) (refl, refl) go
  idle_acts (Put d a o1 l) idle leads lives go = passes (Put d a o1 l) d _ (λ k e. e) idle leads (lives leads) (refl, refl) go
  idle_acts (Load d a offset width) idle leads lives go =
      let x = idle.1.by s w.memory hold in
      subst (λ r. IsNoDearer o (after_load r w (λ y. next (pc + 1) (slice_set s d y) w))) (sym x.1)
      (passes (Load d a offset width) d x.0 (λ k e. e) idle.0 leads (lives leads) (x.0, x.1, refl, refl) go)
  idle_acts (Store a offset width v) idle leads lives go = absurd idle
  idle_acts (Place d size align) idle leads lives go = absurd idle
  idle_acts (Jump t) idle leads lives go = absurd idle
  idle_acts (Switch a other arms) idle leads lives go = absurd idle
  idle_acts (Call f ds froms) idle leads lives go = absurd idle
  idle_acts (Return froms) idle leads lives go = absurd idle

module _ (funs funs' : List CodeFun) (f q : CodeFun) (valid : IsValidFun funs f) (valid' : IsValidFun funs' q) (h : Hints) (apart : NumbersAreApart h)
    (steps : (pc : ℕ) (i : Instr) → slice_get f.body pc ≡ Some i → IsStep h f.body q.body pc i)
    (new old : Callee) (calls : CallsNear funs new old) (law : Law f.body old (from f.body old)) (law' : Law q.body new (from q.body new)) where
  abbrev pub F : ℕ → Instr → ℕ → Type 0
  F pc i t = Falls h f.body valid.ends pc i t

  abbrev pub J : ℕ → Instr → Option Fact → ℕ → Type 0
  J pc i told t = Jumps h f.body valid.ends pc i told t

  led : (pc : ℕ) (i : Instr) → slice_get f.body pc ≡ Some i → LeadsAhead (F pc i) (J pc i) i pc
  led pc i is = led_behind h f.body valid.ends pc i is (valid.each pc i is).targets (steps pc i is).known

  -- what holds behind an instruction holds at a place behind it
  holds_on : (pc : ℕ) (i : Instr) (told : Option Fact) (t : ℕ) → slice_get f.body pc ≡ Some i → HintsHold h pc i told t → (s s1 : List ℕ) (w w1 : World) → f.slots ≤ length s → Hold s w.memory (facts_at h pc) → FactSays told s w.memory
      → Turns i s w.memory s1 w1.memory → Hold s1 w1.memory (facts_at h t)
  holds_on pc i told t is goes s s1 w w1 long hold says turns = goes.follows.by f.slots s s1 w.memory w1.memory long (valid.each pc i is).slots hold says turns

  jump_borne : (pc t : ℕ) (s s' : List ℕ) → Agree h pc s s' → AgreeOn h (Borne h pc (Jump t)) s s'
  jump_borne pc t s s' agree k (inl read) e = agree k read
  jump_borne pc t s s' agree k (inr sets) e = absurd sets

  -- what the new code does from slots and a world on, whatever it is, is done from the end of an instruction on
  abbrev pub AtEnd : ℕ → List ℕ → World → CallEnd → Type 0
  AtEnd u s' v o = (s : List ℕ) (w : World) → Near v w → f.slots ≤ length s → Agree h u s s' → Hold s w.memory (facts_at h u) → IsNoDearer o (from f.body old u s w)

  abbrev pub Passes : ℕ → Type 0
  Passes pc = (pc ≤ end h pc) × (end h pc < length f.body) × ((s' : List ℕ) (v : World) (o : CallEnd) → AtEnd (end h pc) s' v o → AtEnd pc s' v o)

  pass_jump : (pc t : ℕ) → slice_get f.body pc ≡ Some (Jump t) → (s' : List ℕ) (v : World) (o : CallEnd) → AtEnd t s' v o → AtEnd pc s' v o
  pass_jump pc t is s' v o go s w near long agree hold =
      let to : J pc (Jump t) None t = led pc (Jump t) is in
      subst (λ (p : CallEnd). IsNoDearer o p) (sym (law.step pc (Jump t) s w is))
      (go s (taken w) (near_behind v w near) long (onward h pc (Jump t) t s s' to.2.on.lives (jump_borne pc t s s' agree))
      (holds_on pc (Jump t) None t is to.2.on s s w (taken w) long hold tt (refl, refl)))

  pass_idle : (pc : ℕ) (i : Instr) → slice_get f.body pc ≡ Some i → IsIdle h (facts_at h pc) pc i → (s' : List ℕ) (v : World) (o : CallEnd) → AtEnd (pc + 1) s' v o → AtEnd pc s' v o
  pass_idle pc i is idle s' v o go s w near long agree hold =
      subst (λ (p : CallEnd). IsNoDearer o p) (sym (law.step pc i s w is))
      (idle_acts h f.slots pc (facts_at h pc) old (F pc i) (J pc i) (from f.body old) s s' (taken w) o long agree hold i idle (led pc i is)
      (λ to. to.2.on.lives)
      (λ s1 to turns long1 agree1. go s1 (taken w) (near_behind v w near) long1 agree1 (holds_on pc i None (pc + 1) is to.2.on s s1 w (taken w) long hold tt turns)))

  from_end : (pc t : ℕ) → pc < t → Passes t → end h pc ≡ end h t → ((s' : List ℕ) (v : World) (o : CallEnd) → AtEnd t s' v o → AtEnd pc s' v o) → Passes pc
  from_end pc t lt rest e pass = (
    omega (arith, lt, rest.0, e),
    omega (arith, rest.1, e),
    λ s' v o go. pass s' v o (rest.2 s' v o (subst (λ u. AtEnd u s' v o) e go)),
  )

  passing : (pc : ℕ) (i : Instr) → slice_get f.body pc ≡ Some i → ((t : ℕ) → pc < t → t < length f.body → Passes t) → Passes pc
  passing pc i is rest =
      elim (steps pc i is).ends [
        | inl e ↦ (omega (arith, e), subst (λ u. u < length f.body) (sym e) (slice_get_within f.body pc i is), λ s' v o go. subst (λ u. AtEnd u s' v o) e go)
        | inr on ↦ elim (ends_case h pc i on) [
          | inl jump ↦
              let is' : slice_get f.body pc ≡ Some (Jump jump.0) = is ∙ ap Some jump.1 in
              let to : J pc (Jump jump.0) None jump.0 = led pc (Jump jump.0) is' in
              from_end pc jump.0 to.0 (rest jump.0 to.0 to.1) jump.2 (pass_jump pc jump.0 is')
          | inr idle ↦
              let lt : pc + 1 < length f.body = within_next pc i is idle.1 in
              from_end pc (pc + 1) (omega arith) (rest (pc + 1) (omega arith) lt) idle.0 (pass_idle pc i is idle.1)
        ]
      ]
    where
      within_next : (pc : ℕ) (i : Instr) → slice_get f.body pc ≡ Some i → IsIdle h (facts_at h pc) pc i → pc + 1 < length f.body
      within_next pc i is idle = inside f.body valid.ends pc i is (λ froms e. let r : IsIdle h (facts_at h pc) pc (Return froms) = subst (λ (x : Instr). IsIdle h (facts_at h pc) pc x) e idle in r)

  -- from an instruction on, where it is so from those behind it on
  abbrev pub FromHere : ℕ → Type 0
  FromHere pc = IsReached h pc → (s' : List ℕ) (v : World) → q.slots ≤ length s' → AtEnd pc s' v (from q.body new (place h pc) s' v)

  abbrev pub Both : ℕ → Type 0
  Both pc = FromHere pc × Passes pc

  -- a jump to a place behind
  goes_to : (pc t : ℕ) → pc < t → t < length f.body → ((t : ℕ) → pc < t → t < length f.body → Both t) → IsReached h (end h t) → (s' : List ℕ) (v : World) → q.slots ≤ length s'
      → AtEnd t s' v (from q.body new (landing h t) s' v)
  goes_to pc t lt within rest reached s' v long' =
      let passes : Passes t = (rest t lt within).1 in
      let u = end h t in
      passes.2 s' v (from q.body new (landing h t) s' v) ((rest u (omega (arith, lt, passes.0)) passes.1).0 reached s' v long')

  -- a jump that returns at once
  goes_back : (pc t : ℕ) → Passes t → (froms froms' : List ℕ) → slice_get f.body (end h t) ≡ Some (Return froms) → AreNames h (facts_at h (end h t)) (end h t) froms froms' → (s' : List ℕ) (v : World)
      → AtEnd t s' v (over (Returned (slots_at s' froms') v.left) v)
  goes_back pc t passes froms froms' is names s' v =
      passes.2 s' v (over (Returned (slots_at s' froms') v.left) v)
      (λ s w near long agree hold.
      let e : slots_at s' froms' ≡ slots_at s froms = names_same h (facts_at h (end h t)) (end h t) froms froms' s s' w.memory agree hold names in
      subst (λ (p : CallEnd). IsNoDearer (over (Returned (slots_at s' froms') v.left) v) p) (sym (law.step (end h t) (Return froms) s w is))
      (subst (λ us. IsNoDearer (over (Returned us v.left) v) (over (Returned (slots_at s froms) w.left) (taken w))) (sym e)
      (subst (λ n. IsNoDearer (over (Returned (slots_at s froms) n) v) (over (Returned (slots_at s froms) w.left) (taken w))) (sym near.left)
      (over_near (Returned (slots_at s froms) w.left) v (taken w) (near_behind v w near)))))

  jumped : (pc t : ℕ) (j : Instr) → slice_get f.body pc ≡ Some (Jump t) → ((t : ℕ) → pc < t → t < length f.body → Both t) → IsPlain h pc → IsReached h pc → IsJumped h f.body t j
      → (pc' : ℕ) (s s' : List ℕ) (v w : World) → Near v (taken w) → f.slots ≤ length s → q.slots ≤ length s' → Agree h pc s s' → Hold s w.memory (facts_at h pc)
      → IsNoDearer (act j (from q.body new) new pc' s' v) (from f.body old t s (taken w))
  jumped pc t j is rest plain reached moved pc' s s' v w near long long' agree hold =
      let to : J pc (Jump t) None t = led pc (Jump t) is in
      let agree1 : Agree h t s s' = onward h pc (Jump t) t s s' to.2.on.lives (jump_borne pc t s s' agree) in
      let hold1 : Hold s w.memory (facts_at h t) = holds_on pc (Jump t) None t is to.2.on s s w (taken w) long hold tt (refl, refl) in
      elim moved [
        | inl e ↦
            subst (λ (k : Instr). IsNoDearer (act k (from q.body new) new pc' s' v) (from f.body old t s (taken w))) (sym e)
            (goes_to pc t to.0 to.1 rest (to.2.comes plain reached) s' v long' s (taken w) near long agree1 hold1)
        | inr back ↦
            subst (λ (k : Instr). IsNoDearer (act k (from q.body new) new pc' s' v) (from f.body old t s (taken w))) (sym back.3)
            (goes_back pc t (rest t to.0 to.1).1 back.0 back.1 back.2 back.4 s' v s (taken w) near long agree1 hold1)
      ]

  stays : (pc : ℕ) (i : Instr) → slice_get f.body pc ≡ Some i → ((t : ℕ) → pc < t → t < length f.body → Both t) → (kept : InstrIsKept h f.body q.body pc i) → IsPlain h pc → IsMoved h (facts_at h pc) f.body pc i kept.0 → place h (pc + 1) ≡ place h pc + 1 → IsReached h pc
      → (s' : List ℕ) (v : World) → q.slots ≤ length s' → (s : List ℕ) (w : World) → Near v w → f.slots ≤ length s → Agree h pc s s' → Hold s w.memory (facts_at h pc)
      → IsNoDearer (from q.body new (place h pc) s' v) (act i (from f.body old) old pc s (taken w))
  stays pc i is rest kept plain moved next_place reached s' v long' s w near long agree hold =
      let j = kept.0 in
      let fine : IsFine funs f pc i = valid.each pc i is in
      let fine' : IsFine funs' q (place h pc) j = valid'.each (place h pc) j kept.1 in
      subst (λ (o : CallEnd). IsNoDearer o (act i (from f.body old) old pc s (taken w))) (sym (law'.step (place h pc) j s' v kept.1))
      (acts_alike h apart funs f.body f.results f.slots q.slots pc (place h pc) (facts_at h pc) new old calls (F pc i) (J pc i)
      (from q.body new) (from f.body old) s s' (taken v) (taken w) (near_taken v w near) long long' agree hold
      i j moved fine.slots fine'.slots fine.calls (led pc i is)
      (λ t e jump to. jumped pc t j (is ∙ ap Some e) rest plain reached jump (place h pc) s s' (taken v) w (near_taken v w near) long long' agree hold)
      (λ t t' s1 s1' w1 w1' comes turns long1 long1' agree1 near1. goes t t' s1 s1' w1 w1' comes turns long1 long1' agree1 near1))
    where
      goes : (t t' : ℕ) (s1 s1' : List ℕ) (w1 w1' : World) → Comes h pc (place h pc) (F pc i) (J pc i) s w.memory t t' → Turns i s w.memory s1 w1.memory
          → f.slots ≤ length s1 → q.slots ≤ length s1' → AgreeOn h (Borne h pc i) s1 s1' → Near w1' w1 → IsNoDearer (from q.body new t' s1' w1') (from f.body old t s1 w1)
      goes t t' s1 s1' w1 w1' (inl falls) turns long1 long1' agree1 near1 =
          let to : F pc i t = falls.0 in
          let there : t' ≡ place h t = falls.2 ∙ sym next_place ∙ ap (λ n. place h n) (sym falls.1) in
          subst (λ m. IsNoDearer (from q.body new m s1' w1') (from f.body old t s1 w1)) (sym there)
          ((rest t to.0 to.1).0 (to.2.comes plain reached) s1' w1' long1' s1 w1 near1 long1 (onward h pc i t s1 s1' to.2.on.lives agree1)
          (holds_on pc i None t is to.2.on s s1 w w1 long hold tt turns))
      goes t t' s1 s1' w1 w1' (inr jumps) turns long1 long1' agree1 near1 =
          let to : J pc i jumps.0.0 t = jumps.0.1 in
          subst (λ m. IsNoDearer (from q.body new m s1' w1') (from f.body old t s1 w1)) (sym jumps.1)
          (goes_to pc t to.0 to.1 rest (to.2.comes plain reached) s1' w1' long1' s1 w1 near1 long1 (onward h pc i t s1 s1' to.2.on.lives agree1)
          (holds_on pc i jumps.0.0 t is to.2.on s s1 w w1 long hold jumps.0.2 turns))

  skipped : (pc : ℕ) (i : Instr) → slice_get f.body pc ≡ Some i → ((t : ℕ) → pc < t → t < length f.body → Both t) → IsSkipped h pc i → FromHere pc
  skipped pc i is rest skip reached s' v long' =
      elim (left_case h pc i (skip.0 reached)) [
        | inl jump ↦
            let is' : slice_get f.body pc ≡ Some (Jump jump.0) = is ∙ ap Some jump.1 in
            let to : J pc (Jump jump.0) None jump.0 = led pc (Jump jump.0) is' in
            subst (λ m. AtEnd pc s' v (from q.body new m s' v)) jump.2
            (pass_jump pc jump.0 is' s' v (from q.body new (landing h jump.0) s' v) (goes_to pc jump.0 to.0 to.1 rest (to.2.comes skip.1 reached) s' v long'))
        | inr idle ↦
            subst (λ m. AtEnd pc s' v (from q.body new m s' v)) skip.2
            (λ s w near long agree hold.
            subst (λ (p : CallEnd). IsNoDearer (from q.body new (place h (pc + 1)) s' v) p) (sym (law.step pc i s w is))
            (idle_acts h f.slots pc (facts_at h pc) old (F pc i) (J pc i) (from f.body old) s s' (taken w) (from q.body new (place h (pc + 1)) s' v) long agree hold i idle (led pc i is)
            (λ to. to.2.on.lives)
            (λ s1 to turns long1 agree1. (rest (pc + 1) to.0 to.1).0 (to.2.comes skip.1 reached) s' v long' s1 (taken w) (near_behind v w near) long1 agree1
            (holds_on pc i None (pc + 1) is to.2.on s s1 w (taken w) long hold tt turns))))
      ]

  -- a load into the slot of a copy: both codes come to the copy, the new one as if the word stood past its slots, too
  module _ (pc slot base offset width to to' base' : ℕ) (is : slice_get f.body pc ≡ Some (Load slot base offset width)) (is' : slice_get q.body (place h pc) ≡ Some (Load to' base' offset width))
      (dest : IsDest h to to') (name : IsName h (facts_at h pc) pc base base') (copied : IsCopied h f.body (end h (pc + 1)) slot to) (next : place h (end h (pc + 1) + 1) ≡ place h pc + 1)
      (rest : (t : ℕ) → pc < t → t < length f.body → Both t) (s' : List ℕ) (v : World) (long' : q.slots ≤ length s') where
    abbrev pub here' : ℕ
    here' = end h (pc + 1)

    fits : (slot < f.slots) × (base < f.slots)
    fits = (valid.each pc (Load slot base offset width) is).slots

    fits' : (to' < q.slots) × (base' < q.slots)
    fits' = (valid'.each (place h pc) (Load to' base' offset width) is').slots

    -- where the word stands, too
    abbrev pub wide : List ℕ
    wide = s' ++ replicate {A = ℕ} (suc copied.name) 0

    room : copied.name < length wide
    room = omega (arith, length-append s' (replicate {A = ℕ} (suc copied.name) 0), length-replicate {A = ℕ} (suc copied.name) 0)

    -- behind the copy
    behind_copy : (x : ℕ) (s : List ℕ) → f.slots ≤ length s → Agree h here' s (slice_set wide copied.name x) → LivesOn h here' (Copy to copied.from) (here' + 1) → to < f.slots
        → Agree h (here' + 1) (slice_set s to x) (slice_set s' to' x)
    behind_copy x s long agree lives within k read =
        elim (same_or slot k) [
          | inl e ↦ absurd (copied.unread.by (subst (λ n. SlotIsRead h (here' + 1) n) (sym e) read))
          | inr ne ↦
              set_agrees h apart (λ n. SlotIsRead h here' n × (slot ≢ n)) to to' x s s' kept_apart dest (omega (arith, within, long)) (omega (arith, fits'.0, long')) k
              (other_or ne (lives.by k read)) (ever h (here' + 1) k read)
        ]
      where
        other_or : slot ≢ k → SlotIsRead h here' k ⊎ Sets (Copy to copied.from) k → (SlotIsRead h here' k × (slot ≢ k)) ⊎ (to ≡ k)
        other_or ne (inl r) = inl (r, ne)
        other_or ne (inr e) = inr e

        kept_apart : AgreeOn h (λ n. SlotIsRead h here' n × (slot ≢ n)) s s'
        kept_apart n r e =
            let off : slice_index h.names n ≢ copied.name = λ q. r.1 (sym copied.own.1 ∙ ap (λ m. slice_index h.origins m) (sym q) ∙ apart n e) in
            sym (widened s' (suc copied.name) (slice_index h.names n)) ∙ sym (get_or-set_other wide copied.name (slice_index h.names n) x 0 off) ∙ agree n r.0

    -- from the copy on
    from_copy : (x : ℕ) → AtEnd here' (slice_set wide copied.name x) (taken v) (from q.body new (place h pc + 1) (slice_set s' to' x) (taken v))
    from_copy x s w near long agree hold =
        let at : slice_get f.body here' ≡ Some (Copy to copied.from) = copied.stands in
        let falls : F here' (Copy to copied.from) (here' + 1) = led here' (Copy to copied.from) at in
        let within : to < f.slots = (valid.each here' (Copy to copied.from) at).slots.0 in
        let word : x ≡ slice_index s copied.from = sym (get_or-set_same wide copied.name x 0 room) ∙ copied.same.same s (slice_set wide copied.name x) w.memory agree hold in
        let turns : Turns (Copy to copied.from) s w.memory (slice_set s to x) w.memory = (ap (λ y. slice_set s to y) word, refl) in
        let back : pc + 1 ≤ here' = (passes_behind).0 in
        subst (λ (p : CallEnd). IsNoDearer (from q.body new (place h pc + 1) (slice_set s' to' x) (taken v)) p) (sym (law.step here' (Copy to copied.from) s w at))
        (subst (λ y. IsNoDearer (from q.body new (place h pc + 1) (slice_set s' to' x) (taken v)) (from f.body old (here' + 1) (slice_set s to y) (taken w))) word
        (subst (λ n. IsNoDearer (from q.body new n (slice_set s' to' x) (taken v)) (from f.body old (here' + 1) (slice_set s to x) (taken w))) next
        ((rest (here' + 1) (omega (arith, back)) falls.1).0 copied.comes (slice_set s' to' x) (taken v) (omega (arith, long', length-set s' to' x))
        (slice_set s to x) (taken w) (near_behind (taken v) w near) (omega (arith, long, length-set s to x))
        (behind_copy x s long agree falls.2.on.lives within)
        (holds_on here' (Copy to copied.from) None (here' + 1) at falls.2.on s (slice_set s to x) w (taken w) long hold tt turns))))
      where
        passes_behind : Passes (pc + 1)
        passes_behind = let behind : F pc (Load slot base offset width) (pc + 1) = led pc (Load slot base offset width) is in (rest (pc + 1) behind.0 behind.1).1

    loads : AtEnd pc s' v (from q.body new (place h pc) s' v)
    loads s w near long agree hold =
        let old_word = load_of w.memory (slice_index s base) offset width in
        let falls : F pc (Load slot base offset width) (pc + 1) = led pc (Load slot base offset width) is in
        let e : load_of v.memory (slice_index s' base') offset width ≡ old_word =
        ap (λ m. load_of m (slice_index s' base') offset width) near.memory ∙ ap (λ a. load_of w.memory a offset width) (name.same s s' w.memory agree hold) in
        subst (λ (p : CallEnd). IsNoDearer (from q.body new (place h pc) s' v) p) (sym (law.step pc (Load slot base offset width) s w is))
        (subst (λ (p : CallEnd). IsNoDearer p (act (Load slot base offset width) (from f.body old) old pc s (taken w))) (sym (law'.step (place h pc) (Load to' base' offset width) s' v is'))
        (subst (λ r. IsNoDearer (after_load r (taken v) (λ x. from q.body new (place h pc + 1) (slice_set s' to' x) (taken v))) (act (Load slot base offset width) (from f.body old) old pc s (taken w))) (sym e)
        (load_near old_word (taken v) (taken w) (λ x. from q.body new (place h pc + 1) (slice_set s' to' x) (taken v)) (λ x. from f.body old (pc + 1) (slice_set s slot x) (taken w)) (near_taken v w near)
        (λ x loaded. (rest (pc + 1) falls.0 falls.1).1.2 (slice_set wide copied.name x) (taken v) (from q.body new (place h pc + 1) (slice_set s' to' x) (taken v)) (from_copy x)
        (slice_set s slot x) (taken w) (near_taken v w near) (omega (arith, long, length-set s slot x))
        (onward h pc (Load slot base offset width) (pc + 1) (slice_set s slot x) (slice_set wide copied.name x) falls.2.on.lives
        (set_agrees h apart (λ n. SlotIsRead h pc n) slot copied.name x s wide (λ n read ever. widened s' (suc copied.name) (slice_index h.names n) ∙ agree n read) copied.own (omega (arith, fits.0, long)) room))
        (holds_on pc (Load slot base offset width) None (pc + 1) is falls.2.on s (slice_set s slot x) w (taken w) long hold tt (x, loaded, refl, refl))))))

  loads_into : (pc : ℕ) (i j : Instr) → slice_get f.body pc ≡ Some i → ((t : ℕ) → pc < t → t < length f.body → Both t) → slice_get q.body (place h pc) ≡ Some j → IsInto h f.body pc i j
      → (s' : List ℕ) (v : World) → q.slots ≤ length s' → AtEnd pc s' v (from q.body new (place h pc) s' v)
  loads_into pc i j is rest is' into s' v long' =
      loads pc into.slot into.base into.offset into.width into.to into.to' into.base' (is ∙ ap Some into.is) (is' ∙ ap Some into.stands) into.dest into.name into.copied into.next rest s' v long'

  -- a switch writes no slot
  switch_borne : (s' : List ℕ) (u a : ℕ) (o : Option ℕ) (its : List SwitchArm) (s : List ℕ) → Agree h u s s' → AgreeOn h (Borne h u (Switch a o its)) s s'
  switch_borne s' u a o its s agree k (inl read) e = agree k read
  switch_borne s' u a o its s agree k (inr sets) e = absurd sets

  if_both : (P Q : ℕ → Type 0) (o : Option ℕ) → IfSome o P → IfSome o Q → IfSome o (λ t. P t × Q t)
  if_both P Q None p r = p
  if_both P Q (Some t) p r = (p, r)

  -- a switch that has the arms of another, too
  module _ (pc slot target : ℕ) (arms : List SwitchArm) (from_slot : ℕ) (other : Option ℕ) (more : List SwitchArm) (word : ℕ)
      (is : slice_get f.body pc ≡ Some (Switch slot (Some target) arms)) (following : slice_get f.body (end h target) ≡ Some (Switch from_slot other more))
      (is' : slice_get q.body (place h pc) ≡ Some (Switch word (landing_in h other) (map (λ (arm : SwitchArm). moved_arm h arm) arms ++ map (λ (arm : SwitchArm). moved_arm h arm) more)))
      (name : IsName h (facts_at h pc) pc slot word) (same : IsName h (facts_at h (end h target)) (end h target) from_slot word)
      (arms_come : All (λ (arm : SwitchArm). IsReached h (end h arm.target)) arms) (more_come : All (λ (arm : SwitchArm). IsReached h (end h arm.target)) more)
      (other_comes : IfSome other (λ t. IsReached h (end h t)))
      (rest : (t : ℕ) → pc < t → t < length f.body → Both t) (s' : List ℕ) (v : World) (long' : q.slots ≤ length s') where
    abbrev pub then : ℕ
    then = end h target

    -- where a switch leads
    switched_to : (u a t : ℕ) (o : Option ℕ) (its : List SwitchArm) → slice_get f.body u ≡ Some (Switch a o its) → pc ≤ u
        → (v1 : World) (s : List ℕ) (w : World) → LedTo (λ told n. J u (Switch a o its) told n × IsReached h (end h n)) s w.memory t → Near v1 (with_switch (taken w)) → f.slots ≤ length s → Agree h u s s' → Hold s w.memory (facts_at h u)
        → IsNoDearer (from q.body new (landing h t) s' v1) (from f.body old t s (with_switch (taken w)))
    switched_to u a t o its at le v1 s w to near long agree hold =
        goes_to u t to.1.0.0 to.1.0.1 (λ n behind within. rest n (omega (arith, le, behind)) within) to.1.1 s' v1 long' s (with_switch (taken w)) near long
        (onward h u (Switch a o its) t s s' to.1.0.2.on.lives (switch_borne s' u a o its s agree)) (holds_on u (Switch a o its) to.0 t at to.1.0.2.on s s w (with_switch (taken w)) long hold to.2 (refl, refl))

    leads : LeadsAhead (F pc (Switch slot (Some target) arms)) (J pc (Switch slot (Some target) arms)) (Switch slot (Some target) arms) pc
    leads = led pc (Switch slot (Some target) arms) is

    passes_on : Passes target
    passes_on = (rest target leads.0.0 leads.0.1).1

    -- the second switch
    second : (v1 : World) → AtEnd then s' v1 (after_switch (target_of (map (λ (arm : SwitchArm). moved_arm h arm) more) (landing_in h other) (slice_index s' word)) (slice_index s' word) v1 (λ t. from q.body new t s' v1))
    second v1 s w near long agree hold =
        let x = slice_index s' word in
        let e : slice_index s from_slot ≡ x = sym (same.same s s' w.memory agree hold) in
        let i : Instr = Switch from_slot other more in
        let ways : LeadsAhead (F then i) (J then i) i then = led then i following in
        let near1 : Near v1 (with_switch (taken w)) = near_more v1 (taken w) (near_behind v1 w near) in
        let P : Option Fact → ℕ → Type 0 = λ told t. J then i told t × IsReached h (end h t) in
        let le : pc ≤ then = omega (arith, leads.0.0, passes_on.0) in
        subst (λ (p : CallEnd). IsNoDearer (after_switch (target_of (map (λ (arm : SwitchArm). moved_arm h arm) more) (landing_in h other) x) x v1 (λ t. from q.body new t s' v1)) p) (sym (law.step then i s w following))
        (subst (λ y. IsNoDearer (after_switch (target_of (map (λ (arm : SwitchArm). moved_arm h arm) more) (landing_in h other) x) x v1 (λ t. from q.body new t s' v1)) (after_switch (target_of more other y) y (with_switch (taken w)) (λ t. from f.body old t s (with_switch (taken w))))) (sym e)
        (subst (λ (o : Option ℕ). IsNoDearer (after_switch o x v1 (λ t. from q.body new t s' v1)) (after_switch (target_of more other x) x (with_switch (taken w)) (λ t. from f.body old t s (with_switch (taken w))))) (sym (moved_target h more other x))
        (switch_near h (target_of more other x) x v1 (with_switch (taken w)) (λ t. from q.body new t s' v1) (λ t. from f.body old t s (with_switch (taken w))) near1
        (λ t to. switched_to then from_slot t other more following le v1 s w
        (led_to P from_slot s w.memory more other x t e (λ k d lt. (ways.1 k d lt, more_come k d lt)) (if_both (J then i None) (λ u. IsReached h (end h u)) other ways.0 other_comes) to) near1 long agree hold))))

    folds : AtEnd pc s' v (from q.body new (place h pc) s' v)
    folds s w near long agree hold =
        let x = slice_index s' word in
        let e : slice_index s slot ≡ x = sym (name.same s s' w.memory agree hold) in
        let i : Instr = Switch slot (Some target) arms in
        let v1 = with_switch (taken v) in
        let w1 = with_switch (taken w) in
        let near1 : Near v1 w1 = near_switched (taken v) (taken w) (near_taken v w near) in
        let both_arms = map (λ (arm : SwitchArm). moved_arm h arm) arms ++ map (λ (arm : SwitchArm). moved_arm h arm) more in
        let P : Option Fact → ℕ → Type 0 = λ told t. J pc i told t × IsReached h (end h t) in
        let onto : Agree h target s s' = onward h pc i target s s' leads.0.2.on.lives (switch_borne s' pc slot (Some target) arms s agree) in
        let held : Hold s w.memory (facts_at h target) = holds_on pc i None target is leads.0.2.on s s w w1 long hold tt (refl, refl) in
        subst (λ (p : CallEnd). IsNoDearer (from q.body new (place h pc) s' v) p) (sym (law.step pc i s w is))
        (subst (λ (p : CallEnd). IsNoDearer p (act i (from f.body old) old pc s (taken w))) (sym (law'.step (place h pc) (Switch word (landing_in h other) both_arms) s' v is'))
        (subst (λ y. IsNoDearer (after_switch (target_of both_arms (landing_in h other) x) x v1 (λ t. from q.body new t s' v1)) (after_switch (target_of arms (Some target) y) y w1 (λ t. from f.body old t s w1))) (sym e)
        (elim (first_or h P slot s w.memory arms (map (λ (arm : SwitchArm). moved_arm h arm) more) (landing_in h other) target x e (λ k d lt. (leads.1 k d lt, arms_come k d lt))) [
          | inl hit ↦
              subst (λ (o : Option ℕ). IsNoDearer (after_switch o x v1 (λ t. from q.body new t s' v1)) (after_switch (target_of arms (Some target) x) x w1 (λ t. from f.body old t s w1))) (sym hit.3)
              (subst (λ (o : Option ℕ). IsNoDearer (from q.body new (landing h hit.0) s' v1) (after_switch o x w1 (λ t. from f.body old t s w1))) (sym hit.2)
              (switched_to pc slot hit.0 (Some target) arms is (omega arith) v1 s w hit.1 near1 long agree hold))
          | inr miss ↦
              subst (λ (o : Option ℕ). IsNoDearer (after_switch o x v1 (λ t. from q.body new t s' v1)) (after_switch (target_of arms (Some target) x) x w1 (λ t. from f.body old t s w1))) (sym miss.1)
              (subst (λ (o : Option ℕ). IsNoDearer (after_switch (target_of (map (λ (arm : SwitchArm). moved_arm h arm) more) (landing_in h other) x) x v1 (λ t. from q.body new t s' v1)) (after_switch o x w1 (λ t. from f.body old t s w1))) (sym miss.0)
              (passes_on.2 s' v1 (after_switch (target_of (map (λ (arm : SwitchArm). moved_arm h arm) more) (landing_in h other) x) x v1 (λ t. from q.body new t s' v1)) (second v1) s w1 near1 long onto held))
        ])))

  folds_into : (pc : ℕ) (i j : Instr) → slice_get f.body pc ≡ Some i → ((t : ℕ) → pc < t → t < length f.body → Both t) → slice_get q.body (place h pc) ≡ Some j → IsFolded h f.body pc i j
      → (s' : List ℕ) (v : World) → q.slots ≤ length s' → AtEnd pc s' v (from q.body new (place h pc) s' v)
  folds_into pc i j is rest is' fold s' v long' =
      folds pc fold.slot fold.target fold.arms fold.from fold.other fold.more fold.word (is ∙ ap Some fold.is) fold.next (is' ∙ ap Some fold.stands) fold.name fold.same fold.arms_come fold.more_come fold.other_comes rest s' v long'

  -- a switch that returns
  module _ (pc slot : ℕ) (other : Option ℕ) (arms : List SwitchArm) (words : List ℕ) (is : slice_get f.body pc ≡ Some (Switch slot other arms)) (is' : slice_get q.body (place h pc) ≡ Some (Return words))
      (whole : FindsWay (facts_at h pc) slot other arms) (arms_back : All (λ (arm : SwitchArm). ComesBack h f.body words arm.target) arms) (other_back : IfSome other (ComesBack h f.body words))
      (rest : (t : ℕ) → pc < t → t < length f.body → Both t) (s' : List ℕ) (v : World) where
    abbrev pub turn : Instr
    turn = Switch slot other arms

    ways : LeadsAhead (F pc turn) (J pc turn) turn pc
    ways = led pc turn is

    abbrev pub P : Option Fact → ℕ → Type 0
    P told t = J pc turn told t × ComesBack h f.body words t

    returns : AtEnd pc s' v (from q.body new (place h pc) s' v)
    returns s w near long agree hold =
        let x = slice_index s slot in
        subst (λ (p : CallEnd). IsNoDearer (from q.body new (place h pc) s' v) p) (sym (law.step pc turn s w is))
        (subst (λ (p : CallEnd). IsNoDearer p (act turn (from f.body old) old pc s (taken w))) (sym (law'.step (place h pc) (Return words) s' v is'))
        (each (target_of arms other x) refl))
      where
        w1 : World
        w1 = with_switch (taken w)

        near1 : Near (taken v) w1
        near1 = near_more (taken v) (taken w) (near_taken v w near)

        each : (o : Option ℕ) → target_of arms other (slice_index s slot) ≡ o
            → IsNoDearer (over (Returned (slots_at s' words) (taken v).left) (taken v)) (after_switch o (slice_index s slot) w1 (λ t. from f.body old t s w1))
        each None e = absurd (whole.by s w.memory hold e)
        each (Some t) e =
            let to : LedTo P s w.memory t = led_to P slot s w.memory arms other (slice_index s slot) t refl (λ k d lt. (ways.1 k d lt, arms_back k d lt)) (if_both (J pc turn None) (ComesBack h f.body words) other ways.0 other_back) e in
            let back : ComesBack h f.body words t = to.1.1 in
            goes_back pc t (rest t to.1.0.0 to.1.0.1).1 back.froms words back.stands back.names s' (taken v) s w1 near1 long
            (onward h pc turn t s s' to.1.0.2.on.lives (switch_borne s' pc slot other arms s agree))
            (holds_on pc turn to.0 t is to.1.0.2.on s s w w1 long hold to.2 (refl, refl))

  turns_back : (pc : ℕ) (i j : Instr) → slice_get f.body pc ≡ Some i → ((t : ℕ) → pc < t → t < length f.body → Both t) → slice_get q.body (place h pc) ≡ Some j → IsBack h f.body pc i j
      → (s' : List ℕ) (v : World) → AtEnd pc s' v (from q.body new (place h pc) s' v)
  turns_back pc i j is rest is' back s' v =
      returns pc back.slot back.other back.arms back.words (is ∙ ap Some back.is) (is' ∙ ap Some back.stands) back.whole back.arms_back back.other_back rest s' v

  here : (pc : ℕ) → pc < length f.body → ((t : ℕ) → pc < t → t < length f.body → Both t) → Both pc
  here pc lt rest =
      let found = get_some f.body pc lt in
      let i = found.0 in
      let is : slice_get f.body pc ≡ Some i = found.1 in (
        λ reached s' v long'. elim (steps pc i is).stands [
          | inl kept ↦ elim kept.2 [
            | inl plain ↦ λ s w near long agree hold.
                subst (λ (o : CallEnd). IsNoDearer (from q.body new (place h pc) s' v) o) (sym (law.step pc i s w is))
                (stays pc i is rest kept plain.0 plain.1 plain.2 reached s' v long' s w near long agree hold)
            | inr merged ↦ elim merged [
              | inl into ↦ loads_into pc i kept.0 is rest kept.1 into s' v long'
              | inr more ↦ elim more [
                | inl folded ↦ folds_into pc i kept.0 is rest kept.1 folded s' v long'
                | inr back ↦ turns_back pc i kept.0 is rest kept.1 back s' v
              ]
            ]
          ]
          | inr skip ↦ skipped pc i is rest skip reached s' v long'
        ],
        passing pc i is (λ t behind within. (rest t behind within).1),
      )

  pub walk : (n pc : ℕ) → length f.body ≤ n + pc → pc < length f.body → Both pc
  walk zero pc enough lt = absurd (omega (arith, enough, lt))
  walk (suc n) pc enough lt = here pc lt (λ t behind within. walk n t (omega (arith, enough, behind)) within)
