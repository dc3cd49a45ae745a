-- Functions that a text holds are valid together, or have a first fault.
use Rattle.std.proofs.Common.{◌≡◌, ℕ, ◌+◌, ◌-◌, ◌<◌, ◌≤◌, ◌⊎◌, inl, inr, Bool, true, false, List, [], ◌∷◌, length, Option, Some, None, slice_get, max, get_or, ◌^◌, refl, sym, subst, ap, ◌∙◌, arith, suc, zero, below_more}
use Rattle.std.specs.Prelude.{All, IfSome}
use Rattle.std.proofs.lemmas.Bool.{false≢true}
use Rattle.std.proofs.lemmas.Option.{same_Some, slice_get_cases}
use Rattle.std.proofs.lemmas.List.Elements.{All-nil, All-cons, All-head, All-tail, All-get_or}
use Rattle.rb_target.specs.Validity.{SlotsFit, IsTarget, TargetsFit, FitsCall, CallsFit, EndsInReturn, IsValid, IsValidFun, dest_count}
use Rattle.rb_target.specs.Spelled.{IsSpelledFun, AreSpelled}
use Rattle.rb_target.specs.Faults.{InstrFails, MiscountsSlots, HasBadSlot, HasBadJump, HasBadCall, InFun, FaultStands, IsFirstCodeFault, IsCountable, place_of_fault}
use Rattle.rb_target.specs.inner.Checking.{InstrHolds, CountsSlots, HasGoodSlots, HasGoodJumps, HasGoodCalls, IsFaultless, IsFaultAt, IsFaultIn}
use Rattle.rb_target.specs.declared.instr.SwitchArm.{SwitchArm}
use Rattle.rb_target.specs.declared.instr.Instr.{Instr}
use Rattle.rb_target.specs.declared.instr.Instr.TheVariants.{Const, Copy, Alu, Take, Put, Load, Store, Place, Jump, Switch, Call, Return}
use Rattle.rb_target.specs.declared.code.CodeFun.{CodeFun}
use Rattle.rb_target.specs.declared.fault.CodeFault.{CodeFault}
use Rattle.rb_target.specs.declared.fault.CodeFault.TheVariants.{CodeSyntax, BadSlot, BadJump, BadCall, Memory}
use Rattle.rb_target.proofs.Growing.{below_or}
use Rattle.rb_target.proofs.Checks.{first_in_fun, first_of_all, valid_fun, all_valid, same_fun, good-slots, good-jumps}

abbrev Decided : Type 0 → Type 0
Decided A = A ⊎ (A → ⊥)

both : {A B : Type 0} → Decided A → Decided B → Decided (A × B)
both (inl a) (inl b) = inl (a, b)
both (inl a) (inr refuted) = inr (λ h. refuted h.1)
both (inr refuted) d = inr (λ h. refuted h.0)

three : {A B C : Type 0} → Decided A → Decided B → Decided C → Decided (A × B × C)
three (inl a) (inl b) (inl c) = inl (a, b, c)
three (inl a) (inl b) (inr refuted) = inr (λ h. refuted h.2)
three (inl a) (inr refuted) d = inr (λ h. refuted h.1)
three (inr refuted) d e = inr (λ h. refuted h.0)

less_by : (a b : ℕ) → (a < b) ⊎ (b ≤ a) → Decided (a < b)
less_by a b (inl lt) = inl lt
less_by a b (inr le) = inr (λ lt. omega (arith, le, lt))

less_decided : (a b : ℕ) → Decided (a < b)
less_decided a b = less_by a b (below_or a b)

same_by : (a b : ℕ) → (a < b) ⊎ (b ≤ a) → (b < a) ⊎ (a ≤ b) → Decided (a ≡ b)
same_by a b (inl lt) d = inr (λ e. omega (arith, lt, e))
same_by a b (inr le) (inl lt) = inr (λ e. omega (arith, lt, e))
same_by a b (inr le) (inr ge) = inl (omega (arith, le, ge))

same_decided : (a b : ℕ) → Decided (a ≡ b)
same_decided a b = same_by a b (below_or a b) (below_or b a)

cons_by : {A : Type 0} (P : A → Type 0) (x : A) (xs : List A) → Decided (P x) → Decided (All P xs) → Decided (All P (x ∷ xs))
cons_by P x xs (inl p) (inl ps) = inl (All-cons P x xs p ps)
cons_by P x xs (inl p) (inr refuted) = inr (λ h. refuted (All-tail P x xs h))
cons_by P x xs (inr refuted) d = inr (λ h. refuted (All-head P x xs h))

each_decided : {A : Type 0} (P : A → Type 0) → ((x : A) → Decided (P x)) → (xs : List A) → Decided (All P xs)
each_decided P d [] = inl (All-nil P)
each_decided P d (x ∷ xs) = cons_by P x xs (d x) (each_decided P d xs)

-- One instruction

slots_decided : (n : ℕ) (i : Instr) → Decided (SlotsFit n i)
slots_decided n (Const d c) = less_decided d n
slots_decided n (Copy d a) = both (less_decided d n) (less_decided a n)
slots_decided n (Alu op bits d a b) = three (less_decided d n) (less_decided a n) (less_decided b n)
slots_decided n (Take d a o l) = both (less_decided d n) (less_decided a n)
slots_decided n (Put d a o l) = both (less_decided d n) (less_decided a n)
slots_decided n (Load d a offset width) = both (less_decided d n) (less_decided a n)
slots_decided n (Store a offset width v) = both (less_decided a n) (less_decided v n)
slots_decided n (Place d size align) = less_decided d n
slots_decided n (Jump t) = inl tt
slots_decided n (Switch a other arms) = less_decided a n
slots_decided n (Call f ds froms) = both (each_decided (λ a. a < n) (λ a. less_decided a n) ds) (each_decided (λ a. a < n) (λ a. less_decided a n) froms)
slots_decided n (Return froms) = each_decided (λ a. a < n) (λ a. less_decided a n) froms

target_decided : (long pc t : ℕ) → Decided (IsTarget long pc t)
target_decided long pc t = both (less_decided pc t) (less_decided t long)

other_target : (long pc : ℕ) (other : Option ℕ) → Decided (IfSome other (λ t. IsTarget long pc t))
other_target long pc None = inl tt
other_target long pc (Some t) = target_decided long pc t

targets_decided : (long pc : ℕ) (i : Instr) → Decided (TargetsFit long pc i)
targets_decided long pc (Const d c) = inl tt
targets_decided long pc (Copy d a) = inl tt
targets_decided long pc (Alu op bits d a b) = inl tt
targets_decided long pc (Take d a o l) = inl tt
targets_decided long pc (Put d a o l) = inl tt
targets_decided long pc (Load d a offset width) = inl tt
targets_decided long pc (Store a offset width v) = inl tt
targets_decided long pc (Place d size align) = inl tt
targets_decided long pc (Jump t) = target_decided long pc t
targets_decided long pc (Switch a other arms) = both (other_target long pc other) (each_decided (λ (arm : SwitchArm). IsTarget long pc arm.target) (λ arm. target_decided long pc arm.target) arms)
targets_decided long pc (Call f ds froms) = inl tt
targets_decided long pc (Return froms) = inl tt

call_decided : (o : Option CodeFun) (ds froms : List ℕ) → Decided (FitsCall o ds froms)
call_decided None ds froms = inr (λ h. h)
call_decided (Some f) ds froms = both (same_decided (length ds) f.results) (same_decided (length froms) f.params)

calls_decided : (funs : List CodeFun) (results : ℕ) (i : Instr) → Decided (CallsFit funs results i)
calls_decided funs results (Const d c) = inl tt
calls_decided funs results (Copy d a) = inl tt
calls_decided funs results (Alu op bits d a b) = inl tt
calls_decided funs results (Take d a o l) = inl tt
calls_decided funs results (Put d a o l) = inl tt
calls_decided funs results (Load d a offset width) = inl tt
calls_decided funs results (Store a offset width v) = inl tt
calls_decided funs results (Place d size align) = inl tt
calls_decided funs results (Jump t) = inl tt
calls_decided funs results (Switch a other arms) = inl tt
calls_decided funs results (Call f ds froms) = call_decided (slice_get funs f) ds froms
calls_decided funs results (Return froms) = same_decided (length froms) results

abbrev is_return : Option Instr → Bool
is_return (Some (Return froms)) = true
is_return o = false

return_by : (o : Option Instr) → Decided ((froms : List ℕ) × (o ≡ Some (Return froms)))
return_by None = inr (λ h. false≢true (ap is_return h.1))
return_by (Some (Const d c)) = inr (λ h. false≢true (ap is_return h.1))
return_by (Some (Copy d a)) = inr (λ h. false≢true (ap is_return h.1))
return_by (Some (Alu op bits d a b)) = inr (λ h. false≢true (ap is_return h.1))
return_by (Some (Take d a o l)) = inr (λ h. false≢true (ap is_return h.1))
return_by (Some (Put d a o l)) = inr (λ h. false≢true (ap is_return h.1))
return_by (Some (Load d a offset width)) = inr (λ h. false≢true (ap is_return h.1))
return_by (Some (Store a offset width v)) = inr (λ h. false≢true (ap is_return h.1))
return_by (Some (Place d size align)) = inr (λ h. false≢true (ap is_return h.1))
return_by (Some (Jump t)) = inr (λ h. false≢true (ap is_return h.1))
return_by (Some (Switch a other arms)) = inr (λ h. false≢true (ap is_return h.1))
return_by (Some (Call f ds froms)) = inr (λ h. false≢true (ap is_return h.1))
return_by (Some (Return froms)) = inl (froms, refl)

-- The instruction with a number: good, or at fault

held_by : (P : Instr → Type 0) (f : CodeFun) (pc : ℕ) (i : Instr) → slice_get f.body pc ≡ Some i → Decided (P i) → InstrHolds P f pc ⊎ InstrFails P f pc
held_by P f pc i at (inl p) = inl (λ j there. subst P (same_Some i j (sym at ∙ there)) p)
held_by P f pc i at (inr refuted) = inr (i, at, refuted)

held_at : (P : Instr → Type 0) → ((i : Instr) → Decided (P i)) → (f : CodeFun) (pc : ℕ) (o : Option Instr) → slice_get f.body pc ≡ o → InstrHolds P f pc ⊎ InstrFails P f pc
held_at P d f pc None at = inl (λ j there. absurd cc)
held_at P d f pc (Some i) at = held_by P f pc i at (d i)

held : (P : Instr → Type 0) → ((i : Instr) → Decided (P i)) → (f : CodeFun) (pc : ℕ) → InstrHolds P f pc ⊎ InstrFails P f pc
held P d f pc = held_at P d f pc (slice_get f.body pc) refl

count_by : (f : CodeFun) → (f.slots < f.params) ⊎ (f.params ≤ f.slots) → (f.params + dest_count f.body < f.slots) ⊎ (f.slots ≤ f.params + dest_count f.body) → CountsSlots f ⊎ MiscountsSlots f
count_by f (inl lt) d = inr (inl lt)
count_by f (inr le) (inl lt) = inr (inr lt)
count_by f (inr le) (inr ge) = inl (le, ge)

counts_decided : (f : CodeFun) → CountsSlots f ⊎ MiscountsSlots f
counts_decided f = count_by f (below_or f.slots f.params) (below_or (f.params + dest_count f.body) f.slots)

slots_by : (f : CodeFun) (pc : ℕ) → Decided (pc ≡ 0) → CountsSlots f ⊎ MiscountsSlots f → InstrHolds (SlotsFit f.slots) f pc ⊎ InstrFails (SlotsFit f.slots) f pc → HasGoodSlots f pc ⊎ HasBadSlot f pc
slots_by f pc first c (inr fails) = inr (inr fails)
slots_by f pc first (inl good) (inl holds) = inl (λ e. good, holds)
slots_by f pc (inl zeroth) (inr bad) (inl holds) = inr (inl (zeroth, bad))
slots_by f pc (inr later) (inr bad) (inl holds) = inl (λ e. absurd (later e), holds)

jumps_by : (f : CodeFun) (pc : ℕ) → Decided (pc ≡ length f.body - 1) → Decided (EndsInReturn f.body) → InstrHolds (TargetsFit (length f.body) pc) f pc ⊎ InstrFails (TargetsFit (length f.body) pc) f pc → HasGoodJumps f pc ⊎ HasBadJump f pc
jumps_by f pc last ends (inr fails) = inr (inr fails)
jumps_by f pc last (inl good) (inl holds) = inl (λ e. good, holds)
jumps_by f pc (inl final) (inr bad) (inl holds) = inr (inl (final, bad))
jumps_by f pc (inr before) (inr bad) (inl holds) = inl (λ e. absurd (before e), holds)

-- No fault at an instruction, or the one of the least kind

module _ (funs : List CodeFun) (n pc : ℕ) (f : CodeFun) (at : slice_get funs n ≡ Some f) where
  here : (P : CodeFun → Type 0) → InFun funs n P → P f
  here P h = same_fun funs n P f at h

  after_slots : HasGoodSlots f pc → (other : CodeFault) → FaultStands funs other → (place_of_fault other).0 ≡ n → (place_of_fault other).1 ≡ pc → 22 ≤ (place_of_fault other).2
  after_slots good (BadSlot m p) stands e d =
      absurd (good-slots f pc good (subst (λ k. HasBadSlot f k) d (same_fun funs m (λ g. HasBadSlot g p) f (rw e at) stands)))
  after_slots good (BadJump m p) stands e d = omega arith
  after_slots good (BadCall m p) stands e d = omega arith
  after_slots good (CodeSyntax b) stands e d = absurd stands
  after_slots good Memory stands e d = absurd stands

  after_jumps : HasGoodSlots f pc → HasGoodJumps f pc → (other : CodeFault) → FaultStands funs other → (place_of_fault other).0 ≡ n → (place_of_fault other).1 ≡ pc → 23 ≤ (place_of_fault other).2
  after_jumps good jumps (BadSlot m p) stands e d =
      absurd (good-slots f pc good (subst (λ k. HasBadSlot f k) d (same_fun funs m (λ g. HasBadSlot g p) f (rw e at) stands)))
  after_jumps good jumps (BadJump m p) stands e d =
      absurd (good-jumps f pc jumps (subst (λ k. HasBadJump f k) d (same_fun funs m (λ g. HasBadJump g p) f (rw e at) stands)))
  after_jumps good jumps (BadCall m p) stands e d = omega arith
  after_jumps good jumps (CodeSyntax b) stands e d = absurd stands
  after_jumps good jumps Memory stands e d = absurd stands

  least : (other : CodeFault) → FaultStands funs other → 21 ≤ (place_of_fault other).2
  least (BadSlot m p) stands = omega arith
  least (BadJump m p) stands = omega arith
  least (BadCall m p) stands = omega arith
  least (CodeSyntax b) stands = absurd stands
  least Memory stands = absurd stands

  at_calls : HasGoodSlots f pc → HasGoodJumps f pc → HasGoodCalls funs f pc ⊎ HasBadCall funs f pc → IsFaultless funs f pc ⊎ ((fault : CodeFault) × IsFaultAt funs n pc fault)
  at_calls good jumps (inl fine) = inl (record { slots = good; jumps = jumps; calls = fine })
  at_calls good jumps (inr bad) = inr (BadCall n pc, record { stands = (f, at, bad); function = refl; instruction = refl; first = after_jumps good jumps })

  at_jumps : HasGoodSlots f pc → HasGoodJumps f pc ⊎ HasBadJump f pc → IsFaultless funs f pc ⊎ ((fault : CodeFault) × IsFaultAt funs n pc fault)
  at_jumps good (inl jumps) = at_calls good jumps (held (CallsFit funs f.results) (calls_decided funs f.results) f pc)
  at_jumps good (inr bad) = inr (BadJump n pc, record { stands = (f, at, bad); function = refl; instruction = refl; first = after_slots good })

  at_slots : HasGoodSlots f pc ⊎ HasBadSlot f pc → IsFaultless funs f pc ⊎ ((fault : CodeFault) × IsFaultAt funs n pc fault)
  at_slots (inl good) =
      at_jumps good (jumps_by f pc (same_decided pc (length f.body - 1)) (return_by (slice_get f.body (length f.body - 1))) (held (TargetsFit (length f.body) pc) (targets_decided (length f.body) pc) f pc))
  at_slots (inr bad) = inr (BadSlot n pc, record { stands = (f, at, bad); function = refl; instruction = refl; first = λ other stands e d. least other stands })

  at_instr : IsFaultless funs f pc ⊎ ((fault : CodeFault) × IsFaultAt funs n pc fault)
  at_instr = at_slots (slots_by f pc (same_decided pc 0) (counts_decided f) (held (SlotsFit f.slots) (slots_decided f.slots) f pc))

-- No fault in a function, or its first

module _ (funs : List CodeFun) (n : ℕ) (f : CodeFun) (at : slice_get funs n ≡ Some f) where
  more : (k : ℕ) → ((j : ℕ) → j < k → InFun funs n (λ f. IsFaultless funs f j)) → IsFaultless funs f k ⊎ ((fault : CodeFault) × IsFaultAt funs n k fault)
      → ((j : ℕ) → j < suc k → InFun funs n (λ f. IsFaultless funs f j)) ⊎ ((fault : CodeFault) × IsFaultIn funs n fault)
  more k before (inl good) = inl (λ j lt. below_more _ _ before (f, at, good) j (omega (arith, lt)))
  more k before (inr bad) = inr (bad.0, first_in_fun funs n k bad.0 before bad.1)

  up_to : (k : ℕ) → ((j : ℕ) → j < k → InFun funs n (λ f. IsFaultless funs f j)) ⊎ ((fault : CodeFault) × IsFaultIn funs n fault)
  up_to zero = inl (λ j lt. absurd (omega (arith, lt)))
  up_to (suc k) = elim (up_to k) [ inl before ↦ more k before (at_instr funs n k f at) | inr bad ↦ inr bad ]

  fun_by : IsSpelledFun f → length f.body < 2 ^ 64 → ((j : ℕ) → j < max (length f.body) 1 → InFun funs n (λ f. IsFaultless funs f j)) ⊎ ((fault : CodeFault) × IsFaultIn funs n fault)
      → IsValidFun funs f ⊎ ((fault : CodeFault) × IsFaultIn funs n fault)
  fun_by spelled short (inl good) = inl (valid_fun funs n (length f.body) f at spelled refl short good)
  fun_by spelled short (inr bad) = inr bad

  in_fun : IsSpelledFun f → length f.body < 2 ^ 64 → IsValidFun funs f ⊎ ((fault : CodeFault) × IsFaultIn funs n fault)
  in_fun spelled short = fun_by spelled short (up_to (max (length f.body) 1))

-- No fault in any function, or the first of all

module _ (funs : List CodeFun) (spelled : AreSpelled funs) (countable : IsCountable funs) where
  next : (n : ℕ) (f : CodeFun) → slice_get funs n ≡ Some f → ((k : ℕ) → k < n → InFun funs k (λ f. IsValidFun funs f)) → IsValidFun funs f ⊎ ((fault : CodeFault) × IsFaultIn funs n fault)
      → ((k : ℕ) → k < suc n → InFun funs k (λ f. IsValidFun funs f)) ⊎ ((fault : CodeFault) × IsFirstCodeFault funs fault)
  next n f at before (inl valid) = inl (λ j lt. below_more _ _ before (f, at, valid) j (omega (arith, lt)))
  next n f at before (inr bad) = inr (bad.0, first_of_all funs n bad.0 before bad.1)

  at_fun : (n : ℕ) → n < length funs → ((k : ℕ) → k < n → InFun funs k (λ f. IsValidFun funs f))
      → ((f : CodeFun) × (n < length funs) × (slice_get funs n ≡ Some f) × (get_or funs n f ≡ f)) ⊎ ((length funs ≤ n) × (slice_get funs n ≡ None))
      → ((k : ℕ) → k < suc n → InFun funs k (λ f. IsValidFun funs f)) ⊎ ((fault : CodeFault) × IsFirstCodeFault funs fault)
  at_fun n lt before (inl (f, within, at, e)) =
      let spelled_there : IsSpelledFun f = subst IsSpelledFun e (All-get_or IsSpelledFun funs n f within spelled) in
      next n f at before (in_fun funs n f at spelled_there (countable.each n f at))
  at_fun n lt before (inr (past, at)) = absurd (omega (arith, lt, past))

  funs_up_to : (n : ℕ) → n ≤ length funs → ((k : ℕ) → k < n → InFun funs k (λ f. IsValidFun funs f)) ⊎ ((fault : CodeFault) × IsFirstCodeFault funs fault)
  funs_up_to zero le = inl (λ k lt. absurd (omega (arith, lt)))
  funs_up_to (suc n) le = elim (funs_up_to n (omega (arith, le))) [
    | inl before ↦ at_fun n (omega (arith, le)) before (slice_get_cases funs n).1
    | inr bad ↦ inr bad
  ]

  found_by : ((k : ℕ) → k < length funs → InFun funs k (λ f. IsValidFun funs f)) ⊎ ((fault : CodeFault) × IsFirstCodeFault funs fault) → IsValid funs ⊎ ((fault : CodeFault) × IsFirstCodeFault funs fault)
  found_by (inl valid) = inl (all_valid funs countable.few valid)
  found_by (inr bad) = inr bad

  pub fault_found : IsValid funs ⊎ ((fault : CodeFault) × IsFirstCodeFault funs fault)
  fault_found = found_by (funs_up_to (length funs) (omega arith))
