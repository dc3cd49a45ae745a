-- Code that grows stays as fitting as it was; slots that are kept.
use Rattle.std.proofs.Common.{◌≡◌, ◌≢◌, ℕ, zero, suc, ◌<◌, ◌≤◌, ◌⊎◌, inl, inr, List, [], ◌∷◌, ◌++◌, length, Option, Some, None, refl, ap, ◌∙◌, arith, length-append, get_or-set_other}
use Rattle.std.proofs.lemmas.List.{length-set}
use Rattle.std.specs.Prelude.{slice_get, slice_set, IfSome}
use Rattle.rb_target.specs.declared.instr.Instr.{Instr}
use Rattle.rb_target.specs.declared.instr.Instr.TheVariants.{Const, Copy, Alu, Take, Put, Load, Store, Place, Jump, Switch, Call, Return}
use Rattle.rb_target.specs.Growth.{AgreesBut, Grows, Keeps}
use Rattle.rb_target.specs.Validity.{AreSlots, SlotsFit, IsTarget, TargetsFit}

pub get-append : {A : Type 0} (xs ys : List A) (k : ℕ) → k < length xs → slice_get (xs ++ ys) k ≡ slice_get xs k
get-append [] ys k lt = absurd (omega (arith, lt))
get-append (x ∷ xs) ys zero lt = refl
get-append (x ∷ xs) ys (suc k) lt = get-append xs ys k (omega (arith, lt))

pub get-seam : {A : Type 0} (xs : List A) (y : A) (ys : List A) → slice_get (xs ++ y ∷ ys) (length xs) ≡ Some y
get-seam [] y ys = refl
get-seam (x ∷ xs) y ys = get-seam xs y ys

pub get-set_same : {A : Type 0} (xs : List A) (i : ℕ) (x : A) → i < length xs → slice_get (slice_set xs i x) i ≡ Some x
get-set_same [] i x lt = absurd (omega (arith, lt))
get-set_same (y ∷ xs) zero x lt = refl
get-set_same (y ∷ xs) (suc i) x lt = get-set_same xs i x (omega (arith, lt))

pub get-set_other : {A : Type 0} (xs : List A) (i j : ℕ) (x : A) → j ≢ i → slice_get (slice_set xs i x) j ≡ slice_get xs j
get-set_other [] i j x ne = refl
get-set_other (y ∷ xs) zero zero x ne = absurd (ne refl)
get-set_other (y ∷ xs) zero (suc j) x ne = refl
get-set_other (y ∷ xs) (suc i) zero x ne = refl
get-set_other (y ∷ xs) (suc i) (suc j) x ne = get-set_other xs i j x (λ e. ne (ap suc e))

pub below_or : (s n : ℕ) → (s < n) ⊎ (n ≤ s)
below_or s zero = inr (omega arith)
below_or zero (suc n) = inl (omega arith)
below_or (suc s) (suc n) = elim (below_or s n) [ inl h ↦ inl (omega (arith, h)) | inr h ↦ inr (omega (arith, h)) ]

pub Grows-refl : (a : List Instr) → Grows a a
Grows-refl a = record { longer = omega arith; same = λ pc lt. refl }

pub Grows-trans : (a b c : List Instr) → Grows a b → Grows b c → Grows a c
Grows-trans a b c g h = record {
  longer = omega (arith, g.longer, h.longer);
  same = λ pc lt. let lt1 : pc < length b = omega (arith, g.longer, lt) in h.same pc lt1 ∙ g.same pc lt;
}

pub Grows-append : (a is : List Instr) → Grows a (a ++ is)
Grows-append a is = record { longer = omega (arith, length-append a is); same = λ pc lt. get-append a is pc lt }

-- a part of what the finished code has
pub Agrees-part : (final new mid : List Instr) (a b a1 b1 : ℕ) (Open Open1 : ℕ → Type 0) → Grows mid new → a ≤ a1 → b1 ≤ b → b1 ≤ length mid
    → ((pc : ℕ) → a1 ≤ pc → pc < b1 → Open pc → Open1 pc) → AgreesBut final new a b Open → AgreesBut final mid a1 b1 Open1
Agrees-part final new mid a b a1 b1 Open Open1 g le le1 le2 opens e = record {
  same = λ pc lo hi out.
      let lo1 : a ≤ pc = omega (arith, le, lo) in let hi1 : pc < b = omega (arith, hi, le1) in let in1 : pc < length mid = omega (arith, hi, le2) in
      e.same pc lo1 hi1 (λ o. out (opens pc lo hi o)) ∙ g.same pc in1;
}

-- Fitting instructions

pub AreSlots-more : (n n' : ℕ) (xs : List ℕ) → n ≤ n' → AreSlots n xs → AreSlots n' xs
AreSlots-more n n' xs le h = λ k d lt. omega (arith, h k d lt, le)

module _ (n n' : ℕ) (le : n ≤ n') where
  pub SlotsFit-more : (i : Instr) → SlotsFit n i → SlotsFit n' i
  SlotsFit-more (Const d c) h = omega (arith, h, le)
  SlotsFit-more (Copy d a) h = (omega (arith, h.0, le), omega (arith, h.1, le))
  SlotsFit-more (Alu op bits d a b) h = (omega (arith, h.0, le), omega (arith, h.1, le), omega (arith, h.2, le))
  SlotsFit-more (Take d a o l) h = (omega (arith, h.0, le), omega (arith, h.1, le))
  SlotsFit-more (Put d a o l) h = (omega (arith, h.0, le), omega (arith, h.1, le))
  SlotsFit-more (Load d a offset width) h = (omega (arith, h.0, le), omega (arith, h.1, le))
  SlotsFit-more (Store a offset width v) h = (omega (arith, h.0, le), omega (arith, h.1, le))
  SlotsFit-more (Place d size align) h = omega (arith, h, le)
  SlotsFit-more (Jump t) h = tt
  SlotsFit-more (Switch a other arms) h = omega (arith, h, le)
  SlotsFit-more (Call f ds froms) h = (AreSlots-more n n' ds le h.0, AreSlots-more n n' froms le h.1)
  SlotsFit-more (Return froms) h = AreSlots-more n n' froms le h

module _ (n n' pc : ℕ) (le : n ≤ n') where
  if_more : (o : Option ℕ) → IfSome o (λ t. IsTarget n pc t) → IfSome o (λ t. IsTarget n' pc t)
  if_more None h = tt
  if_more (Some t) h = (h.0, omega (arith, h.1, le))

  pub TargetsFit-more : (i : Instr) → TargetsFit n pc i → TargetsFit n' pc i
  TargetsFit-more (Const d c) h = tt
  TargetsFit-more (Copy d a) h = tt
  TargetsFit-more (Alu op bits d a b) h = tt
  TargetsFit-more (Take d a o l) h = tt
  TargetsFit-more (Put d a o l) h = tt
  TargetsFit-more (Load d a offset width) h = tt
  TargetsFit-more (Store a offset width v) h = tt
  TargetsFit-more (Place d size align) h = tt
  TargetsFit-more (Jump t) h = (h.0, omega (arith, h.1, le))
  TargetsFit-more (Switch a other arms) h = (if_more other h.0, λ k d lt. let t = h.1 k d lt in (t.0, omega (arith, t.1, le)))
  TargetsFit-more (Call f ds froms) h = tt
  TargetsFit-more (Return froms) h = tt

-- Slots

pub Keeps-refl : (n : ℕ) (s : List ℕ) → Keeps n s s
Keeps-refl n s = record { long = refl; same = λ k lt. refl }

pub Keeps-trans : (n n1 : ℕ) (s s1 s2 : List ℕ) → n ≤ n1 → Keeps n s s1 → Keeps n1 s1 s2 → Keeps n s s2
Keeps-trans n n1 s s1 s2 le a b = record {
  long = b.long ∙ a.long;
  same = λ k lt. let lt1 : k < n1 = omega (arith, lt, le) in b.same k lt1 ∙ a.same k lt;
}

pub Keeps-set : (n : ℕ) (s : List ℕ) (d word : ℕ) → n ≤ d → Keeps n s (slice_set s d word)
Keeps-set n s d word le = record {
  long = length-set s d word;
  same = λ k lt. let ne : k ≢ d = omega (arith, lt, le) in get_or-set_other s d k word 0 ne;
}
