-- Passes over the entries: what they keep, and what holds where one changes nothing.
use Rattle.std.proofs.Common.{◌≡◌, ℕ, zero, suc, ◌<◌, ◌≤◌, ◌||◌, ◌⊎◌, inl, inr, not, List, [], ◌∷◌, length, Bool, true, false, Option, Some, None, refl, sym, ap, subst, ◌∙◌, arith}
use Rattle.std.specs.Prelude.{slice_get, slice_set, if◌then◌else◌}
use Rattle.std.proofs.lemmas.Option.{same_Some, slice_get_within}
use Rattle.std.proofs.lemmas.Bool.{cases_lt, and_parts}
use Rattle.rb_core.specs.declared.types.DataDecl.{DataDecl}
use Rattle.rb_layout.specs.declared.layout.Layout.{Layout}
use Rattle.rb_layout.specs.declared.goals.Goal.{Goal}
use Rattle.rb_layout.specs.declared.goals.Entry.{Entry}
use Rattle.rb_layout.specs.inner.Barring.{same_goal, knows, goal_barred, IsAsked, AreAsked}
use Rattle.rb_layout.specs.inner.Finding.{has_goal, KeepsGoals}
use Rattle.rb_layout.specs.inner.Settling.{turns, with_mark, after_look, after_looks, changes, entries_left, GoalHolds, AreTrue, AreSettled}
use Rattle.rb_layout.proofs.Derivations.{or_is, or_left, or_right, goal-holds}
use Rattle.rb_layout.proofs.FindLemmas.{same-goal}

abbrev mark : Entry → Entry
mark e = record { goal = e.goal; barred = true }

-- ---- one entry marked
get_set : (es : List Entry) (i : ℕ) (x : Entry) (k : ℕ) (y : Entry) → slice_get (slice_set es i x) k ≡ Some y → (slice_get es k ≡ Some y) ⊎ (x ≡ y)
get_set [] i x k y e = absurd cc
get_set (z ∷ es) zero x zero y e = inr (same_Some x y e)
get_set (z ∷ es) zero x (suc k) y e = inl e
get_set (z ∷ es) (suc i) x zero y e = inl e
get_set (z ∷ es) (suc i) x (suc k) y e = get_set es i x k y e

has_set : (es : List Entry) (i : ℕ) (e : Entry) (g : Goal) → slice_get es i ≡ Some e → has_goal es g ≡ true → has_goal (slice_set es i (mark e)) g ≡ true
has_set [] i e g is h = absurd cc
has_set (z ∷ es) zero e g is h = ap (λ x. same_goal x.goal g || has_goal es g) (sym (same_Some z e is)) ∙ h
has_set (z ∷ es) (suc i) e g is h =
    elim (or_is (same_goal z.goal g) (has_goal es g) h) [
      | inl s ↦ or_left (same_goal z.goal g) (has_goal (slice_set es i (mark e)) g) s
      | inr s ↦ or_right (same_goal z.goal g) (has_goal (slice_set es i (mark e)) g) (has_set es i e g is s)
    ]

-- only that one is known besides
either_way : {P : Type 0} (b x m n : Bool) → (m ≡ true → (n ≡ true) ⊎ P) → (if b then x else m) ≡ true → ((if b then x else n) ≡ true) ⊎ P
either_way true x m n rest h = inl h
either_way false x m n rest h = rest h

known_first : (z : Entry) (es : List Entry) (e : Entry) (g : Goal) (b : Bool) → same_goal e.goal g ≡ b → z ≡ e → (if b then true else knows es g) ≡ true
    → (knows (z ∷ es) g ≡ true) ⊎ (e.goal ≡ g)
known_first z es e g true s is h = inr (same-goal e.goal g s)
known_first z es e g false s is h = inl (ap (λ b. if b then z.barred else knows es g) (ap (λ x. same_goal x.goal g) is ∙ s) ∙ h)

knows_set : (es : List Entry) (i : ℕ) (e : Entry) (g : Goal) → slice_get es i ≡ Some e → knows (slice_set es i (mark e)) g ≡ true → (knows es g ≡ true) ⊎ (e.goal ≡ g)
knows_set [] i e g is h = absurd cc
knows_set (z ∷ es) zero e g is h = known_first z es e g (same_goal e.goal g) refl (same_Some z e is) h
knows_set (z ∷ es) (suc i) e g is h =
    either_way (same_goal z.goal g) z.barred (knows (slice_set es i (mark e)) g) (knows es g) (λ k. knows_set es i e g is k) h

fewer_more : (b : Bool) (m n : ℕ) → m < n → (if b then m else suc m) < (if b then n else suc n)
fewer_more true m n lt = lt
fewer_more false m n lt = omega arith

pending_set : (es : List Entry) (i : ℕ) (e : Entry) → slice_get es i ≡ Some e → e.barred ≡ false → entries_left (slice_set es i (mark e)) < entries_left es
pending_set [] i e is not_yet = absurd cc
pending_set (z ∷ es) zero e is not_yet =
    let one : z.barred ≡ false = ap (λ x. x.barred) (same_Some z e is) ∙ not_yet in
    let n : (if z.barred then entries_left es else suc (entries_left es)) ≡ suc (entries_left es) = ap (λ b. if b then entries_left es else suc (entries_left es)) one in
    omega arith
pending_set (z ∷ es) (suc i) e is not_yet = fewer_more z.barred (entries_left (slice_set es i (mark e))) (entries_left es) (pending_set es i e is not_yet)

last_or : (P : ℕ → Type 0) (n k : ℕ) → k < suc n → P n → ((j : ℕ) → j < n → P j) → P k
last_or P n k lt here before =
    elim (cases_lt k n) [
      | inl less ↦ before k less
      | inr most ↦ let same : n ≡ k = omega arith in subst P same here
    ]

-- ---- a look at one entry
module _ (types : List DataDecl) (layouts : List Layout) where
  -- the entry that a look marks
  pub record Turned (es : List Entry) (i : ℕ) : Type 0 where
    pub entry : Entry
    pub is_entry : slice_get es i ≡ Some entry
    pub not_yet : entry.barred ≡ false
    pub holds : goal_barred (knows es) types layouts entry.goal ≡ true
    pub new : after_look types layouts i es ≡ slice_set es i (mark entry)

  not_true : (b : Bool) → not b ≡ true → b ≡ false
  not_true true e = absurd cc
  not_true false e = refl

  turned_case : (es : List Entry) (i : ℕ) (x : Option Entry) → slice_get es i ≡ x → turns types layouts es x ≡ true
      → (entry : Entry) × (slice_get es i ≡ Some entry) × (entry.barred ≡ false) × (goal_barred (knows es) types layouts entry.goal ≡ true)
  turned_case es i None is e = absurd cc
  turned_case es i (Some entry) is e =
      let h = and_parts (not entry.barred) (goal_barred (knows es) types layouts entry.goal) e in (entry, is, not_true entry.barred h.0, h.1)

  turned : (es : List Entry) (i : ℕ) → turns types layouts es (slice_get es i) ≡ true → Turned es i
  turned es i e =
      let r = turned_case es i (slice_get es i) refl e in
      record {
        entry = r.0;
        is_entry = r.1;
        not_yet = r.2;
        holds = r.3;
        new = ap (λ b. if b then with_mark es i (slice_get es i) else es) e ∙ ap (with_mark es i) r.1;
      }

  still : (es : List Entry) (i : ℕ) → turns types layouts es (slice_get es i) ≡ false → after_look types layouts i es ≡ es
  still es i e = ap (λ b. if b then with_mark es i (slice_get es i) else es) e

  true_or_false : (b : Bool) → (b ≡ true) ⊎ (b ≡ false)
  true_or_false true = inl refl
  true_or_false false = inr refl

  -- ---- what each look keeps
  pub record Goes (old new : List Entry) : Type 0 where
    pub keeps : KeepsGoals old new
    pub asked : AreAsked old → AreAsked new
    pub true_ones : AreTrue types layouts old → AreTrue types layouts new
    pub fewer : entries_left new ≤ entries_left old

  goes_alone : (es : List Entry) → Goes es es
  goes_alone es = record { keeps = λ g h. h; asked = λ h. h; true_ones = λ h. h; fewer = omega arith }

  goes_more : {a b c : List Entry} → Goes a b → Goes b c → Goes a c
  goes_more p q = record {
    keeps = λ g h. q.keeps g (p.keeps g h);
    asked = λ h. q.asked (p.asked h);
    true_ones = λ h. q.true_ones (p.true_ones h);
    fewer = (let one = p.fewer in let two = q.fewer in omega arith);
  }

  goes_marked : (es : List Entry) (i : ℕ) (t : Turned es i) → Goes es (slice_set es i (mark t.entry))
  goes_marked es i t = record {
    keeps = λ g h. has_set es i t.entry g t.is_entry h;
    asked = λ all k y is. elim (get_set es i (mark t.entry) k y is) [
      | inl h ↦ all k y h
      | inr h ↦ subst (λ (x : Entry). IsAsked x.goal.literal) h (all i t.entry t.is_entry)
    ];
    true_ones = λ all g h. elim (knows_set es i t.entry g t.is_entry h) [
      | inl s ↦ all g s
      | inr s ↦ subst (λ (x : Goal). GoalHolds types layouts x) s (goal-holds types layouts (knows es) all t.entry.goal t.holds)
    ];
    fewer = (let less = pending_set es i t.entry t.is_entry t.not_yet in omega arith);
  }

  goes_look : (es : List Entry) (i : ℕ) → Goes es (after_look types layouts i es)
  goes_look es i =
      elim (true_or_false (turns types layouts es (slice_get es i))) [
        | inl e ↦ let t = turned es i e in subst (λ fs. Goes es fs) (sym t.new) (goes_marked es i t)
        | inr e ↦ subst (λ fs. Goes es fs) (sym (still es i e)) (goes_alone es)
      ]

  pub goes-pass : (n : ℕ) (es : List Entry) → Goes es (after_looks types layouts n es)
  goes-pass zero es = goes_alone es
  goes-pass (suc n) es = goes_more (goes_look es n) (goes-pass n (after_look types layouts n es))

  look_less : (es : List Entry) (i : ℕ) → turns types layouts es (slice_get es i) ≡ true → entries_left (after_look types layouts i es) < entries_left es
  look_less es i e = let t = turned es i e in subst (λ fs. entries_left fs < entries_left es) (sym t.new) (pending_set es i t.entry t.is_entry t.not_yet)

  -- a pass that marks a goal leaves fewer unmarked
  pub pass-less : (n : ℕ) (es : List Entry) → changes types layouts n es ≡ true → entries_left (after_looks types layouts n es) < entries_left es
  pass-less zero es e = absurd cc
  pass-less (suc n) es e =
      elim (or_is (turns types layouts es (slice_get es n)) (changes types layouts n (after_look types layouts n es)) e) [
        | inl h ↦ let one = look_less es n h in let rest = (goes-pass n (after_look types layouts n es)).fewer in omega arith
        | inr h ↦ let one = (goes_look es n).fewer in let rest = pass-less n (after_look types layouts n es) h in omega arith
      ]

  neither : (a b : Bool) → (a || b) ≡ false → (a ≡ false) × (b ≡ false)
  neither true b e = absurd cc
  neither false b e = (refl, e)

  -- a pass that marks none changes nothing, and none of its entries turns
  pub pass-still : (n : ℕ) (es : List Entry) → changes types layouts n es ≡ false
      → (after_looks types layouts n es ≡ es) × ((k : ℕ) → k < n → turns types layouts es (slice_get es k) ≡ false)
  pass-still zero es e = (refl, λ k lt. absurd (omega arith))
  pass-still (suc n) es e =
      let h = neither (turns types layouts es (slice_get es n)) (changes types layouts n (after_look types layouts n es)) e in
      let same = still es n h.0 in
      let rest = pass-still n es (subst (λ fs. changes types layouts n fs ≡ false) same h.1) in
      (ap (after_looks types layouts n) same ∙ rest.0, λ k lt. last_or (λ j. turns types layouts es (slice_get es j) ≡ false) n k lt h.0 rest.1)

  pub settled-pass : (old es : List Entry) → changes types layouts (length es) es ≡ false → KeepsGoals old es → (AreTrue types layouts old → AreTrue types layouts es)
      → AreSettled types layouts old (after_looks types layouts (length es) es)
  settled-pass old es e keeps true_ones =
      let r = pass-still (length es) es e in
      let here : AreSettled types layouts old es = record {
        keeps = keeps;
        true_ones = true_ones;
        all = λ k x is. ap (turns types layouts es) (sym is) ∙ r.1 k (slice_get_within es k x is);
      } in
      subst (λ fs. AreSettled types layouts old fs) (sym r.0) here
