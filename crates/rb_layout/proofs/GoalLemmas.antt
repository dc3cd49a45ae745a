-- Goals in a map: what its entries make of lookups, of a new goal and of a mark.
use Rattle.std.proofs.Common.{◌≡◌, ℕ, zero, suc, ◌||◌, Bool, true, false, List, [], ◌∷◌, ◌++◌, map, Option, Some, None, is_some, refl, sym, ap, ◌∙◌}
use Rattle.std.specs.Prelude.{slice_get, if◌then◌else◌}
use Rattle.std.proofs.lemmas.List.{map-append}
use Rattle.std.specs.Map.{lookup}
use Rattle.indexmap.specs.IndexMap.{set_value_at}
use Rattle.rb_layout.specs.declared.goals.Goal.{Goal}
use Rattle.rb_layout.specs.declared.goals.Entry.{Entry}
use Rattle.rb_layout.specs.inner.Barring.{same_goal, knows}
use Rattle.rb_layout.specs.inner.Finding.{has_goal, with_goal}
use Rattle.rb_layout.specs.inner.Settling.{with_mark}

abbrev pub entry : Goal × Bool → Entry
entry e = record { goal = e.0; barred = e.1 }

abbrev pub told : Option Bool → Bool
told None = false
told (Some b) = b

told_first : (b : Bool) (x : Bool) (rest : Option Bool) → told (if b then Some x else rest) ≡ (if b then x else told rest)
told_first true x rest = refl
told_first false x rest = refl

some_first : (b : Bool) (x : Bool) (rest : Option Bool) → is_some (if b then Some x else rest) ≡ (b || is_some rest)
some_first true x rest = refl
some_first false x rest = refl

pub known-entries : (g : Goal) (test : Goal → Bool) → ((k : Goal) → test k ≡ same_goal k g) → (es : List (Goal × Bool)) → told (lookup test es) ≡ knows (map entry es) g
known-entries g test same [] = refl
known-entries g test same (e ∷ es) = rw (same e.0) (told_first (same_goal e.0 g) e.1 (lookup test es) ∙ ap (λ k. if same_goal e.0 g then e.1 else k) (known-entries g test same es))

pub has-entries : (g : Goal) (test : Goal → Bool) → ((k : Goal) → test k ≡ same_goal k g) → (es : List (Goal × Bool)) → is_some (lookup test es) ≡ has_goal (map entry es) g
has-entries g test same [] = refl
has-entries g test same (e ∷ es) = rw (same e.0) (some_first (same_goal e.0 g) e.1 (lookup test es) ∙ ap (λ b. same_goal e.0 g || b) (has-entries g test same es))

-- a goal that is there leaves the goals as they are
pub goal-there : (es : List Entry) (g : Goal) → has_goal es g ≡ true → es ≡ with_goal es g
goal-there es g h = sym (ap (λ b. if b then es else es ++ record { goal = g; barred = false } ∷ []) h)

-- and a new one goes last
pub goal-new : (es new : List (Goal × Bool)) (g : Goal) (fs : List Entry) → new ≡ es ++ (g, false) ∷ [] → map entry es ≡ fs → has_goal fs g ≡ false → map entry new ≡ with_goal fs g
goal-new es new g fs is seen none =
    ap (map entry) is ∙ map-append entry es ((g, false) ∷ []) ∙ ap (λ xs. xs ++ record { goal = g; barred = false } ∷ []) seen
    ∙ sym (ap (λ b. if b then fs else fs ++ record { goal = g; barred = false } ∷ []) none)

pub none-here : {A : Type 0} (found : Option A) → is_some found ≡ false → found ≡ None
none-here (Some a) h = absurd cc
none-here None h = refl

marked_later : (x : Entry) (xs : List Entry) (i : ℕ) (y : Option Entry) → x ∷ with_mark xs i y ≡ with_mark (x ∷ xs) (suc i) y
marked_later x xs i None = refl
marked_later x xs i (Some y) = refl

pub mark-entries : (es : List (Goal × Bool)) (i : ℕ) → map entry (set_value_at es i true) ≡ with_mark (map entry es) i (slice_get (map entry es) i)
mark-entries [] i = refl
mark-entries (e ∷ es) zero = refl
mark-entries (e ∷ es) (suc i) = ap (λ xs. entry e ∷ xs) (mark-entries es i) ∙ marked_later (entry e) (map entry es) i (slice_get (map entry es) i)
