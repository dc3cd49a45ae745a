-- An item at the front of a list.
use Rattle.std.proofs.Common.{◌≡◌, ℕ, zero, suc, ◌+◌, ◌<◌, ◌≤◌, List, [], ◌∷◌, ◌++◌, take, drop, length, get_or, Option, Some, None, refl, sym, ap, ◌∙◌, arith}
use Rattle.std.specs.Prelude.{slice_get, option_map}
use Rattle.std.proofs.lemmas.Option.{slice_get_past}
use Rattle.std.proofs.lemmas.Grind.{common_steps}
use Rattle.rb_decide.specs.ClauseMatrices.{before, to_front, next_column}

pub get-there : {A : Type 0} (xs : List A) (i : ℕ) (d : A) → i < length xs → slice_get xs i ≡ Some (get_or xs i d)
get-there [] i d lt = absurd (omega (arith, lt))
get-there (x ∷ xs) zero d lt = refl
get-there (x ∷ xs) (suc i) d lt = get-there xs i d (omega (arith, lt))

pub front-there : {A : Type 0} (i : ℕ) (xs : List A) (d : A) → i < length xs → to_front i xs ≡ get_or xs i d ∷ (take i xs ++ drop (suc i) xs)
front-there i xs d lt = ap (λ o. before o (take i xs ++ drop (suc i) xs)) (get-there xs i d lt)

pub front-past : {A : Type 0} (i : ℕ) (xs : List A) → length xs ≤ i → to_front i xs ≡ xs
front-past i xs le = ap (λ o. before o (take i xs ++ drop (suc i) xs)) (slice_get_past xs i le) ∙ all
  where
    all : take i xs ++ drop (suc i) xs ≡ xs
    all = grind (arith, le, common_steps)

-- the first of the columns from the next one on
pub one-on : (i : ℕ) (o : Option ℕ) → option_map (λ k. i + k) (next_column o) ≡ option_map (λ k. (i + 1) + k) o
one-on i None = refl
one-on i (Some k) = ap (λ n. Some n) (omega arith)

-- the same, by steps of one -------------------------------------------------------------------------

abbrev pub swap : {A : Type 0} → A → List A → List A
swap x [] = x ∷ []
swap x (y ∷ ys) = y ∷ x ∷ ys

abbrev pub moved : {A : Type 0} → ℕ → List A → List A
moved zero xs = xs
moved (suc i) [] = []
moved (suc i) (x ∷ xs) = swap x (moved i xs)

pub front-moved : {A : Type 0} (i : ℕ) (xs : List A) → i < length xs → to_front i xs ≡ moved i xs
front-moved i [] lt = absurd (omega (arith, lt))
front-moved zero (x ∷ xs) lt = refl
front-moved (suc i) (x ∷ xs) lt =
    let less : i < length xs = omega (arith, lt) in
    front-there (suc i) (x ∷ xs) x lt ∙ ap (swap x) (sym (front-there i xs x less) ∙ front-moved i xs less)

swap-length : {A : Type 0} (x : A) (xs : List A) → length (swap x xs) ≡ suc (length xs)
swap-length x [] = refl
swap-length x (y ∷ ys) = refl

pub moved-length : {A : Type 0} (i : ℕ) (xs : List A) → length (moved i xs) ≡ length xs
moved-length zero xs = refl
moved-length (suc i) [] = refl
moved-length (suc i) (x ∷ xs) = swap-length x (moved i xs) ∙ ap suc (moved-length i xs)

-- what is left of a list --------------------------------------------------------------------------

pub split-at-item : {A : Type 0} (xs : List A) (i : ℕ) (x : A) → i < length xs → x ≡ get_or xs i x → drop i xs ≡ x ∷ drop (i + 1) xs
split-at-item xs i x lt is = grind (arith, common_steps)

pub drop-past : {A : Type 0} (xs : List A) (i : ℕ) → length xs ≤ i → drop i xs ≡ []
drop-past xs i le = grind (arith, common_steps)

pub front-split : {A : Type 0} (i : ℕ) (xs : List A) (x : A) → i < length xs → x ≡ get_or xs i x → to_front i xs ≡ (x ∷ take i xs) ++ drop (i + 1) xs
front-split i xs x lt is = front-there i xs x lt ∙ ap (λ y. y ∷ (take i xs ++ drop (suc i) xs)) (sym is) ∙ ap (λ k. x ∷ (take i xs ++ drop k xs)) (next i)
  where
    next : (i : ℕ) → suc i ≡ i + 1
    next i = omega arith

pub take-next : {A : Type 0} (xs : List A) (i : ℕ) (x : A) → i < length xs → x ≡ get_or xs i x → take (i + 1) xs ≡ take i xs ++ x ∷ []
take-next xs i x lt is = grind (arith, common_steps)
