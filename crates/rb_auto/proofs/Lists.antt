-- Of each of a list: parts of lists, lists of parts, and groups.
use Rattle.std.proofs.Common.{◌≡◌, ℕ, zero, suc, ◌*◌, ◌≤◌, List, [], ◌∷◌, ◌++◌, length, map, take, drop, Some, subst, arith}
use Rattle.std.specs.Prelude.{slice_get}
use Rattle.std.specs.List.{flat_map}
use Rattle.std.proofs.lemmas.List.{length-drop, length-take}
use Rattle.std.proofs.lemmas.Option.{same_Some}
use Rattle.rb_layout.proofs.FlatForms.{Each}
use Rattle.rb_auto.specs.Items.{groups}

pub each-at : {A : Type 0} (P : A → Type 0) (xs : List A) (k : ℕ) (x : A) → Each P xs → slice_get xs k ≡ Some x → P x
each-at P [] k x h e = absurd cc
each-at P (y ∷ xs) zero x h e = subst P (same_Some y x e) h.0
each-at P (y ∷ xs) (suc k) x h e = each-at P xs k x h.1 e

pub each-join : {A : Type 0} (P : A → Type 0) (xs ys : List A) → Each P xs → Each P ys → Each P (xs ++ ys)
each-join P [] ys h g = g
each-join P (x ∷ xs) ys h g = (h.0, each-join P xs ys h.1 g)

module _ {A B : Type 0} (Q : A → Type 0) (P : B → Type 0) where
  pub each-map : (f : A → B) → ((x : A) → Q x → P (f x)) → (xs : List A) → Each Q xs → Each P (map f xs)
  each-map f by [] h = tt
  each-map f by (x ∷ xs) h = (by x h.0, each-map f by xs h.1)

  pub each-flat : (f : A → List B) → ((x : A) → Q x → Each P (f x)) → (xs : List A) → Each Q xs → Each P (flat_map f xs)
  each-flat f by [] h = tt
  each-flat f by (x ∷ xs) h = each-join P (f x) (flat_map f xs) (by x h.0) (each-flat f by xs h.1)

pub each-any : {A : Type 0} (P : A → Type 0) → ((x : A) → P x) → (xs : List A) → Each P xs
each-any P all [] = tt
each-any P all (x ∷ xs) = (all x, each-any P all xs)

each-take : {A : Type 0} (P : A → Type 0) (n : ℕ) (xs : List A) → Each P xs → Each P (take n xs)
each-take P zero xs h = tt
each-take P (suc n) [] h = tt
each-take P (suc n) (x ∷ xs) h = (h.0, each-take P n xs h.1)

each-drop : {A : Type 0} (P : A → Type 0) (n : ℕ) (xs : List A) → Each P xs → Each P (drop n xs)
each-drop P zero xs h = h
each-drop P (suc n) [] h = tt
each-drop P (suc n) (x ∷ xs) h = each-drop P n xs h.1

pub each-group : {A : Type 0} (P : A → Type 0) (n : ℕ) (xs : List A) → Each P xs → Each (Each P) (groups n xs)
each-group P zero xs h = tt
each-group P (suc n) [] h = tt
each-group P (suc n) (x ∷ xs) h = (each-take P 64 (x ∷ xs) h, each-group P n (drop 64 (x ∷ xs)) (each-drop P 64 (x ∷ xs) h))

-- a group has a word at least, and 64 at most
abbrev pub IsGroup : {A : Type 0} → List A → Type 0
IsGroup g = (1 ≤ length g) × (length g ≤ 64)

pub are-groups : {A : Type 0} (n : ℕ) (xs : List A) → Each IsGroup (groups n xs)
are-groups zero xs = tt
are-groups (suc n) [] = tt
are-groups (suc n) (x ∷ xs) = let l = length-take 64 (x ∷ xs) in ((omega (arith, l), omega (arith, l)), are-groups n (drop 64 (x ∷ xs)))

-- so many groups at most
pub few-groups : {A : Type 0} (n m : ℕ) (xs : List A) → length xs ≤ 64 * m → length (groups n xs) ≤ m
few-groups zero m xs le = omega arith
few-groups (suc n) m [] le = omega arith
few-groups (suc n) zero (x ∷ xs) le = absurd (omega (arith, le))
few-groups (suc n) (suc m) (x ∷ xs) le =
    let l = length-drop 64 (x ∷ xs) in let rest = few-groups n m (drop 64 (x ∷ xs)) (omega (arith, l, le)) in omega (arith, rest)

pub some-group : {A : Type 0} (n : ℕ) (x : A) (xs : List A) → length (x ∷ xs) ≡ n → 1 ≤ length (groups n (x ∷ xs))
some-group zero x xs e = absurd (omega (arith, e))
some-group (suc n) x xs e = omega arith
