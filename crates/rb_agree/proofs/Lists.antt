-- What holds of each item of a list, item by item.
use Rattle.std.proofs.Common.{◌≡◌, ℕ, zero, suc, ◌+◌, ◌<◌, ◌≤◌, ◌⊎◌, inl, inr, List, [], ◌∷◌, ◌++◌, map, length, get_or, drop, add-one, drop-cons, Option, Some, None, refl, sym, ap, subst, ◌∙◌, arith}
use Rattle.std.specs.Prelude.{slice_get}
use Rattle.std.specs.List.{flat_map}
use Rattle.std.proofs.lemmas.List.{drop_all}
use Rattle.std.proofs.lemmas.Option.{same_Some, slice_get_within, slice_get-get_or}
use Rattle.std.proofs.lemmas.Bool.{cases_lt}
use Rattle.rb_agree.specs.Lists.{SomeOf}
use Rattle.rb_agree.specs.inner.Lists.{EachOf, EachBefore, FindsIn}

pub at-item : {A : Type 0} (xs : List A) (k : ℕ) (x : A) → k < length xs → x ≡ get_or xs k x → slice_get xs k ≡ Some x
at-item xs k x lt is = slice_get-get_or xs k x lt ∙ ap Some (sym is)

last_or : (i k : ℕ) → k < i + 1 → (k < i) ⊎ (i ≡ k)
last_or i k lt = elim (cases_lt k i) [ inl less ↦ inl less | inr most ↦ inr (omega arith) ]

pub before-more : {A : Type 0} (P : A → Type 0) (xs : List A) (i : ℕ) (x : A) → i < length xs → x ≡ get_or xs i x → P x → EachBefore P xs i → EachBefore P xs (i + 1)
before-more P xs i x within is here before = λ k y lt e. elim (last_or i k lt) [
  | inl less ↦ before k y less e
  | inr same ↦ subst P (same_Some x y (sym (at-item xs i x within is) ∙ subst (λ n. slice_get xs n ≡ Some y) (sym same) e)) here
]

pub before-all : {A : Type 0} (P : A → Type 0) (xs : List A) (i : ℕ) → length xs ≤ i → EachBefore P xs i → EachOf P xs
before-all P xs i le before = λ k x e. let lt = slice_get_within xs k x e in before k x (omega arith) e

pub before-next : {A : Type 0} (P : A → Type 0) (xs : List A) (i : ℕ) (x : A) → slice_get xs i ≡ Some x → P x → EachBefore P xs i → EachBefore P xs (i + 1)
before-next P xs i x is here before = λ k y lt e. elim (last_or i k lt) [
  | inl less ↦ before k y less e
  | inr same ↦ subst P (same_Some x y (sym is ∙ subst (λ n. slice_get xs n ≡ Some y) (sym same) e)) here
]

-- Lists one after the other, and mapped ---------------------------------------------------------------

pub each-append : {A : Type 0} (P : A → Type 0) (xs ys : List A) → EachOf P xs → EachOf P ys → EachOf P (xs ++ ys)
each-append P [] ys h g k y e = g k y e
each-append P (x ∷ xs) ys h g zero y e = h 0 y e
each-append P (x ∷ xs) ys h g (suc k) y e = each-append P xs ys (λ j z. h (suc j) z) g k y e

left-at : {A : Type 0} (xs ys : List A) (k : ℕ) (x : A) → slice_get xs k ≡ Some x → slice_get (xs ++ ys) k ≡ Some x
left-at [] ys k x e = absurd cc
left-at (z ∷ xs) ys zero x e = e
left-at (z ∷ xs) ys (suc k) x e = left-at xs ys k x e

pub some-left : {A : Type 0} (P : A → Type 0) (xs ys : List A) → SomeOf P xs → SomeOf P (xs ++ ys)
some-left P xs ys h = (h.0, h.1, left-at xs ys h.0 h.1 h.2, h.3)

some-more : {A : Type 0} (P : A → Type 0) (x : A) (xs : List A) → SomeOf P xs → SomeOf P (x ∷ xs)
some-more P x xs h = (suc h.0, h.1, h.2, h.3)

pub some-right : {A : Type 0} (P : A → Type 0) (xs ys : List A) → SomeOf P ys → SomeOf P (xs ++ ys)
some-right P [] ys h = h
some-right P (x ∷ xs) ys h = some-more P x (xs ++ ys) (some-right P xs ys h)

pub each-none : {A : Type 0} (P : A → Type 0) → EachOf P []
each-none P = λ k x e. absurd cc

pub each-first : {A : Type 0} (P : A → Type 0) (x : A) (xs : List A) → P x → EachOf P xs → EachOf P (x ∷ xs)
each-first P x xs here rest zero y e = subst P (same_Some x y e) here
each-first P x xs here rest (suc k) y e = rest k y e

pub some-first : {A : Type 0} (P : A → Type 0) (x : A) (xs : List A) → P x → SomeOf P (x ∷ xs)
some-first P x xs here = (0, x, refl, here)

pub each-map : {A B : Type 0} (f : A → B) (P : B → Type 0) (xs : List A) → EachOf (λ (x : A). P (f x)) xs → EachOf P (map f xs)
each-map f P [] h k y e = absurd cc
each-map f P (x ∷ xs) h zero y e = subst P (same_Some (f x) y e) (h 0 x refl)
each-map f P (x ∷ xs) h (suc k) y e = each-map f P xs (λ j z. h (suc j) z) k y e

pub map-at : {A B : Type 0} (f : A → B) (xs : List A) (k : ℕ) (x : A) → slice_get xs k ≡ Some x → slice_get (map f xs) k ≡ Some (f x)
map-at f [] k x e = absurd cc
map-at f (z ∷ xs) zero x e = ap Some (ap f (same_Some z x e))
map-at f (z ∷ xs) (suc k) x e = map-at f xs k x e

pub some-map : {A B : Type 0} (f : A → B) (P : B → Type 0) (xs : List A) → SomeOf (λ (x : A). P (f x)) xs → SomeOf P (map f xs)
some-map f P xs h = (h.0, f h.1, map-at f xs h.0 h.1 h.2, h.3)

pub flat-next : {A B : Type 0} (f : A → List B) (xs : List A) (i : ℕ) (x : A) → i < length xs → x ≡ get_or xs i x
    → flat_map f (drop i xs) ≡ f x ++ flat_map f (drop (i + 1) xs)
flat-next {A} f xs i x lt is =
    ap (λ (ys : List A). flat_map f ys) (drop-cons xs i x lt ∙ ap (λ (y : A). y ∷ drop (suc i) xs) (sym is)) ∙ ap (λ m. f x ++ flat_map f (drop m xs)) (sym (add-one i))

pub flat-end : {A B : Type 0} (f : A → List B) (xs : List A) (i : ℕ) → length xs ≤ i → flat_map f (drop i xs) ≡ []
flat-end {A} f xs i le = ap (λ (ys : List A). flat_map f ys) (drop_all i xs le)

-- What is found in lists one after the other
pub finds-left : {A W : Type 0} (Good : A → Type 0) (Bad : A → W → Type 0) (xs ys : List A) (why : W) → FindsIn Good Bad xs (Some why) → FindsIn Good Bad (xs ++ ys) (Some why)
finds-left {A} Good Bad xs ys why h = some-left (λ (x : A). Bad x why) xs ys h

pub finds-right : {A W : Type 0} (Good : A → Type 0) (Bad : A → W → Type 0) (xs ys : List A) (r : Option W) → EachOf Good xs → FindsIn Good Bad ys r → FindsIn Good Bad (xs ++ ys) r
finds-right Good Bad xs ys None all rest = each-append Good xs ys all rest
finds-right {A} Good Bad xs ys (Some why) all rest = some-right (λ (x : A). Bad x why) xs ys rest

pub finds-first : {A W : Type 0} (Good : A → Type 0) (Bad : A → W → Type 0) (x : A) (xs : List A) (why : W) → Bad x why → FindsIn Good Bad (x ∷ xs) (Some why)
finds-first {A} Good Bad x xs why bad = some-first (λ (y : A). Bad y why) x xs bad

pub finds-rest : {A W : Type 0} (Good : A → Type 0) (Bad : A → W → Type 0) (x : A) (xs : List A) (r : Option W) → Good x → FindsIn Good Bad xs r → FindsIn Good Bad (x ∷ xs) r
finds-rest Good Bad x xs None good rest = each-first Good x xs good rest
finds-rest {A} Good Bad x xs (Some why) good rest = some-more (λ (y : A). Bad y why) x xs rest

-- what is found in the rest is found in the whole
abbrev pub PassesIn : {A W : Type 0} → (A → Type 0) → (A → W → Type 0) → List A → List A → Type 0
PassesIn {A} {W} Good Bad rest whole = (r : Option W) → FindsIn Good Bad rest r → FindsIn Good Bad whole r

-- What is found in lists that are made of the items of a list, one after the other
module _ {A B W : Type 0} (Good : B → Type 0) (Bad : B → W → Type 0) (f : A → List B) (xs : List A) (i : ℕ) where
  abbrev pub RestPasses : ℕ → Type 0
  RestPasses k = PassesIn Good Bad (flat_map f (drop k xs)) (flat_map f xs)

  pub flat-found : (x : A) (r : Option W) (why : W) → i < length xs → x ≡ get_or xs i x → FindsIn Good Bad (f x) r → r ≡ Some why → RestPasses i → FindsIn Good Bad (flat_map f xs) (Some why)
  flat-found x r why lt is h some pass =
      pass (Some why) (subst (λ (ys : List B). FindsIn Good Bad ys (Some why)) (sym (flat-next f xs i x lt is))
      (finds-left Good Bad (f x) (flat_map f (drop (i + 1) xs)) why (subst (λ (y : Option W). FindsIn Good Bad (f x) y) some h)))

  pub flat-passed : (x : A) (r : Option W) → i < length xs → x ≡ get_or xs i x → FindsIn Good Bad (f x) r → r ≡ None → RestPasses i → RestPasses (i + 1)
  flat-passed x r lt is h none pass = λ s rest.
      pass s (subst (λ (ys : List B). FindsIn Good Bad ys s) (sym (flat-next f xs i x lt is))
      (finds-right Good Bad (f x) (flat_map f (drop (i + 1) xs)) s (subst (λ (y : Option W). FindsIn Good Bad (f x) y) none h) rest))

  pub flat-ends : length xs ≤ i → RestPasses i → FindsIn Good Bad (flat_map f xs) None
  flat-ends le pass = pass None (subst (λ (ys : List B). FindsIn Good Bad ys None) (sym (flat-end f xs i le)) (each-none Good))
