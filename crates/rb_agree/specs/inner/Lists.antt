-- What holds of each item of a list, and what is found in one.
use Rattle.std.specs.Prelude.{◌≡◌, ℕ, ◌<◌, List, MatchOption, Option, Some, slice_get}
use Rattle.rb_agree.specs.Lists.{SomeOf}

-- P holds of each item of a list
abbrev pub EachOf : {A : Type 0} → (A → Type 0) → List A → Type 0
EachOf {A} P xs = (k : ℕ) (x : A) → slice_get xs k ≡ Some x → P x

-- P holds of each of the first n items of a list
abbrev pub EachBefore : {A : Type 0} → (A → Type 0) → List A → ℕ → Type 0
EachBefore {A} P xs n = (k : ℕ) (x : A) → k < n → slice_get xs k ≡ Some x → P x

-- what is found in a list: nothing where all its items are good, and else how one of them is bad
abbrev pub FindsIn : {A W : Type 0} → (A → Type 0) → (A → W → Type 0) → List A → Option W → Type 0
FindsIn {A} Good Bad xs found = MatchOption found (EachOf Good xs) (λ why. SomeOf (λ (x : A). Bad x why) xs)
