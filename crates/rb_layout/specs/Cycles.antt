-- Cycles of types in a relation. R t s says that type t leads to type s; types are named by their numbers.
use Rattle.std.specs.Prelude.{◌≡◌, ℕ, List, [], ◌∷◌, true, nat_eq}
use Rattle.rb_core.specs.WellNumbered.{is_distinct}

-- R leads from t to the first type of the list, from each to the next, and from the last to `last`; where the list is
-- empty, from t to `last` at once
abbrev pub IsChain : (ℕ → ℕ → Type 0) → ℕ → List ℕ → ℕ → Type 0
IsChain R t [] last = R t last
IsChain R t (s ∷ ts) last = R t s × IsChain R s ts last

-- R leads from each type of the list to the next, and from the last to the first; a type that leads to itself is a
-- cycle alone, and the empty list is none
abbrev pub IsCycle : (ℕ → ℕ → Type 0) → List ℕ → Type 0
IsCycle R [] = ⊥
IsCycle R (t ∷ ts) = IsChain R t ts t

-- no cycle goes through type t: none can be listed from t on
abbrev pub HasNoCycle : (ℕ → ℕ → Type 0) → ℕ → Type 0
HasNoCycle R t = (ts : List ℕ) → IsCycle R (t ∷ ts) → ⊥

-- the list is a cycle whose first type is t, with each of its types once; the empty list is none
abbrev pub IsCycleFrom : (ℕ → ℕ → Type 0) → ℕ → List ℕ → Type 0
IsCycleFrom R t [] = ⊥
IsCycleFrom R t (s ∷ ts) = (s ≡ t) × IsCycle R (s ∷ ts) × (is_distinct nat_eq (s ∷ ts) ≡ true)

-- where a cycle goes through a type, even one that meets types twice, one can be listed from that type on with each
-- of its types once
abbrev pub HasListed : (ℕ → ℕ → Type 0) → Type 0
HasListed R = (t : ℕ) (ts : List ℕ) → IsCycle R (t ∷ ts) → (us : List ℕ) × IsCycleFrom R t us
