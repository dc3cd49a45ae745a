-- The nodes of lists of values.
use Rattle.std.proofs.Common.{◌≡◌, ℕ, ◌+◌, ◌*◌, ◌<◌, ◌≤◌, List, [], ◌∷◌, ◌++◌, map, sum, arith, Some, slice_get, slice_set, inl, inr}
use Rattle.std.proofs.Math.Nat.{eq-or-lt_of_le, mul-le-mul_right}
use Rattle.std.proofs.lemmas.Grind.{common_steps}
use Rattle.rb_core.specs.declared.value.Value.{Value}
use Rattle.rb_core.specs.Values.{node_count}
use Rattle.rb_core.proofs.ValueLaws.{node_count-Con, node_count-Num}

pub total-append : (xs ys : List Value) → sum (map node_count (xs ++ ys)) ≡ sum (map node_count xs) + sum (map node_count ys)
total-append xs ys = grind (arith, common_steps)

pub total-one : (x : Value) → sum (map node_count (x ∷ [])) ≡ node_count x
total-one x = grind (arith, common_steps)

total-cons : (v : Value) (vs : List Value) → sum (map node_count (v ∷ vs)) ≡ node_count v + sum (map node_count vs)
total-cons v vs = grind (arith, common_steps)

-- one value in the place of the first
pub total-replaced : (vs : List Value) (first w : Value) → slice_get vs 0 ≡ Some first
    → node_count first + sum (map node_count (slice_set vs 0 w)) ≡ node_count w + sum (map node_count vs)
total-replaced [] first w e = cc
total-replaced (v ∷ vs) first w e =
    let same : v ≡ first = cc in rw same (omega (arith, total-cons w vs, total-cons first vs))

pub first-le-total : (vs : List Value) (first : Value) → slice_get vs 0 ≡ Some first → node_count first ≤ sum (map node_count vs)
first-le-total [] first e = cc
first-le-total (v ∷ vs) first e = let same : v ≡ first = cc in rw same (omega (arith, total-cons first vs))

pub ruleset total_rules = (total-append, total-one, total-replaced, first-le-total, node_count-Con, node_count-Num)

-- a pair of numbers falls where the first falls, or stays and the second falls; the second is at most n
pub pair-falls : (n a b c d : ℕ) → c ≤ a → d ≤ n → (c ≡ a → d < b) → c * (n + 1) + d < a * (n + 1) + b
pair-falls n a b c d le bound falls = elim (eq-or-lt_of_le le) [ inl e ↦ (let below = falls e in rw e (omega arith)) | inr lt ↦ (let room = mul-le-mul_right (n + 1) lt in omega (arith, room, bound)) ]
