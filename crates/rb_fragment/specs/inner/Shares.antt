-- How shares are put one over the other, for the proof of what makes them. A share says which bits of a read stand
-- where in a number that is joined of several.
use Rattle.std.specs.Prelude.{◌≡◌, ℕ, ◌<◌, ◌≤◌, List, ◌∷◌, map, drop, true, Some, slice_index}
use Rattle.std.specs.List.{list_all}
use Rattle.rb_bytes.specs.Memory.{IsGood}
use Rattle.rb_target.specs.Sheet.{Sheet}
use Rattle.rb_fragment.specs.declared.reads.Share.{Share}
use Rattle.rb_fragment.specs.Plan.{Plan}
use Rattle.rb_fragment.specs.Adding.{Adds}
use Rattle.rb_fragment.specs.Pieces.{Straight}
use Rattle.rb_fragment.specs.Reads.{joined_over, meant_of, fits_share}

-- the appended code puts the share p into the slot d, over what stands there. So where p and then the shares `rest`,
-- each of which instructions can make over slots below k, put over what d holds, come to x, it leaves in d a number
-- over which `rest` alone come to x. The slots below d are kept
pub record PutsOne (plan : Plan) (p : Share) (k d : ℕ) (old new : Sheet) : Type 0 where
  pub adds : Adds plan old new
  pub runs : (rest : List Share) → list_all (λ b. b) (map (fits_share k) rest) ≡ true → (x : ℕ)
      → Straight plan d old new (λ s m. IsGood m
      × (joined_over (slice_index s d) (map meant_of (p ∷ rest)) s m ≡ Some x))
      (λ s m. IsGood m × (joined_over (slice_index s d) (map meant_of rest) s m ≡ Some x))

-- whatever the plan, the appended code puts share p into the old slot d, over what stands there, if instructions
-- can make the share over slots below d
abbrev pub PutsShare : Share → ℕ → Sheet → Sheet → Type 0
PutsShare p d old new =
    (plan : Plan) (k : ℕ) → k ≤ d → d < old.slots → fits_share k p ≡ true → PutsOne plan p k d old new

-- the appended code puts shares into the slot d, one after the other, over what stands there
pub record PutsAll (plan : Plan) (shares : List Share) (d : ℕ) (old new : Sheet) : Type 0 where
  pub adds : Adds plan old new
  pub runs : (x : ℕ) → Straight plan d old new
      (λ s m. IsGood m × (joined_over (slice_index s d) (map meant_of shares) s m ≡ Some x))
      (λ s m. slice_index s d ≡ x)

-- whatever the plan, the appended code puts the shares into the old slot d, one after the other, over what stands
-- there, if instructions can make each over slots below d
abbrev pub PutsShares : List Share → ℕ → Sheet → Sheet → Type 0
PutsShares shares d old new =
    (plan : Plan) (k : ℕ) → k ≤ d → d < old.slots → list_all (λ b. b) (map (fits_share k) shares) ≡ true
    → PutsAll plan shares d old new

-- the appended code puts the first i of the shares into the slot d, one after the other, over what stands there
pub record PutsSome (plan : Plan) (shares : List Share) (i d : ℕ) (old new : Sheet) : Type 0 where
  pub adds : Adds plan old new
  pub runs : (x : ℕ) → Straight plan d old new
      (λ s m. IsGood m × (joined_over (slice_index s d) (map meant_of shares) s m ≡ Some x))
      (λ s m. IsGood m × (joined_over (slice_index s d) (map meant_of (drop i shares)) s m ≡ Some x))

-- whatever the plan, the appended code puts the first i of the shares into the old slot d, over what stands there,
-- if instructions can make each of the shares over slots below d
abbrev pub PutsFirst : List Share → ℕ → ℕ → Sheet → Sheet → Type 0
PutsFirst shares i d old new =
    (plan : Plan) (k : ℕ) → k ≤ d → d < old.slots → list_all (λ b. b) (map (fits_share k) shares) ≡ true
    → PutsSome plan shares i d old new
