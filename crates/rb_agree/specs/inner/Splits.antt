-- Splits one by one: their literals, and how a split fails. A split looks at the bits at a location; its arms are for
-- the numbers that may stand there, their literals, and its `else` is for all others. `why` is evidence: how a split
-- fails.
use Rattle.std.specs.Prelude.{◌≡◌, ℕ, ◌^◌, ◌<◌, List, map, Bool, Some, slice_get}
use Rattle.std.specs.List.{flat_map}
use Rattle.rb_core.specs.declared.layout_decl.Loc.{Loc}
use Rattle.rb_layout.specs.declared.layout.FlatArm.{FlatArm}
use Rattle.rb_layout.specs.declared.evidence.Why.{Why}
use Rattle.rb_layout.specs.declared.evidence.Why.TheVariants.{LiteralWide, LiteralTwice, NoArm}
use Rattle.rb_layout.specs.Splits.{SplitAt, splits_under}
use Rattle.rb_layout.specs.A7.{IsLiteral}
use Rattle.rb_layout.specs.A8.{HasArm, length_of}

-- the literals of arms, in their order
abbrev pub literals_in : List FlatArm → List ℕ
literals_in arms = map (λ (a : FlatArm). a.literal) arms

-- a split by its location, the literals of its arms, and whether it has an `else`
abbrev pub split_of : Loc → List FlatArm → Bool → SplitAt
split_of loc arms other = record { loc = loc; literals = literals_in arms; other = other }

-- the splits in the trees below these arms, arm by arm
abbrev pub arm_splits : List FlatArm → List SplitAt
arm_splits arms = flat_map (λ (a : FlatArm). (splits_under a).of) arms

-- c stands in two places among these literals
abbrev pub IsTwice : List ℕ → ℕ → Type 0
IsTwice cs c = (j : ℕ) × (k : ℕ) × (j < k) × (slice_get cs j ≡ Some c) × (slice_get cs k ≡ Some c)

-- each of these literals has at most so many bits
abbrev pub AreFit : ℕ → List ℕ → Type 0
AreFit bits cs = (k c : ℕ) → slice_get cs k ≡ Some c → c < 2 ^ bits

-- no literal stands in two places
abbrev pub AreDistinct : List ℕ → Type 0
AreDistinct cs = (j k c : ℕ) → j < k → slice_get cs j ≡ Some c → slice_get cs k ≡ Some c → ⊥

-- a split fails as `why` says: a literal has more bits than its range, a literal stands twice, or it has no arm and
-- no `else`
abbrev pub FailsSplit : SplitAt → Why → Type 0
FailsSplit split (LiteralWide loc c) = (split.loc ≡ loc) × IsLiteral split.literals c × (c < 2 ^ length_of loc → ⊥)
FailsSplit split (LiteralTwice loc c) = (split.loc ≡ loc) × IsTwice split.literals c
FailsSplit split (NoArm loc) = (split.loc ≡ loc) × (HasArm split → ⊥)
FailsSplit split why = ⊥
