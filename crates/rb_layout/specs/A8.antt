-- A8: of a split, no literal comes twice, and none is too wide for the range, which is the last one that its location
-- names; and it is not empty: it has an `else` where it has no arm.
use Rattle.std.specs.Prelude.{◌≡◌, ℕ, ◌^◌, ◌<◌, ◌⊎◌, List, [], ◌∷◌, length, true, Some, slice_get}
use Rattle.rb_core.specs.declared.layout_decl.Loc.{Loc}
use Rattle.rb_core.specs.declared.layout_decl.Step.{Step}
use Rattle.rb_layout.specs.declared.layout.Layout.{Layout}
use Rattle.rb_layout.specs.declared.evidence.Why.{Why}
use Rattle.rb_layout.specs.declared.evidence.Why.TheVariants.{LiteralWide, LiteralTwice, NoArm}
use Rattle.rb_layout.specs.Splits.{SplitAt, splits_of}
use Rattle.rb_layout.specs.Each.{EachLayout}

-- how many bits the last of these ranges has: that of the last step, and l where there are no steps
abbrev pub last_length : ℕ → List Step → ℕ
last_length l [] = l
last_length l (s ∷ steps) = last_length s.l steps

-- how many bits the last range of a location has
abbrev pub length_of : Loc → ℕ
length_of loc = last_length loc.l loc.steps

-- a split has at least one literal or an `else`
abbrev pub HasArm : SplitAt → Type 0
HasArm split = (0 < length split.literals) ⊎ (split.other ≡ true)

-- a split passes the rule: no literal stands twice, each is below 2 ^ l where its range has l bits, and there is an
-- arm or an `else`
pub record SplitsWell (split : SplitAt) : Type 0 where
  pub distinct : (j k c : ℕ) → j < k → slice_get split.literals j ≡ Some c → slice_get split.literals k ≡ Some c → ⊥
  pub fit : (k c : ℕ) → slice_get split.literals k ≡ Some c → c < 2 ^ length_of split.loc
  pub arm : HasArm split

-- each split of a layout's tree passes the rule; a tree that is a leaf has none
abbrev pub AllSplitWell : Layout → Type 0
AllSplitWell layout = (k : ℕ) (split : SplitAt) → slice_get (splits_of layout.tree) k ≡ Some split → SplitsWell split

-- the rule: each split of each layout's tree has distinct literals that fit its range, and an arm or an `else`
abbrev pub A8 : List Layout → Type 0
A8 layouts = EachLayout layouts (λ t layout. AllSplitWell layout)

-- a split of the layout's tree, at this location
pub record SplitOf (layout : Layout) (loc : Loc) : Type 0 where
  pub number : ℕ
  pub split : SplitAt
  pub is_split : slice_get (splits_of layout.tree) number ≡ Some split
  pub is_loc : split.loc ≡ loc

-- How a layout fails the rule, by the evidence, which names a split's location: c is a literal of it and does not fit
-- its range; c stands at two places among its literals; or it has neither arm nor `else`. No other evidence fails the
-- rule.
abbrev pub FailsSplits : Layout → Why → Type 0
FailsSplits layout (LiteralWide loc c) =
    (s : SplitOf layout loc) × ((k : ℕ) × (slice_get s.split.literals k ≡ Some c)) × (c < 2 ^ length_of loc → ⊥)
FailsSplits layout (LiteralTwice loc c) =
    (s : SplitOf layout loc) × (j : ℕ) × (k : ℕ) × (j < k) × (slice_get s.split.literals j ≡ Some c)
    × (slice_get s.split.literals k ≡ Some c)
FailsSplits layout (NoArm loc) = (s : SplitOf layout loc) × (HasArm s.split → ⊥)
FailsSplits layout why = ⊥
