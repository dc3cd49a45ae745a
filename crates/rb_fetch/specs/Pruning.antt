-- Trees of splits whose leaves form groups. A leaf is one of the forms in which a layout stores the values of a data
-- type, given by its number. A split tests the bits at a location of a value's words: an arm leads to the tree below
-- it where they are its literal, and the else, if there is one, where no arm has them. Below a split that leads one
-- way alone there is no choice, and it is left out. Groups are given leaf by leaf, none for a leaf that can't be
-- here. A pruned tree has groups for leaves.
use Rattle.std.specs.Prelude.{◌≡◌, ℕ, ◌<◌, ◌≤◌, ◌==◌, ◌&&◌, List, [], ◌∷◌, Bool, true, false, Option, Some, None, slice_get, if◌then◌else◌}
use Rattle.rb_core.specs.declared.layout_decl.Loc.{Loc}
use Rattle.rb_bytes.specs.Memory.{Memory}
use Rattle.rb_layout.specs.declared.layout.FlatTree.{FlatTree}
use Rattle.rb_layout.specs.declared.layout.FlatTree.TheVariants as Flat
use Rattle.rb_layout.specs.declared.layout.FlatTree.TheOpen as T
use Rattle.rb_layout.specs.declared.layout.FlatTree.TheOpen.{FlatTree-F}
use Rattle.rb_layout.specs.declared.layout.FlatTree.TheFolds.{fold-FlatTree}
use Rattle.rb_layout.specs.declared.layout.FlatArm.{FlatArm, FlatArm-F}
use Rattle.rb_layout.specs.Splits.{Under}
use Rattle.rb_rel.specs.Reading.{walk}
use Rattle.rb_rel.specs.Switches.{nesting}

-- Groups ----------------------------------------------------------------------------------------

-- the group that stands at a leaf's place in a list of groups; none where the list has no such place
abbrev pub group_or_none : Option (Option ℕ) → Option ℕ
group_or_none None = None
group_or_none (Some group) = group

-- the group of a leaf; none for a leaf that can't be here, and past the end of the list
abbrev pub group_at : List (Option ℕ) → ℕ → Option ℕ
group_at groups leaf = group_or_none (slice_get groups leaf)

-- each group in the list has a number below `count`
abbrev pub GroupsBelow : ℕ → List (Option ℕ) → Type 0
GroupsBelow count groups = (leaf g : ℕ) → group_at groups leaf ≡ Some g → g < count

-- Trees that lead one way -----------------------------------------------------------------------

-- one step of `group_of`: the number of a leaf, and none of a split
abbrev pub group_step : FlatTree-F (Option ℕ) (Option ℕ) → Option ℕ
group_step (T.Split loc arms other) = None
group_step (T.Leaf g) = Some g

-- one step of `group_of` at an arm: what was found for the tree below it
abbrev pub group_arm : FlatArm-F (Option ℕ) (Option ℕ) → Option ℕ
group_arm arm = arm.under

-- the group to which a tree leads without a split: the number of a tree that is a leaf alone, and none of a split
abbrev pub group_of : FlatTree → Option ℕ
group_of = fold-FlatTree (Option ℕ) (Option ℕ) group_step group_arm

-- whether a group is there, and is group g
abbrev pub is_group : Option ℕ → ℕ → Bool
is_group None g = false
is_group (Some h) g = h == g

-- whether each of the arms leads to group g without a split; true where there are no arms
abbrev pub lead_all : ℕ → List FlatArm → Bool
lead_all g [] = true
lead_all g (a ∷ arms) = is_group (group_of a.under) g && lead_all g arms

-- whether the else of a split leads to group g without a split; true where there is no else
abbrev pub leads_else : ℕ → Option FlatTree → Bool
leads_else g None = true
leads_else g (Some t) = is_group (group_of t) g

-- the given group, where all of the arms and the else, if there is one, lead to it without a split; else none
abbrev pub agreed_group : Option ℕ → List FlatArm → Option FlatTree → Option ℕ
agreed_group None arms other = None
agreed_group (Some g) arms other = if lead_all g arms && leads_else g other then Some g else None

-- the group to which all arms of a split, and its else where it has one, lead without a split; none where there is no
-- such group, or no arm
abbrev pub shared_group : List FlatArm → Option FlatTree → Option ℕ
shared_group [] other = None
shared_group (a ∷ arms) other = agreed_group (group_of a.under) arms other

-- Pruning ---------------------------------------------------------------------------------------

-- what pruning leaves of a split of the bits at a location, with these arms and no else: of two arms or more the
-- split itself, of one arm the tree below it, and none where there is no arm
abbrev pub few_of : Loc → List FlatArm → Option FlatTree
few_of loc [] = None
few_of loc (a ∷ []) = Some a.under
few_of loc (a ∷ b ∷ arms) = Some (Flat.Split loc (a ∷ b ∷ arms) None)

-- what pruning leaves of a split of the bits at a location, with these arms and perhaps an else: the split itself;
-- where one way alone is left, the tree to which it leads; none where no way is
abbrev pub pruned_split : Loc → List FlatArm → Option FlatTree → Option FlatTree
pruned_split loc arms None = few_of loc arms
pruned_split loc [] (Some t) = Some t
pruned_split loc (a ∷ arms) (Some t) = Some (Flat.Split loc (a ∷ arms) (Some t))

-- a split whose ways all lead to the given group is that group's leaf; without a group it is what `pruned_split` leaves
abbrev pub joined_or_pruned : Option ℕ → Loc → List FlatArm → Option FlatTree → Option FlatTree
joined_or_pruned None loc arms other = pruned_split loc arms other
joined_or_pruned (Some g) loc arms other = Some (Flat.Leaf g)

-- what is left of a split of the bits at a location, with these arms and perhaps an else, which are pruned already:
-- the leaf of a group where all of them lead to it
abbrev pub joined_split : Loc → List FlatArm → Option FlatTree → Option FlatTree
joined_split loc arms other = joined_or_pruned (shared_group arms other) loc arms other

-- the arms with one more in front, for the literal and over the tree; as they are where no tree is given
abbrev pub keep_arm : ℕ → Option FlatTree → List FlatArm → List FlatArm
keep_arm literal None arms = arms
keep_arm literal (Some t) arms = record { literal = literal; under = t } ∷ arms

-- the arms below which a tree is left, in their order: those below which a leaf has a group
abbrev pub live_arms : List (Under (Option FlatTree)) → List FlatArm
live_arms [] = []
live_arms (arm ∷ arms) = keep_arm arm.literal arm.of (live_arms arms)

-- the tree that is left of an else; none where there is no else, or nothing of it is left
abbrev pub live_else : Option (Option FlatTree) → Option FlatTree
live_else None = None
live_else (Some other) = other

-- the tree that is the leaf of a group alone; none without a group
abbrev pub leaf_for : Option ℕ → Option FlatTree
leaf_for None = None
leaf_for (Some g) = Some (Flat.Leaf g)

-- one step of `pruned_of`: what is left of a leaf, or of a split whose arms and else are pruned already
abbrev pub prune_step : List (Option ℕ) → FlatTree-F (Option FlatTree) (Under (Option FlatTree)) → Option FlatTree
prune_step groups (T.Split loc arms other) = joined_split loc (live_arms arms) (live_else other)
prune_step groups (T.Leaf n) = leaf_for (group_at groups n)

-- one step of `pruned_of` at an arm: its literal, with what is left of the tree below it
abbrev pub prune_arm : FlatArm-F (Option FlatTree) (Under (Option FlatTree)) → Under (Option FlatTree)
prune_arm arm = record { literal = arm.literal; of = arm.under }

-- the tree that leads to the group of a leaf where the given one leads to the leaf, without splits of which one way
-- or one group is left; none where no leaf of the tree has a group
abbrev pub pruned_of : List (Option ℕ) → FlatTree → Option FlatTree
pruned_of groups = fold-FlatTree (Option FlatTree) (Under (Option FlatTree)) (prune_step groups) prune_arm

-- What it does ----------------------------------------------------------------------------------

-- the number to which the words ws lead through a tree, over memory m; none without a tree
abbrev pub walk_in : Option FlatTree → List ℕ → Memory → Option ℕ
walk_in None ws m = None
walk_in (Some t) ws m = walk t ws m

-- how many splits of a tree stand one below the other at most; 0 without a tree
abbrev pub nesting_in : Option FlatTree → ℕ
nesting_in None = 0
nesting_in (Some t) = nesting t

-- Words that lead to a leaf of a group through `tree` lead to the group through `pruned`, in which no more splits are
-- nested.
pub record Prunes (groups : List (Option ℕ)) (tree : FlatTree) (pruned : Option FlatTree) : Type 0 where
  pub walks : (ws : List ℕ) (m : Memory) (leaf g : ℕ) → walk tree ws m ≡ Some leaf → group_at groups leaf ≡ Some g
      → walk_in pruned ws m ≡ Some g
  pub nests : nesting_in pruned ≤ nesting tree
