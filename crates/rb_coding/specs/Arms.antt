-- The arms of a split. A layout has a tree of splits, which leads to the leaf of some words: a split looks at a
-- number in the words, has an arm with a tree for each of some literals, and may have an `else` with a tree for all
-- other numbers.
use Rattle.std.specs.Prelude.{ℕ, List, [], ◌∷◌, nat_eq, Option, Some, if◌then◌else◌}
use Rattle.rb_layout.specs.declared.layout.FlatArm.{FlatArm}
use Rattle.rb_layout.specs.declared.layout.FlatTree.{FlatTree}

-- the tree that stands under a number n: under the first of the arms with this literal, or else under `else`, which
-- is given; None where there is neither
abbrev pub under_number : List FlatArm → Option FlatTree → ℕ → Option FlatTree
under_number [] other n = other
under_number (arm ∷ arms) other n = if nat_eq arm.literal n then Some arm.under else under_number arms other n
