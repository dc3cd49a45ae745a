-- Ways to leaves: a way is the number of a leaf, with the lines of the conditions that the splits above it put on it.
-- A split goes by the bits at a location: each of its arms is for a literal, a number that they may be. A route is
-- the number of a leaf with these conditions themselves, the outermost first.
use Rattle.std.specs.Prelude.{ℕ, List, ◌++◌, map, slice_get}
use Rattle.std.specs.List.{flat_map}
use Rattle.rb_core.specs.declared.types.DataDecl.{DataDecl}
use Rattle.rb_layout.specs.declared.layout.Leaf.{Leaf}
use Rattle.rb_layout.specs.declared.layout.FlatArm.{FlatArm}
use Rattle.rb_layout.specs.Splits.{Route}
use Rattle.rb_show.specs.Lines.{condition_line, found_lines}
use Rattle.rb_show.specs.declared.ways.Way.{Way}

-- the way to the leaf of this number, with the lines of its conditions
abbrev pub way : ℕ → List ℕ → Way
way leaf conditions = record { leaf = leaf; conditions = conditions }

-- the way along a route below other splits, where above has the lines of their conditions and stands first
abbrev pub way_behind : List ℕ → Route → Way
way_behind above r = way r.leaf (above ++ flat_map condition_line r.tests)

-- the ways along these routes below other splits, where above has the lines of those splits' conditions and stands
-- first in each
abbrev pub ways_behind : List ℕ → List Route → List Way
ways_behind above routes = map (way_behind above) routes

-- the lines of the leaf to which a way leads; nothing where there is no such leaf
abbrev pub way_lines : List DataDecl → List Leaf → Way → List ℕ
way_lines types leaves way = found_lines types way.conditions (slice_get leaves way.leaf)

-- the literals of a split's arms, in their order
abbrev pub literals_in : List FlatArm → List ℕ
literals_in arms = map (λ (arm : FlatArm). arm.literal) arms
