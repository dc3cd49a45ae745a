-- Positions of the provenances of leaves: what stands there, and what it takes to rebuild it. A provenance is the
-- pattern of the values that a leaf holds, and a position of it is a path: field numbers from the root. The leaf
-- holds the part at a wildcard whole. A part at a constructor is rebuilt: constructed again of its fields, by code
-- that chooses a leaf for it with switches. A plan has a program and its layouts.
use Rattle.std.specs.Prelude.{◌≡◌, ℕ, List, [], ◌∷◌, Option, Some, None, slice_get}
use Rattle.std.specs.List.{sum_by}
use Rattle.rb_core.specs.declared.types.Ty.{Ty}
use Rattle.rb_core.specs.declared.types.Ty.TheVariants.{Named}
use Rattle.rb_core.specs.declared.types.DataDecl.{DataDecl}
use Rattle.rb_core.specs.declared.pattern.Pat.{Pat}
use Rattle.rb_layout.specs.declared.layout.Layout.{Layout}
use Rattle.rb_layout.specs.declared.layout.Leaf.{Leaf}
use Rattle.rb_layout.specs.Positions.{layout_of, sub_pattern}
use Rattle.rb_rel.specs.Switches.{HeadAt, choose_of, heads_of}
use Rattle.rb_fragment.specs.Plan.{Plan}

-- what stands at a path of a pattern that stands at a type: the pattern there, with its type; none where nothing does
abbrev pub found_at : List DataDecl → Option (Pat × Ty) → List ℕ → Option (Pat × Ty)
found_at types None path = None
found_at types (Some p) [] = Some p
found_at types (Some p) (i ∷ path) = found_at types (sub_pattern types p.0 i) path

-- The path leads to a position of leaf n of the layout of type t, at which type ty is: to a wildcard of its
-- provenance, or to a constructor.
pub record PositionAt (plan : Plan) (t n : ℕ) (path : List ℕ) (ty : Ty) : Type 0 where
  pub layout : Layout
  pub leaf : Leaf
  pub pat : Pat
  pub is_layout : layout_of plan.layouts t ≡ Some layout
  pub is_leaf : slice_get layout.leaves n ≡ Some leaf
  pub is_position : found_at plan.program.types (Some (leaf.prov, Named t)) path ≡ Some (pat, ty)

-- the switches that rebuild a value of what stands at the wildcards of its pattern: for each constructor of the
-- pattern those that choose the leaf of its construction; 0 where it has none
abbrev pub mend_under : List Layout → Pat → ℕ
mend_under layouts pat = sum_by (λ (h : HeadAt). choose_of layouts h.con.ty h.con.con) (heads_of pat)
