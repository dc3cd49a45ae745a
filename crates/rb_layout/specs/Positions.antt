-- The open positions of provenances, their subpatterns, the leaf of a value, and the layout of a type. A provenance is
-- the pattern that is written before a leaf; the leaf is for the values that it matches. An open position is a wildcard
-- or a variable in it, and its path the list of field numbers that leads there from the root, outermost first. A layer
-- is the outermost node of a pattern, with its subpatterns below it. Types, leaves and fields are named by their
-- numbers, from 0.
use Rattle.std.specs.Prelude.{◌≡◌, ℕ, ◌+◌, ◌<◌, ◌⊎◌, List, [], ◌∷◌, ◌++◌, map, Option, Some, None, slice_get, unwrap_or, if◌then◌else◌}
use Rattle.rb_core.specs.declared.value.Value.{Value}
use Rattle.rb_core.specs.declared.types.Ty.{Ty}
use Rattle.rb_core.specs.declared.types.Ty.TheVariants.{Int, Named}
use Rattle.rb_core.specs.declared.types.DataDecl.{DataDecl}
use Rattle.rb_core.specs.declared.pattern.Pat.{Pat, out-Pat}
use Rattle.rb_core.specs.declared.pattern.Pat.TheOpen as P
use Rattle.rb_core.specs.declared.pattern.Pat.TheOpen.{Pat-F}
use Rattle.rb_core.specs.declared.pattern.Pat.TheFolds.{fold-Pat}
use Rattle.rb_core.specs.Matching.{matches_of}
use Rattle.rb_core.specs.Values.{fields_of}
use Rattle.rb_layout.specs.declared.layout.Leaf.{Leaf}
use Rattle.rb_layout.specs.declared.layout.Layout.{Layout}

-- an open position of a pattern: its path from the root, which is empty where the whole pattern is a wildcard or a
-- variable, and the type of what stands there
pub record Open : Type 0 where
  pub path : List ℕ
  pub ty : Ty

-- an open position of the subpattern for field i, seen from the pattern around it: its path begins with i
abbrev pub below : ℕ → Open → Open
below i o = record { path = i ∷ o.path; ty = o.ty }

-- The open positions of subpatterns, from left to right, with their paths from the pattern around them. The first
-- list has for each subpattern what its open positions are at a type, the second the types of the fields; the first
-- of both belongs to field i, the next to field i + 1. Where one list ends, the rest of the other counts for nothing.
abbrev pub opens_below : List (Ty → List Open) → List Ty → ℕ → List Open
opens_below [] ts i = []
opens_below (p ∷ ps) [] i = []
opens_below (p ∷ ps) (t ∷ ts) i = map (below i) (p t) ++ opens_below ps ts (i + 1)

-- a list of types that may be missing, and the empty list where it is
abbrev pub types_or_none : Option (List Ty) → List Ty
types_or_none ts = unwrap_or ts []

-- The open positions of one layer of a pattern at a type, where its subpatterns are given by what their open
-- positions are at a type. A wildcard or a variable is the one position, with the empty path. A number has none. A
-- constructor has those of its subpatterns at the types of its fields, whatever type is given, and none where no such
-- constructor is declared.
abbrev pub opens_step : List DataDecl → Pat-F (Ty → List Open) → Ty → List Open
opens_step types (P.Wild at) ty = record { path = []; ty = ty } ∷ []
opens_step types (P.Var at x) ty = record { path = []; ty = ty } ∷ []
opens_step types (P.Num at n) ty = []
opens_step types (P.Con at c ps) ty = opens_below ps (types_or_none (fields_of types c)) 0

-- the open positions of a pattern at a type: its wildcards and variables, from left to right, but for those below a
-- constructor that is not declared and those in subpatterns beyond a constructor's last field
abbrev pub opens_of : List DataDecl → Pat → Ty → List Open
opens_of types = fold-Pat (Ty → List Open) (opens_step types)

-- The type of a provenance, by its outermost layer: that of the constructor at its root. A well-typed provenance
-- begins with one; for any other pattern u64 stands in.
abbrev pub root_type : Pat-F Pat → Ty
root_type (P.Wild at) = Int 64
root_type (P.Var at x) = Int 64
root_type (P.Num at n) = Int 64
root_type (P.Con at c ps) = Named c.ty

-- the open positions of a provenance, from left to right, each with its type
abbrev pub open_positions : List DataDecl → Pat → List Open
open_positions types prov = opens_of types prov (root_type (out-Pat prov))

-- the number of the constructor at the root of a pattern, by its outermost layer; None where that is no constructor
abbrev pub con_of_layer : Pat-F Pat → Option ℕ
con_of_layer (P.Wild at) = None
con_of_layer (P.Var at x) = None
con_of_layer (P.Num at n) = None
con_of_layer (P.Con at c ps) = Some c.con

-- the subpattern for field i of a pattern, by its outermost layer; None where that is no constructor, and past its
-- fields
abbrev pub sub_of_layer : Pat-F Pat → ℕ → Option Pat
sub_of_layer (P.Wild at) i = None
sub_of_layer (P.Var at x) i = None
sub_of_layer (P.Num at n) i = None
sub_of_layer (P.Con at c ps) i = slice_get ps i

-- a subpattern and its type, if both are there
abbrev pub pair_of : Option Pat → Option Ty → Option (Pat × Ty)
pair_of None ty = None
pair_of (Some p) None = None
pair_of (Some p) (Some ty) = Some (p, ty)

-- the subpattern for field i of one layer, with the type of that field; None where the layer is no constructor, has
-- no such subpattern, or is of no declared constructor with such a field
abbrev pub sub_in : List DataDecl → Pat-F Pat → ℕ → Option (Pat × Ty)
sub_in types (P.Wild at) i = None
sub_in types (P.Var at x) i = None
sub_in types (P.Num at n) i = None
sub_in types (P.Con at c ps) i = pair_of (slice_get ps i) (slice_get (types_or_none (fields_of types c)) i)

-- the subpattern for field i of a pattern, with the type of that field; None where the pattern is no constructor, has
-- no such subpattern, or is of no declared constructor with such a field
abbrev pub sub_pattern : List DataDecl → Pat → ℕ → Option (Pat × Ty)
sub_pattern types p i = sub_in types (out-Pat p) i

-- the number of the first of some leaves whose provenance matches a value, where the first in the list is leaf n;
-- None where none matches
abbrev pub leaf_from : List Leaf → Value → ℕ → Option ℕ
leaf_from [] v n = None
leaf_from (leaf ∷ leaves) v n = if matches_of leaf.prov v then Some n else leaf_from leaves v (n + 1)

-- the number of a value's leaf in a layout: the first leaf whose provenance matches it, and None where none does
abbrev pub leaf_of : Layout → Value → Option ℕ
leaf_of layout v = leaf_from layout.leaves v 0

-- the layout of type t: layouts stand in the types' order, so it is the one at place t, and None where the list ends
-- before
abbrev pub layout_of : List Layout → ℕ → Option Layout
layout_of layouts t = slice_get layouts t

-- the leaves of a layout that may be missing, and none where it is
abbrev pub leaves_of_layout : Option Layout → List Leaf
leaves_of_layout None = []
leaves_of_layout (Some layout) = layout.leaves

-- One path stands to the left of another: where they first differ, it goes to the lower field. A path does not stand
-- to the left of itself, nor of one that it begins or that begins it.
abbrev pub IsLeftOf : List ℕ → List ℕ → Type 0
IsLeftOf [] q = ⊥
IsLeftOf (i ∷ p) [] = ⊥
IsLeftOf (i ∷ p) (j ∷ q) = (i < j) ⊎ ((i ≡ j) × IsLeftOf p q)

-- Of any two open positions in a list the earlier stands to the left of the later. So none stands there twice, and
-- none below another.
abbrev pub AreFromLeft : List Open → Type 0
AreFromLeft os =
    (j k : ℕ) (a b : Open) → j < k → slice_get os j ≡ Some a → slice_get os k ≡ Some b → IsLeftOf a.path b.path

-- the law: the open positions of any pattern are listed from left to right, whatever the types
abbrev pub OpensAreFromLeft : Type 0
OpensAreFromLeft = (types : List DataDecl) (prov : Pat) → AreFromLeft (open_positions types prov)
