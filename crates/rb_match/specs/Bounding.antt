-- How many switches a match may cost. A match looks at a place where it tests what constructor or number stands
-- there. A leaf is one of the forms in which a layout stores the values of a data type; its provenance is the pattern
-- of the values that it stores. It takes a subvalue apart where it has the subvalue's fields in place of its words:
-- to have the subvalue's words, code rebuilds (mends) them. `types` are the declarations of the program's data types,
-- `layouts` their layouts, both by the types' numbers, and `pats` the patterns of a match's clauses.
use Rattle.std.specs.Prelude.{◌≡◌, ◌≤◌, Some, slice_get, ℕ, ◌+◌, ◌*◌, List, [], ◌∷◌, filter, length, Bool, ◌&&◌, not, nat_lt, if◌then◌else◌}
use Rattle.std.specs.List.{flat_map}
use Rattle.rb_core.specs.declared.types.Ty.{Ty}
use Rattle.rb_core.specs.declared.types.Ty.TheVariants.{Int, Named}
use Rattle.rb_core.specs.declared.types.DataDecl.{DataDecl}
use Rattle.rb_core.specs.declared.pattern.Pat.{Pat}
use Rattle.rb_core.specs.Typing.{same_type}
use Rattle.rb_layout.specs.declared.layout.Layout.{Layout}
use Rattle.rb_layout.specs.Flattening.{same_path}
use Rattle.rb_rel.specs.Switches.{depth_of, look_of, mend_of}
use Rattle.rb_decide.specs.Limits.{largest_tree}
use Rattle.rb_decide.specs.Trees.{match_tree, size}
use Rattle.rb_facts.specs.Looks.{TypedPosition, places_in, looks_with, takes_none_apart, choosing_look}

-- whether two places have the same position and the same type
abbrev pub same_place : TypedPosition → TypedPosition → Bool
same_place a b = same_path a.path b.path && same_type a.ty b.ty

-- the places of a list, each of them once, in the order in which they are first met
abbrev pub distinct_places : List TypedPosition → List TypedPosition
distinct_places [] = []
distinct_places (p ∷ ps) = p ∷ filter (λ other. not (same_place p other)) (distinct_places ps)

-- the places at which some pattern of a match on values of type t has a number or a constructor, each of them once
abbrev pub places_of_patterns : List DataDecl → Ty → List Pat → List TypedPosition
places_of_patterns types t pats = distinct_places (flat_map (λ pat. places_in types pat t) pats)

-- how often places are looked at by a match on values of type t: once, or once a clause where its decision tree has
-- more nodes than `largest_tree` and is not made
abbrev pub rounds : List DataDecl → Ty → List Pat → ℕ
rounds types t pats = if nat_lt largest_tree (size (match_tree types t pats)) then length pats else 1

-- the switches that a match may spend on one look at each of some places, choosing and binding together
abbrev pub looks_of : List Layout → List TypedPosition → ℕ
looks_of layouts = looks_with (look_of layouts)

-- the switches that a match on a value of type t with these patterns may cost
abbrev pub bound_of : List DataDecl → List Layout → Ty → List Pat → ℕ
bound_of types layouts t pats = rounds types t pats * looks_of layouts (places_of_patterns types t pats)

-- Choosing and binding ---------------------------------------------------------------------------

-- the switches that choose the clause of a match on a value of type t, at most
abbrev pub choosing_bound : List DataDecl → List Layout → Ty → List Pat → ℕ
choosing_bound types layouts t pats =
    rounds types t pats * looks_with (choosing_look layouts) (places_of_patterns types t pats)

-- the switches that bind what stands below a constructor of this type: those that find the leaf and rebuild what it
-- took apart; none where no leaf of the type takes a subvalue apart, and none at a number
abbrev pub binding_look : List Layout → Ty → ℕ
binding_look layouts (Int bits) = 0
binding_look layouts (Named t) = if takes_none_apart layouts t then 0
    else depth_of layouts (Named t) + mend_of layouts t

-- the switches that bind the variables of a pattern at a value of type t, at most
abbrev pub binding_bound : List DataDecl → List Layout → Ty → Pat → ℕ
binding_bound types layouts t pat = looks_with (binding_look layouts) (places_in types pat t)

-- choosing the clause of a match and binding the variables of any one of its patterns cost together at most the bound
-- of the match
abbrev pub BoundIsShared : Type 0
BoundIsShared =
    (types : List DataDecl) (layouts : List Layout) (t : Ty) (pats : List Pat) (k : ℕ) (pat : Pat)
    → slice_get pats k ≡ Some pat
    → choosing_bound types layouts t pats + binding_bound types layouts t pat ≤ bound_of types layouts t pats
