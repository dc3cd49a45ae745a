-- Places at which patterns look, and what a look costs. A pattern looks at a place where it has a number or a
-- constructor there. A leaf is one of the forms in which a layout stores the values of a data type. It takes a subvalue
-- apart where it has the subvalue's fields in place of its words: to have the subvalue's words, code rebuilds (mends)
-- them. `types` are the declarations of the program's data types, `layouts` their layouts, both by the types' numbers.
use Rattle.std.specs.Prelude.{ℕ, ◌+◌, List, [], ◌∷◌, ◌++◌, map, Bool, if◌then◌else◌}
use Rattle.std.specs.List.{list_all}
use Rattle.rb_core.specs.declared.types.Ty.{Ty}
use Rattle.rb_core.specs.declared.types.Ty.TheVariants.{Int, Named}
use Rattle.rb_core.specs.declared.types.DataDecl.{DataDecl}
use Rattle.rb_core.specs.declared.pattern.Pat.{Pat}
use Rattle.rb_core.specs.declared.pattern.Pat.TheOpen as P
use Rattle.rb_core.specs.declared.pattern.Pat.TheOpen.{Pat-F}
use Rattle.rb_core.specs.declared.pattern.Pat.TheFolds.{fold-Pat}
use Rattle.rb_core.specs.Typing.{field_types}
use Rattle.rb_layout.specs.declared.layout.Layout.{Layout}
use Rattle.rb_layout.specs.Positions.{layout_of, leaves_of_layout}
use Rattle.rb_rel.specs.Switches.{depth_of, is_shallow, mend_of}

-- a position in a value, as the numbers of the fields that lead to it, and the type of what stands there
pub record TypedPosition : Type 0 where
  pub path : List ℕ
  pub ty : Ty

-- a place in field i, seen from above the field
abbrev pub place_below : ℕ → TypedPosition → TypedPosition
place_below i p = record { path = i ∷ p.path; ty = p.ty }

-- the places of subpatterns, the first of which stands in field i: each is taken at the type of its field, and its
-- places are seen from above the fields; where one of the lists ends, so do the places
abbrev pub places_below : List (Ty → List TypedPosition) → List Ty → ℕ → List TypedPosition
places_below [] ts i = []
places_below (p ∷ ps) [] i = []
places_below (p ∷ ps) (t ∷ ts) i = map (place_below i) (p t) ++ places_below ps ts (i + 1)

-- the places of a pattern at a type, from those of its subpatterns: its own first, if it is a number or a
-- constructor, and none for a wildcard or a variable
abbrev pub places_step : List DataDecl → Pat-F (Ty → List TypedPosition) → Ty → List TypedPosition
places_step types (P.Wild at) t = []
places_step types (P.Var at x) t = []
places_step types (P.Num at n) t = record { path = []; ty = t } ∷ []
places_step types (P.Con at c ps) t = record { path = []; ty = t } ∷ places_below ps (field_types types c) 0

-- the places at which a pattern, taken at a type, has a number or a constructor, its own first
abbrev pub places_in : List DataDecl → Pat → Ty → List TypedPosition
places_in types = fold-Pat (Ty → List TypedPosition) (places_step types)

-- what one look at each of some places costs together, where `look` says what it costs at a type; 0 for no places
abbrev pub looks_with : (Ty → ℕ) → List TypedPosition → ℕ
looks_with look [] = 0
looks_with look (p ∷ ps) = look p.ty + looks_with look ps

-- whether no leaf of data type t takes a subvalue apart, that is, tells the subvalue's constructor and has its fields
-- in place of its words; true of a type without leaves
abbrev pub takes_none_apart : List Layout → ℕ → Bool
takes_none_apart layouts t = list_all is_shallow (leaves_of_layout (layout_of layouts t))

-- the switches that rebuild what the leaf of a value of this type has taken apart, at most; none for an integer
abbrev pub rebuilding_bound : List Layout → Ty → ℕ
rebuilding_bound layouts (Int bits) = 0
rebuilding_bound layouts (Named t) = if takes_none_apart layouts t then 0 else mend_of layouts t

-- the switches of a test of a value of this type: those that find the leaf or the number, and those that rebuild what
-- is saved of it
abbrev pub choosing_look : List Layout → Ty → ℕ
choosing_look layouts t = depth_of layouts t + rebuilding_bound layouts t
