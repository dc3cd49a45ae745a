-- For each type those that it has as fields, and what a search in such a graph has found. The graph lists for each
-- number, that of a type, those to which it leads.
use Rattle.std.specs.Prelude.{ℕ, List, [], ◌∷◌, ◌++◌, map, Bool, true, false, Option, Some, None, slice_get, slice_set}
use Rattle.std.specs.List.{flat_map}
use Rattle.rb_core.specs.declared.types.Ty.{Ty}
use Rattle.rb_core.specs.declared.types.Ty.TheVariants.{Int, Named}
use Rattle.rb_core.specs.declared.types.Con.{Con}
use Rattle.rb_core.specs.declared.types.DataDecl.{DataDecl}
use Rattle.rb_layout.specs.Cycles.{IsCycle}

-- the data type that the type of a field is, as a list; empty for an integer
abbrev pub named_types : Ty → List ℕ
named_types (Int bits) = []
named_types (Named s) = s ∷ []

-- the data types of a constructor's fields, in order, once for each such field
abbrev pub con_types : Con → List ℕ
con_types c = flat_map named_types c.fields

-- the data types of the fields of a type's constructors, in order, once for each such field
abbrev pub field_types : DataDecl → List ℕ
field_types d = flat_map con_types d.cons

-- the graph of fields: for each type the data types of its constructors' fields
abbrev pub field_graph : List DataDecl → List (List ℕ)
field_graph types = map field_types types

-- a cycle of relation R goes through number t
abbrev pub HasCycle : (ℕ → ℕ → Type 0) → ℕ → Type 0
HasCycle R t = (ts : List ℕ) × IsCycle R (t ∷ ts)

-- what a search has found: for each number a mark, whether it is found, and the found numbers in the order in which
-- they were
pub record State : Type 0 where
  pub marks : List Bool
  pub found : List ℕ

-- what a search has found, by its marks and the found numbers
abbrev pub state : List Bool → List ℕ → State
state marks found = record { marks = marks; found = found }

-- a search has number `next` found, too, if its mark is off; nothing changes where the mark is on or missing
abbrev pub added_if : Option Bool → ℕ → State → State
added_if None next s = s
added_if (Some true) next s = s
added_if (Some false) next s = record { marks = slice_set s.marks next true; found = s.found ++ next ∷ [] }

-- a search has number `next` found, too, if it was not yet; nothing changes where the graph has no such number
abbrev pub with_found : ℕ → State → State
with_found next s = added_if (slice_get s.marks next) next s

-- a search has each of these numbers found, too, one after the other, if it was not yet
abbrev pub with_all_found : List ℕ → State → State
with_all_found [] s = s
with_all_found (next ∷ edges) s = with_all_found edges (with_found next s)
