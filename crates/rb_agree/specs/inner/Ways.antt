-- What a search for a cycle has found: which numbers are marked, and the ways to them. A way to a number is the list
-- of numbers from the first of the search on, each of which leads to the next. A mark is a truth value, on where
-- true, that a list has for each number of the graph.
use Rattle.std.specs.Prelude.{ℕ, List, [], ◌∷◌, ◌++◌, Bool, true, false, Option, Some, None, slice_get, slice_set}
use Rattle.rb_agree.specs.declared.cycles.Way.{Way}

-- what a search has found: for each number a mark, whether it is found, and the ways to the found ones in the order
-- in which they were
pub record State : Type 0 where
  pub marks : List Bool
  pub found : List Way

-- what a search has found, by its marks and the ways to the found numbers
abbrev pub state : List Bool → List Way → State
state marks found = record { marks = marks; found = found }

-- a search has number `next` found, too, at the end of `way`, if its mark is off; nothing changes where it is on or
-- missing
abbrev pub added_if : Option Bool → List ℕ → ℕ → State → State
added_if None way next s = s
added_if (Some true) way next s = s
added_if (Some false) way next s = record {
  marks = slice_set s.marks next true;
  found = s.found ++ record { number = next; way = way ++ next ∷ [] } ∷ [];
}

-- a search has number `next` found, too, at the end of `way`, if it was not yet and has a mark, as those of the graph
-- have
abbrev pub with_found : List ℕ → ℕ → State → State
with_found way next s = added_if (slice_get s.marks next) way next s

-- a search has each of these numbers found, too, at the end of `way`, one after the other, if it was not yet and has a
-- mark; one without a mark is passed over
abbrev pub with_all_found : List ℕ → List ℕ → State → State
with_all_found way [] s = s
with_all_found way (next ∷ edges) s = with_all_found way edges (with_found way next s)
