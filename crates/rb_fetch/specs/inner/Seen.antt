-- What is known of a value on a way to its leaf: positions that need no look now, and constructors that stand in it.
-- A position is a path, field numbers from the root. A leaf is one of the forms in which a layout stores the values
-- of a data type. A look is code that finds the leaf of the part at a position; none is needed where one was on this
-- way, nor where a constructor without fields is known to stand. `looked` are these positions, and `known` these
-- constructors.
use Rattle.std.specs.Prelude.{ℕ, List, ◌∷◌, ◌++◌, take}
use Rattle.rb_core.specs.declared.types.DataDecl.{DataDecl}
use Rattle.rb_fetch.specs.declared.heads.Place.{Place}
use Rattle.rb_fetch.specs.declared.known.Seen.{Seen}
use Rattle.rb_fetch.specs.inner.Heads.{bare_paths, shown_heads}

-- what is known once a look was at the path and these constructors stand in the value, too: those without fields need
-- no look of their own
abbrev pub seen_more : List DataDecl → Seen → List ℕ → List Place → Seen
seen_more types seen path ps =
    record { looked = seen.looked ++ path ∷ bare_paths types (shown_heads ps); known = seen.known ++ ps }

-- what was known before more was learnt: the first n of the positions, and the first m of the constructors; all of
-- them where there are fewer
abbrev pub seen_before : ℕ → ℕ → Seen → Seen
seen_before n m seen = record { looked = take n seen.looked; known = take m seen.known }
