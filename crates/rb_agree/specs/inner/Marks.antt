-- Whether the type of a constructor is marked. A mark is a truth value, on where true, that a list has for each type,
-- by its number.
use Rattle.std.specs.Prelude.{◌≡◌, ℕ, List, Bool, true, false}
use Rattle.rb_core.specs.declared.types.ConRef.{ConRef}
use Rattle.rb_layout.specs.Graphs.{mark_of}

-- the mark of a constructor's type is off or missing
abbrev pub IsUnmarked : List Bool → ConRef → Type 0
IsUnmarked marks c = mark_of marks c.ty ≡ false

-- the type of a constructor is t, and its mark is on
abbrev pub IsMarked : List Bool → ConRef → ℕ → Type 0
IsMarked marks c t = (c.ty ≡ t) × (mark_of marks c.ty ≡ true)
