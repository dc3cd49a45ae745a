-- Constructors of so few fields that 32 bits number them.
use Rattle.std.specs.Prelude.{ℕ, ◌≤◌, List, length, slice_get}
use Rattle.rb_core.specs.declared.types.DataDecl.{DataDecl}
use Rattle.rb_core.specs.Values.{fields_in}
use Rattle.rb_layout.specs.Positions.{types_or_none}

-- a list has at most 2^32 items, so that 32 bits number them
abbrev pub AreFew : {A : Type 0} → List A → Type 0
AreFew fields = length fields ≤ 4294967296

-- each constructor of each type has at most 2^32 fields
abbrev pub HaveFewFields : List DataDecl → Type 0
HaveFewFields types = (t k : ℕ) → AreFew (types_or_none (fields_in (slice_get types t) k))
