-- Which types a type has as fields, and whether it reaches itself through them. Types are named by their numbers;
-- `types` are their declarations.
use Rattle.std.specs.Prelude.{◌≡◌, ℕ, List, [], ◌∷◌, Option, Some, None, slice_get}
use Rattle.rb_core.specs.declared.types.Con.{Con}
use Rattle.rb_core.specs.declared.types.DataDecl.{DataDecl}
use Rattle.rb_core.specs.declared.types.Ty.TheVariants.{Named}
use Rattle.rb_layout.specs.Cycles.{IsCycle, HasNoCycle}

-- the constructors in a type's declaration; none where it is missing
abbrev pub cons_in : Option DataDecl → List Con
cons_in None = []
cons_in (Some d) = d.cons

-- the constructors of type t; none where there is no such type
abbrev pub cons_of : List DataDecl → ℕ → List Con
cons_of types t = cons_in (slice_get types t)

-- a constructor of type t has a field of type s
pub record HasField (types : List DataDecl) (t s : ℕ) : Type 0 where
  pub con_number : ℕ
  pub con : Con
  pub field : ℕ
  pub is_con : slice_get (cons_of types t) con_number ≡ Some con
  pub is_field : slice_get con.fields field ≡ Some (Named s)

-- a type reaches itself through fields, whatever the layouts of the types on the way
abbrev pub IsRecursive : List DataDecl → ℕ → Type 0
IsRecursive types t = (ts : List ℕ) × IsCycle (HasField types) (t ∷ ts)

-- a type does not reach itself through fields
abbrev pub IsFinite : List DataDecl → ℕ → Type 0
IsFinite types t = HasNoCycle (HasField types) t
