-- The fields of a position inside a leaf's provenance. A position is what a leaf's provenance, its pattern of
-- values, has somewhere below its root, and the type of the subvalue there. `types` are the declared types; fields
-- are counted from 0.
use Rattle.std.specs.Prelude.{ℕ, List, Option, Some, None, slice_get}
use Rattle.rb_core.specs.declared.pattern.Pat.{Pat, out-Pat}
use Rattle.rb_core.specs.declared.pattern.Pat.TheOpen as P
use Rattle.rb_core.specs.declared.pattern.Pat.TheOpen.{Pat-F}
use Rattle.rb_core.specs.declared.types.DataDecl.{DataDecl}
use Rattle.rb_core.specs.declared.types.Ty.{Ty}
use Rattle.rb_core.specs.Values.{fields_of}
use Rattle.rb_layout.specs.Positions.{types_or_none}
use Rattle.rb_image.specs.declared.inside.Inside.{Inside}

-- a pattern, and the type of the values that it is to match
pub record Position : Type 0 where
  pub pat : Pat
  pub ty : Ty

-- the position that an `Inside` of the code is
abbrev pub position_of : Inside → Position
position_of x = record { pat = x.pat.now; ty = x.ty }

-- the position that an `Inside` of the code is, where there is one
abbrev pub position_or_none : Option Inside → Option Position
position_or_none None = None
position_or_none (Some x) = Some (position_of x)

-- the position of a pattern and a type, none where one of them is missing
abbrev pub with_type : Option Pat → Option Ty → Option Position
with_type None ty = None
with_type (Some pat) None = None
with_type (Some pat) (Some ty) = Some (record { pat = pat; ty = ty })

-- field i of a pattern by its form: none of a wildcard, a name or a number, or of a constructor with no such field
abbrev pub field_in : List DataDecl → ℕ → Pat-F Pat → Option Position
field_in types i (P.Wild at) = None
field_in types i (P.Var at x) = None
field_in types i (P.Num at n) = None
field_in types i (P.Con at c pats) = with_type (slice_get pats i) (slice_get (types_or_none (fields_of types c)) i)

-- field i of a pattern: none where it is no constructor, or its constructor has no such field
abbrev pub field_of : List DataDecl → Pat → ℕ → Option Position
field_of types pat i = field_in types i (out-Pat pat)
