-- Whether a pattern, as a provenance is one, is of a type: each constructor in it is one of the type at its place, with
-- a pattern for each field. The exported lemmas of `proofs/Provenances` cite this, and crates above.
use Rattle.std.specs.Prelude.{◌==◌, ◌&&◌, Bool, true, false, ℕ, List}
use Rattle.rb_core.specs.declared.types.Ty.{Ty}
use Rattle.rb_core.specs.declared.types.Ty.TheVariants.{Int, Named}
use Rattle.rb_core.specs.declared.pattern.Pat.{Pat}
use Rattle.rb_core.specs.declared.pattern.Pat.TheOpen as P
use Rattle.rb_core.specs.declared.pattern.Pat.TheOpen.{Pat-F}
use Rattle.rb_core.specs.declared.pattern.Pat.TheFolds.{fold-Pat}
use Rattle.rb_core.specs.declared.types.DataDecl.{DataDecl}
use Rattle.rb_core.specs.Values.{are_of, fields_of}
use Rattle.rb_core.specs.Typing.{type_holds}

-- whether a type is the data type with number t
abbrev pub is_named : ℕ → Ty → Bool
is_named t (Int bits) = false
is_named t (Named s) = s == t

-- whether a pattern is of a type, given this of each of its fields: a wildcard or a name is of every type
abbrev pub fits_step : List DataDecl → Pat-F (Ty → Bool) → Ty → Bool
fits_step types (P.Wild at) ty = true
fits_step types (P.Var at x) ty = true
fits_step types (P.Num at n) ty = type_holds ty n
fits_step types (P.Con at c ps) ty = is_named c.ty ty && are_of ps (fields_of types c)

-- whether a pattern is of a type
abbrev pub fits_type : List DataDecl → Pat → Ty → Bool
fits_type types = fold-Pat (Ty → Bool) (fits_step types)
