-- The type at a path of a pattern, field by field. A walk has a subpattern and its type, if both are there, and goes
-- on to a field of it.
use Rattle.std.specs.Prelude.{◌≡◌, ℕ, List, [], ◌∷◌, Option, Some, None}
use Rattle.rb_core.specs.declared.types.Ty.{Ty}
use Rattle.rb_core.specs.declared.types.DataDecl.{DataDecl}
use Rattle.rb_core.specs.declared.pattern.Pat.{Pat, out-Pat}
use Rattle.rb_core.specs.declared.pattern.Pat.TheOpen as P
use Rattle.rb_core.specs.declared.pattern.Pat.TheOpen.{Pat-F}
use Rattle.rb_layout.specs.Positions.{sub_pattern}

-- the pattern has no subpattern for field i, or the field has no type
abbrev pub HasNoSub : List DataDecl → Pat → ℕ → Type 0
HasNoSub types p i = sub_pattern types p i ≡ None

-- the pattern's subpattern for field i is `sub`, and the field has this type
abbrev pub HasSub : List DataDecl → Pat → ℕ → Pat → Ty → Type 0
HasSub types p i sub ty = sub_pattern types p i ≡ Some (sub, ty)

-- the type at which a walk stands, where the pattern there is a wildcard or a variable; None at a number or
-- constructor
abbrev pub open_type : Pat-F Pat → Ty → Option Ty
open_type (P.Wild at) ty = Some ty
open_type (P.Var at x) ty = Some ty
open_type (P.Num at n) ty = None
open_type (P.Con at c ps) ty = None

-- the type at the end of a walk along a path, where the position there is open; None where a field is missing on the
-- way, or the walk is nowhere from the start
abbrev pub type_along : List DataDecl → Option (Pat × Ty) → List ℕ → Option Ty
type_along types None path = None
type_along types (Some (p, ty)) [] = open_type (out-Pat p) ty
type_along types (Some (p, ty)) (i ∷ path) = type_along types (sub_pattern types p i) path
