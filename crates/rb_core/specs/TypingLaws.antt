-- Laws of typing, over all programs and expressions, whether or not the whole program is typed.
use Rattle.std.specs.Prelude.{◌≡◌, ℕ, ◌^◌, ◌<◌, ◌≤◌, List, Option, Some, Ok}
use Rattle.rb_core.specs.declared.types.Ty.{Ty}
use Rattle.rb_core.specs.declared.types.DataDecl.{DataDecl}
use Rattle.rb_core.specs.declared.program.Fun.{Fun}
use Rattle.rb_core.specs.declared.typing.Binder.{Binder}
use Rattle.rb_core.specs.declared.pattern.Pat.{Pat}
use Rattle.rb_core.specs.declared.expression.Expr.{Expr}
use Rattle.rb_core.specs.Typing.{type_of, pattern_binders, least_width}
use Rattle.rb_core.specs.Inference.{inferred_type, binders}

-- where a type is wanted and typing finds no fault, the type that it gives is the wanted one
abbrev pub WantedIsFound : Type 0
WantedIsFound = (types : List DataDecl) (funs : List Fun) (e : Expr) (wanted : Ty) (scope : List Binder) (t : Ty)
    → type_of types funs e (Some wanted) scope ≡ Ok t → wanted ≡ t

-- where typing finds no fault in an expression, the type that the source meaning reads off the expression is
-- the one that typing gives it
abbrev pub InferredIsFound : Type 0
InferredIsFound =
    (types : List DataDecl) (funs : List Fun) (e : Expr) (wanted : Option Ty) (scope : List Binder) (t : Ty)
    → type_of types funs e wanted scope ≡ Ok t → inferred_type types funs e wanted scope ≡ t

-- where typing finds no fault in a pattern, the binders that the source meaning reads off the pattern are
-- those that typing gives, in their order
abbrev pub BindersAreFound : Type 0
BindersAreFound = (types : List DataDecl) (p : Pat) (t : Ty) (bs : List Binder) → pattern_binders types p t ≡ Ok bs
    → bs ≡ binders types p t

-- `width` is the least number of bits, from 1 on, that holds the number n
pub record IsLeastWidth (n width : ℕ) : Type 0 where
  pub positive : 1 ≤ width
  pub holds : n < 2 ^ width
  pub least : (w : ℕ) → 1 ≤ w → n < 2 ^ w → width ≤ w

-- the width that typing finds for a number below 2^64 is the least that holds the number
abbrev pub WidthIsLeast : Type 0
WidthIsLeast = (n : ℕ) → n < 2 ^ 64 → IsLeastWidth n (least_width n)
