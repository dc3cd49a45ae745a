-- What is known of the expressions of a program that was accepted. A site is a match of a function: its token, the
-- type of its scrutinee, the value that is matched, and its patterns. A plan has a program with its layouts, and says
-- how many switches each match may cost; it pays for a match where that is at least the bound of the match. An
-- expression is wanted at a type, or at none; `locals` are the variables that are bound, each with its type and its
-- slots.
use Rattle.std.specs.Prelude.{◌≡◌, ℕ, ◌≤◌, ◌⊎◌, true, List, [], ◌∷◌, Option, Some, Ok, slice_get}
use Rattle.rb_core.specs.declared.types.Ty.{Ty}
use Rattle.rb_core.specs.declared.site.Site.{Site}
use Rattle.rb_core.specs.declared.expression.Expr.{Expr}
use Rattle.rb_core.specs.Coverage.{sites}
use Rattle.rb_core.specs.Matching.{IsExhaustive}
use Rattle.rb_core.specs.Typing.{type_of}
use Rattle.rb_core.specs.WellNumbered.{expression_is_numbered}
use Rattle.rb_fragment.specs.declared.held.Local.{Local}
use Rattle.rb_fragment.specs.Plan.{Plan}
use Rattle.rb_fragment.specs.Holding.{AreGiven, scope_of}
use Rattle.rb_fetch.specs.Fetching.{PlanIsSound}
use Rattle.rb_match.specs.Bounding.{bound_of}

-- a match of function f is exhaustive, and the plan pays for its switches
pub record SiteIsReady (plan : Plan) (f : ℕ) (s : Site) : Type 0 where
  pub exhaustive : IsExhaustive plan.program.types s.scrutinee s.patterns
  pub paid : bound_of plan.program.types plan.layouts s.scrutinee s.patterns ≤ plan.bound f s.at

-- match s is one of the list
abbrev pub IsAmong : Site → List Site → Type 0
IsAmong s [] = ⊥
IsAmong s (x ∷ xs) = (x ≡ s) ⊎ IsAmong s xs

-- each match of the list, of function f, is exhaustive, and the plan pays for its switches
abbrev pub SitesAreReady : Plan → ℕ → List Site → Type 0
SitesAreReady plan f ss = (s : Site) → IsAmong s ss → SiteIsReady plan f s

-- An expression of function f has type t where type `wanted` is wanted of it, or none, its numbers name something,
-- its matches are exhaustive and paid for, and its variables have slots below n.
pub record ExprIsReady (plan : Plan) (f : ℕ) (e : Expr) (wanted : Option Ty) (locals : List Local) (n : ℕ)
    (t : Ty) : Type 0 where
  pub sound : PlanIsSound plan
  pub typed : type_of plan.program.types plan.program.funs e wanted (scope_of locals) ≡ Ok t
  pub within : List ℕ
  pub numbered : expression_is_numbered plan.program.types plan.program.funs e within ≡ true
  pub given : AreGiven plan n locals
  pub ready_sites : SitesAreReady plan f (sites plan.program.types plan.program.funs e (scope_of locals))

-- each expression of the list is ready where the type in the same place is wanted of it
abbrev pub AreReady : Plan → ℕ → List Expr → List Ty → List Local → ℕ → Type 0
AreReady plan f es ts locals n =
    (i : ℕ) (e : Expr) → slice_get es i ≡ Some e
    → (t : Ty) × (slice_get ts i ≡ Some t) × ExprIsReady plan f e (Some t) locals n t
