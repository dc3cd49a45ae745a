-- The steps that a provenance comes to, given the words at its open positions. The last step is done first. A
-- provenance is the pattern that a leaf of a layout has for its values; an open position is a wildcard or a variable
-- in it, and its path the list of field numbers that leads there, outermost first. To visit words is to find their
-- value; to join is to build a construction of the last values found.
use Rattle.std.specs.Prelude.{ℕ, ◌+◌, List, [], ◌∷◌, ◌++◌, length}
use Rattle.rb_core.specs.declared.types.Ty.{Ty}
use Rattle.rb_core.specs.declared.types.DataDecl.{DataDecl}
use Rattle.rb_core.specs.declared.pattern.Pat.{Pat}
use Rattle.rb_core.specs.declared.pattern.Pat.TheOpen as P
use Rattle.rb_core.specs.declared.pattern.Pat.TheOpen.{Pat-F}
use Rattle.rb_core.specs.declared.pattern.Pat.TheFolds.{fold-Pat}
use Rattle.rb_core.specs.Values.{fields_of}
use Rattle.rb_layout.specs.Positions.{types_or_none}
use Rattle.rb_coding.specs.declared.todo.Step.{Step}
use Rattle.rb_coding.specs.declared.todo.Step.TheVariants.{Visit, Join}

-- the steps to which a provenance comes, once its type and its path are given
abbrev pub Planned : Type 0
Planned = Ty → List ℕ → List Step

-- the steps of the fields from field i on, below a path, those of the last field first, since
-- the last step is done first
abbrev pub fields_plan : List Planned → List Ty → List ℕ → ℕ → List Step
fields_plan [] ts path i = []
fields_plan (f ∷ fs) [] path i = []
fields_plan (f ∷ fs) (t ∷ ts) path i = fields_plan fs ts path (i + 1) ++ f t (path ++ i ∷ [])

-- one level of `plan_of`: an open position and a number are visited, and a constructor joins its fields
abbrev pub plan_step : List DataDecl → (List ℕ → List ℕ) → Pat-F Planned → Planned
plan_step types subs (P.Wild at) ty path = Visit ty (subs path) ∷ []
plan_step types subs (P.Var at x) ty path = Visit ty (subs path) ∷ []
plan_step types subs (P.Num at n) ty path = Visit ty (n ∷ []) ∷ []
plan_step types subs (P.Con at c fs) ty path =
    Join c.con (length fs) ∷ fields_plan fs (types_or_none (fields_of types c)) path 0

-- the steps of a provenance, where `subs` has the words at a path: an open position is visited with its words, a
-- number with itself, and a constructor joins its fields
abbrev pub plan_of : List DataDecl → (List ℕ → List ℕ) → Pat → Planned
plan_of types subs = fold-Pat Planned (plan_step types subs)
