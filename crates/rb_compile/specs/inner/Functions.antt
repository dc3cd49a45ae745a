-- What is known of functions, and of the code of the first of them. A plan has a program with its layouts, and says
-- how many switches each match may cost. A match is ready where it is exhaustive and costs no more than that.
use Rattle.std.specs.Prelude.{◌≡◌, ℕ, ◌^◌, ◌<◌, ◌≤◌, true, List, map, length, Some, Ok, slice_get}
use Rattle.rb_core.specs.declared.program.Fun.{Fun}
use Rattle.rb_core.specs.Coverage.{function_sites}
use Rattle.rb_core.specs.Typing.{binder_of, type_of}
use Rattle.rb_core.specs.WellNumbered.{expression_is_numbered}
use Rattle.rb_target.specs.declared.code.CodeFun.{CodeFun}
use Rattle.rb_target.specs.Sheet.{most_param_words}
use Rattle.rb_target.specs.Validity.{IsLower}
use Rattle.rb_fragment.specs.Plan.{Plan}
use Rattle.rb_fragment.specs.Functions.{Compiles, param_words}
use Rattle.rb_fetch.specs.Fetching.{PlanIsSound}
use Rattle.rb_compile.specs.inner.Ready.{SitesAreReady}

-- f, as function number g, is as in a program that was accepted: the plan's program is typed and its layouts agree,
-- f's body has the type of its result and is well numbered within some variables, its matches are ready, its
-- parameters have at most `most_param_words` words together, and its name is spelled as a function's
pub record FunIsReady (plan : Plan) (g : ℕ) (f : Fun) : Type 0 where
  pub sound : PlanIsSound plan
  pub typed : type_of plan.program.types plan.program.funs f.body (Some f.result) (map binder_of f.params) ≡ Ok f.result
  pub within : List ℕ
  pub numbered : expression_is_numbered plan.program.types plan.program.funs f.body within ≡ true
  pub ready_sites : SitesAreReady plan g (function_sites plan.program.types plan.program.funs f)
  pub few : param_words plan f ≤ most_param_words
  pub named : IsLower f.name

-- each function of the program is ready, as in one that was accepted, and there are fewer than 2^64
pub record ProgramIsReady (plan : Plan) : Type 0 where
  pub few_funs : length plan.program.funs < 2 ^ 64
  pub each_fun : (g : ℕ) (f : Fun) → slice_get plan.program.funs g ≡ Some f → FunIsReady plan g f

-- the first i functions of the program have their code, each in its place
pub record FirstCompile (plan : Plan) (i : ℕ) (funs : List CodeFun) : Type 0 where
  pub count : length funs ≡ i
  pub each : (g : ℕ) (f : Fun) → g < i → slice_get plan.program.funs g ≡ Some f
      → (q : CodeFun) × (slice_get funs g ≡ Some q) × Compiles plan g f q
