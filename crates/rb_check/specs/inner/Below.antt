-- Variables whose numbers are below a bound.
use Rattle.std.specs.Prelude.{ℕ, ◌<◌, List}
use Rattle.std.specs.List.{AllByRecursion}
use Rattle.rb_core.specs.declared.program.Param.{Param}

-- the variable of each parameter is below a bound
abbrev pub ParamsBelow : ℕ → List Param → Type 0
ParamsBelow above = AllByRecursion (λ p. p.var < above)
