use Rattle.std.proofs.Common.{◌≡◌, map, drop}
use Rattle.rb_core.specs.TypedPrograms.{first_fault, function_fault}
use Rattle.rb_check.proofs.program.check_functions.Given as goal

abbrev pub invariant-loop-fun : goal.invariant-loop-fun
invariant-loop-fun l =
    first_fault (map (function_fault l.program.types l.program.funs) (drop l.fun-index l.funs))
    ≡ first_fault (map (function_fault l.program.types l.program.funs) l.funs)
