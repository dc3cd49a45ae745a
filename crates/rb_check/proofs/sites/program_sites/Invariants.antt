use Rattle.std.proofs.Common.{◌≡◌, take}
use Rattle.std.specs.List.{flat_map}
use Rattle.rb_core.specs.Coverage.{function_sites}
use Rattle.rb_check.proofs.sites.program_sites.Given as goal

abbrev pub invariant-loop-fun : goal.invariant-loop-fun
invariant-loop-fun l = l.found ≡ flat_map (function_sites l.program.types l.program.funs) (take l.fun-index l.program.funs)
