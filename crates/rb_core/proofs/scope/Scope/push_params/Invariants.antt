use Rattle.std.proofs.Common.{◌≡◌, ◌++◌, map, take}
use Rattle.rb_core.specs.Typing.{binder_of}
use Rattle.rb_core.proofs.scope.Scope.push_params.Given as goal

abbrev pub invariant-loop-param : goal.invariant-loop-param
invariant-loop-param l = l.self ≡ l.initial.self ++ map binder_of (take l.param-index l.params)
