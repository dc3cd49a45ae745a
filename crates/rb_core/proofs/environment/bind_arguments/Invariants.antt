use Rattle.std.proofs.Common.{◌≡◌, drop, ◌++◌}
use Rattle.rb_core.specs.Meaning.{argument_bindings}
use Rattle.rb_core.proofs.environment.bind_arguments.Given as goal

abbrev pub invariant-loop-i : goal.invariant-loop-i
invariant-loop-i l = l.values ++ argument_bindings (drop l.i l.params) (drop l.i l.args) ≡ argument_bindings l.params l.args
