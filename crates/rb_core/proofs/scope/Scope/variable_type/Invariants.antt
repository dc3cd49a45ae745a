use Rattle.std.proofs.Common.{◌≡◌, ◌≤◌, take}
use Rattle.rb_core.specs.Typing.{variable_type}
use Rattle.rb_core.proofs.scope.Scope.variable_type.Given as goal

-- no binder further in has the number
abbrev pub invariant-loop-i : goal.invariant-loop-i
invariant-loop-i l = record {
  behind : l.ordered ≤ l.i;
  gives : variable_type l.var (take l.i l.binders) ≡ variable_type l.var l.binders;
}
