use Rattle.std.proofs.Common.{◌≡◌, ◌++◌, drop, map}
use Rattle.rb_coding.specs.inner.Opening.{steps_of}
use Rattle.rb_coding.specs.inner.Planning.{fields_plan}
use Rattle.rb_coding.proofs.plan.+planning.Given as goal

abbrev pub invariant-plan_fields-loop-i : goal.invariant-plan_fields-loop-i
invariant-plan_fields-loop-i l =
    l.todo.items ≡ l.fn.todo.items ++ fields_plan (map (steps_of l.opening) (drop l.i l.pats)) (drop l.i l.tys) l.path l.i
