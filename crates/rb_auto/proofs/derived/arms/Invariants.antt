use Rattle.std.proofs.Common.{◌≡◌, ◌++◌, drop}
use Rattle.rb_auto.specs.Derived.{arms_from}
use Rattle.rb_auto.proofs.derived.arms.Given as goal

abbrev pub invariant-loop-number : goal.invariant-loop-number
invariant-loop-number l =
    l.arms ++ arms_from l.program l.rooms l.ty l.form l.number (drop l.number l.cons) ≡ arms_from l.program l.rooms l.ty l.form 0 l.cons
