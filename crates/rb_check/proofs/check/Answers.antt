use Rattle.rb_core.specs.TypedPrograms.{HaveValues, IsFirstEmpty}
use Rattle.rb_check.proofs.CheckLemmas.{at_Some, at_None, not-empty, rules-typed, rules-refused}
use Rattle.rb_check.proofs.check.Goals as goal

pub returns-in-Some-clause-complete : goal.returns-in-Some-clause-complete
returns-in-Some-clause-complete c = λ typed.
    not-empty c.args.program.now.types c.in-Some.t
    (rw c.as_slice.ensures at (at_Some (HaveValues c.as_slice.result.now) (IsFirstEmpty c.as_slice.result.now) _ _ c.in-Some.is c.in_ok-t.ensures))
    typed.values

pub returns-clause-typed : goal.returns-clause-typed
returns-clause-typed c =
    rules-typed c.args.program.now c.requires
    (rw c.as_slice.ensures at (at_None (HaveValues c.as_slice.result.now) (IsFirstEmpty c.as_slice.result.now) _ c.in_default.is c.in_ok-t.ensures))
    _ c.check_rules.ensures

pub returns-clause-refused : goal.returns-clause-refused
returns-clause-refused c =
    rules-refused c.args.program.now c.requires
    (rw c.as_slice.ensures at (at_None (HaveValues c.as_slice.result.now) (IsFirstEmpty c.as_slice.result.now) _ c.in_default.is c.in_ok-t.ensures))
    _ c.check_rules.ensures
