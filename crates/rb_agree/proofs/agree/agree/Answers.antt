use Rattle.std.proofs.Common.{sym, subst, ◌∙◌}
use Rattle.rb_core.specs.declared.program.Program.{Program}
use Rattle.rb_core.specs.TypedPrograms.{IsTyped}
use Rattle.rb_agree.proofs.Agreeing.{all-agreed, have-all, in-order-as, refused-later, refused-shape, shapes-all}
use Rattle.rb_agree.proofs.agree.agree.Goals as goal

pub flatten-requires : goal.flatten-requires
flatten-requires c = have-all c.program-program.result.now c.args.covered.now.program c.in_ok-refused.field-0 c.program-program.ensures.same c.in_default.is c.in_ok-refused.ensures

pub layouts_fault-requires-clause-typed : goal.layouts_fault-requires-clause-typed
layouts_fault-requires-clause-typed c = subst (λ (p : Program). IsTyped p) (sym c.program-program.ensures.same) c.program-program.ensures.typed

pub layouts_fault-requires-clause-shapes : goal.layouts_fault-requires-clause-shapes
layouts_fault-requires-clause-shapes c = shapes-all c.program-program.result.now c.in_ok-refused.field-0 c.in_default.is c.in_ok-refused.ensures

pub layouts_fault-requires-clause-order : goal.layouts_fault-requires-clause-order
layouts_fault-requires-clause-order c =
    in-order-as c.program-program.result.now c.args.covered.now.program c.as_slice.result.now c.in_ok-layouts.layouts c.program-program.ensures.same c.as_slice.ensures c.in_ok-layouts.ensures.each

pub returns-in-Some-clause-refused : goal.returns-in-Some-clause-refused
returns-in-Some-clause-refused c =
    refused-shape c.program-program.result.now c.args.covered.now.program c.in_ok-refused.field-0 c.in-Some.refused c.program-program.ensures.same c.in-Some.is c.in_ok-refused.ensures

pub returns-in-Some-2-clause-refused : goal.returns-in-Some-2-clause-refused
returns-in-Some-2-clause-refused c =
    refused-later c.program-program.result.now c.args.covered.now.program c.as_slice.result.now c.in_ok-refused.field-0 c.in_ok-refused-2.field-0 c.in-Some-2.refused c.program-program.ensures.same
    (c.as_slice.ensures ∙ c.in_ok-layouts.ensures.flat) c.in_default.is c.in-Some-2.is c.in_ok-refused.ensures c.in_ok-refused-2.ensures

pub returns-clause-agreed : goal.returns-clause-agreed
returns-clause-agreed c =
    all-agreed c.program-program.result.now c.args.covered.now.program c.as_slice.result.now c.in_ok-layouts.layouts c.in_ok-refused.field-0 c.in_ok-refused-2.field-0 c.program-program.ensures.same
    (c.as_slice.ensures ∙ c.in_ok-layouts.ensures.flat) c.in_ok-layouts.ensures.flat c.in_default.is c.in_default-2.is c.in_ok-refused.ensures c.in_ok-refused-2.ensures
