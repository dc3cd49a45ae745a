use Rattle.std.proofs.Common.{List, Option, ap, subst, ◌∙◌}
use Rattle.rb_auto.specs.declared.fault.AutoFault.{AutoFault}
use Rattle.rb_core.specs.declared.program.Program.{Program}
use Rattle.rb_core.specs.declared.types.DataDecl.{DataDecl}
use Rattle.rb_accept.specs.Accepting.{IsNamedWith, completed_as, underived, derived_due}
use Rattle.rb_accept.proofs.accepting.have_derived.Goals as goal

pub returns-in_ok-refused-in-Some-clause-refused : goal.returns-in_ok-refused-in-Some-clause-refused
returns-in_ok-refused-in-Some-clause-refused c =
    let p = c.args.covered.now.program in
    let fault = c.in-Some.fault in
    let types = c.as_slice-types.ensures ∙ ap (λ (q : Program). q.types) c.program.ensures.same in
    underived c.args.placed.now p fault
    (subst (λ (o : Option AutoFault). IsNamedWith c.args.bytes.now c.args.placed.now (completed_as p o)) c.in-Some.is c.requires.named)
    c.requires.typed c.requires.covered.exhaustive
    (c.in_ok-refused-in-Some.ensures ∙ ap (λ (ts : List DataDecl). derived_due ts fault) types)
