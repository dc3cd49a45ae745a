use Rattle.std.proofs.Common.{List, length, ap, subst, ◌∙◌}
use Rattle.rb_check.specs.Covering.{IsCoverFault}
use Rattle.rb_check.specs.declared.coverage.CoverFault.{CoverFault}
use Rattle.rb_core.specs.declared.types.DataDecl.{DataDecl}
use Rattle.rb_core.specs.declared.program.Program.{Program}
use Rattle.rb_accept.specs.Accepting.{uncovered, match_due}
use Rattle.rb_accept.proofs.accepting.annotate.Goals as goal

pub returns-clause-refused : goal.returns-clause-refused
returns-clause-refused c =
    let m = c.in-Err-Missing in
    let types = c.as_slice-types.ensures ∙ ap (λ (p : Program). p.types) c.program.ensures.same in
    uncovered c.args.placed.now c.args.typed c.requires.named c.requires.typed m.token m.pattern
    (subst (λ (f : CoverFault). IsCoverFault c.args.typed f) m.field-0-is m.ensures.refused)
    (c.in_ok-refused-in-Err-Missing.ensures ∙ ap (λ (ts : List DataDecl). match_due ts c.args.placed.now (length c.args.bytes.now) m.token m.pattern) types)
