use Rattle.std.proofs.Common.{List, length, ap, ◌∙◌}
use Rattle.rb_core.specs.declared.types.DataDecl.{DataDecl}
use Rattle.rb_accept.specs.Accepting.{mistyped, type_due}
use Rattle.rb_accept.proofs.accepting.ascribe.Goals as goal

pub returns-in_ok-refused-in-Err-clause-refused : goal.returns-in_ok-refused-in-Err-clause-refused
returns-in_ok-refused-in-Err-clause-refused c =
    let shown = c.in_ok-refused-in-Err.ensures in
    mistyped c.args.placed.now c.args.program c.requires.named c.in-Err.fault shown.other c.in-Err.ensures.refused
    (shown.due ∙ ap (λ (ts : List DataDecl). type_due ts c.args.placed.now (length c.args.bytes.now) c.in-Err.fault) c.as_slice-types.ensures)
