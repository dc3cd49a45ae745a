use Rattle.std.proofs.Common.{List, ℕ, length, ap, ◌∙◌}
use Rattle.rb_accept.specs.Accepting.{accepted}
use Rattle.rb_accept.proofs.Accepted.{is_accepted}
use Rattle.rb_core.specs.declared.program.Note.{Note}
use Rattle.rb_lines.specs.Answer.{printed}
use Rattle.rb_lines.specs.Notes.{check_text}
use Rattle.rb_syntax.specs.declared.token.Placed.{Placed}
use Rattle.ribbit_tool.proofs.check.check_accepted.Goals as goal

pub returns : goal.returns
returns c =
    let a = c.args.accepted.now in
    let size = length c.args.bytes.now in
    let notes = c.notes-notes.ensures ∙ ap (λ x. x.notes) c.covered.ensures.same in
    accepted a.agreed.covered.program (is_accepted c.args.bytes.now a c.requires) (record {
      notes = a.agreed.covered.notes;
      covered = c.requires.covered;
      shown = ap (λ (text : List ℕ). printed text 0) (c.in_ok-text.ensures ∙ ap (λ (ps : List Placed). check_text ps size c.notes-notes.result.now) c.as_slice-placed.ensures.value
          ∙ ap (λ (ns : List Note). check_text a.placed.items size ns) notes);
    })
