use Rattle.rb_core.proofs.TextLemmas.{appended}
use Rattle.rb_lines.specs.Notes.{note_text}
use Rattle.rb_lines.proofs.TextLaws.{flat_map_next}
use Rattle.rb_lines.proofs.note.push_notes.Goals as goal

pub loop-unreached-preserved : goal.loop-unreached-preserved
loop-unreached-preserved c =
    appended _ _ _ _ _ _ c.loop-unreached.invariant c.in_ok-push_note.ensures
    (flat_map_next (note_text c.args.placed.now c.args.length) c.args.notes.now c.loop-unreached.unreached-index _ c.loop-unreached-test.true)
