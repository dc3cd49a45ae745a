use Rattle.std.proofs.Common.{◌≡◌, ◌++◌, take}
use Rattle.std.specs.List.{flat_map}
use Rattle.rb_lines.specs.Notes.{note_text}
use Rattle.rb_lines.proofs.note.push_notes.Given as goal

abbrev pub invariant-loop-unreached : goal.invariant-loop-unreached
invariant-loop-unreached l = l.text.items ≡ l.initial.text.items ++ flat_map (note_text l.placed l.length) (take l.unreached-index l.notes)
