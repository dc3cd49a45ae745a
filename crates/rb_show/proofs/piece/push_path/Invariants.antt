use Rattle.std.proofs.Common.{◌≡◌, ◌++◌, take}
use Rattle.rb_show.specs.Lines.{path_text}
use Rattle.rb_show.proofs.piece.push_path.Given as goal

abbrev pub invariant-loop-field : goal.invariant-loop-field
invariant-loop-field l = l.text.items ≡ l.initial.text.items ++ path_text (take l.field-index l.path)
