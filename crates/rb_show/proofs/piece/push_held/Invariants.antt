use Rattle.std.proofs.Common.{◌≡◌, ◌++◌, take}
use Rattle.std.specs.List.{flat_map}
use Rattle.rb_show.specs.Lines.{piece_line}
use Rattle.rb_show.specs.Pieces.{held_at}
use Rattle.rb_show.proofs.piece.push_held.Given as goal

abbrev pub invariant-loop-part : goal.invariant-loop-part
invariant-loop-part l = l.text.items ≡ l.initial.text.items ++ flat_map piece_line (flat_map (held_at l.bit) (take l.part-index l.parts))
