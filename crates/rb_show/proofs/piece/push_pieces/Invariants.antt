use Rattle.std.proofs.Common.{◌≡◌, ◌++◌}
use Rattle.std.specs.List.{flat_map, range_with_len}
use Rattle.rb_show.specs.Lines.{piece_line}
use Rattle.rb_show.specs.Pieces.{pieces_at}
use Rattle.rb_show.proofs.piece.push_pieces.Given as goal

abbrev pub invariant-loop-bit : goal.invariant-loop-bit
invariant-loop-bit l = l.text.items ≡ l.initial.text.items ++ flat_map piece_line (flat_map (pieces_at l.word) (range_with_len 0 l.bit))
