use Rattle.rb_show.specs.Lines.{piece_line}
use Rattle.rb_show.specs.Pieces.{pieces_at}
use Rattle.rb_show.proofs.Texts.{bits_next}
use Rattle.rb_show.proofs.piece.push_pieces.Goals as goal

pub loop-bit-preserved : goal.loop-bit-preserved
loop-bit-preserved c = bits_next piece_line (pieces_at c.args.word.now) c.loop-bit.bit _ _ _ c.loop-bit.invariant c.in_ok-push_pieces_at.ensures
