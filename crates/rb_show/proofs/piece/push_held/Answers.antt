use Rattle.rb_show.specs.Lines.{piece_line}
use Rattle.rb_show.specs.Pieces.{held_at}
use Rattle.rb_show.proofs.Texts.{nested_next}
use Rattle.rb_show.proofs.piece.push_held.Goals as goal

pub loop-part-preserved : goal.loop-part-preserved
loop-part-preserved c =
    nested_next piece_line (held_at c.args.bit) c.args.parts.now c.loop-part.part-index c.part-item.result _ _ _ c.loop-part-test.true c.part-item.is c.loop-part.invariant
    c.in_ok-push_part_at.ensures
