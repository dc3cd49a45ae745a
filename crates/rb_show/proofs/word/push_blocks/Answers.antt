use Rattle.std.proofs.Common.{Some, ap, sym, ◌∙◌}
use Rattle.std.proofs.lemmas.Option.{slice_get-get_or}
use Rattle.rb_show.specs.Lines.{block_lines}
use Rattle.rb_show.proofs.Texts.{numbered_next}
use Rattle.rb_show.proofs.word.push_blocks.Goals as goal

pub push_block-requires : goal.push_block-requires
push_block-requires c =
    c.requires c.loop-i.i c.index-blocks-i.result (slice_get-get_or c.args.blocks.now c.loop-i.i c.index-blocks-i.result c.loop-i-test.true ∙ ap Some (sym c.index-blocks-i.is))

pub loop-i-preserved : goal.loop-i-preserved
loop-i-preserved c =
    numbered_next block_lines c.args.blocks.now c.loop-i.i c.index-blocks-i.result _ _ _ c.loop-i-test.true c.index-blocks-i.is c.loop-i.invariant c.in_ok-push_block.ensures
