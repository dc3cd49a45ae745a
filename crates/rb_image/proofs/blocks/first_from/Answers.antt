use Rattle.std.proofs.Common.{◌+◌, ◌-◌, ◌/◌, length, refl, ap, arith}
use Rattle.std.proofs.lemmas.Option.{slice_get_read}
use Rattle.rb_image_text.specs.declared.image.ImageBlock.{ImageBlock}
use Rattle.rb_image.proofs.AscendingBlocks.{above_from, below_after}
use Rattle.rb_image.proofs.blocks.first_from.Goals as goal

pub loop-low-preserved-then-blocks-middle : goal.loop-low-preserved-then-blocks-middle
loop-low-preserved-then-blocks-middle c =
    let blocks = c.args.blocks.now in
    let low = c.loop-low.low in
    let high = c.loop-low.high in
    let middle = low + (high - low) / 2 in
    let block = c.index-blocks-middle.result in
    let within = c.loop-low.invariant.within in
    let test = c.loop-low-test.true in
    let is = slice_get_read blocks (length blocks) middle block refl (omega (arith, within, test)) c.index-blocks-middle.is in
    let same = ap (λ (x : ImageBlock). x.at) c.index-blocks-middle.is in
    let less = c.if-blocks-middle.true in
    record {
      order = omega (arith, test);
      within = within;
      below = below_after blocks c.requires.placed c.args.address middle block is (omega (arith, same, less));
      above = c.loop-low.invariant.above;
    }

pub loop-low-preserved : goal.loop-low-preserved
loop-low-preserved c =
    let blocks = c.args.blocks.now in
    let low = c.loop-low.low in
    let high = c.loop-low.high in
    let middle = low + (high - low) / 2 in
    let block = c.index-blocks-middle.result in
    let within = c.loop-low.invariant.within in
    let test = c.loop-low-test.true in
    let is = slice_get_read blocks (length blocks) middle block refl (omega (arith, within, test)) c.index-blocks-middle.is in
    let same = ap (λ (x : ImageBlock). x.at) c.index-blocks-middle.is in
    let least = c.if-blocks-middle.false in
    record {
      order = omega (arith, test);
      within = omega (arith, within, test);
      below = c.loop-low.invariant.below;
      above = above_from blocks c.requires.placed c.args.address middle block is (omega (arith, same, least));
    }
