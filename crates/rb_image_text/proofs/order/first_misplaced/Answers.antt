use Rattle.std.proofs.Common.{◌∙◌, ap, sym, arith, ◌+◌}
use Rattle.rb_image_text.specs.Places.{IsInPlace, end_before}
use Rattle.rb_image_text.proofs.PlaceLemmas.{end_next, place_more, placed, all_placed, get_from_index}
use Rattle.rb_image_text.proofs.order.first_misplaced.Goals as goal

pub loop-i-preserved : goal.loop-i-preserved
loop-i-preserved c =
    let blocks = c.args.blocks.now in
    let b = c.index-blocks-i.result in
    let is = get_from_index blocks c.loop-i.i b c.loop-i-test.true c.index-blocks-i.is in
    let good : IsInPlace (end_before blocks c.loop-i.i) b = placed (end_before blocks c.loop-i.i) c.loop-i.end b c.loop-i.invariant.1 c.is_in_place.result c.if-not-is_in_place.false c.is_in_place.ensures in
    (place_more blocks c.loop-i.i b is good c.loop-i.invariant.0, ap (λ n. b.at + n) c.len.ensures ∙ sym (end_next blocks c.loop-i.i b is))

pub returns : goal.returns
returns c = all_placed c.args.blocks.now c.loop-i.i (omega (arith, c.loop-i-test.false)) c.loop-i.invariant.0
