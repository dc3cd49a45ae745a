use Rattle.std.proofs.Common.{◌+◌, drop, length, refl, sym, ap, ◌∙◌}
use Rattle.std.specs.Option.{option_or}
use Rattle.std.proofs.lemmas.Option.{slice_get_read}
use Rattle.rb_image.specs.Ways.{refused_below as refused}
use Rattle.rb_image.specs.Orders.{spots_of}
use Rattle.rb_image.proofs.DropLemmas.{drop_item}
use Rattle.rb_image.proofs.LeafWordLemmas.{spot_is_part}
use Rattle.rb_image.proofs.ways.refused_below.Goals as goal

pub refused_at-requires-clause-part : goal.refused_at-requires-clause-part
refused_at-requires-clause-part c =
    let items = c.as_slice-spot-items.result.now in
    let i = c.loop-spot.spot-index in
    spot_is_part c.args.leaf.now items i _ (ap spots_of c.as_slice-spot-items.ensures.value ∙ c.in_ok-order.ensures)
    (slice_get_read items (length items) i _ refl c.loop-spot-test.true c.spot-item.is)

pub loop-spot-preserved : goal.loop-spot-preserved
loop-spot-preserved c =
    let words = c.args.words.now in
    let below = refused c.args.image.now.blocks c.args.leaf.now words.root.items words.addresses.items c.args.path.now in
    let items = c.as_slice-spot-items.result.now in
    let k = c.loop-spot.spot-index in
    let spot = c.spot-item.result in
    let is = slice_get_read items (length items) k spot refl c.loop-spot-test.true c.spot-item.is in
    c.loop-spot.invariant ∙ ap (λ ss. below (spots_of ss)) (drop_item items k spot is)
    ∙ ap (λ o. option_or o (below (spots_of (drop (k + 1) items)))) (sym c.in_ok-refused_at.ensures ∙ c.in-None.is)
