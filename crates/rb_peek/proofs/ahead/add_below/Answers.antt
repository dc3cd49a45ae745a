use Rattle.std.proofs.Common.{◌++◌, ◌+◌, drop, length, refl, sym, ap, ◌∙◌, append_assoc}
use Rattle.std.specs.List.{flat_map}
use Rattle.std.proofs.lemmas.Option.{slice_get_read}
use Rattle.rb_image.specs.Orders.{spot_part, spots_of}
use Rattle.rb_image.proofs.DropLemmas.{drop_item}
use Rattle.rb_image.proofs.LeafWordLemmas.{spot_is_part}
use Rattle.rb_peek.specs.Paths.{word_below}
use Rattle.rb_peek.proofs.ahead.add_below.Goals as goal

pub add_word-requires-clause-part : goal.add_word-requires-clause-part
add_word-requires-clause-part c =
    let items = c.as_slice-spot-items.result.now in
    let i = c.loop-spot.spot-index in
    spot_is_part c.args.leaf.now items i _ (ap spots_of c.as_slice-spot-items.ensures.value ∙ c.in_ok-order.ensures)
    (slice_get_read items (length items) i _ refl c.loop-spot-test.true c.spot-item.is)

pub loop-spot-preserved : goal.loop-spot-preserved
loop-spot-preserved c =
    let words = c.args.words.now in
    let below = word_below c.args.image.now.blocks c.args.leaf.now words.root.items words.addresses.items c.args.path.now in
    let items = c.as_slice-spot-items.result.now in
    let k = c.loop-spot.spot-index in
    let spot = c.spot-item.result in
    let is = slice_get_read items (length items) k spot refl c.loop-spot-test.true c.spot-item.is in
    let old = c.loop-spot.found.items in
    let rest = flat_map below (spots_of (drop (k + 1) items)) in
    ap (λ ks. ks ++ rest) c.in_ok-add_word.ensures ∙ append_assoc old (below (spot_part spot)) rest
    ∙ ap (λ ss. old ++ flat_map below (spots_of ss)) (sym (drop_item items k spot is)) ∙ c.loop-spot.invariant
