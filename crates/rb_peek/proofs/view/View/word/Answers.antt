use Rattle.std.proofs.Common.{length, refl, sym, ◌∙◌}
use Rattle.std.proofs.lemmas.Option.{slice_get_read}
use Rattle.rb_image.proofs.LeafWordLemmas.{spot_is_part}
use Rattle.rb_image.proofs.FieldLemmas.{word_passed, word_taken}
use Rattle.rb_peek.proofs.view.View.word.Goals as goal

pub returns-then-holds : goal.returns-then-holds
returns-then-holds c =
    let v = c.args.self.now in
    let m = c.args.image.now.blocks in
    let items = c.args.order.now in
    let k = c.loop-spot.spot-index in
    let spot = c.spot-item.result in
    let is = slice_get_read items (length items) k spot refl c.loop-spot-test.true c.spot-item.is in
    let part = spot_is_part v.leaf.now items k spot c.requires.order is in
    let held = sym c.holds.ensures ∙ c.if-holds.true in
    c.bits.ensures m v.leaf.now c.requires.placed c.requires.shown.numbers part
    ∙ sym (c.loop-spot.invariant ∙ word_taken m v.words.now.root.items v.words.now.addresses.items items k spot is v.at.now c.args.number held)

pub loop-spot-preserved : goal.loop-spot-preserved
loop-spot-preserved c =
    let v = c.args.self.now in
    let items = c.args.order.now in
    let k = c.loop-spot.spot-index in
    let spot = c.spot-item.result in
    let is = slice_get_read items (length items) k spot refl c.loop-spot-test.true c.spot-item.is in
    let held = sym c.holds.ensures ∙ c.if-holds.false in
    c.loop-spot.invariant ∙ word_passed c.args.image.now.blocks v.words.now.root.items v.words.now.addresses.items items k spot is v.at.now c.args.number held
