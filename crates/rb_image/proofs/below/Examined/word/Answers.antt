use Rattle.std.proofs.Common.{length, refl, sym, ◌∙◌}
use Rattle.std.proofs.lemmas.Option.{slice_get_read}
use Rattle.rb_image.proofs.FieldLemmas.{word_passed}
use Rattle.rb_image.proofs.below.Examined.word.Goals as goal

pub loop-spot-preserved : goal.loop-spot-preserved
loop-spot-preserved c =
    let x = c.args.self.now in
    let items = x.order.now in
    let k = c.loop-spot.spot-index in
    let spot = c.spot-item.result in
    let is = slice_get_read items (length items) k spot refl c.loop-spot-test.true c.spot-item.is in
    let held = sym c.holds.ensures ∙ c.if-holds.false in
    c.loop-spot.invariant ∙ word_passed x.memory.now x.words.now x.addresses.now items k spot is c.args.path.now c.args.number held
