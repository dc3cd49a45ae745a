use Rattle.std.proofs.Common.{length, refl}
use Rattle.std.proofs.lemmas.Option.{slice_get_read}
use Rattle.rb_image.specs.Parts.{addresses_of}
use Rattle.rb_image.proofs.ExaminedSpots.{examined_all, examined_err, examined_more}
use Rattle.rb_image.proofs.parts.examine.Goals as goal

pub loop-spot-preserved : goal.loop-spot-preserved
loop-spot-preserved c =
    let items = c.args.order.now in
    let i = c.loop-spot.spot-index in
    examined_more c.args.memory.now c.args.leaf.now c.args.words.now items i _ (slice_get_read items (length items) i _ refl c.loop-spot-test.true c.spot-item.is)
    c.loop-spot.addresses.items (addresses_of c.args.memory.now c.args.leaf.now c.args.words.now) c.loop-spot.invariant c.examine_part.new.addresses.items _ c.in_ok-examine_part.ensures

pub returns-in_err-examine_part : goal.returns-in_err-examine_part
returns-in_err-examine_part c =
    let items = c.args.order.now in
    let i = c.loop-spot.spot-index in
    examined_err c.args.memory.now c.args.leaf.now c.args.words.now items i _ (slice_get_read items (length items) i _ refl c.loop-spot-test.true c.spot-item.is)
    c.loop-spot.addresses.items (addresses_of c.args.memory.now c.args.leaf.now c.args.words.now) c.loop-spot.invariant _ (λ found. found.items) c.examine_part.new.addresses.items _ c.in_err-examine_part.ensures
    c.from_residual-in_err-examine_part.result c.from_residual-in_err-examine_part.ensures.0 c.from_residual-in_err-examine_part.ensures.1

pub returns : goal.returns
returns c =
    let items = c.args.order.now in
    examined_all c.args.memory.now c.args.leaf.now c.args.words.now items (λ found. found.items) c.loop-spot.addresses c.loop-spot.spot-index c.loop-spot.addresses.items
    (addresses_of c.args.memory.now c.args.leaf.now c.args.words.now) c.loop-spot.invariant c.loop-spot-test.false refl
