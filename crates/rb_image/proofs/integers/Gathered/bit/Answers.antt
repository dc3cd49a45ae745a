use Rattle.std.proofs.Common.{length, refl, sym, ap, ◌∙◌}
use Rattle.std.proofs.lemmas.Option.{slice_get_read}
use Rattle.rb_core.specs.declared.types.Ty.TheVariants.{Int}
use Rattle.rb_image.specs.Integers.{bit_in, part_value}
use Rattle.rb_image.proofs.IntegerLemmas.{bit_found, bit_passed}
use Rattle.rb_image.proofs.LeafWordLemmas.{spot_is_part}
use Rattle.rb_image.proofs.integers.Gathered.bit.Goals as goal

pub returns-then-holds_bit : goal.returns-then-holds_bit
returns-then-holds_bit c = λ bits.
    let m = c.args.self.now.image.now.blocks in
    let leaf = c.args.self.now.leaf.now in
    let items = c.args.self.now.order.now in
    let k = c.loop-spot.spot-index in
    let spot = c.spot-item.result in
    let is = slice_get_read items (length items) k spot refl c.loop-spot-test.true c.spot-item.is in
    let part = spot_is_part leaf items k spot c.requires.order is in
    let holds = sym (c.holds_bit.ensures bits) ∙ c.if-holds_bit.true in
    c.bit_in.ensures ∙ ap (λ w. bit_in w.number c.args.i spot.part.now.kind) (c.bits.ensures m leaf c.requires.placed c.requires.numbers part)
    ∙ sym (c.loop-spot.invariant bits ∙ bit_found (part_value m c.args.self.now.words.now) (Int bits) items k spot is c.args.path.now c.args.i holds)

pub loop-spot-preserved : goal.loop-spot-preserved
loop-spot-preserved c = λ bits.
    let items = c.args.self.now.order.now in
    let k = c.loop-spot.spot-index in
    let spot = c.spot-item.result in
    let is = slice_get_read items (length items) k spot refl c.loop-spot-test.true c.spot-item.is in
    let holds = sym (c.holds_bit.ensures bits) ∙ c.if-holds_bit.false in
    c.loop-spot.invariant bits ∙ bit_passed (part_value c.args.self.now.image.now.blocks c.args.self.now.words.now) (Int bits) items k spot is c.args.path.now c.args.i holds
