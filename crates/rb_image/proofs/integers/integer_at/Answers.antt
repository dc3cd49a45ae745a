use Rattle.std.proofs.Common.{◌≡◌, ◌+◌, ◌-◌, ◌*◌, ap, ◌∙◌, arith}
use Rattle.rb_core.specs.declared.types.Ty.TheVariants.{Int}
use Rattle.rb_image.specs.Integers.{field_bit, part_value}
use Rattle.rb_image.specs.Orders.{order_of, spots_of}
use Rattle.rb_image.proofs.GatheredFields.{field_bit_small}
use Rattle.rb_image.proofs.IntegerLemmas.{highest, highest_all, highest_more, highest_narrow}
use Rattle.rb_image.proofs.integers.integer_at.Goals as goal

pub overflow_mul-number : goal.overflow_mul-number
overflow_mul-number c =
    let value = part_value c.args.image.now.blocks c.args.words.now in
    let order = order_of c.args.leaf.now in
    let f = field_bit value (Int c.args.bits) order c.args.path.now in
    let small = field_bit_small value (Int c.args.bits) order c.args.path.now in
    let fits = highest_narrow f small c.args.bits c.loop-done.done 0 c.loop-done-test.true c.requires.narrow (omega arith) in
    let is = c.loop-done.invariant in
    omega (arith, fits, is)

pub overflow_add-number : goal.overflow_add-number
overflow_add-number c =
    let value = part_value c.args.image.now.blocks c.args.words.now in
    let order = order_of c.args.leaf.now in
    let f = field_bit value (Int c.args.bits) order c.args.path.now in
    let small = field_bit_small value (Int c.args.bits) order c.args.path.now in
    let i = c.args.bits - 1 - c.loop-done.done in
    let fits = highest_narrow f small c.args.bits c.loop-done.done (f i) c.loop-done-test.true c.requires.narrow (small i) in
    let is = c.loop-done.invariant in
    let bit = c.bit.ensures c.args.bits ∙ ap (λ ss. field_bit value (Int c.args.bits) ss c.args.path.now i) (ap spots_of c.as_slice.ensures.value ∙ c.in_ok-spots.ensures) in
    omega (arith, fits, is, bit)

pub loop-done-preserved : goal.loop-done-preserved
loop-done-preserved c =
    let value = part_value c.args.image.now.blocks c.args.words.now in
    let f = field_bit value (Int c.args.bits) (order_of c.args.leaf.now) c.args.path.now in
    let done = c.loop-done.done in
    let i = c.args.bits - 1 - done in
    let bit = c.bit.ensures c.args.bits ∙ ap (λ ss. field_bit value (Int c.args.bits) ss c.args.path.now i) (ap spots_of c.as_slice.ensures.value ∙ c.in_ok-spots.ensures) in
    ap (λ n. n * 2 + c.bit.result) c.loop-done.invariant ∙ ap (λ b. highest f c.args.bits done * 2 + b) bit ∙ highest_more f c.args.bits done c.loop-done-test.true

pub returns : goal.returns
returns c =
    let value = part_value c.args.image.now.blocks c.args.words.now in
    let f = field_bit value (Int c.args.bits) (order_of c.args.leaf.now) c.args.path.now in
    let high = c.loop-done-test.false in
    let low = c.loop-done.auto.done-end in
    let end : c.loop-done.done ≡ c.args.bits = omega (arith, high, low) in
    c.loop-done.invariant ∙ ap (highest f c.args.bits) end ∙ highest_all f c.args.bits
