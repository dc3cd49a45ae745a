use Rattle.std.proofs.Common.{◌≡◌, drop}
use Rattle.rb_image.specs.Orders.{order_of, spots_of}
use Rattle.rb_peek.specs.inner.Checking.{fault_among as first, has_word}
use Rattle.rb_peek.proofs.check.fault_among.Given as goal

abbrev pub invariant-loop-spot : goal.invariant-loop-spot
invariant-loop-spot l =
    let among = first (has_word l.path) l.image.blocks l.leaf l.words.root.items l.words.addresses.items in
    among (order_of l.leaf) ≡ among (spots_of (drop l.spot-index l.spot-items))
