use Rattle.std.proofs.Common.{◌≡◌, drop}
use Rattle.rb_image.specs.Orders.{order_of, spots_of}
use Rattle.rb_image.specs.Ways.{refused_below}
use Rattle.rb_image.proofs.ways.refused_below.Given as goal

abbrev pub invariant-loop-spot : goal.invariant-loop-spot
invariant-loop-spot l =
    let refused = refused_below l.image.blocks l.leaf l.words.root.items l.words.addresses.items l.path in
    refused (order_of l.leaf) ≡ refused (spots_of (drop l.spot-index l.spot-items))
