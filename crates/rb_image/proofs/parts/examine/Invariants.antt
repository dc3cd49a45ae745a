use Rattle.std.proofs.Common.{◌≡◌, drop}
use Rattle.rb_image.specs.Parts.{addresses_of, examine as examined}
use Rattle.rb_image.specs.Orders.{spots_of}
use Rattle.rb_image.proofs.parts.examine.Given as goal

abbrev pub invariant-loop-spot : goal.invariant-loop-spot
invariant-loop-spot l =
    addresses_of l.memory l.leaf l.words ≡ examined l.memory l.leaf l.words l.addresses.items (spots_of (drop l.spot-index l.order))
