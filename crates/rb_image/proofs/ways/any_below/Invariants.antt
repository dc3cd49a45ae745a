use Rattle.std.proofs.Common.{◌≡◌, drop}
use Rattle.std.specs.List.{list_any}
use Rattle.rb_image.specs.Orders.{LocatedPart, spots_of}
use Rattle.rb_image.specs.Ways.{is_below}
use Rattle.rb_image.proofs.ways.any_below.Given as goal

abbrev pub invariant-loop-spot : goal.invariant-loop-spot
invariant-loop-spot l =
    let test = λ (s : LocatedPart). is_below l.path s.part.kind in
    list_any test (spots_of l.order) ≡ list_any test (spots_of (drop l.spot-index l.order))
