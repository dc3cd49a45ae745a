use Rattle.std.proofs.Common.{◌≡◌, ◌++◌, drop, map}
use Rattle.rb_layout.specs.Positions.{opens_below, opens_of}
use Rattle.rb_image.specs.Parts.{ats_of}
use Rattle.rb_image.specs.inner.Opening.{places_below}
use Rattle.rb_image.proofs.below.+opening.Given as goal

abbrev pub invariant-add_fields-loop-i : goal.invariant-add_fields-loop-i
invariant-add_fields-loop-i l =
    ats_of l.fn.places.items ++ places_below l.examined l.path (opens_below (map (opens_of l.examined.types.now) l.pats) l.tys 0)
    ≡ ats_of l.places.items ++ places_below l.examined l.path (opens_below (map (opens_of l.examined.types.now) (drop l.i l.pats)) (drop l.i l.tys) l.i)
