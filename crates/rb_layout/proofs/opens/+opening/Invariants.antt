use Rattle.std.proofs.Common.{◌≡◌, ◌++◌, map, drop}
use Rattle.rb_layout.specs.Positions.{opens_below, opens_of}
use Rattle.rb_layout.specs.Opens.{opens_at}
use Rattle.rb_layout.specs.inner.Opening.{under}
use Rattle.rb_layout.proofs.opens.+opening.Given as goal

abbrev pub invariant-add_below-loop-i : goal.invariant-add_below-loop-i
invariant-add_below-loop-i l =
    opens_at l.found ++ map (under l.path) (opens_below (map (opens_of l.types) (drop l.i l.pats)) (drop l.i l.fields) l.i)
    ≡ opens_at l.fn.found ++ map (under l.path) (opens_below (map (opens_of l.types) l.pats) l.fields 0)
