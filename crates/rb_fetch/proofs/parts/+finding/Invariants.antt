use Rattle.std.proofs.Common.{map, drop}
use Rattle.rb_layout.specs.Positions.{opens_below, opens_of}
use Rattle.rb_fetch.specs.inner.Choosing.{HasOpens}
use Rattle.rb_fetch.proofs.parts.+finding.Given as goal

abbrev pub invariant-find_below-loop-i : goal.invariant-find_below-loop-i
invariant-find_below-loop-i l =
    HasOpens (opens_below (map (opens_of l.types) (drop l.i l.pats)) (drop l.i l.fields) l.i) l.path l.parts
    → HasOpens (opens_below (map (opens_of l.types) l.pats) l.fields 0) l.path l.parts
