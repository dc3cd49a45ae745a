use Rattle.std.proofs.Common.{◌≡◌, drop}
use Rattle.rb_agree.specs.inner.Search.{side_of}
use Rattle.rb_agree.proofs.search.side_of.Given as goal

abbrev pub invariant-loop-i : goal.invariant-loop-i
invariant-loop-i l = side_of (drop l.i l.one) (drop l.i l.other) ≡ side_of l.one l.other
