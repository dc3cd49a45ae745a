use Rattle.std.proofs.Common.{◌≤◌, ◌-◌}
use Rattle.rb_fetch.specs.inner.Fields.{Slices}
use Rattle.rb_fetch.proofs.slice.slices.Given as goal

abbrev pub invariant-loop-i : goal.invariant-loop-i
invariant-loop-i l = record {
  near : l.i ≤ l.width;
  slices : l.width ≤ 64 → Slices l.leaf l.words l.path l.i l.shares;
}

abbrev pub decreases-loop-i : goal.decreases-loop-i
decreases-loop-i l = l.end - l.i
