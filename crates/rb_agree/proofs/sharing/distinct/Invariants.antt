use Rattle.std.proofs.Common.{◌≤◌}
use Rattle.rb_agree.proofs.sharing.distinct.Given as goal

abbrev pub invariant-loop-is_seen : goal.invariant-loop-is_seen
invariant-loop-is_seen l = l.count ≤ l.is_seen-index
