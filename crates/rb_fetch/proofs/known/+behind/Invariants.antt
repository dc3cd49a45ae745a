use Rattle.std.proofs.Common.{length}
use Rattle.rb_fetch.proofs.known.+behind.Given as goal

abbrev pub decreases-behind : goal.decreases-behind
decreases-behind l = length l.above.now
