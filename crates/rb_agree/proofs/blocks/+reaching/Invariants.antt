use Rattle.std.proofs.Common.{◌+◌, ◌*◌, length}
use Rattle.rb_agree.proofs.blocks.+reaching.Given as goal

abbrev pub decreases-inside_fault : goal.decreases-inside_fault
decreases-inside_fault l = 2 * length l.blocks.now

abbrev pub decreases-behind_fault : goal.decreases-behind_fault
decreases-behind_fault l = 2 * length l.blocks.now + 1
