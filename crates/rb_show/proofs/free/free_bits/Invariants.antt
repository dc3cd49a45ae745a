use Rattle.std.proofs.Common.{◌-◌}
use Rattle.rb_show.proofs.Words.{HaveBeenFree}
use Rattle.rb_show.proofs.free.free_bits.Given as goal

abbrev pub invariant-loop-count : goal.invariant-loop-count
invariant-loop-count l = HaveBeenFree l.word l.bit (l.word.width - l.bit) l.count
