use Rattle.std.proofs.Common.{◌≡◌, replicate}
use Rattle.rb_coding.proofs.gather.zeros.Given as goal

abbrev pub invariant-loop-turn : goal.invariant-loop-turn
invariant-loop-turn l = l.table ≡ replicate l._turn 0
