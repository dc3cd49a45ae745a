use Rattle.std.proofs.Common.{◌≡◌, ◌++◌, take}
use Rattle.rb_matrix.proofs.index.concat.Given as goal

abbrev pub invariant-loop-number : goal.invariant-loop-number
invariant-loop-number l = l.all ≡ l.numbers ++ take l.number-index l.more
