use Rattle.std.proofs.Common.{◌≡◌, ◌++◌, map, take, drop, get_or}
use Rattle.rb_machine.proofs.calls.fill.Given as goal

abbrev pub invariant-loop-k : goal.invariant-loop-k
invariant-loop-k l = l.words ≡ map (λ a. get_or l.slots a 0) (take l.k l.froms) ++ drop l.k l.fn.words
