use Rattle.std.proofs.Common.{◌≡◌, ◌+◌, ◌-◌, ◌≤◌, ◌++◌, replicate}
use Rattle.std.specs.Prelude.{vec_len, vec_capacity}
use Rattle.rb_machine.proofs.calls.add_zeros.Given as goal

abbrev pub invariant-loop-i : goal.invariant-loop-i
invariant-loop-i l = record {
  items : l.words.items ≡ l.fn.words.items ++ replicate l.i 0;
  room : vec_len l.words + (l.zeros - l.i) ≤ vec_capacity l.words;
}
