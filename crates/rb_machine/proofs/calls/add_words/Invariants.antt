use Rattle.std.proofs.Common.{◌≡◌, ◌+◌, ◌++◌, map, take, drop, get_or}
use Rattle.std.specs.Prelude.{vec_len, vec_capacity}
use Rattle.rb_machine.proofs.calls.add_words.Given as goal

abbrev pub invariant-loop-from : goal.invariant-loop-from
invariant-loop-from l = record {
  items : l.stack.items ≡ l.fn.stack.items ++ map (λ a. get_or (drop l.base l.fn.stack.items) a 0) (take l.from-index l.froms);
  len : vec_len l.stack ≡ vec_len l.fn.stack + l.from-index;
  capacity : vec_capacity l.stack ≡ vec_capacity l.fn.stack;
}
