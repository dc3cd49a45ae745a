use Rattle.std.proofs.Common.{◌≡◌, ◌-◌, ◌≤◌, List, length}
use Rattle.rb_syntax.specs.declared.token.Placed.{Placed}
use Rattle.rb_values.specs.inner.States.{State, outline_of}
use Rattle.rb_values.specs.inner.Finishing.{TypingIsKept}
use Rattle.rb_values.proofs.ReadLemmas.{At}
use Rattle.rb_values.proofs.read.read_value.Given as goal

abbrev pub invariant-loop-typing : goal.invariant-loop-typing
invariant-loop-typing l = record {
  seen : List Placed;
  state : State;
  within : l.at ≤ length l.text;
  so_far : At l.text l.at seen state;
  outline : l.outline ≡ outline_of state;
  -- each node has a byte
  nodes : l.outline.nodes ≤ l.at;
  kept : TypingIsKept l.types l.fn.ty l.fn.limit state l.typing;
}

abbrev pub decreases-loop-typing : goal.decreases-loop-typing
decreases-loop-typing l = length l.text - l.at
