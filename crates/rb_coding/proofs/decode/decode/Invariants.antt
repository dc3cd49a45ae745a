use Rattle.std.proofs.Common.{◌+◌, ◌-◌, ◌*◌, ◌≤◌, length, map, sum, [], ◌∷◌}
use Rattle.rb_core.specs.declared.value.Value.{Value}
use Rattle.rb_core.specs.Values.{node_count}
use Rattle.rb_coding.specs.Decoding.{AreOf}
use Rattle.rb_coding.specs.inner.Todo.{Runs, weights}
use Rattle.rb_coding.proofs.decode.decode.Given as goal

abbrev pub invariant-loop-step : goal.invariant-loop-step
invariant-loop-step g l = record {
  runs : (v : Value) → AreOf l.agreed.covered.program (g.M.ByteMemory.memory l.memory) l.fn.ty l.words v
      → Runs l.agreed.covered.program (g.M.ByteMemory.memory l.memory) l.todo.items l.builder (v ∷ []);
  within : sum (map node_count l.builder) + length l.todo.items ≤ l.limit;
}

abbrev pub decreases-loop-step : goal.decreases-loop-step
decreases-loop-step g l = 2 * (l.limit - (sum (map node_count l.builder) + length l.todo.items)) + weights l.todo.items
