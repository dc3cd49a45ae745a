use Rattle.rb_coding.proofs.EncodeLemmas.{Encoding}
use Rattle.rb_coding.proofs.encode.encode.Given as goal

abbrev pub invariant-loop-node : goal.invariant-loop-node
invariant-loop-node g l = Encoding l.agreed.covered.program l.fn.ty l.value (g.M.ByteMemory.memory l.fn.memory) (g.M.ByteMemory.memory l.memory) l.table l.node
