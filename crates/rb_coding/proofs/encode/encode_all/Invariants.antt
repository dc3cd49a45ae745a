use Rattle.rb_coding.proofs.AllLemmas.{EncodingAll}
use Rattle.rb_coding.proofs.encode.encode_all.Given as goal

abbrev pub invariant-loop-i : goal.invariant-loop-i
invariant-loop-i g l = EncodingAll l.agreed.covered.program l.tys l.values (g.M.ByteMemory.memory l.fn.memory) (g.M.ByteMemory.memory l.memory) l.words l.i
