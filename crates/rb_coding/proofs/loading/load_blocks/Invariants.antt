use Rattle.rb_coding.proofs.LoadLemmas.{Loading}
use Rattle.rb_coding.proofs.loading.load_blocks.Given as goal

abbrev pub invariant-loop-b : goal.invariant-loop-b
invariant-loop-b g l = Loading l.leaf l.words (g.M.ByteMemory.memory l.memory) l.b l.addresses l.loaded
