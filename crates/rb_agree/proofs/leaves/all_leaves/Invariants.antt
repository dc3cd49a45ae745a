use Rattle.rb_agree.proofs.Reading.{WrittenBefore}
use Rattle.rb_agree.proofs.leaves.all_leaves.Given as goal

abbrev pub invariant-loop-t : goal.invariant-loop-t
invariant-loop-t l = WrittenBefore l.decls l.t l.written
