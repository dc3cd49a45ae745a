use Rattle.rb_agree.specs.inner.Sharing.{SharesNone}
use Rattle.rb_agree.proofs.sharing.shares_with.Given as goal

abbrev pub invariant-loop-m : goal.invariant-loop-m
invariant-loop-m l = SharesNone l.types l.ty l.leaves l.n l.leaf l.members l.m-index
