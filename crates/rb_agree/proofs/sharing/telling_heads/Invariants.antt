use Rattle.rb_agree.specs.inner.Sharing.{AreHeads}
use Rattle.rb_agree.proofs.sharing.telling_heads.Given as goal

abbrev pub invariant-loop-path : goal.invariant-loop-path
invariant-loop-path l = AreHeads l.leaves l.best
