use Rattle.rb_fetch.specs.inner.Constructing.{NoneFor}
use Rattle.rb_fetch.proofs.construct.alone.Given as goal

abbrev pub invariant-loop-leaf : goal.invariant-loop-leaf
invariant-loop-leaf l = NoneFor l.con l.leaves l.leaf-index
