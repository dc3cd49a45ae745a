use Rattle.rb_match.specs.inner.Asking.{AreGroups}
use Rattle.rb_match.specs.inner.Opening.{LeadsLeaf}
use Rattle.rb_match.proofs.deep.onward_all.Given as goal

abbrev pub invariant-loop-leaf : goal.invariant-loop-leaf
invariant-loop-leaf l = AreGroups (LeadsLeaf l.agreed l.graph l.ty l.test.known.now l.test.position l.test.arms.now l.test.other) l.leaf l.all
