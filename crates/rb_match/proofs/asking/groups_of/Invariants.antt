use Rattle.rb_match.specs.inner.Asking.{AreGroups, IsGrouped}
use Rattle.rb_match.proofs.asking.groups_of.Given as goal

abbrev pub invariant-loop-leaf : goal.invariant-loop-leaf
invariant-loop-leaf l = AreGroups (IsGrouped l.agreed l.ty l.arms l.other) l.leaf l.groups
