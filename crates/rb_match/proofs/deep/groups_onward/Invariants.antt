use Rattle.rb_match.specs.inner.Asking.{AreGroups}
use Rattle.rb_match.specs.inner.Opening.{HasGroupOnward}
use Rattle.rb_match.proofs.deep.groups_onward.Given as goal

abbrev pub invariant-loop-leaf : goal.invariant-loop-leaf
invariant-loop-leaf l = AreGroups (HasGroupOnward l.onward) l.leaf l.groups
