use Rattle.std.proofs.Common.{subst}
use Rattle.rb_facts.specs.inner.Knowing.{FollowsLeaf}
use Rattle.rb_facts.proofs.Numbers.{same-nat}
use Rattle.rb_facts.proofs.knowledge.is_leaf_known.Goals as goal

pub returns-in-Some : goal.returns-in-Some
returns-in-Some c same = subst (λ l. FollowsLeaf c.args.known.now c.args.ty c.args.position.now l) (same-nat c.in-Some.found c.args.leaf same) c.in-Some.ensures
