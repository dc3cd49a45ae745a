use Rattle.rb_coding.proofs.WaitLemmas.{Waiting}
use Rattle.rb_coding.proofs.posts.types_of.Given as goal

abbrev pub invariant-loop-node : goal.invariant-loop-node
invariant-loop-node l = Waiting l.types l.value l.fn.ty l.node l.waiting.items l.tys.items

abbrev pub decreases-loop-node : goal.decreases-loop-node
decreases-loop-node l = l.node
