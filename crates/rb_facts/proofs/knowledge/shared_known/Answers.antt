use Rattle.rb_facts.proofs.Following.{shares-push}
use Rattle.rb_facts.proofs.knowledge.shared_known.Goals as goal
use Rattle.rb_facts.proofs.knowledge.shared_known.Goals.{in-Some+in_ok-push, in_default}

pub loop-i-preserved : goal.loop-i-preserved
loop-i-preserved c = elim c.match-shared_fact.branch [
  | in-Some+in_ok-push w ↦ rw (w.both-is, w.in_ok-push.ensures.ok)
      (shares-push c.args.known.now c.args.other.now c.loop-i.both w.in-Some.fact w.in-Some.ensures c.loop-i.invariant)
  | in_default w ↦ rw w.both-is c.loop-i.invariant
]
