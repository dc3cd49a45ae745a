use Rattle.rb_facts.proofs.Shown.{follow_push}
use Rattle.rb_facts.proofs.threading.pass_over.Goals as goal

pub returns-in-Some : goal.returns-in-Some
returns-in-Some c = rw c.in_ok-push.ensures.ok (follow_push c.args.agreed.now c.args.known.now c.in-Some.fact (rw c.as_slice.ensures at c.in-Some.ensures))
