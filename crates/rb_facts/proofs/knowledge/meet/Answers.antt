use Rattle.rb_facts.proofs.Following.{meets}
use Rattle.rb_facts.proofs.knowledge.meet.Goals as goal

pub returns-in_ok-both-in-Some : goal.returns-in_ok-both-in-Some
returns-in_ok-both-in-Some c =
    rw c.in-Some.is (meets c.in-Some.known c.args.edge.now c.args.node c.in_ok-both-in-Some.both
    (rw (c.as_slice-in-Some.ensures, c.as_slice-in-Some-2.ensures) at c.in_ok-both-in-Some.ensures))
