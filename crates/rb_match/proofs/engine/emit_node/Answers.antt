use Rattle.std.proofs.Common.{subst}
use Rattle.rb_facts.specs.Knowing.{IsCommonKnowledge}
use Rattle.rb_match.proofs.Nodes.{steps_onward}
use Rattle.rb_match.proofs.engine.emit_node.Goals as goal

pub returns-in-None : goal.returns-in-None
returns-in-None c =
    let common = subst (λ r. IsCommonKnowledge c.args.edges c.args.number r) c.in-Some.is (rw c.as_slice.ensures at c.in_ok-known-in-Test.ensures) in
    rw (c.in-Test.is, c.in-None.ensures, c.in_ok-rest-in-Test.ensures.rest) (steps_onward c.args.agreed.now c.args.graph.now c.args.subject.now.words.now c.args.subject.now.spots.now c.in-Test.position c.in-Test.arms c.in-Test.other c.args.number c.args.body.now c.args.edges c.in-Some.known
    c.ask_onward.new.body c.in_ok-onward-in-Test.onward common (rw (c.as_slice-known.ensures, c.as_slice-position.ensures, c.as_slice-arms.ensures, c.in_ok-rest-in-Test.ensures.code) at c.in_ok-onward-in-Test.ensures))
