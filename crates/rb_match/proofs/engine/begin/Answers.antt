use Rattle.std.proofs.Common.{[], length, refl, Some, ap, ◌∙◌}
use Rattle.std.proofs.lemmas.Option.{slice_get_read}
use Rattle.std.proofs.lemmas.Result.{IfOk-weaker}
use Rattle.rb_match.specs.inner.Flowing.{RootStands}
use Rattle.rb_match.specs.inner.Opening.{AsksOnward}
use Rattle.rb_match.proofs.Nodes.{begins_onward, begins_jump}
use Rattle.rb_match.proofs.engine.begin.Goals as goal

pub returns-in-Test : goal.returns-in-Test
returns-in-Test c =
    let graph = c.args.graph.now in
    let words = c.args.subject.now.words.now in
    let spots = c.args.subject.now.spots.now in
    let nodes = graph.nodes.now in
    let old = c.args.body.now in
    let new = c.ask_onward.new.body in
    let at = slice_get_read nodes (length nodes) c.args.root c.in-Some.node.now refl c.in-Some.ensures.lookup.3.0 c.in-Some.ensures.lookup.1 in
    IfOk-weaker c.ask_onward.result (λ onward. AsksOnward c.args.agreed.now graph words spots [] c.in-Test.position c.in-Test.arms c.in-Test.other old new onward) (λ onward. RootStands c.args.agreed.now graph.ty words graph.pats.now spots nodes c.args.root old new onward)
    (λ onward asks. begins_onward c.args.agreed.now graph words spots c.args.root c.in-Test.position c.in-Test.arms c.in-Test.other old new onward (at ∙ ap Some c.in-Test.is) asks)
    (rw (c.as_slice-position.ensures, c.as_slice-arms.ensures) at c.ask_onward.ensures)

pub returns-in_ok-push-in-Clause : goal.returns-in_ok-push-in-Clause
returns-in_ok-push-in-Clause c =
    rw (c.in_ok-push-in-Clause.ensures.ok, c.new-edges.ensures, c.in_ok-edge-in-Clause.ensures.edge, c.in_ok-edge-in-Clause.ensures.jump)
    (begins_jump c.args.agreed.now c.args.graph.now.ty c.args.subject.now.words.now c.args.graph.now.pats.now c.args.subject.now.spots.now c.args.graph.now.nodes.now c.args.root c.args.body.now)
