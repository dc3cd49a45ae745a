use Rattle.std.proofs.Common.{arith, true, ◌≡◌}
use Rattle.std.proofs.lemmas.Result.{IfOk-weaker}
use Rattle.rb_match.specs.inner.Opening.{Asks, AsksPart}
use Rattle.rb_match.proofs.Nodes.{asks_of}
use Rattle.rb_match.proofs.asking.ask.Goals as goal

pub returns-clause-asks : goal.returns-clause-asks
returns-clause-asks c =
    let there : c.is_looked_at.result ≡ true = grind (arith, c.if-not-is_looked_at.false) in
    let place = c.in_ok-place.place in
    let graph = c.args.graph.now in
    let words = c.args.subject.now.words.now in
    let spots = c.args.subject.now.spots.now in
    let test = c.args.test.now in
    let old = c.args.body.now in
    let new = c.ask_part.new.body in
    let looked = rw (c.as_slice-types.ensures, c.program.ensures.same, c.covered.ensures.same) at (c.is_looked_at.ensures there) in
    IfOk-weaker c.ask_part.result (λ edges. AsksPart c.args.agreed.now graph place.ty spots place.reads test.known.now test.position.now test.arms.now test.other old new edges) (λ edges. Asks c.args.agreed.now graph words spots test.known.now test.position.now test.arms.now test.other old new edges)
    (λ edges asks. asks_of c.args.agreed.now graph words spots test.known.now test.position.now test.arms.now test.other old new edges place c.in_ok-place.ensures looked asks) (rw c.as_slice-reads.ensures at c.ask_part.ensures.asks)

pub returns-clause-stand : goal.returns-clause-stand
returns-clause-stand c = c.ask_part.ensures.stand

pub returns-clause-grows : goal.returns-clause-grows
returns-clause-grows c = c.ask_part.ensures.grows
