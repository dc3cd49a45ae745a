use Rattle.std.proofs.lemmas.Result.{IfOk-weaker}
use Rattle.rb_match.specs.inner.Opening.{AsksOnward}
use Rattle.rb_facts.specs.Threading.{Threads}
use Rattle.rb_match.proofs.engine.ask_onward.Goals as goal

pub returns : goal.returns
returns c =
    let graph = c.args.graph.now in
    let subject = c.args.subject.now in
    let test = c.args.test.now in
    let asked = c.in_ok-asked.asked in
    let asks = c.in_ok-asked.ensures in
    IfOk-weaker c.thread.result (λ onward. Threads c.args.agreed.now graph.ty graph.pats.now graph.nodes.now asked onward)
    (λ onward. AsksOnward c.args.agreed.now graph subject.words.now subject.spots.now test.known.now test.position.now test.arms.now test.other c.args.body.now c.ask.new.body onward)
    (λ onward threads. record { asked = asked; asks = asks.asks; stand = asks.stand; threads = threads; grows = asks.grows }) c.thread.ensures
