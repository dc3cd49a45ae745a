use Rattle.std.proofs.Common.{List, sym, subst}
use Rattle.std.proofs.lemmas.Result.{IfOk-weaker}
use Rattle.rb_core.specs.declared.types.Ty.{Ty}
use Rattle.rb_core.specs.declared.types.Ty.TheVariants.{Named}
use Rattle.rb_facts.specs.declared.knowledge.Edge.{Edge}
use Rattle.rb_match.specs.inner.Asking.{AsksLeaf, AsksNumber}
use Rattle.rb_match.specs.inner.Opening.{AsksPart}
use Rattle.rb_match.proofs.Nodes.{leaf_part, number_part}
use Rattle.rb_match.proofs.asking.ask_part.Goals as goal

pub returns-in-Int-clause-asks : goal.returns-in-Int-clause-asks
returns-in-Int-clause-asks c =
    let test = c.args.test.now in
    let old = c.args.body.now in
    let new = c.ask_number.new.body in
    let Asks : Ty → List Edge → Type 0 = λ ty edges. AsksPart c.args.agreed.now c.args.graph.now ty c.args.spots.now c.args.reads.now test.known.now test.position.now test.arms.now test.other old new edges in
    IfOk-weaker c.ask_number.result (λ edges. AsksNumber c.args.reads.now test.known.now test.arms.now test.other old new edges) (λ edges. Asks c.args.ty edges)
    (λ edges asks. subst (λ ty. Asks ty edges) (sym c.in-Int.is) (number_part c.args.agreed.now c.args.graph.now c.in-Int.field-0 c.args.spots.now c.args.reads.now test.known.now test.position.now test.arms.now test.other old new edges asks)) c.ask_number.ensures.asks

pub returns-then-has_spot_below-clause-asks : goal.returns-then-has_spot_below-clause-asks
returns-then-has_spot_below-clause-asks c =
    let test = c.args.test.now in
    let old = c.args.body.now in
    let new = c.ask_deep.new.body in
    let Asks : Ty → List Edge → Type 0 = λ ty edges. AsksPart c.args.agreed.now c.args.graph.now ty c.args.spots.now c.args.reads.now test.known.now test.position.now test.arms.now test.other old new edges in
    IfOk-weaker c.ask_deep.result (λ edges. Asks (Named c.in-Named.t) edges) (λ edges. Asks c.args.ty edges) (λ edges asks. subst (λ ty. Asks ty edges) (sym c.in-Named.is) asks) c.ask_deep.ensures.asks

pub returns-else-has_spot_below-clause-asks : goal.returns-else-has_spot_below-clause-asks
returns-else-has_spot_below-clause-asks c =
    let test = c.args.test.now in
    let old = c.args.body.now in
    let new = c.ask_leaf.new.body in
    let Asks : Ty → List Edge → Type 0 = λ ty edges. AsksPart c.args.agreed.now c.args.graph.now ty c.args.spots.now c.args.reads.now test.known.now test.position.now test.arms.now test.other old new edges in
    IfOk-weaker c.ask_leaf.result (λ edges. AsksLeaf c.args.agreed.now c.in-Named.t c.args.reads.now test.known.now test.position.now test.arms.now test.other old new edges) (λ edges. Asks c.args.ty edges)
    (λ edges asks. subst (λ ty. Asks ty edges) (sym c.in-Named.is) (leaf_part c.args.agreed.now c.args.graph.now c.in-Named.t c.args.spots.now c.args.reads.now test.known.now test.position.now test.arms.now test.other old new edges asks)) c.ask_leaf.ensures.asks

pub returns-in-Int-clause-stand : goal.returns-in-Int-clause-stand
returns-in-Int-clause-stand c = c.ask_number.ensures.stand

pub returns-in-Int-clause-grows : goal.returns-in-Int-clause-grows
returns-in-Int-clause-grows c = c.ask_number.ensures.grows

pub returns-then-has_spot_below-clause-stand : goal.returns-then-has_spot_below-clause-stand
returns-then-has_spot_below-clause-stand c = c.ask_deep.ensures.stand

pub returns-then-has_spot_below-clause-grows : goal.returns-then-has_spot_below-clause-grows
returns-then-has_spot_below-clause-grows c = c.ask_deep.ensures.grows

pub returns-else-has_spot_below-clause-stand : goal.returns-else-has_spot_below-clause-stand
returns-else-has_spot_below-clause-stand c = c.ask_leaf.ensures.stand

pub returns-else-has_spot_below-clause-grows : goal.returns-else-has_spot_below-clause-grows
returns-else-has_spot_below-clause-grows c = c.ask_leaf.ensures.grows
