use Rattle.std.proofs.Common.{take, [], ◌∷◌, ◌++◌, Some, refl, sym, subst}
use Rattle.std.proofs.lemmas.List.{take_all}
use Rattle.rb_decide.specs.inner.Sharing.{AreShared, IsAdded, IsOtherShared, IsShared}
use Rattle.rb_decide.specs.declared.decision_graph.GraphNode.TheVariants.{Test}
use Rattle.rb_decide.proofs.Moving.{take-next}
use Rattle.rb_decide.proofs.Unfolding.{arms-none, arms-more, clause-shared, test-links, test-shared, other-some}
use Rattle.rb_decide.proofs.subtrees.+sharing.Goals as goal

pub add_tree-add-requires-in-Test-clause-links : goal.add_tree-add-requires-in-Test-clause-links
add_tree-add-requires-in-Test-clause-links t c =
    let arms = subst (λ l. AreShared l c.args.sharing.now c.add_arms.new.sharing c.in_ok-arms-in-Test.arms) c.as_slice.ensures c.in_ok-arms-in-Test.ensures in
    test-links c.add_arms.new.sharing c.add_other.new.sharing c.in-Test.arms c.in_ok-arms-in-Test.arms c.in-Test.other c.in_ok-other-in-Test.other c.args.sharing.now c.in-Test.position
    arms c.in_ok-other-in-Test.ensures

pub add_tree-returns-in_ok-number-in-Test : goal.add_tree-returns-in_ok-number-in-Test
add_tree-returns-in_ok-number-in-Test t c =
    let arms = subst (λ l. AreShared l c.args.sharing.now c.add_arms.new.sharing c.in_ok-arms-in-Test.arms) c.as_slice.ensures c.in_ok-arms-in-Test.ensures in
    let added = subst (λ q. IsAdded c.add_other.new.sharing c.add-in-Test.new.self (Test q c.in_ok-arms-in-Test.arms c.in_ok-other-in-Test.other) c.in_ok-number-in-Test.number)
    c.in_ok-position-in-Test.ensures c.in_ok-number-in-Test.ensures in
    subst (λ x. IsShared x c.args.sharing.now c.add-in-Test.new.self c.in_ok-number-in-Test.number) (sym c.in-Test.is)
    (test-shared c.args.sharing.now c.add_arms.new.sharing c.add_other.new.sharing c.add-in-Test.new.self c.in-Test.position c.in-Test.arms c.in_ok-arms-in-Test.arms
    c.in-Test.other c.in_ok-other-in-Test.other c.in_ok-number-in-Test.number arms c.in_ok-other-in-Test.ensures added)

pub add_tree-returns-in_ok-number-in-Clause : goal.add_tree-returns-in_ok-number-in-Clause
add_tree-returns-in_ok-number-in-Clause t c =
    subst (λ x. IsShared x c.args.sharing.now c.add.new.self c.in_ok-number-in-Clause.number) (sym c.in-Clause.is)
    (clause-shared c.args.sharing.now c.add.new.self c.in-Clause.clause c.in_ok-number-in-Clause.number c.in_ok-number-in-Clause.ensures)

pub add_arms-loop-arm-init : goal.add_arms-loop-arm-init
add_arms-loop-arm-init t c = subst (AreShared [] c.args.sharing.now c.args.sharing.now) (sym c.new-links.ensures) (arms-none c.args.sharing.now c.requires)

pub add_arms-loop-arm-preserved : goal.add_arms-loop-arm-preserved
add_arms-loop-arm-preserved t c =
    subst (λ l. AreShared l c.args.sharing.now c.add_tree.new.sharing c.push.new.self) (sym (take-next c.args.arms.now c.loop-arm.arm-index c.arm-item.result c.loop-arm-test.true c.arm-item.is))
    (subst (AreShared (take c.loop-arm.arm-index c.args.arms.now ++ c.arm-item.result ∷ []) c.args.sharing.now c.add_tree.new.sharing) (sym c.in_ok-push.ensures.ok)
    (arms-more c.args.sharing.now c.loop-arm.sharing c.add_tree.new.sharing (take c.loop-arm.arm-index c.args.arms.now) c.loop-arm.links c.arm-item.result
    (record { head = c.arm-item.result.head; under = c.in_ok-under.under }) c.loop-arm.invariant c.in_ok-under.ensures refl))

pub add_arms-returns : goal.add_arms-returns
add_arms-returns t c =
    subst (λ l. AreShared l c.args.sharing.now c.loop-arm.sharing c.loop-arm.links) (take_all c.loop-arm.arm-index c.args.arms.now c.loop-arm-test.false) c.loop-arm.invariant

pub add_other-returns-in_ok-number-in-Some : goal.add_other-returns-in_ok-number-in-Some
add_other-returns-in_ok-number-in-Some t c =
    let shared = subst (λ x. IsShared x c.args.sharing.now c.add_tree.new.sharing c.in_ok-number-in-Some.number) c.get.ensures c.in_ok-number-in-Some.ensures in
    subst (λ x. IsOtherShared x c.args.sharing.now c.add_tree.new.sharing (Some c.in_ok-number-in-Some.number)) (sym c.in-Some.is)
    (other-some c.args.sharing.now c.add_tree.new.sharing c.in-Some.tree c.in_ok-number-in-Some.number shared)
