use Rattle.std.proofs.Common.{Ok, sym, ap, ◌∙◌}
use Rattle.rb_core.specs.declared.layout_decl.LayTree as core_tree
use Rattle.rb_names.specs.inner.Parts.{numbered_arm}
use Rattle.rb_names.proofs.AnswerLemmas.{Answers-fails, parts-next, part-fails, parts-end}
use Rattle.rb_names.proofs.PartLemmas.{leaf-answers, arm-found, arm-fails, arms-fail, other-fails, split-found}
use Rattle.rb_names.proofs.layout.+splitting.Goals as goal

pub number_split-returns-in-Leaf : goal.number_split-returns-in-Leaf
number_split-returns-in-Leaf t c = leaf-answers c.args.tables.now _ c.args.tree.now c.in-Leaf.at c.in-Leaf.provenance c.in-Leaf.items _ c.in-Leaf.is c.as_slice.ensures c.number_leaf.ensures

pub number_split-returns-in_err-arms-in-Split : goal.number_split-returns-in_err-arms-in-Split
number_split-returns-in_err-arms-in-Split t c =
    Answers-fails _ _ _ _ c.from_residual.ensures.1 c.in_err-arms-in-Split.ensures
    (arms-fail c.args.tables.now c.args.tree.now c.in-Split.loc c.in-Split.arms c.as_slice-in-Split.result.now c.in-Split.other c.in-Split.is c.as_slice-in-Split.ensures)

pub number_split-returns-in_err-other-in-Split : goal.number_split-returns-in_err-other-in-Split
number_split-returns-in_err-other-in-Split t c =
    Answers-fails _ _ _ _ c.from_residual-in_err-other-in-Split.ensures.1 c.in_err-other-in-Split.ensures
    (other-fails c.args.tables.now c.args.tree.now c.in-Split.loc c.in-Split.arms c.as_slice-in-Split.result.now c.in-Split.other c.in-Split.is c.as_slice-in-Split.ensures
    c.in_ok-arms-in-Split.arms c.in_ok-arms-in-Split.ensures)

pub number_split-returns-in_ok-loc-in-Split : goal.number_split-returns-in_ok-loc-in-Split
number_split-returns-in_ok-loc-in-Split t c =
    split-found c.args.tables.now c.args.tree.now c.in-Split.loc c.in-Split.arms c.as_slice-in-Split.result.now c.in-Split.other c.in-Split.is c.as_slice-in-Split.ensures
    c.in_ok-arms-in-Split.arms c.in_ok-arms-in-Split.ensures c.in_ok-other-in-Split.other c.in_ok-other-in-Split.ensures
    ∙ ap (λ l. Ok (core_tree.Split l c.in_ok-arms-in-Split.arms c.in_ok-other-in-Split.other)) (sym c.in_ok-loc-in-Split.ensures)

pub number_arms-loop-tree-preserved : goal.number_arms-loop-tree-preserved
number_arms-loop-tree-preserved t c =
    parts-next (numbered_arm c.args.tables.now) c.args.trees.now c.loop-tree.tree-index c.loop-tree.arms c.tree-item.result c.loop-tree-test.true c.tree-item.is
    c.push.new.self _ c.in_ok-push.ensures.ok (arm-found c.args.tables.now c.tree-item.result c.in_ok-under.under c.in_ok-under.ensures)
    ∙ c.loop-tree.invariant

pub number_arms-returns-in_err-under : goal.number_arms-returns-in_err-under
number_arms-returns-in_err-under t c =
    Answers-fails _ _ _ _ c.from_residual.ensures.1 c.in_err-under.ensures (λ f h.
    part-fails (numbered_arm c.args.tables.now) c.args.trees.now c.loop-tree.tree-index c.loop-tree.arms c.tree-item.result c.loop-tree-test.true c.tree-item.is
    _ c.loop-tree.invariant f (arm-fails c.args.tables.now c.tree-item.result f h))

pub number_arms-returns : goal.number_arms-returns
number_arms-returns t c =
    parts-end (numbered_arm c.args.tables.now) c.args.trees.now c.loop-tree.tree-index c.loop-tree.arms _ c.loop-tree-test.false c.loop-tree.invariant
