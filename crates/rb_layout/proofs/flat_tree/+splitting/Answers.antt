use Rattle.std.proofs.Common.{length, Some, [], ◌∷◌, ap, sym, subst, ◌∙◌, ◌≡◌, ◌++◌, map, OnOk}
use Rattle.std.proofs.lemmas.Option.{slice_get-get_or}
use Rattle.std.specs.List.{flat_map}
use Rattle.rb_core.specs.declared.layout_decl.LayTree as S
use Rattle.rb_core.specs.Layouts.{leaves, leaves_under}
use Rattle.rb_layout.specs.Flattening.{flat_leaf, numbering, arms_from, arm_numbering}
use Rattle.rb_layout.proofs.TreeLemmas.{one_leaf, split_leaves, else_leaves, else_tree, arms_on}
use Rattle.rb_layout.proofs.flat_tree.+splitting.Goals as goal

pub flat_arms-loop-arm-preserved : goal.flat_arms-loop-arm-preserved
flat_arms-loop-arm-preserved t c =
    arms_on (flat_leaf c.args.program.now.types c.args.program.now.layouts) c.args.arms.now c.loop-arm.arm-index c.arm-item.result c.in_ok-flat_arm.field-0 _ _ c.loop-arm.flats c.push.new.self c.loop-arm.flat c.flat_arm.new.flat
    (slice_get-get_or c.args.arms.now c.loop-arm.arm-index _ c.loop-arm-test.true ∙ ap Some (sym c.arm-item.is)) c.in_ok-flat_arm.ensures.arm c.in_ok-flat_arm.ensures.leaves c.in_ok-push.ensures.ok c.loop-arm.invariant

pub flat_tree-returns-in-Leaf-clause-leaves : goal.flat_tree-returns-in-Leaf-clause-leaves
flat_tree-returns-in-Leaf-clause-leaves t c =
    let f = flat_leaf c.args.program.now.types c.args.program.now.layouts in
    subst (λ ls. OnOk c.push_leaf.result (c.push_leaf.new.flat ≡ c.args.flat.now ++ ls))
    (ap (λ xs. f (record { provenance = c.in-Leaf.prov; items = xs }) ∷ []) c.as_slice.ensures ∙ sym (one_leaf f c.args.tree.now c.in-Leaf.field-0 c.in-Leaf.prov c.in-Leaf.items c.in-Leaf.is)) c.push_leaf.ensures.leaves

pub flat_tree-returns-in-None-clause-leaves : goal.flat_tree-returns-in-None-clause-leaves
flat_tree-returns-in-None-clause-leaves t c =
    let f = flat_leaf c.args.program.now.types c.args.program.now.layouts in
    c.in_ok-arms-in-Split.ensures.leaves
    ∙ ap (λ xs. c.args.flat.now ++ map f (flat_map leaves_under xs)) c.as_slice-in-Split.ensures
    ∙ ap (λ ls. c.args.flat.now ++ ls) (sym (split_leaves f c.args.tree.now c.in-Split.loc c.in-Split.arms (c.in-Split.is ∙ ap (λ o. S.Split c.in-Split.loc c.in-Split.arms o) c.in-None.is)))

pub flat_tree-returns-in_ok-under-in-Some-2-clause-tree : goal.flat_tree-returns-in_ok-under-in-Some-2-clause-tree
flat_tree-returns-in_ok-under-in-Some-2-clause-tree t c =
    let f = flat_leaf c.args.program.now.types c.args.program.now.layouts in
    else_tree f c.args.tree.now c.in-Split.loc c.in-Split.arms c.in-Some.other c.args.flat.now c.flat_arms.new.flat c.in_ok-loc-in-Split.loc c.in_ok-arms-in-Split.arms c.in_ok-under-in-Some-2.under
    c.in_ok-loc-in-Split.ensures (c.in-Split.is ∙ ap (λ o. S.Split c.in-Split.loc c.in-Split.arms o) c.in-Some.is)
    (c.in_ok-arms-in-Split.ensures.leaves ∙ ap (λ xs. c.args.flat.now ++ map f (flat_map leaves_under xs)) c.as_slice-in-Split.ensures)
    (c.in_ok-arms-in-Split.ensures.arms ∙ ap (λ xs. arms_from (map arm_numbering xs) (length c.args.flat.now)) c.as_slice-in-Split.ensures)
    (c.in_ok-under-in-Some-2.ensures ∙ c.in_ok-under-in-Some.ensures.tree ∙ ap (λ x. (numbering x).from (length c.flat_arms.new.flat)) c.get.ensures)

pub flat_tree-returns-in_ok-under-in-Some-2-clause-leaves : goal.flat_tree-returns-in_ok-under-in-Some-2-clause-leaves
flat_tree-returns-in_ok-under-in-Some-2-clause-leaves t c =
    let f = flat_leaf c.args.program.now.types c.args.program.now.layouts in
    else_leaves f c.args.tree.now c.in-Split.loc c.in-Split.arms c.in-Some.other c.args.flat.now c.flat_arms.new.flat c.flat_tree.new.flat
    (c.in-Split.is ∙ ap (λ o. S.Split c.in-Split.loc c.in-Split.arms o) c.in-Some.is)
    (c.in_ok-arms-in-Split.ensures.leaves ∙ ap (λ xs. c.args.flat.now ++ map f (flat_map leaves_under xs)) c.as_slice-in-Split.ensures)
    (c.in_ok-under-in-Some.ensures.leaves ∙ ap (λ x. c.flat_arms.new.flat ++ map f (leaves x)) c.get.ensures)
