use Rattle.std.proofs.Common.{◌∙◌, Some, None, ap, subst, sym}
use Rattle.rb_check.specs.inner.Answers.{AnswersFault}
use Rattle.rb_check.proofs.ProgramLemmas.{HasFault-fails, tree_fault, other_fault, tree_fault-Split}
use Rattle.rb_check.proofs.program.+leaves.Goals as goal

pub check_tree-returns-in_err-check_arms-in-Split : goal.check_tree-returns-in_err-check_arms-in-Split
check_tree-returns-in_err-check_arms-in-Split t c =
    HasFault-fails _ _ _ _ c.from_residual.ensures.1 c.in_err-check_arms-in-Split.ensures
    (λ f e. tree_fault-Split c.args.types.now c.args.ty c.args.tree.now _ _ _ _ (Some f) c.in-Split.is c.as_slice.ensures e)

pub check_tree-returns-in-None : goal.check_tree-returns-in-None
check_tree-returns-in-None t c =
    tree_fault-Split c.args.types.now c.args.ty c.args.tree.now _ _ _ _ None c.in-Split.is c.as_slice.ensures c.in_ok-check_arms-in-Split.ensures
    ∙ ap (other_fault c.args.types.now c.args.ty) c.in-None.is

pub check_tree-returns-in-Some : goal.check_tree-returns-in-Some
check_tree-returns-in-Some t c =
    let same = tree_fault-Split c.args.types.now c.args.ty c.args.tree.now _ _ _ _ None c.in-Split.is c.as_slice.ensures c.in_ok-check_arms-in-Split.ensures
    ∙ ap (other_fault c.args.types.now c.args.ty) c.in-Some.is ∙ ap (tree_fault c.args.types.now c.args.ty) (sym c.get.ensures) in
    subst (AnswersFault c.check_tree.result) (sym same) c.check_tree.ensures
