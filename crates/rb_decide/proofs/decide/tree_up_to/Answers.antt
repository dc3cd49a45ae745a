use Rattle.std.proofs.Common.{[], ◌∷◌, subst, sym, ap, ◌∙◌}
use Rattle.rb_decide.specs.Decisions.{TakesChosen, TestsOnce, TestsHeads}
use Rattle.rb_decide.proofs.Decided.{built-tree}
use Rattle.rb_decide.proofs.Taking.{match-takes}
use Rattle.rb_decide.proofs.Positions.{match-once, match-heads}
use Rattle.rb_decide.proofs.decide.tree_up_to.Goals as goal

pub returns-in-Some-clause-takes : goal.returns-in-Some-clause-takes
returns-in-Some-clause-takes c exhaustive =
    let is = built-tree c.args.types.now c.args.ty c.args.rows.now _ _ _ _ _ _ (ap (λ x. x ∷ []) c.scrutinee.ensures) (c.as_slice.ensures ∙ c.in_ok-rows.ensures) c.in_ok-tree.ensures c.in-Some.is in
    subst (TakesChosen c.args.types.now c.args.ty c.args.rows.now) (sym is) (match-takes c.args.types.now c.args.ty c.args.rows.now exhaustive)

pub returns-in-Some-clause-once : goal.returns-in-Some-clause-once
returns-in-Some-clause-once c =
    let is = built-tree c.args.types.now c.args.ty c.args.rows.now _ _ _ _ _ _ (ap (λ x. x ∷ []) c.scrutinee.ensures) (c.as_slice.ensures ∙ c.in_ok-rows.ensures) c.in_ok-tree.ensures c.in-Some.is in
    subst TestsOnce (sym is) (match-once c.args.types.now c.args.ty c.args.rows.now)

pub returns-in-Some-clause-heads : goal.returns-in-Some-clause-heads
returns-in-Some-clause-heads c =
    let is = built-tree c.args.types.now c.args.ty c.args.rows.now _ _ _ _ _ _ (ap (λ x. x ∷ []) c.scrutinee.ensures) (c.as_slice.ensures ∙ c.in_ok-rows.ensures) c.in_ok-tree.ensures c.in-Some.is in
    subst (TestsHeads c.args.rows.now) (sym is) (match-heads c.args.types.now c.args.ty c.args.rows.now)
