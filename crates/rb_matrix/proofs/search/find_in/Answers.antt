use Rattle.std.proofs.Common.{[], ◌∷◌, ◌++◌, sym, ap, ◌∙◌, subst, arith}
use Rattle.rb_matrix.specs.declared.problem.Left.TheVariants.{Whole}
use Rattle.rb_matrix.specs.inner.Problems.{row_for_root, FoundIn}
use Rattle.rb_matrix.specs.inner.Left.{IsOutcome, IsWorking, costs}
use Rattle.rb_matrix.proofs.Working.{within-last, working-split, working-start, split-falls}
use Rattle.rb_matrix.proofs.search.find_in.Goals as goal

pub loop-left-init : goal.loop-left-init
loop-left-init c =
    working-start c.args.types.now c.args.root _ c.requires.live c.requires.root (c.in_ok-push.ensures.items ∙ ap (λ l. l ++ Whole c.args.root ∷ []) c.new-work.ensures.items)

pub step-requires-clause-ready : goal.step-requires-clause-ready
step-requires-clause-ready c =
    let working = subst (IsWorking c.args.types.now c.args.root) c.in-Some.ensures.items c.loop-left.invariant in
    (within-last c.args.types.now c.args.root c.pop.new.self.items c.in-Some.left working).ready

pub returns-in-Solved : goal.returns-in-Solved
returns-in-Solved c =
    let root = c.args.root in
    let working = subst (IsWorking c.args.types.now root) c.in-Some.ensures.items c.loop-left.invariant in
    let solved = subst (IsOutcome c.args.types.now c.in-Some.left) c.in-Solved.is c.in_ok-outcome.ensures in
    subst (FoundIn c.args.types.now root) (sym (c.in_ok-row-in-Solved.ensures ∙ ap (λ ss. row_for_root ss []) solved.1))
    ((within-last c.args.types.now root c.pop.new.self.items c.in-Some.left working).sound [] solved.0)

pub loop-left-smaller : goal.loop-left-smaller
loop-left-smaller c =
    let split = subst (IsOutcome c.args.types.now c.in-Some.left) c.in-Split.is c.in_ok-outcome.ensures in
    let falls = split-falls c.args.types.now c.pop.new.self.items c.in-Some.left c.in-Split.parts.items split in
    let new = ap (costs c.args.types.now) c.in_ok-append-in-Split.ensures.items in
    let old = ap (costs c.args.types.now) c.in-Some.ensures.items in
    omega (arith, falls, new, old)

pub loop-left-preserved : goal.loop-left-preserved
loop-left-preserved c =
    let root = c.args.root in
    let working = subst (IsWorking c.args.types.now root) c.in-Some.ensures.items c.loop-left.invariant in
    let split = subst (IsOutcome c.args.types.now c.in-Some.left) c.in-Split.is c.in_ok-outcome.ensures in
    subst (IsWorking c.args.types.now root) (sym c.in_ok-append-in-Split.ensures.items)
    (working-split c.args.types.now root c.pop.new.self.items c.in-Some.left c.in-Split.parts.items working split)
