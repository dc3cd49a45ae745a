use Rattle.std.proofs.Common.{ℕ, List, Some, None, subst}
use Rattle.rb_layout.specs.Positions.{open_positions}
use Rattle.rb_agree.specs.inner.Held.{FailsPath, IsOpenPath}
use Rattle.rb_agree.specs.inner.Lists.{FindsIn}
use Rattle.rb_agree.proofs.Lists.{flat-found, flat-passed, flat-ends}
use Rattle.rb_agree.proofs.Holding.{all-paths, paths_in}
use Rattle.rb_agree.proofs.held.items_fault.Goals as goal

pub returns-in-Some : goal.returns-in-Some
returns-in-Some c =
    let opens = open_positions c.args.types.now c.args.prov.now in
    subst (λ (ps : List (List ℕ)). FindsIn (IsOpenPath opens) (FailsPath opens) ps (Some c.in-Some.why)) (all-paths c.args.items.now)
    (flat-found (IsOpenPath opens) (FailsPath opens) paths_in c.args.items.now c.loop-item.item-index c.item-item.result c.in_ok-why.field-0 c.in-Some.why
    c.loop-item-test.true c.item-item.is c.in_ok-why.ensures c.in-Some.is c.loop-item.invariant)

pub loop-item-preserved : goal.loop-item-preserved
loop-item-preserved c =
    let opens = open_positions c.args.types.now c.args.prov.now in
    flat-passed (IsOpenPath opens) (FailsPath opens) paths_in c.args.items.now c.loop-item.item-index c.item-item.result c.in_ok-why.field-0
    c.loop-item-test.true c.item-item.is c.in_ok-why.ensures c.in_default.is c.loop-item.invariant

pub returns : goal.returns
returns c =
    let opens = open_positions c.args.types.now c.args.prov.now in
    subst (λ (ps : List (List ℕ)). FindsIn (IsOpenPath opens) (FailsPath opens) ps None) (all-paths c.args.items.now)
    (flat-ends (IsOpenPath opens) (FailsPath opens) paths_in c.args.items.now c.loop-item.item-index c.loop-item-test.false c.loop-item.invariant)
