use Rattle.std.proofs.Common.{◌<◌, List, length, get_or, sym, ap, subst, ◌∙◌}
use Rattle.std.specs.Prelude.{slice_get, Option, ℕ}
use Rattle.rb_layout.specs.declared.layout.Leaf.{Leaf}
use Rattle.rb_agree.specs.inner.Sharing.{AreGroups, heads_in}
use Rattle.rb_agree.proofs.Grouping.{mark-added}
use Rattle.rb_agree.proofs.Lists.{at-item}
use Rattle.rb_agree.proofs.sharing.sharing_marks.Goals as goal

pub loop-n-preserved : goal.loop-n-preserved
loop-n-preserved c =
    let leaf = c.index-leaves-n.result in
    mark-added c.args.types.now c.args.ty c.args.layout.now.leaves c.loop-n.n leaf c.in_ok-shares.field-0 c.loop-n.marks c.push.new.self c.loop-n.invariant
    (subst (λ (ls : List Leaf). c.loop-n.n < length ls) c.as_slice-leaves.ensures c.loop-n-test.true)
    (c.index-leaves-n.is ∙ ap (λ (ls : List Leaf). get_or ls c.loop-n.n leaf) c.as_slice-leaves.ensures)
    c.in_ok-shares.ensures c.in_ok-push.ensures.ok

pub shares-requires-clause-heads : goal.shares-requires-clause-heads
shares-requires-clause-heads c =
    let heads = c.in_ok-heads.ensures in
    (heads.0, c.as_slice-in-loop-n.ensures ∙ heads.1 ∙ ap (λ (ls : List Leaf). heads_in heads.0 ls) c.as_slice-leaves.ensures)

pub shares-requires-clause-groups : goal.shares-requires-clause-groups
shares-requires-clause-groups c =
    subst (λ (heads : List (Option ℕ)). AreGroups heads c.as_slice-in-loop-n-2.result.now) (c.as_slice.ensures ∙ sym c.as_slice-in-loop-n.ensures)
    (subst (λ (groups : List (List ℕ)). AreGroups c.as_slice.result.now groups) (sym c.as_slice-in-loop-n-2.ensures) c.in_ok-groups.ensures)

pub shares-requires-clause-leaf : goal.shares-requires-clause-leaf
shares-requires-clause-leaf c =
    ap (λ (ls : List Leaf). slice_get ls c.loop-n.n) (sym c.as_slice-leaves.ensures)
    ∙ at-item c.as_slice-leaves.result.now c.loop-n.n c.index-leaves-n.result c.loop-n-test.true c.index-leaves-n.is
