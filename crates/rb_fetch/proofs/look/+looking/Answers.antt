use Rattle.std.proofs.Common.{Some, refl, sym, ap, ◌∙◌, arith}
use Rattle.std.proofs.lemmas.Option.{slice_get-get_or}
use Rattle.rb_target.proofs.Growing.{Grows-append}
use Rattle.rb_fetch.proofs.Looking.{looks_leaf}
use Rattle.rb_fetch.proofs.LookForms.{looks_start, arm_is_hole, is_before, arm_leaf, arm_look, else_is_hole, no_else, else_leaf, else_look}
use Rattle.rb_fetch.proofs.look.+looking.Goals as goal
use Rattle.rb_fetch.proofs.look.+looking.Goals.{in-Leaf-under+in_ok-push-in-Leaf-under, in-Split-under+in_ok-look-in-Split-under}

pub loop-k-init : goal.loop-k-init
loop-k-init t c =
    rw (c.as_slice-arm-items.ensures, c.in_ok-push-in-Split.ensures.ok, c.then_some.ensures, c.is_some.ensures, c.in_ok-places-in-Split.ensures, c.as_slice.ensures, c.len-pc.ensures.value)
    (looks_start c.args.words.now c.args.widths.now c.args.tree.now c.in-Split.arms c.in-Split.other c.args.body.now c.args.holes.now c.in-Split.loc c.fetch_bits.new.body c.in_ok-slot-in-Split.slot _ c.in-Split.is
    c.in_ok-slot-in-Split.ensures.reads c.in_ok-slot-in-Split.ensures.grows refl)

pub lead_here-requires-clause-inside : goal.lead_here-requires-clause-inside
lead_here-requires-clause-inside t c =
    arm_is_hole c.args.words.now c.args.widths.now c.args.tree.now _ c.in-Split.other c.args.body.now c.args.holes.now c.len-pc.result c.loop-k.k c.loop-k.body c.loop-k.holes c.loop-k.invariant c.arm-item.result
    (slice_get-get_or c.as_slice-arm-items.result.now c.loop-k.k c.arm-item.result c.loop-k-test.true ∙ ap Some (sym c.arm-item.is))

pub lead_here-requires-clause-forward : goal.lead_here-requires-clause-forward
lead_here-requires-clause-forward t c =
    is_before c.args.words.now c.args.widths.now c.args.tree.now _ c.in-Split.other c.args.body.now c.args.holes.now c.len-pc.result c.loop-k.k c.loop-k.body c.loop-k.holes c.loop-k.invariant

pub loop-k-preserved : goal.loop-k-preserved
loop-k-preserved t c =
    let at = slice_get-get_or c.as_slice-arm-items.result.now c.loop-k.k c.arm-item.result c.loop-k-test.true ∙ ap Some (sym c.arm-item.is) in
    elim c.match-arm.branch [
      | in-Leaf-under+in_ok-push-in-Leaf-under w ↦ rw (w.body-is, w.holes-is, w.in_ok-push-in-Leaf-under.ensures.ok, w.way_out.ensures)
          (arm_leaf c.args.words.now c.args.widths.now c.args.tree.now _ c.in-Split.other c.args.body.now c.args.holes.now c.len-pc.result c.loop-k.k c.loop-k.body c.loop-k.holes c.loop-k.invariant c.arm-item.result w.in-Leaf-under.leaf at w.in-Leaf-under.is)
      | in-Split-under+in_ok-look-in-Split-under w ↦ rw (w.body-is, w.holes-is)
          (arm_look c.args.words.now c.args.widths.now c.args.tree.now _ c.in-Split.other c.args.body.now c.args.holes.now c.len-pc.result c.loop-k.k c.loop-k.body c.loop-k.holes c.loop-k.invariant c.arm-item.result _ _ at
          (rw w.lead_here.ensures at w.in_ok-look-in-Split-under.ensures.grows) (rw w.lead_here.ensures at w.in_ok-look-in-Split-under.ensures.looks))
    ]

pub lead_here-requires-in-Split-get-clause-inside : goal.lead_here-requires-in-Split-get-clause-inside
lead_here-requires-in-Split-get-clause-inside t c =
    else_is_hole c.args.words.now c.args.widths.now c.args.tree.now _ c.in-Split.other c.args.body.now c.args.holes.now c.len-pc.result c.loop-k.k c.loop-k.body c.loop-k.holes c.loop-k.invariant _ c.in-Some.is

pub lead_here-requires-in-Split-get-clause-forward : goal.lead_here-requires-in-Split-get-clause-forward
lead_here-requires-in-Split-get-clause-forward t c =
    is_before c.args.words.now c.args.widths.now c.args.tree.now _ c.in-Split.other c.args.body.now c.args.holes.now c.len-pc.result c.loop-k.k c.loop-k.body c.loop-k.holes c.loop-k.invariant

pub returns-in_ok-leave-in-Leaf-clause-grows : goal.returns-in_ok-leave-in-Leaf-clause-grows
returns-in_ok-leave-in-Leaf-clause-grows t c = rw c.in_ok-leave-in-Leaf.ensures.code (Grows-append _ _)

pub returns-in_ok-leave-in-Leaf-clause-looks : goal.returns-in_ok-leave-in-Leaf-clause-looks
returns-in_ok-leave-in-Leaf-clause-looks t c =
    rw (c.in-Leaf.is, c.in_ok-leave-in-Leaf.ensures.code, c.in_ok-leave-in-Leaf.ensures.holes) (looks_leaf c.args.words.now c.args.widths.now c.in-Leaf.leaf c.args.body.now c.args.holes.now)

pub returns-in-None-clause-grows : goal.returns-in-None-clause-grows
returns-in-None-clause-grows t c = c.loop-k.invariant.grows

pub returns-in-None-clause-looks : goal.returns-in-None-clause-looks
returns-in-None-clause-looks t c =
    no_else c.args.words.now c.args.widths.now c.args.tree.now _ c.in-Split.other c.args.body.now c.args.holes.now c.len-pc.result c.loop-k.k c.loop-k.body c.loop-k.holes c.loop-k.invariant (omega (arith, c.loop-k-test.false, c.loop-k.auto.k-end)) c.in-None.is

pub returns-in_ok-push-in-Leaf-get-clause-grows : goal.returns-in_ok-push-in-Leaf-get-clause-grows
returns-in_ok-push-in-Leaf-get-clause-grows t c = c.loop-k.invariant.grows

pub returns-in_ok-push-in-Leaf-get-clause-looks : goal.returns-in_ok-push-in-Leaf-get-clause-looks
returns-in_ok-push-in-Leaf-get-clause-looks t c =
    rw (c.in_ok-push-in-Leaf-get.ensures.ok, c.way_out-in-Leaf-get.ensures)
    (else_leaf c.args.words.now c.args.widths.now c.args.tree.now _ c.in-Split.other c.args.body.now c.args.holes.now c.len-pc.result c.loop-k.k c.loop-k.body c.loop-k.holes c.loop-k.invariant (omega (arith, c.loop-k-test.false, c.loop-k.auto.k-end)) c.in-Leaf-get.leaf
    (c.in-Some.is ∙ ap Some (sym c.get.ensures ∙ c.in-Leaf-get.is)))

pub returns-in_ok-look-in-Split-get-clause-grows : goal.returns-in_ok-look-in-Split-get-clause-grows
returns-in_ok-look-in-Split-get-clause-grows t c =
    let r = else_look c.args.words.now c.args.widths.now c.args.tree.now _ c.in-Split.other c.args.body.now c.args.holes.now c.len-pc.result c.loop-k.k c.loop-k.body c.loop-k.holes c.loop-k.invariant (omega (arith, c.loop-k-test.false, c.loop-k.auto.k-end)) _ _ _ c.in-Some.is
    (rw c.lead_here-in-Split-get.ensures at c.in_ok-look-in-Split-get.ensures.grows)
    (rw (c.lead_here-in-Split-get.ensures, c.get-in-Split-get.ensures) at c.in_ok-look-in-Split-get.ensures.looks) in r.0

pub returns-in_ok-look-in-Split-get-clause-looks : goal.returns-in_ok-look-in-Split-get-clause-looks
returns-in_ok-look-in-Split-get-clause-looks t c =
    let r = else_look c.args.words.now c.args.widths.now c.args.tree.now _ c.in-Split.other c.args.body.now c.args.holes.now c.len-pc.result c.loop-k.k c.loop-k.body c.loop-k.holes c.loop-k.invariant (omega (arith, c.loop-k-test.false, c.loop-k.auto.k-end)) _ _ _ c.in-Some.is
    (rw c.lead_here-in-Split-get.ensures at c.in_ok-look-in-Split-get.ensures.grows)
    (rw (c.lead_here-in-Split-get.ensures, c.get-in-Split-get.ensures) at c.in_ok-look-in-Split-get.ensures.looks) in r.1
