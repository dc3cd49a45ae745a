use Rattle.std.proofs.Common.{◌≡◌, ◌+◌, ◌-◌, ◌<◌, ◌≤◌, ◌++◌, length, refl, ap, sym, ◌∙◌, arith, append-nil}
use Rattle.std.proofs.lemmas.Option.{slice_get_read, slice_get-get_or}
use Rattle.rb_core.specs.declared.types.Ty.TheVariants.{Int}
use Rattle.rb_coding.specs.inner.Opening.{words_of}
use Rattle.rb_coding.proofs.PlanForms.{plan_end, plan_past, plan_more}
use Rattle.rb_coding.proofs.plan.+planning.Goals as goal
use Rattle.rb_coding.proofs.plan.+planning.Goals.{plan_fields-then-pats-tys, plan_fields-else-pats-tys}

pub plan_fields-loop-i-init : goal.plan_fields-loop-i-init
plan_fields-loop-i-init t c =
    let x = c.args.opening.now in
    let items = c.args.todo.now.items in
    elim c.if-pats-tys.branch [
      | plan_fields-then-pats-tys w ↦ sym (append-nil items) ∙ ap (λ xs. items ++ xs) (sym (plan_end x.types.now (words_of x) c.args.pats.now c.args.tys.now c.args.path.now c.if-pats-tys.count (omega (arith, w.count-is))))
      | plan_fields-else-pats-tys w ↦ sym (append-nil items) ∙ ap (λ xs. items ++ xs) (sym (plan_past x.types.now (words_of x) c.args.pats.now c.args.tys.now c.args.path.now c.if-pats-tys.count (omega (arith, w.count-is))))
    ]

pub plan_fields-loop-i-preserved : goal.plan_fields-loop-i-preserved
plan_fields-loop-i-preserved t c =
    let x = c.args.opening.now in
    let ps = c.args.pats.now in
    let ts = c.args.tys.now in
    let i = c.loop-i.i - 1 in
    let up : c.loop-i.i ≡ i + 1 = omega (arith, c.loop-i-test.true) in
    let in_ps : i < length ps = elim c.if-pats-tys.branch [
      | plan_fields-then-pats-tys w ↦ omega (arith, w.count-is, c.loop-i.auto.i, c.loop-i-test.true)
      | plan_fields-else-pats-tys w ↦ omega (arith, w.count-is, w.if-pats-tys.false, c.loop-i.auto.i, c.loop-i-test.true)
    ] in
    let in_ts : i < length ts = elim c.if-pats-tys.branch [
      | plan_fields-then-pats-tys w ↦ omega (arith, w.count-is, w.if-pats-tys.true, c.loop-i.auto.i, c.loop-i-test.true)
      | plan_fields-else-pats-tys w ↦ omega (arith, w.count-is, c.loop-i.auto.i, c.loop-i-test.true)
    ] in
    plan_more x.types.now (words_of x) ps ts c.args.path.now i c.loop-i.i c.index-pats-i.result _ up
    (slice_get_read ps (length ps) i c.index-pats-i.result refl in_ps c.index-pats-i.is) (slice_get-get_or ts i (Int 0) in_ts)
    c.args.todo.now.items c.loop-i.todo.items c.plan.new.todo.items c.loop-i.invariant
    (rw (c.as_slice.ensures, c.in_ok-field.ensures) at c.in_ok-plan.ensures)

pub plan_fields-path_below-requires : goal.plan_fields-path_below-requires
plan_fields-path_below-requires t c =
    let most = c.requires.types in
    let few : c.if-pats-tys.count ≤ length c.args.tys.now = elim c.if-pats-tys.branch [
      | plan_fields-then-pats-tys w ↦ omega (arith, w.count-is, w.if-pats-tys.true)
      | plan_fields-else-pats-tys w ↦ omega (arith, w.count-is)
    ] in
    omega (arith, c.loop-i-test.true, c.loop-i.auto.i, few, most)
