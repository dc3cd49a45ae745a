use Rattle.std.proofs.Common.{subst, sym, refl, length, ◌≤◌, ◌+◌}
use Rattle.std.proofs.lemmas.Option.{slice_get-get_or}
use Rattle.rb_layout.specs.A1.{IsShapeWidth}
use Rattle.rb_agree.specs.inner.Lists.{EachBefore}
use Rattle.rb_agree.proofs.Lists.{before-next, before-all}
use Rattle.rb_agree.proofs.shapes.shape_fault.Goals as goal

pub loop-i-preserved : goal.loop-i-preserved
loop-i-preserved c =
    let ws = c.as_slice-width-items.result.now in
    subst (λ ws. EachBefore IsShapeWidth ws (c.loop-i.i + 1)) c.as_slice-width-items.ensures
    (before-next IsShapeWidth ws c.loop-i.i _ (slice_get-get_or ws c.loop-i.i 0 c.loop-i-test.true) (c.if-not-is_shape_width.ensures.0 refl)
    (subst (λ ws. EachBefore IsShapeWidth ws c.loop-i.i) (sym c.as_slice-width-items.ensures) c.loop-i.invariant))

pub returns : goal.returns
returns c =
    before-all IsShapeWidth c.args.decl.now.shape c.loop-i.i (subst (λ ws. length ws ≤ c.loop-i.i) c.as_slice-width-items.ensures c.loop-i-test.false) c.loop-i.invariant
