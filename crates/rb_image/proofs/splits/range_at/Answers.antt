use Rattle.std.proofs.Common.{sym}
use Rattle.rb_image.specs.Splits.{range_at as the_range}
use Rattle.rb_image.proofs.RangeLemmas.{range_more}
use Rattle.rb_image.proofs.Blanks.{no_step}
use Rattle.rb_image.proofs.splits.range_at.Goals as goal

pub loop-step-preserved : goal.loop-step-preserved
loop-step-preserved c =
    let m = c.args.memory.now in
    let loc = c.args.loc.now in
    range_more m c.loop-step.range loc.steps c.as_slice-step-items.result.now c.loop-step.step-index no_step c.as_slice-step-items.ensures c.loop-step-test.true (the_range m c.args.words.now loc)
    c.in_ok-step_over.field-0 c.range_of-range-in-loop-step.result c.loop-step.invariant (sym c.in_ok-step_over.ensures) c.range_of-range-in-loop-step.ensures
