use Rattle.std.proofs.Common.{map, sym, arith}
use Rattle.rb_image.specs.Sites.{kept_of}
use Rattle.rb_image.specs.Splits.{range_at}
use Rattle.rb_image.proofs.RangeLemmas.{range_more}
use Rattle.rb_image.proofs.Blanks.{no_step}
use Rattle.rb_image.proofs.leaf.read_range.Goals as goal

pub loop-step-preserved : goal.loop-step-preserved
loop-step-preserved g c =
    let m = c.args.image.now.blocks in
    let loc = c.args.loc.now in
    let due = range_at m (map (kept_of c.args.image.now) c.args.sites.now) loc in
    let least = c.loop-step.invariant.least in
    let most = c.loop-step.invariant.most in
    let read_least = c.read_step.ensures.least in
    let read_most = c.read_step.ensures.most in
    record {
      bits = range_more m c.loop-step.range loc.steps c.as_slice-step-items.result.now c.loop-step.step-index no_step c.as_slice-step-items.ensures c.loop-step-test.true due
          c.in_ok-read_step.field-0 c.range_of-range-in-loop-step.result c.loop-step.invariant.bits (sym c.in_ok-read_step.ensures.word) c.range_of-range-in-loop-step.ensures;
      least = omega (arith, least, read_least);
      most = omega (arith, most, read_most);
    }
