use Rattle.rb_agree.proofs.Marking.{marks-more}
use Rattle.rb_agree.proofs.pointers.pointer_marks.Goals as goal

pub loop-layout-preserved : goal.loop-layout-preserved
loop-layout-preserved c =
    marks-more c.args.layouts.now c.loop-layout.layout-index c.layout-item.result c.loop-layout.marks c.push.new.self c.leaves_point.result c.as_slice.result.now
    c.loop-layout-test.true c.layout-item.is c.loop-layout.invariant c.as_slice.ensures c.leaves_point.ensures c.in_ok-push.ensures.ok
