use Rattle.rb_agree.proofs.Reading.{type-added}
use Rattle.rb_agree.proofs.leaves.all_leaves.Goals as goal

pub loop-t-preserved : goal.loop-t-preserved
loop-t-preserved c =
    type-added c.args.decls.now c.loop-t.t c.in_ok-number_of.field-0 c.in_ok-leaves_of.field-0 c.loop-t.written c.push.new.self c.loop-t.invariant c.in_ok-number_of.ensures c.in_ok-leaves_of.ensures c.in_ok-push.ensures.ok
