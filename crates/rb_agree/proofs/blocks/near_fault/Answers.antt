use Rattle.rb_agree.proofs.Lists.{at-item}
use Rattle.rb_agree.proofs.Reaching.{near-among}
use Rattle.rb_agree.proofs.blocks.near_fault.Goals as goal

pub returns-in-Some : goal.returns-in-Some
returns-in-Some c =
    near-among c.args.blocks.now c.args.parts.now c.loop-part.part-index c.part-item.result c.in-Some.why
    (at-item c.args.parts.now c.loop-part.part-index c.part-item.result c.loop-part-test.true c.part-item.is) c.in-Some.ensures
