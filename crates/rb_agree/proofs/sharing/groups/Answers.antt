use Rattle.rb_agree.proofs.Grouping.{group-added}
use Rattle.rb_agree.proofs.sharing.groups.Goals as goal

pub loop-con-preserved : goal.loop-con-preserved
loop-con-preserved c =
    group-added c.args.heads.now c.loop-con.con c.in_ok-members.field-0 c.loop-con.groups c.push.new.self c.loop-con.invariant c.in_ok-members.ensures c.in_ok-push.ensures.ok
