use Rattle.std.proofs.Common.{rules}
use Rattle.rb_trim.proofs.Acting.{whole_arms}
use Rattle.rb_trim.proofs.returning.has_all.Goals as goal

pub returns : goal.returns
returns c = λ t.
    whole_arms c.args.facts.now c.args.slot c.source-from.result c.args.l c.args.count c.args.other c.args.arms.now c.source-from.ensures
    (c.is_narrow.ensures (search rules)) (search rules) (c.has_arms.ensures t)
