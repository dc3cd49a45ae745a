use Rattle.rb_trim.proofs.Acting.{whole_other}
use Rattle.rb_trim.proofs.returning.is_whole.Goals as goal

pub returns-in-Some : goal.returns-in-Some
returns-in-Some c = λ t. whole_other c.args.facts.now c.args.slot c.args.other c.in-Some.field-0 c.args.arms.now c.in-Some.is
