use Rattle.rb_matrix.proofs.Keys.{below-push}
use Rattle.rb_matrix.proofs.index.numbers_below.Goals as goal

pub loop-number-preserved : goal.loop-number-preserved
loop-number-preserved c = below-push c.loop-number.numbers c.push.new.self c.loop-number.number c.in_ok-push.ensures.ok c.loop-number.invariant
