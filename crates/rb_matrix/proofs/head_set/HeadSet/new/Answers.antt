use Rattle.rb_matrix.proofs.HeadSets.{none-held}
use Rattle.rb_matrix.proofs.head_set.HeadSet.new.Goals as goal

pub returns : goal.returns
returns c = none-held (record { numbers = c.new-numbers.result; cons = c.new-cons.result }) c.new-numbers.ensures c.new-cons.ensures
