use Rattle.rb_show.proofs.FreeRanges.{free_are_maximal}
use Rattle.rb_show.proofs.laws.free_are_maximal.Goals as goal

pub returns : goal.returns
returns c = free_are_maximal
