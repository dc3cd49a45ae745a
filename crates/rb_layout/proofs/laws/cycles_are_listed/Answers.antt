use Rattle.rb_layout.proofs.ShortCycles.{cycles_are_listed}
use Rattle.rb_layout.proofs.laws.cycles_are_listed.Goals as goal

pub returns : goal.returns
returns c = cycles_are_listed
