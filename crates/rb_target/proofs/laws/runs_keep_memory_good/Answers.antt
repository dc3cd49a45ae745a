use Rattle.rb_target.proofs.Memories.{keep_good}
use Rattle.rb_target.proofs.laws.runs_keep_memory_good.Goals as goal

pub returns : goal.returns
returns c = keep_good
