use Rattle.rb_unfold.proofs.Unfolding.{unfolding_gives_back}
use Rattle.rb_unfold.proofs.unfolding_gives_back_what_is_written.Goals as goal

pub returns : goal.returns
returns c = unfolding_gives_back
