use Rattle.rb_peek.proofs.PathSpanLemmas.{walks_are_short as short}
use Rattle.rb_peek.proofs.laws.walks_are_short.Goals as goal

pub returns : goal.returns
returns c = short
