use Rattle.rb_fetch.specs.inner.Placing.{outer_count}
use Rattle.rb_fetch.proofs.way.+way.Given as goal

abbrev pub decreases-location : goal.decreases-location
decreases-location l = outer_count l.leaf.now l.spot.block
