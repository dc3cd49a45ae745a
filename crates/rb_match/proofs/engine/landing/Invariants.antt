use Rattle.std.proofs.Common.{◌≡◌, ◌++◌, drop}
use Rattle.rb_match.specs.inner.Flowing.{landing_of}
use Rattle.rb_match.proofs.engine.landing.Given as goal

abbrev pub invariant-loop-edge : goal.invariant-loop-edge
invariant-loop-edge l = l.holes ++ landing_of l.node (drop l.edge-index l.edges) ≡ landing_of l.node l.edges
