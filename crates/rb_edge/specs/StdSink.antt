-- A stream of the system as a sink.
use Rattle.std.specs.Prelude.{ℕ}
use Rattle.rb_edge.specs.History.{Account}

-- what contracts see of a sink over a stream of the system
pub record SinkCounts : Type 0 where
  -- what it said: the bytes that it took, and where a write failed
  pub account : Account
  -- how many faults there were since it was made
  pub faults : ℕ
