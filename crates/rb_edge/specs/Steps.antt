-- A counter of steps.
use Rattle.std.specs.Prelude.{ℕ}

-- what contracts see of a counter: how many steps were taken, and the ledger that was told of each
pub record Counted (L : Type 0) : Type 0 where
  pub taken : ℕ
  pub ledger : L
