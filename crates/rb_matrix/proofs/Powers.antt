-- Powers by their bases and exponents.
use Rattle.std.proofs.Common.{ℕ, ◌^◌, ◌≤◌, lit<}
use Rattle.std.proofs.Math.Nat.{pow-le-pow_right}

pub two-pow-le : (i j : ℕ) → i ≤ j → 2 ^ i ≤ 2 ^ j
two-pow-le i j le = pow-le-pow_right (lit< tt) le
