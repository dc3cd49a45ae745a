-- Numbers that a test finds equal, or not.
use Rattle.std.proofs.Common.{◌≡◌, ℕ, ◌==◌, true, false, arith}
use Rattle.std.proofs.lemmas.Grind.{common_steps}

pub same-nat : (a b : ℕ) → (a == b) ≡ true → a ≡ b
same-nat a b e = grind (arith, common_steps)

pub other-nat : (a b : ℕ) → (a == b) ≡ false → a ≡ b → ⊥
other-nat a b e s = grind (arith, common_steps)
