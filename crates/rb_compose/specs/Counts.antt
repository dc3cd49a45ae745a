-- Numbers of bits, as instructions have them.
use Rattle.std.specs.Prelude.{ℕ, min}

-- a number of bits, or 64 if it is more: no word has more bits
abbrev pub capped_bits : ℕ → ℕ
capped_bits n = min n 64
