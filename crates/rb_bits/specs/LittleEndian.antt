-- Numbers as bytes, the lowest byte first. A byte is a number below 256.
use Rattle.std.specs.Prelude.{◌≡◌, ℕ, zero, suc, ◌+◌, ◌*◌, ◌/◌, ◌%◌, ◌⊎◌, List, [], ◌∷◌}

-- the counts of bytes of a u8, u16, u32 and u64
abbrev pub IsByteCount : ℕ → Type 0
IsByteCount n = (n ≡ 1) ⊎ (n ≡ 2) ⊎ (n ≡ 4) ⊎ (n ≡ 8)

-- the number that some bytes spell, the lowest first; 0 for no bytes
abbrev pub from_le_bytes : List ℕ → ℕ
from_le_bytes [] = 0
from_le_bytes (byte ∷ bytes) = byte + 256 * from_le_bytes bytes

-- the n lowest bytes of a number, the lowest first, with zeros where it has no more; what is above them is dropped
abbrev pub to_le_bytes : ℕ → ℕ → List ℕ
to_le_bytes zero w = []
to_le_bytes (suc n) w = w % 256 ∷ to_le_bytes n (w / 256)
