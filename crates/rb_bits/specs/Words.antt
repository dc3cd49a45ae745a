-- Bits of one word. Bits are counted from 0, the lowest, and a range "o, l" is bits o up to o + l, without bit o + l.
-- A word is a number of any size here.
use Rattle.std.specs.Prelude.{ℕ, ◌+◌, ◌-◌, ◌*◌, ◌/◌, ◌%◌, ◌^◌, ◌<◌, ◌≤◌, ◌⊎◌}

-- the range "o, l" has a bit in it, and all of it is within 64 bits
abbrev pub IsRange : ℕ → ℕ → Type 0
IsRange o l = (1 ≤ l) × (o + l ≤ 64)

-- bit i is not in the range "o, l"
abbrev pub IsOutside : ℕ → ℕ → ℕ → Type 0
IsOutside o l i = (i < o) ⊎ (o + l ≤ i)

-- the ranges "o, l" and "b, m" have no bit in common: one ends where the other begins, or before
abbrev pub AreDisjoint : ℕ → ℕ → ℕ → ℕ → Type 0
AreDisjoint o l b m = (o + l ≤ b) ⊎ (b + m ≤ o)

-- the number whose bits in the range "o, l" are 1, and no others; 0 for a range of no bits
abbrev pub mask_of : ℕ → ℕ → ℕ
mask_of o l = 2 ^ (o + l) - 2 ^ o

-- the number that stands in the range "o, l" of a word; 0 for a range of no bits, or above all bits of the word
abbrev pub take_of : ℕ → ℕ → ℕ → ℕ
take_of w o l = w / 2 ^ o % 2 ^ l

-- a word with its range "o, l" replaced by a part of at most l bits: what stands above the range, then the part, then
-- what stands below; what a longer part has beyond l bits is added to what stands above
abbrev pub put_of : ℕ → ℕ → ℕ → ℕ → ℕ
put_of w o l part = (w / 2 ^ (o + l) * 2 ^ l + part) * 2 ^ o + w % 2 ^ o
