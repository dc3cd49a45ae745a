-- Scattered bits: a number whose bits stand in several ranges of a word.
--
-- Bits are counted from 0, the lowest. A slice has three numbers o, a and l: bits a up to a + l of the number stand
-- in bits o up to o + l of the word.
use Rattle.std.specs.Prelude.{◌≡◌, ℕ, ◌+◌, ◌-◌, ◌*◌, ◌^◌, ◌<◌, List, All, AllPairs, sum_by}
use Rattle.std.specs.Int.{bit_at}
use Rattle.rb_bits.specs.Words.{IsRange, IsOutside, AreDisjoint, take_of}
use Rattle.rb_bits.specs.declared.slices.Slice.{Slice}

-- each of the slices has a bit, its ranges are within 64 bits, and no two slices share a bit in the word or in the
-- number; of no slice all of this is true
pub record AreSlices (slices : List Slice) : Type 0 where
  pub ranges : All (λ (s : Slice). IsRange s.o s.l × IsRange s.a s.l) slices
  pub apart_in_word : AllPairs (λ (s t : Slice). AreDisjoint s.o s.l t.o t.l) slices
  pub apart_in_number : AllPairs (λ (s t : Slice). AreDisjoint s.a s.l t.a t.l) slices

-- the number that is gathered from a word: what stands there at each slice, moved to its place in the number, and
-- added up over the slices; 0 for no slice
abbrev pub gather_of : ℕ → List Slice → ℕ
gather_of w slices = sum_by (λ (s : Slice). take_of w s.o s.l * 2 ^ s.a) slices

-- the word after a number was scattered over it: without what stood at the slices, and with the number's bits there;
-- for no slice the word as it is
abbrev pub scatter_of : ℕ → List Slice → ℕ → ℕ
scatter_of w slices number =
    w - sum_by (λ (s : Slice). take_of w s.o s.l * 2 ^ s.o) slices
    + sum_by (λ (s : Slice). take_of number s.a s.l * 2 ^ s.o) slices

-- the bits of a number that the slices name, each in its place in the number, and 0 in the others; 0 for no slice
abbrev pub named_bits_of : ℕ → List Slice → ℕ
named_bits_of number slices = sum_by (λ (s : Slice). take_of number s.a s.l * 2 ^ s.a) slices

-- a number is gathered from the word w, bit by bit: each slice gives l bits of the word, from bit o on, to the number
-- from its bit a on, and bits that no slice gives are 0
pub record IsGathered (w : ℕ) (slices : List Slice) (number : ℕ) : Type 0 where
  pub inside : All (λ (s : Slice). (i : ℕ) → i < s.l → bit_at number (s.a + i) ≡ bit_at w (s.o + i)) slices
  pub outside : (i : ℕ) → All (λ (s : Slice). IsOutside s.a s.l i) slices → bit_at number i ≡ 0

-- a number is scattered over the word w, bit by bit: for each slice bits o up to o + l of the new word are bits a up
-- to a + l of the number, and its other bits are the old word's
pub record IsScattered (w : ℕ) (slices : List Slice) (number word : ℕ) : Type 0 where
  pub inside : All (λ (s : Slice). (i : ℕ) → i < s.l → bit_at word (s.o + i) ≡ bit_at number (s.a + i)) slices
  pub outside : (i : ℕ) → All (λ (s : Slice). IsOutside s.o s.l i) slices → bit_at word i ≡ bit_at w i

-- the number `found` has, bit by bit, those bits of a number that the slices name, each in its place, and its other
-- bits are 0
pub record HasNamedBits (number : ℕ) (slices : List Slice) (found : ℕ) : Type 0 where
  pub inside : All (λ (s : Slice). (i : ℕ) → i < s.l → bit_at found (s.a + i) ≡ bit_at number (s.a + i)) slices
  pub outside : (i : ℕ) → All (λ (s : Slice). IsOutside s.a s.l i) slices → bit_at found i ≡ 0
