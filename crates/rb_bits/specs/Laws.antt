-- Ranges of ranges, and what stays when a range is replaced: for all words and ranges, of any width.
--
-- Bits are counted from 0, the lowest. The range "o, l" of a word w is bits o up to o + l, and `take_of w o l` is the
-- number that stands there; `put_of w o l part` is w with that range replaced by a part.
use Rattle.std.specs.Prelude.{◌≡◌, ℕ, ◌+◌, ◌-◌, ◌*◌, ◌^◌, ◌<◌, ◌≤◌, List, bit_and}
use Rattle.rb_bits.specs.Words.{AreDisjoint, mask_of, take_of, put_of}
use Rattle.rb_bits.specs.Slices.{AreSlices, gather_of, scatter_of, named_bits_of}
use Rattle.rb_bits.specs.declared.slices.Slice.{Slice}

-- what holds of each number that is taken from a range
pub record AreTaken : Type 0 where
  -- it has at most l bits, and the lowest l bits of a word that has no others are the word
  pub fits : (w o l : ℕ) → take_of w o l < 2 ^ l
  pub whole : (w l : ℕ) → w < 2 ^ l → take_of w 0 l ≡ w
  -- a range of a range is a range of the word, and a range is two side by side, the second above the first
  pub inner : (w o l a b : ℕ) → a + b ≤ l → take_of (take_of w o l) a b ≡ take_of w (o + a) b
  pub split : (w o a b : ℕ) → take_of w o (a + b) ≡ take_of w o a + take_of w (o + a) b * 2 ^ a
  -- a range with k zeros below it, taken together with these, is its number times two to the power of k, and a word
  -- masked by a range is its number times two to the power of its first bit
  pub shifted : (w o k l : ℕ) → k ≤ o → take_of w (o - k) k ≡ 0 → take_of w (o - k) (k + l) ≡ take_of w o l * 2 ^ k
  pub masked : (w o l : ℕ) → bit_and w (mask_of o l) ≡ take_of w o l * 2 ^ o

-- a part of at most l bits that was put into a range is taken from it again, and what stands in a range that shares
-- no bit with it stays
pub record ArePut : Type 0 where
  pub back : (w o l part : ℕ) → part < 2 ^ l → take_of (put_of w o l part) o l ≡ part
  pub elsewhere : (w o l part b m : ℕ) → part < 2 ^ l → AreDisjoint o l b m
      → take_of (put_of w o l part) b m ≡ take_of w b m

-- to gather what was scattered over slices that share no bit gives the number's bits at these slices, and no others
abbrev pub GathersBack : Type 0
GathersBack = (w : ℕ) (slices : List Slice) (number : ℕ) → AreSlices slices
    → gather_of (scatter_of w slices number) slices ≡ named_bits_of number slices
