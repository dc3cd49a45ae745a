-- A range of bits in a word: what the code computes is what the definitions say, number by number and bit by bit.
use Rattle.std.proofs.Common.{◌≡◌, ℕ, ◌+◌, ◌-◌, ◌*◌, ◌/◌, ◌%◌, ◌^◌, ◌<◌, ◌≤◌, inl, inr, sym, ap, ◌∙◌, arith}
use Rattle.std.specs.Prelude.{bit_and, bit_or, min, max}
use Rattle.std.specs.Int.{bit_at}
use Rattle.std.proofs.Common.{w64}
use Rattle.std.proofs.lemmas.Bool.{cases_lt}
use Rattle.std.proofs.lemmas.Nat.{pow-add, shr_split, shr-shr, and_mask, mul-add-lt, pow_pos}
use Rattle.std.proofs.lemmas.Nat.Bits.{ones_shr, bit_at-lt, bit_at-zero, bit_at_and, bit_at_or, bit_at_not, bit_at_above, bit_at_cat_low, bit_at_cat_high, bit_at_mask_inside, bit_at_mask_below, bit_at_mask_above, same_from_bits, same_from_bits_below}
use Rattle.std.proofs.Math.Pow.{pow_mono}
use Rattle.std.proofs.Math.Nat.{mod-eq_of_lt}
use Rattle.rb_bits.specs.Words.{IsRange, IsOutside, AreDisjoint, mask_of, take_of, put_of}

-- ---- masks
ones_is : (l : ℕ) → l ≤ 64 → 18446744073709551615 / 2 ^ (64 - l) ≡ 2 ^ l - 1
ones_is l le =
    let e : 64 - (64 - l) ≡ l = omega arith in
    ones_shr 64 (64 - l) (omega arith) ∙ ap (λ k. 2 ^ k - 1) e

pub mask_fits : (o l : ℕ) → IsRange o l → mask_of o l < 2 ^ 64
mask_fits o l r =
    let top : o + l ≤ 64 = r.1 in
    let most : 2 ^ (o + l) ≤ 2 ^ 64 = pow_mono top in
    let p = pow_pos o in omega arith

pub mask_is : (o l : ℕ) → IsRange o l → 18446744073709551615 / 2 ^ (64 - l) * 2 ^ o % 18446744073709551616 ≡ mask_of o l
mask_is o l r =
    let ones = ones_is l (omega (arith, r)) in
    let split = pow-add 2 o l in
    let fits = mask_fits o l r in
    let pos = pow_pos l in
    let value : (2 ^ l - 1) * 2 ^ o ≡ 2 ^ (o + l) - 2 ^ o =
    let k : 2 ^ l ≡ (2 ^ l - 1) + 1 = omega arith in omega (arith, split, ap (λ x. 2 ^ o * x) k) in
    rw ones (mod-eq_of_lt (omega arith) ∙ value)

pub bit_at_mask_outside : (o l i : ℕ) → IsOutside o l i → bit_at (mask_of o l) i ≡ 0
bit_at_mask_outside o l i (inl lt) = bit_at_mask_below o (o + l) i lt
bit_at_mask_outside o l i (inr le) = bit_at_mask_above o (o + l) i le

-- ---- what stands in a range
low_fits : (n k : ℕ) → n % 2 ^ k < 2 ^ k
low_fits n k = let p = pow_pos k in omega arith

pub take_fits : (w o l : ℕ) → take_of w o l < 2 ^ l
take_fits w o l = low_fits (w / 2 ^ o) l

pub take_is : (w o l : ℕ) → IsRange o l → bit_and (w / 2 ^ o) (18446744073709551615 / 2 ^ (64 - l)) ≡ take_of w o l
take_is w o l r = rw (ones_is l (omega (arith, r))) (and_mask (w / 2 ^ o) l)

bit_at_low : (n k i : ℕ) → i < k → bit_at (n % 2 ^ k) i ≡ bit_at n i
bit_at_low n k i lt = sym (bit_at_cat_low (n / 2 ^ k) k (n % 2 ^ k) i lt) ∙ ap (λ m. bit_at m i) (shr_split n k)

bit_at_shr : (n k i : ℕ) → bit_at (n / 2 ^ k) i ≡ bit_at n (k + i)
bit_at_shr n k i = ap (λ m. m % 2) (shr-shr n k i)

pub bit_at_take : (w o l i : ℕ) → i < l → bit_at (take_of w o l) i ≡ bit_at w (o + i)
bit_at_take w o l i lt = bit_at_low (w / 2 ^ o) l i lt ∙ bit_at_shr w o i

-- ---- a range replaced
pub bit_at_put_inside : (w o l part i : ℕ) → part < 2 ^ l → i < l → bit_at (put_of w o l part) (o + i) ≡ bit_at part i
bit_at_put_inside w o l part i fits lt =
    let high = w / 2 ^ (o + l) in
    let e : o + i - o ≡ i = omega arith in
    bit_at_cat_high (high * 2 ^ l + part) o (w % 2 ^ o) (o + i) (low_fits w o) (omega arith)
    ∙ ap (λ k. bit_at (high * 2 ^ l + part) k) e
    ∙ bit_at_cat_low high l part i lt

pub bit_at_put_outside : (w o l part i : ℕ) → part < 2 ^ l → IsOutside o l i → bit_at (put_of w o l part) i ≡ bit_at w i
bit_at_put_outside w o l part i fits (inl lt) =
    bit_at_cat_low (w / 2 ^ (o + l) * 2 ^ l + part) o (w % 2 ^ o) i lt ∙ bit_at_low w o i lt
bit_at_put_outside w o l part i fits (inr le) =
    let high = w / 2 ^ (o + l) in
    let e : o + l + (i - o - l) ≡ i = omega arith in
    bit_at_cat_high (high * 2 ^ l + part) o (w % 2 ^ o) i (low_fits w o) (omega arith)
    ∙ bit_at_cat_high high l part (i - o) fits (omega arith)
    ∙ bit_at_shr w (o + l) (i - o - l)
    ∙ ap (λ k. bit_at w k) e

-- what was put is taken again
pub take_put : (w o l part : ℕ) → part < 2 ^ l → take_of (put_of w o l part) o l ≡ part
take_put w o l part fits =
    same_from_bits_below l (take_of (put_of w o l part) o l) part (take_fits (put_of w o l part) o l) fits
    (λ i lt. bit_at_take (put_of w o l part) o l i lt ∙ bit_at_put_inside w o l part i fits lt)

apart_at : (o l b m i : ℕ) → AreDisjoint o l b m → i < m → IsOutside o l (b + i)
apart_at o l b m i (inl le) lt = inr (omega arith)
apart_at o l b m i (inr le) lt = inl (omega arith)

-- what stands in a disjoint range stays
pub take_put_elsewhere : (w o l part b m : ℕ) → part < 2 ^ l → AreDisjoint o l b m → take_of (put_of w o l part) b m ≡ take_of w b m
take_put_elsewhere w o l part b m fits apart =
    same_from_bits_below m (take_of (put_of w o l part) b m) (take_of w b m) (take_fits (put_of w o l part) b m) (take_fits w b m)
    (λ i lt. bit_at_take (put_of w o l part) b m i lt ∙ bit_at_put_outside w o l part (b + i) fits (apart_at o l b m i apart lt) ∙ sym (bit_at_take w b m i lt))

-- a word by its three parts
parts : (w o l : ℕ) → put_of w o l (take_of w o l) ≡ w
parts w o l =
    let low = shr_split w o in
    let middle = shr_split (w / 2 ^ o) l in
    let high = shr-shr w o l in
    ap (λ k. (k * 2 ^ l + take_of w o l) * 2 ^ o + w % 2 ^ o) (sym high) ∙ ap (λ k. k * 2 ^ o + w % 2 ^ o) middle ∙ low

-- to put a part adds it where the old one stood
pub put_adds : (w o l part : ℕ) → put_of w o l part + take_of w o l * 2 ^ o ≡ w + part * 2 ^ o
put_adds w o l part = let all = parts w o l in omega arith

-- ---- the code of `put`: the range cleared, then the part
module _ (w o l part : ℕ) (r : IsRange o l) (small : w < 2 ^ 64) (fits : part < 2 ^ l) where
  abbrev others : ℕ
  others = 18446744073709551615 - mask_of o l

  abbrev code : ℕ
  code = bit_or (bit_and w others) (part * 2 ^ o)

  abbrev mixed : ℕ → ℕ
  mixed i = max (min (bit_at w i) (bit_at others i)) (bit_at (part * 2 ^ o) i)

  part_is : part * 2 ^ o % 18446744073709551616 ≡ part * 2 ^ o
  part_is =
      let top : o + l ≤ 64 = r.1 in
      let most : 2 ^ (o + l) ≤ 18446744073709551616 = pow_mono top in
      let whole = mul-add-lt part (2 ^ o) 0 (2 ^ l) fits (pow_pos o) in
      mod-eq_of_lt (omega (arith, pow-add 2 o l, most, whole))

  bit_at_code : (i : ℕ) → bit_at code i ≡ mixed i
  bit_at_code i =
      bit_at_or (bit_and w others) (part * 2 ^ o) i ∙ ap (λ k. max k (bit_at (part * 2 ^ o) i)) (bit_at_and w others i)

  bit_at_others : (i : ℕ) → i < 64 → bit_at others i ≡ 1 - bit_at (mask_of o l) i
  bit_at_others i lt = bit_at_not w64 (mask_of o l) i (mask_fits o l r) lt

  alone : part * 2 ^ o ≡ part * 2 ^ o + 0
  alone = omega arith

  bit_at_part_below : (i : ℕ) → i < o → bit_at (part * 2 ^ o) i ≡ 0
  bit_at_part_below i lt = ap (λ n. bit_at n i) alone ∙ bit_at_cat_low part o 0 i lt ∙ bit_at-zero i

  bit_at_part_from : (i : ℕ) → o ≤ i → bit_at (part * 2 ^ o) i ≡ bit_at part (i - o)
  bit_at_part_from i le = ap (λ n. bit_at n i) alone ∙ bit_at_cat_high part o 0 i (pow_pos o) le

  mixed_below : (i : ℕ) → i < o → mixed i ≡ bit_at w i
  mixed_below i lt =
      omega (arith, bit_at-lt w i, bit_at_others i (omega (arith, r)), bit_at_mask_below o (o + l) i lt, bit_at_part_below i lt)

  mixed_inside : (i : ℕ) → o ≤ i → i < o + l → mixed i ≡ bit_at part (i - o)
  mixed_inside i le lt =
      omega (arith, bit_at_others i (omega (arith, r)), bit_at_mask_inside o (o + l) i le lt, bit_at_part_from i le)

  mixed_above : (i : ℕ) → o + l ≤ i → mixed i ≡ bit_at w i
  mixed_above i le =
      let none : bit_at (part * 2 ^ o) i ≡ 0 = bit_at_part_from i (omega arith) ∙ bit_at_above part l (i - o) fits (omega arith) in
      elim (cases_lt i 64) [
        | inl lt ↦ omega (arith, bit_at-lt w i, bit_at_others i lt, bit_at_mask_above o (o + l) i le, none)
        | inr past ↦ omega (arith, bit_at_above w 64 i small past, none)
      ]

  put_is_at : (i : ℕ) → bit_at code i ≡ bit_at (put_of w o l part) i
  put_is_at i =
      bit_at_code i
      ∙ elim (cases_lt i o) [
        | inl lt ↦ mixed_below i lt ∙ sym (bit_at_put_outside w o l part i fits (inl lt))
        | inr le ↦ elim (cases_lt i (o + l)) [
          | inl lt ↦
              let e : o + (i - o) ≡ i = omega arith in
              mixed_inside i le lt ∙ sym (bit_at_put_inside w o l part (i - o) fits (omega arith)) ∙ ap (λ k. bit_at (put_of w o l part) k) e
          | inr past ↦ mixed_above i past ∙ sym (bit_at_put_outside w o l part i fits (inr past))
        ]
      ]

  pub put_is : bit_or (bit_and w others) (part * 2 ^ o % 18446744073709551616) ≡ put_of w o l part
  put_is = rw part_is (same_from_bits code (put_of w o l part) put_is_at)
