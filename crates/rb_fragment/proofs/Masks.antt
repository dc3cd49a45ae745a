-- A range masked off where it stands is the number in it times the power of two that its first bit is.
use Rattle.std.proofs.Common.{◌≡◌, ℕ, ◌+◌, ◌-◌, ◌*◌, ◌^◌, ◌<◌, ◌≤◌, inl, inr, ap, ◌∙◌, arith}
use Rattle.std.specs.Prelude.{bit_and}
use Rattle.std.specs.Int.{bit_at}
use Rattle.std.proofs.lemmas.Bool.{cases_lt}
use Rattle.std.proofs.lemmas.Nat.{pow_pos}
use Rattle.std.proofs.lemmas.Nat.Bits.{bit_at-lt, bit_at-zero, bit_at_and, bit_at_above, bit_at_cat_low, bit_at_cat_high, bit_at_mask_inside, bit_at_mask_below, bit_at_mask_above, same_from_bits}
use Rattle.rb_bits.specs.Words.{mask_of, take_of}
use Rattle.rb_bits.proofs.WordLemmas.{bit_at_take, take_fits}

module _ (w o l : ℕ) where
  abbrev part : ℕ
  part = take_of w o l

  alone : part * 2 ^ o ≡ part * 2 ^ o + 0
  alone = omega arith

  bit_below : (i : ℕ) → i < o → bit_at (part * 2 ^ o) i ≡ 0
  bit_below i lt = ap (λ n. bit_at n i) alone ∙ bit_at_cat_low part o 0 i lt ∙ bit_at-zero i

  bit_from : (i : ℕ) → o ≤ i → bit_at (part * 2 ^ o) i ≡ bit_at part (i - o)
  bit_from i le = ap (λ n. bit_at n i) alone ∙ bit_at_cat_high part o 0 i (pow_pos o) le

  same_bits : (i : ℕ) → bit_at (bit_and w (mask_of o l)) i ≡ bit_at (part * 2 ^ o) i
  same_bits i =
      let both = bit_at_and w (mask_of o l) i in
      let low = bit_at-lt w i in
      elim (cases_lt i o) [
        | inl lt ↦ omega (arith, both, bit_at_mask_below o (o + l) i lt, bit_below i lt)
        | inr le ↦ elim (cases_lt i (o + l)) [
          | inl lt ↦
              let e : o + (i - o) ≡ i = omega arith in
              let here : bit_at part (i - o) ≡ bit_at w i = bit_at_take w o l (i - o) (omega arith) ∙ ap (bit_at w) e in
              omega (arith, both, low, bit_at_mask_inside o (o + l) i le lt, bit_from i le, here)
          | inr past ↦ omega (arith, both, bit_at_mask_above o (o + l) i past, bit_from i le, bit_at_above part l (i - o) (take_fits w o l) (omega arith))
        ]
      ]

  pub masked : bit_and w (mask_of o l) ≡ part * 2 ^ o
  masked = same_from_bits (bit_and w (mask_of o l)) (part * 2 ^ o) same_bits
