-- A range of bits by its lowest bit and the others.
use Rattle.std.proofs.Common.{◌≡◌, ℕ, zero, suc, ◌+◌, ◌*◌, ◌/◌, ◌%◌, ◌^◌, ◌<◌, sym, ap, ◌∙◌, arith}
use Rattle.std.specs.Int.{bit_at}
use Rattle.std.proofs.lemmas.Nat.{pow-add}
use Rattle.std.proofs.lemmas.Nat.Bits.{bit_at-suc, bit_at_lowest, same_from_bits_below}
use Rattle.rb_bits.specs.Words.{take_of}
use Rattle.rb_bits.proofs.WordLemmas.{take_fits, bit_at_take}

pub take_none : (w o : ℕ) → take_of w o 0 ≡ 0
take_none w o = let p = take_fits w o 0 in omega arith

one_bit : (b r i : ℕ) → b < 2 → bit_at (b + 2 * r) (suc i) ≡ bit_at r i
one_bit b r i lt = bit_at-suc (b + 2 * r) i ∙ (let e : (b + 2 * r) / 2 ≡ r = omega arith in ap (λ k. bit_at k i) e)

bits_behind : (w o l i : ℕ) → i < suc l → bit_at (bit_at w o + 2 * take_of w (o + 1) l) i ≡ bit_at w (o + i)
bits_behind w o l zero lt =
    let b : bit_at w o < 2 = omega arith in
    let low : (bit_at w o + 2 * take_of w (o + 1) l) % 2 ≡ bit_at w o = omega arith in
    bit_at_lowest (bit_at w o + 2 * take_of w (o + 1) l) ∙ low ∙ (let e : o ≡ o + 0 = omega arith in ap (λ k. bit_at w k) e)
bits_behind w o l (suc i) lt =
    one_bit (bit_at w o) (take_of w (o + 1) l) i (omega arith) ∙ bit_at_take w (o + 1) l i (omega arith)
    ∙ (let e : o + 1 + i ≡ o + suc i = omega arith in ap (λ k. bit_at w k) e)

pub take_suc : (w o l : ℕ) → take_of w o (suc l) ≡ bit_at w o + 2 * take_of w (o + 1) l
take_suc w o l =
    let p : 2 ^ (suc l) ≡ 2 * 2 ^ l = omega (arith, pow-add 2 1 l) in
    let fits = take_fits w (o + 1) l in
    let bit : bit_at w o < 2 = omega arith in
    same_from_bits_below (suc l) _ _ (take_fits w o (suc l)) (omega arith) (λ i lt. bit_at_take w o (suc l) i lt ∙ sym (bits_behind w o l i lt))
