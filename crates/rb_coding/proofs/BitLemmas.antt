-- Ranges of bits that leave a word, and parts that are put into words.
use Rattle.std.proofs.Common.{◌≡◌, ℕ, ◌+◌, ◌/◌, ◌%◌, ◌^◌, ◌<◌, ◌≤◌, sym, ap, ◌∙◌, arith}
use Rattle.std.proofs.Math.Nat.{pow-le-pow_right, mod-eq_of_lt}
use Rattle.std.proofs.Math.Pow.{shr_lt}
use Rattle.std.proofs.lemmas.Nat.{pow_pos}
use Rattle.rb_bits.specs.Words.{take_of}

below_power : (w k : ℕ) → w < 2 ^ 64 → 64 ≤ k → w < 2 ^ k
below_power w k fits le = let two : 0 < 2 = omega arith in let p = pow-le-pow_right two le in omega (arith, fits, p)

pub take_above : (w o l : ℕ) → w < 2 ^ 64 → 64 ≤ o → 0 ≡ take_of w o l
take_above w o l fits le =
    let z : 0 + o ≡ o = omega arith in
    let small : w < 2 ^ (0 + o) = below_power w (0 + o) fits (omega arith) in
    let low : w / 2 ^ o < 2 ^ 0 = shr_lt 0 o small in
    let none : w / 2 ^ o ≡ 0 = omega (arith, low) in
    sym (ap (λ k. k % 2 ^ l) none ∙ mod-eq_of_lt (pow_pos l))

pub take_all : (w o l : ℕ) → w < 2 ^ 64 → 64 ≤ l → w / 2 ^ o ≡ take_of w o l
take_all w o l fits le = sym (mod-eq_of_lt (shr_lt l o (below_power w (l + o) fits (omega arith))))
