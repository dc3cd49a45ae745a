-- The least number of bits that tell so many things apart, looked for from 0 upwards.
use Rattle.std.proofs.Common.{◌≡◌, ℕ, zero, suc, ◌+◌, ◌-◌, ◌^◌, ◌<◌, ◌≤◌, Bool, false, refl, sym, ap, ◌∙◌, arith}
use Rattle.std.specs.Prelude.{nat_le, if◌then◌else◌}
use Rattle.std.proofs.lemmas.Bool.{le-leb}
use Rattle.std.proofs.lemmas.Bool.Decides.{nat_tests}
use Rattle.rb_auto.specs.Widths.{bits_from, tag_bits}

wide : (a b : ℕ) → b < a → nat_le a b ≡ false
wide a b lt = grind (arith, nat_tests)

found : (more bits n : ℕ) → n ≤ 2 ^ bits → bits_from more bits n ≡ bits
unfolding bits_from
found zero bits n le = refl
found (suc more) bits n le = ap (λ (b : Bool). if b then bits else bits_from more (suc bits) n) (le-leb n (2 ^ bits) le)

on : (more bits n : ℕ) → 2 ^ bits < n → bits_from (suc more) bits n ≡ bits_from more (suc bits) n
unfolding bits_from
on more bits n lt = ap (λ (b : Bool). if b then bits else bits_from more (suc bits) n) (wide n (2 ^ bits) lt)

pub tag-init : (n : ℕ) → bits_from (63 - 0) 0 n ≡ tag_bits n
unfolding tag_bits
tag-init n = refl

pub tag-found : (bits n : ℕ) → n ≤ 2 ^ bits → bits_from (63 - bits) bits n ≡ tag_bits n → bits ≡ tag_bits n
tag-found bits n le h = sym (found (63 - bits) bits n le) ∙ h

pub tag-next : (bits n : ℕ) → bits < 63 → 2 ^ bits < n → bits_from (63 - bits) bits n ≡ tag_bits n → bits_from (63 - (bits + 1)) (bits + 1) n ≡ tag_bits n
tag-next bits n lt wide h =
    let one : bits + 1 ≡ suc bits = omega arith in
    let less : 63 - bits ≡ suc (63 - (bits + 1)) = omega arith in
    ap (λ b. bits_from (63 - (bits + 1)) b n) one ∙ sym (on (63 - (bits + 1)) bits n wide) ∙ ap (λ m. bits_from m bits n) (sym less) ∙ h

at-end : (n : ℕ) → bits_from (63 - 63) 63 n ≡ 63
unfolding bits_from
at-end n = refl

pub tag-last : (bits n : ℕ) → bits ≡ 63 → bits_from (63 - bits) bits n ≡ tag_bits n → 63 ≡ tag_bits n
tag-last bits n e h = sym (at-end n) ∙ ap (λ b. bits_from (63 - b) b n) (sym e) ∙ h
