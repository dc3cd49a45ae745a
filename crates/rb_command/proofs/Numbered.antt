-- Numbers as words: a word spells one number at most, and each number is spelled.
use Rattle.std.proofs.Common.{◌≡◌, ◌≤◌, ◌<◌, ◌^◌, ℕ, List, refl, sym, ap, subst, ◌∙◌, arith, Bool, true, false, ◌&&◌, nat_le, if◌then◌else◌, Some, None, leb-true, le-leb}
use Rattle.std.specs.Fmt.{decimal}
use Rattle.std.specs.Str.Parse.{digits_value}
use Rattle.std.proofs.lemmas.Bool.{and_parts}
use Rattle.std.proofs.lemmas.Fmt.{decimal_injective}
use Rattle.rb_core.specs.Decimal.{is_numeral, number_in}
use Rattle.rb_core.proofs.Decimals.{numeral_spelled, numeral-decimal, value-decimal}
use Rattle.rb_command.specs.Command.{IsBetween}

if-some : (c : Bool) (v n : ℕ) → (if c then Some v else None) ≡ Some n → (c ≡ true) × (v ≡ n)
if-some true v n e = (refl, cc)
if-some false v n e = absurd (cc e)

module _ (low high : ℕ) (small : high < 2 ^ 64) where
  pub spelled : (w : List ℕ) (n : ℕ) → number_in low high w ≡ Some n → IsBetween low high n × (w ≡ decimal n)
  spelled w n e =
      let v = digits_value 10 w in
      let c : ((is_numeral w && (nat_le low v && nat_le v high)) ≡ true) × (v ≡ n) = if-some (is_numeral w && (nat_le low v && nat_le v high)) v n e in
      let d : (is_numeral w ≡ true) × ((nat_le low v && nat_le v high) ≡ true) = and_parts (is_numeral w) (nat_le low v && nat_le v high) c.0 in
      let r : (nat_le low v ≡ true) × (nat_le v high ≡ true) = and_parts (nat_le low v) (nat_le v high) d.1 in
      let least : low ≤ v = leb-true low v r.0 in
      let most : v ≤ high = leb-true v high r.1 in
      let text : decimal v ≡ w = numeral_spelled w d.0 (omega (arith, most, small)) in
      (subst (λ (k : ℕ). IsBetween low high k) c.1 (least, most), sym text ∙ ap decimal c.1)

  pub read : (n : ℕ) → IsBetween low high n → number_in low high (decimal n) ≡ Some n
  read n b =
      let fits : n < 2 ^ 64 = omega (arith, b.1, small) in
      let v : digits_value 10 (decimal n) ≡ n = value-decimal n fits in
      let numeral : is_numeral (decimal n) ≡ true = numeral-decimal n fits in
      let least : nat_le low (digits_value 10 (decimal n)) ≡ true = le-leb low (digits_value 10 (decimal n)) (omega (arith, b.0, v)) in
      let most : nat_le (digits_value 10 (decimal n)) high ≡ true = le-leb (digits_value 10 (decimal n)) high (omega (arith, b.1, v)) in
      rw (numeral, least, most) (ap Some v)

  pub same : (n m : ℕ) → IsBetween low high n → IsBetween low high m → decimal n ≡ decimal m → n ≡ m
  same n m b d e = decimal_injective n m (omega (arith, b.1, small)) (omega (arith, d.1, small)) e
