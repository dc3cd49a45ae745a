-- Hexadecimal and decimal texts, digit by digit.
use Rattle.std.proofs.Common.{◌≡◌, ℕ, zero, suc, ◌+◌, ◌*◌, ◌/◌, ◌%◌, ◌^◌, ◌<◌, ◌≤◌, List, [], ◌∷◌, ◌++◌, map, nat_lt, Bool, true, false, ◌==◌, Some, refl, sym, ◌∙◌, ap, subst, arith, append_assoc, append-nil, inl, inr}
use Rattle.std.specs.Fmt.{decimal, digits, digits_onto}
use Rattle.std.specs.Int.Digits.{digits_of}
use Rattle.std.proofs.lemmas.Fmt.{decimal_step, hex_one_digit}
use Rattle.std.proofs.lemmas.Int.Digits.{digits_of_step}
use Rattle.std.proofs.lemmas.Bool.{cases_lt, eq-eqb, ne_eqb}
use Rattle.std.proofs.lemmas.List.{map_push}
use Rattle.std.proofs.lemmas.Grind.{common_steps}
use Rattle.rb_image_text.specs.Text.{hex_digit, hexadecimal}
use Rattle.rb_image_text.specs.inner.Reading.{hex_of, digit_of}

-- Hexadecimal --------------------------------------------------------------------------------------

onto : (k n : ℕ) (acc : List ℕ) → 0 < n → n < 16 ^ k → digits_onto k 16 false n acc ≡ map hex_digit (digits_of 16 n) ++ acc
onto zero n acc some small = absurd (omega (arith, some, small))
onto (suc k) n acc some small =
    let last = map hex_digit (digits_of 16 (n / 16)) in
    let step : map hex_digit (digits_of 16 n) ≡ last ++ hex_digit (n % 16) ∷ [] =
    ap (λ ds. map hex_digit ds) (digits_of_step 16 n (omega arith) some) ∙ map_push hex_digit (digits_of 16 (n / 16)) (n % 16) in
    elim (cases_lt 0 (n / 16)) [
      | inl more ↦
          rw (ne_eqb (n / 16) 0 (λ e. omega (arith, e, more)))
          (onto k (n / 16) (hex_digit (n % 16) ∷ acc) more (omega (arith, small)) ∙ sym (append_assoc last (hex_digit (n % 16) ∷ []) acc) ∙ ap (λ t. t ++ acc) (sym step))
      | inr le ↦
          let none : n / 16 ≡ 0 = omega (arith, le) in
          rw (eq-eqb (n / 16) 0 none) (ap (λ q. map hex_digit (digits_of 16 q) ++ hex_digit (n % 16) ∷ acc) (sym none) ∙ sym (append_assoc last (hex_digit (n % 16) ∷ []) acc) ∙ ap (λ t. t ++ acc) (sym step))
    ]

some_hex : (n : ℕ) → 0 < n → n < 2 ^ 64 → hexadecimal n ≡ map hex_digit (digits_of 16 n)
unfolding digits
some_hex n some small = onto 64 n [] some (omega (arith, small)) ∙ append-nil (map hex_digit (digits_of 16 n))

split : (n d : ℕ) → d < 16 → ((n * 16 + d) / 16 ≡ n) × ((n * 16 + d) % 16 ≡ d)
split n d h = (omega (arith, h), omega (arith, h))

digits_push : (n d : ℕ) → 0 < n * 16 + d → d < 16 → digits_of 16 (n * 16 + d) ≡ digits_of 16 n ++ d ∷ []
digits_push n d some h =
    let e = split n d h in
    digits_of_step 16 (n * 16 + d) (omega arith) some ∙ ap (λ q. digits_of 16 q ++ (n * 16 + d) % 16 ∷ []) e.0 ∙ ap (λ r. digits_of 16 n ++ r ∷ []) e.1

-- one digit
pub hex_one : (d : ℕ) → d < 16 → hexadecimal d ≡ hex_digit d ∷ []
hex_one d h = hex_one_digit false d h

-- one digit more
pub hex_push : (n d : ℕ) → 0 < n → d < 16 → n * 16 + d < 2 ^ 64 → hexadecimal (n * 16 + d) ≡ hexadecimal n ++ hex_digit d ∷ []
hex_push n d some h small =
    some_hex (n * 16 + d) (omega (arith, some)) small ∙ ap (λ ds. map hex_digit ds) (digits_push n d (omega (arith, some)) h)
    ∙ map_push hex_digit (digits_of 16 n) d ∙ ap (λ t. t ++ hex_digit d ∷ []) (sym (some_hex n some (omega (arith, small))))

-- what holds of one digit, and of one more, holds of all
pub hex_by_digits : (P : ℕ → List ℕ → Type 0) → ((d : ℕ) → d < 16 → P d (hex_digit d ∷ []))
    → ((n d : ℕ) (t : List ℕ) → 0 < n → d < 16 → P n t → P (n * 16 + d) (t ++ hex_digit d ∷ [])) → (k n : ℕ) → n ≤ k → n < 2 ^ 64 → P n (hexadecimal n)
hex_by_digits P one more zero n le small = subst (P n) (sym (hex_one n (omega (arith, le)))) (one n (omega (arith, le)))
hex_by_digits P one more (suc k) n le small = elim (nat_lt n 16) as (λ (b : Bool). nat_lt n 16 ≡ b → P n (hexadecimal n)) [
  | true ↦ λ e. let low : n < 16 = grind (arith, common_steps) in subst (P n) (sym (hex_one n low)) (one n low)
  | false ↦ λ e.
      let big : 16 ≤ n = grind (arith, common_steps) in
      let q : ℕ = n / 16 in
      let d : ℕ = n % 16 in
      let low : d < 16 = omega arith in
      let high : 0 < q = omega (arith, big) in
      let whole : q * 16 + d ≡ n = omega arith in
      let bound : q * 16 + d < 2 ^ 64 = omega (arith, whole, small) in
      subst (λ m. P m (hexadecimal m)) whole
      (subst (P (q * 16 + d)) (sym (hex_push q d high low bound)) (more q d (hexadecimal q) high low (hex_by_digits P one more k q (omega (arith, le, big)) (omega (arith, small)))))
] refl

pub hex_of-digit : (d : ℕ) → d < 16 → hex_of (hex_digit d) ≡ Some d
hex_of-digit d h = grind (arith, common_steps)

pub record IsHex (b d : ℕ) : Type 0 where
  pub is : b ≡ hex_digit d
  pub small : d < 16

pub hex_told : (b d : ℕ) → hex_of b ≡ Some d → IsHex b d
hex_told b d e = record { is = grind (arith, common_steps); small = grind (arith, common_steps) }

-- a digit is no blank and no line's end
pub hex_no_gap : (d : ℕ) → d < 16 → ((hex_digit d == 32) ≡ false) × ((hex_digit d == 10) ≡ false)
hex_no_gap d h = (grind (arith, common_steps), grind (arith, common_steps))

-- Decimal ------------------------------------------------------------------------------------------

pub decimal_push : (n d : ℕ) → 0 < n → d < 10 → n * 10 + d < 2 ^ 64 → decimal (n * 10 + d) ≡ decimal n ++ (48 + d) ∷ []
decimal_push n d some h small =
    let q : (n * 10 + d) / 10 ≡ n = omega (arith, h) in
    let r : (n * 10 + d) % 10 ≡ d = omega (arith, h) in
    decimal_step (n * 10 + d) (omega (arith, some)) small ∙ ap (λ m. decimal m ++ (48 + (n * 10 + d) % 10) ∷ []) q ∙ ap (λ m. decimal n ++ (48 + m) ∷ []) r

pub digit_of-digit : (d : ℕ) → d < 10 → digit_of (48 + d) ≡ Some d
digit_of-digit d h = grind (arith, common_steps)

pub record IsDigit (b d : ℕ) : Type 0 where
  pub is : b ≡ 48 + d
  pub small : d < 10

pub digit_told : (b d : ℕ) → digit_of b ≡ Some d → IsDigit b d
digit_told b d e = record { is = grind (arith, common_steps); small = grind (arith, common_steps) }

pub digit_no_gap : (d : ℕ) → d < 10 → ((48 + d) == 32) ≡ false
digit_no_gap d h = grind (arith, common_steps)
