-- Numerals are the texts that `decimal` gives.
use Rattle.std.proofs.Common.{sym, ap, ◌∙◌, rules, arith, refl, ◌≡◌, ℕ, zero, suc, ◌<◌, ◌^◌, ◌/◌, ◌%◌, List, [], ◌∷◌, ◌++◌, append_assoc, append-nil, length, length-append, get_or, true, ◌≤◌, ◌+◌}
use Rattle.std.specs.Fmt.{decimal}
use Rattle.std.specs.Char.{is_ascii_digit}
use Rattle.std.specs.List.{list_all, insert}
use Rattle.std.specs.Str.Parse.{digits_value}
use Rattle.std.proofs.lemmas.Str.Parse.{IsNumeralModel, numerals_by_value}
use Rattle.std.proofs.lemmas.Fmt.{decimal-digits_value, digits_decimal, digits_value-decimal, decimal_nonempty, first_decimal, decimal_digit, decimal_step, length-decimal-le}
use Rattle.std.proofs.lemmas.Grind.{common_steps}
use Rattle.rb_core.specs.Decimal.{is_numeral}

pub own : IsNumeralModel (λ ds. list_all is_ascii_digit ds ≡ true) (digits_value 10)
own = numerals_by_value (λ ds. list_all is_ascii_digit ds ≡ true) (search rules)

pub digits-numeral : (ds : List ℕ) → is_numeral ds ≡ true → list_all is_ascii_digit ds ≡ true
digits-numeral ds h = grind (arith, common_steps)

pub some-numeral : (ds : List ℕ) → is_numeral ds ≡ true → 0 < length ds
some-numeral [] h = absurd (cc h)
some-numeral (d ∷ ds) h = grind (arith, common_steps)

pub first-numeral : (ds : List ℕ) → is_numeral ds ≡ true → get_or ds 0 0 ≡ 48 → length ds ≡ 1
first-numeral ds h z = grind (arith, common_steps)

-- a numeral is the text of its number
pub numeral_spelled : (ds : List ℕ) → is_numeral ds ≡ true → digits_value 10 ds < 2 ^ 64 → decimal (digits_value 10 ds) ≡ ds
numeral_spelled ds h small = decimal-digits_value own ds (digits-numeral ds h) (some-numeral ds h) (first-numeral ds h) small

pub numeral_by_parts : (ds : List ℕ) → list_all is_ascii_digit ds ≡ true → (1 < length ds → 48 < get_or ds 0 0) → 0 < length ds → is_numeral ds ≡ true
numeral_by_parts ds p q s = grind (arith, common_steps)

-- the text of a number is a numeral of it
pub numeral-decimal : (n : ℕ) → n < 2 ^ 64 → is_numeral (decimal n) ≡ true
numeral-decimal zero small = rw (decimal_digit 0 (omega arith)) refl
numeral-decimal (suc n) small =
    numeral_by_parts (decimal (suc n)) (digits_decimal own (suc n) small) (λ _. first_decimal (suc n) (omega arith) small) (decimal_nonempty (suc n) small)

pub value-decimal : (n : ℕ) → n < 2 ^ 64 → digits_value 10 (decimal n) ≡ n
value-decimal n small = digits_value-decimal own n small

-- Digits are written from the last one on -----------------------------------------------------

insert-zero : (ds : List ℕ) (d : ℕ) → insert ds 0 d ≡ d ∷ ds
insert-zero ds d = grind (arith, common_steps)

pub none_written : (n : ℕ) (ds : List ℕ) → ds ≡ [] → decimal n ++ ds ≡ decimal n
none_written n ds e = rw e (append-nil (decimal n))

pub digit_written : (n : ℕ) (ds : List ℕ) → 10 ≤ n → n < 2 ^ 64 → decimal (n / 10) ++ insert ds 0 (48 + n % 10) ≡ decimal n ++ ds
digit_written n ds big small =
    ap (λ xs. decimal (n / 10) ++ xs) (insert-zero ds (48 + n % 10))
    ∙ sym (append_assoc (decimal (n / 10)) ((48 + n % 10) ∷ []) ds)
    ∙ ap (λ xs. xs ++ ds) (sym (decimal_step n big small))

pub last_written : (n : ℕ) (ds : List ℕ) → n < 10 → insert ds 0 (48 + n) ≡ decimal n ++ ds
last_written n ds small = insert-zero ds (48 + n) ∙ ap (λ xs. xs ++ ds) (sym (decimal_digit n small))

pub length-decimal_step : (n : ℕ) → 10 ≤ n → n < 2 ^ 64 → length (decimal n) ≡ length (decimal (n / 10)) + 1
length-decimal_step n big small = ap (λ xs. length xs) (decimal_step n big small) ∙ length-append (decimal (n / 10)) ((48 + n % 10) ∷ [])

pub length-decimal-le_20 : (n : ℕ) → n < 2 ^ 64 → length (decimal n) ≤ 20
length-decimal-le_20 n small = length-decimal-le 20 n (omega arith) (omega (arith, small)) small
