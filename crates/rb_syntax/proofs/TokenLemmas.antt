-- How the tokens of runs are written, and which byte of a run is bad.
use Rattle.std.proofs.Common.{◌≡◌, ℕ, suc, ◌+◌, ◌-◌, ◌<◌, ◌≤◌, ◌^◌, List, [], ◌∷◌, length, take, nat_eq, Bool, true, false, cond, ◌||◌, ◌&&◌, ◌==◌, nat_le, if◌then◌else◌, Option, Some, None, refl, sym, ◌∙◌, ap, subst, arith, leb-true, eqb-true}
use Rattle.std.specs.Cmp.Lexicographic.{pointwise}
use Rattle.std.specs.Char.{is_ascii_digit, is_ascii_uppercase, is_ascii_lowercase, is_ascii_alphabetic}
use Rattle.std.specs.Int.{is_in_range}
use Rattle.std.specs.List.{list_all, prefix_len}
use Rattle.std.proofs.lemmas.Bool.Decides.{Decides-eqb}
use Rattle.std.proofs.lemmas.Slice.Eq.{slice_eq-Decides}
use Rattle.std.proofs.lemmas.Bool.{eqb-false, le-leb}
use Rattle.std.specs.Str.Parse.{digits_value}
use Rattle.rb_core.specs.Decimal.{is_numeral, number_in}
use Rattle.rb_core.specs.WellNumbered.{is_word_byte, either}
use Rattle.rb_core.proofs.Decimals.{digits-numeral, some-numeral, first-numeral, numeral_by_parts}
use Rattle.rb_syntax.specs.declared.token.ReservedWord.{ReservedWord}
use Rattle.rb_syntax.specs.declared.token.Token.TheVariants as tok
use Rattle.rb_syntax.specs.Bytes.{numeral_len}
use Rattle.rb_syntax.specs.Words.{word_text, word_of, words, uint_width}
use Rattle.rb_syntax.specs.Pieces.{width_or_name, word_or_name, name_token}
use Rattle.rb_syntax.specs.Cutting.{IsNumeral, IsUintWord, IsNotReserved, IsWritten, IsTokenRun, name, numeral, underscore}
use Rattle.rb_syntax.proofs.SymbolLemmas.{and-left, and-right, find-passes, word-found}
use Rattle.rb_syntax.proofs.LongestLemmas.{prefix-all, all-prefix, length-front}

clash : {P : Type 0} → true ≡ false → P
clash e = cc

-- Numerals.

whole-all : (p : ℕ → Bool) (xs : List ℕ) → prefix_len p xs ≡ length xs → list_all p xs ≡ true
whole-all p [] e = refl
whole-all p (x ∷ xs) e = elim (p x) as (λ (b : Bool). p x ≡ b → cond b (1 + prefix_len p xs) 0 ≡ suc (length xs) → (b && list_all p xs) ≡ true) [
  | true ↦ λ h g. whole-all p xs (omega arith)
  | false ↦ λ h g. absurd (omega arith)
] refl e

pub none-empty : (ds : List ℕ) → length ds ≡ 0 → ds ≡ []
none-empty [] e = refl
none-empty (d ∷ ds) e = absurd (omega arith)

pub len-numeral : (text : List ℕ) → 0 < length text → numeral_len text ≡ length text → IsNumeral text
len-numeral [] h e = absurd (omega arith)
len-numeral (d ∷ ds) h e = elim (d == 48) as (λ (b : Bool). (d == 48) ≡ b → (if b then 1 else prefix_len is_ascii_digit (d ∷ ds)) ≡ suc (length ds) → IsNumeral (d ∷ ds)) [
  | true ↦ λ z g.
      let at : d ≡ 48 = eqb-true d 48 z in
      let last : ds ≡ [] = none-empty ds (omega arith) in
      record { some = omega arith; digits = rw (at, last) refl; leading = λ _. sym g }
  | false ↦ λ z g. record { some = omega arith; digits = whole-all is_ascii_digit (d ∷ ds) g; leading = λ k. clash (sym k ∙ z) }
] refl e

if-some : (c : Bool) (v n : ℕ) → (if c then Some v else None) ≡ Some n → (c ≡ true) × (v ≡ n)
if-some true v n e = (refl, cc)
if-some false v n e = cc

range-is : (lo hi b : ℕ) → is_in_range lo hi b ≡ true → (lo ≤ b) × (b ≤ hi)
range-is lo hi b e = (leb-true lo b (and-left (nat_le lo b) (nat_le b hi) e), leb-true b hi (and-right (nat_le lo b) (nat_le b hi) e))

is-numeral : (text : List ℕ) → is_numeral text ≡ true → IsNumeral text
is-numeral [] e = let h : 0 < length {A = ℕ} [] = some-numeral [] e in absurd (omega (arith, h))
is-numeral (d ∷ ds) e = record {
  some = omega arith;
  digits = digits-numeral (d ∷ ds) e;
  leading = λ k. first-numeral (d ∷ ds) e (eqb-true d 48 k);
}

numeral-is : (text : List ℕ) → IsNumeral text → is_numeral text ≡ true
numeral-is [] n = absurd (omega (arith, n.some))
numeral-is (d ∷ ds) n = numeral_by_parts (d ∷ ds) n.digits first n.some where
  first : 1 < length (d ∷ ds) → 48 < d
  first many =
      let r = range-is 48 57 d (and-left (is_ascii_digit d) (list_all is_ascii_digit ds) n.digits) in
      elim (d == 48) as (λ (b : Bool). (d == 48) ≡ b → 48 < d) [
        | true ↦ λ z. absurd (omega (arith, many, n.leading z))
        | false ↦ λ z. omega (arith, r.0, eqb-false d 48 z)
      ] refl

-- the number from low to high that the text spells
pub number-found : (low high : ℕ) (text : List ℕ) (n : ℕ) → number_in low high text ≡ Some n
    → IsNumeral text × (digits_value 10 text ≡ n) × (low ≤ n) × (n ≤ high)
number-found low high text n e =
    let v = digits_value 10 text in
    let range = nat_le low v && nat_le v high in
    let c : ((is_numeral text && range) ≡ true) × (v ≡ n) = if-some (is_numeral text && range) v n e in
    let within : range ≡ true = and-right (is_numeral text) range c.0 in
    let least : low ≤ v = leb-true low v (and-left (nat_le low v) (nat_le v high) within) in
    let most : v ≤ high = leb-true v high (and-right (nat_le low v) (nat_le v high) within) in
    (is-numeral text (and-left (is_numeral text) range c.0), c.1, omega (arith, c.1, least), omega (arith, c.1, most))

pub number-of : (low high : ℕ) (text : List ℕ) (n : ℕ) → IsNumeral text → digits_value 10 text ≡ n → low ≤ n → n ≤ high
    → number_in low high text ≡ Some n
number-of low high text n k v least most =
    let numeral : is_numeral text ≡ true = numeral-is text k in
    let low_is : nat_le low n ≡ true = le-leb low n least in
    let high_is : nat_le n high ≡ true = le-leb n high most in
    rw (numeral, v, low_is, high_is) refl

-- a number without a word below 2 ^ 64 is too wide
pub number-wide : (text : List ℕ) → IsNumeral text → number_in 0 (2 ^ 64 - 1) text ≡ None → 2 ^ 64 ≤ digits_value 10 text
number-wide text k e =
    by_refusal (digits_value 10 text) (λ most. none (sym (number-of 0 (2 ^ 64 - 1) text (digits_value 10 text) k refl (omega arith) most) ∙ e)) where
      by_refusal : (v : ℕ) → (v ≤ 2 ^ 64 - 1 → ⊥) → 2 ^ 64 ≤ v
      by_refusal v h = omega (arith, h)

      none : Some (digits_value 10 text) ≡ None → ⊥
      none h = cc

-- Words and names.

text-is : (xs ys : List ℕ) → pointwise nat_eq xs ys ≡ true → xs ≡ ys
text-is xs ys e = (slice_eq-Decides Decides-eqb xs ys (pointwise nat_eq xs ys) refl).0 e

if-then : (c : Bool) (o : Option ℕ) (n : ℕ) → (if c then o else None) ≡ Some n → (c ≡ true) × (o ≡ Some n)
if-then true o n e = (refl, e)
if-then false o n e = cc

width-written : (run : List ℕ) (bits : ℕ) → uint_width run ≡ Some bits → IsUintWord bits run
width-written [] bits e = cc
width-written (u ∷ ds) bits e =
    let c : ((u == 117) ≡ true) × (number_in 1 64 ds ≡ Some bits) = if-then (u == 117) (number_in 1 64 ds) bits e in
    let f = number-found 1 64 ds bits c.1 in
    record {
      digits = ds;
      written = ap (λ (b : ℕ). b ∷ ds) (eqb-true u 117 c.0);
      numeral = f.0;
      value = f.1;
      some = f.2;
      most = f.3;
    }

width-found : (run : List ℕ) (bits : ℕ) → IsUintWord bits run → uint_width run ≡ Some bits
width-found run bits w =
    let found : uint_width (117 ∷ w.digits) ≡ Some bits = number-of 1 64 w.digits bits w.numeral w.value w.some w.most in
    subst (λ (xs : List ℕ). uint_width xs ≡ Some bits) (sym w.written) found

name-not_reserved : (run : List ℕ) → word_of run ≡ None → uint_width run ≡ None → IsNotReserved run
name-not_reserved run e f = (
  λ w h. let k : word_of (word_text w) ≡ None = subst (λ (xs : List ℕ). word_of xs ≡ None) h e in
      let g : Some w ≡ None = sym (word-found w) ∙ k in cc,
  λ bits w. let g : Some bits ≡ None = sym (width-found run bits w) ∙ f in cc,
)

width_or_name-written : (o : Option ℕ) (b : ℕ) (bs : List ℕ) → is_ascii_lowercase b ≡ true → list_all is_word_byte (b ∷ bs) ≡ true → word_of (b ∷ bs) ≡ None
    → uint_width (b ∷ bs) ≡ o → IsWritten (width_or_name o (b ∷ bs)) (b ∷ bs)
unfolding width_or_name
width_or_name-written (Some bits) b bs low all e f = width-written (b ∷ bs) bits f
width_or_name-written None b bs low all e f = (refl, low, all, name-not_reserved (b ∷ bs) e f)

word_or_name-written : (o : Option ReservedWord) (b : ℕ) (bs : List ℕ) → is_ascii_lowercase b ≡ true → list_all is_word_byte (b ∷ bs) ≡ true
    → word_of (b ∷ bs) ≡ o → IsWritten (word_or_name o (b ∷ bs)) (b ∷ bs)
unfolding word_or_name
word_or_name-written (Some w) b bs low all e = sym (text-is (word_text w) (b ∷ bs) (find-passes (λ v. pointwise nat_eq (word_text v) (b ∷ bs)) words w e))
word_or_name-written None b bs low all e = width_or_name-written (uint_width (b ∷ bs)) b bs low all e refl

pub name_token-written : (b : ℕ) (bs : List ℕ) → is_ascii_alphabetic b ≡ true → list_all is_word_byte (b ∷ bs) ≡ true → IsWritten (name_token b (b ∷ bs)) (b ∷ bs)
unfolding name_token
name_token-written b bs letter all = elim (is_ascii_uppercase b) as (λ (c : Bool). is_ascii_uppercase b ≡ c → (c || is_ascii_lowercase b) ≡ true
    → IsWritten (if c then tok.Upper (b ∷ bs) else word_or_name (word_of (b ∷ bs)) (b ∷ bs)) (b ∷ bs)) [
      | true ↦ λ e _. (refl, e, all)
      | false ↦ λ e low. word_or_name-written (word_of (b ∷ bs)) b bs low all refl
    ] refl letter

-- Where a run goes wrong.

or-cases : (a b : Bool) (P : Type 0) → (a ≡ true → P) → (b ≡ true → P) → (a || b) ≡ true → P
or-cases true b P f g e = f refl
or-cases false b P f g e = g e

letter-digit : (b : ℕ) → is_ascii_alphabetic b ≡ true → is_ascii_digit b ≡ true → ⊥
letter-digit b e d =
    let r = range-is 48 57 b d in
    or-cases (is_in_range 65 90 b) (is_in_range 97 122 b) ⊥
    (λ u. let s = range-is 65 90 b u in omega (arith, r.1, s.0)) (λ l. let s = range-is 97 122 b l in omega (arith, r.1, s.0)) e

-- the number at the front of a run that begins with a digit, and the byte behind it
module _ (d : ℕ) (ds : List ℕ) (digit : is_ascii_digit d ≡ true) where
  digits-front : prefix_len is_ascii_digit (d ∷ ds) ≡ suc (prefix_len is_ascii_digit ds)
  digits-front = rw digit (omega arith)

  one-good : IsNumeral (d ∷ [])
  one-good = record { some = omega arith; digits = rw digit refl; leading = λ _. refl }

  many-good : (d == 48) ≡ false → IsNumeral (d ∷ take (prefix_len is_ascii_digit ds) ds)
  many-good z = record { some = omega arith; digits = rw digit (prefix-all is_ascii_digit ds); leading = λ k. clash (sym k ∙ z) }

  pub numeral-good : IsNumeral (take (numeral_len (d ∷ ds)) (d ∷ ds))
  numeral-good = elim (d == 48) as (λ (b : Bool). (d == 48) ≡ b → IsNumeral (take (if b then 1 else prefix_len is_ascii_digit (d ∷ ds)) (d ∷ ds))) [
    | true ↦ λ _. one-good
    | false ↦ λ z. subst (λ (n : ℕ). IsNumeral (take n (d ∷ ds))) (sym digits-front) (many-good z)
  ] refl

  pub numeral_len-some : 0 < numeral_len (d ∷ ds)
  numeral_len-some = elim (d == 48) as (λ (b : Bool). 0 < (if b then 1 else prefix_len is_ascii_digit (d ∷ ds))) [
    | true ↦ omega arith
    | false ↦ omega (arith, digits-front)
  ]

  not-longer : (k : ℕ) → 0 < k → suc k ≤ suc (length ds) → (IsNumeral (take (suc k) (d ∷ ds)) → ⊥) → IsTokenRun (take (suc k) (d ∷ ds)) → ⊥
  not-longer k h l fails (name e all) = letter-digit d e digit
  not-longer k h l fails (numeral n) = fails n
  not-longer k h l fails (underscore e) = omega (arith, ap length e, length-front (suc k) (d ∷ ds) l)

  pub numeral-bad : numeral_len (d ∷ ds) < suc (length ds) → IsTokenRun (take (suc (numeral_len (d ∷ ds))) (d ∷ ds)) → ⊥
  numeral-bad = elim (d == 48) as (λ (b : Bool). (d == 48) ≡ b → (if b then 1 else prefix_len is_ascii_digit (d ∷ ds)) < suc (length ds)
      → IsTokenRun (take (suc (if b then 1 else prefix_len is_ascii_digit (d ∷ ds))) (d ∷ ds)) → ⊥) [
        | true ↦ λ z l. not-longer 1 (omega arith) l (λ n. omega (arith, n.leading z, length-front 2 (d ∷ ds) l))
        | false ↦ λ z l. not-longer (prefix_len is_ascii_digit (d ∷ ds)) (omega (arith, digits-front)) l
            (λ n. omega (arith, all-prefix is_ascii_digit (d ∷ ds) (suc (prefix_len is_ascii_digit (d ∷ ds))) l n.digits))
      ] refl

-- a run that begins with '_'
pub underscore-bad : (b c : ℕ) (cs : List ℕ) → b ≡ 95 → IsTokenRun (b ∷ c ∷ cs) → ⊥
underscore-bad b c cs at (name e all) = let h : is_ascii_alphabetic 95 ≡ true = rw at at e in clash (sym h)
underscore-bad b c cs at (numeral n) = let h : is_ascii_digit b ≡ true = and-left (is_ascii_digit b) (list_all is_ascii_digit (c ∷ cs)) n.digits in
    let k : is_ascii_digit 95 ≡ true = rw at at h in clash (sym k)
underscore-bad b c cs at (underscore e) = omega (arith, ap length e)

last-of-four : (u l a e : Bool) → either u (either l (either a e)) ≡ true → (u || l) ≡ false → a ≡ false → e ≡ true
last-of-four true l a e h g k = clash g
last-of-four false true a e h g k = clash g
last-of-four false false true e h g k = clash k
last-of-four false false false e h g k = h

pub is-underscore : (b : ℕ) → is_word_byte b ≡ true → is_ascii_alphabetic b ≡ false → is_ascii_digit b ≡ false → b ≡ 95
is-underscore b w no_letter no_digit =
    eqb-true b 95 (last-of-four (is_in_range 65 90 b) (is_in_range 97 122 b) (is_in_range 48 57 b) (b == 95) w no_letter no_digit)
