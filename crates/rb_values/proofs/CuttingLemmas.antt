-- The signs of a text that is put together from pieces: names, numbers and what stands between them.
use Rattle.std.proofs.Common.{◌≡◌, ℕ, zero, suc, ◌+◌, ◌-◌, ◌<◌, ◌≤◌, ◌^◌, List, [], ◌∷◌, ◌++◌, length, drop, take, codes, take_while, nat_le, Bool, true, false, ◌&&◌, ◌==◌, Some, None, refl, ◌∙◌, ap, subst, arith, length-append, eqb-true}
use Rattle.std.specs.Fmt.{decimal}
use Rattle.std.specs.Char.{is_ascii_digit, is_ascii_uppercase, is_ascii_alphabetic}
use Rattle.std.specs.Int.{is_in_range}
use Rattle.std.specs.List.{list_all, prefix_len}
use Rattle.std.proofs.lemmas.Bool.{leb-true, and_parts, and_from, or_left}
use Rattle.std.proofs.lemmas.Grind.{common_steps}
use Rattle.rb_core.specs.Decimal.{is_numeral, number_in}
use Rattle.rb_core.specs.WellNumbered.{is_upper, is_capital, is_word_byte, either}
use Rattle.rb_core.proofs.Decimals.{numeral-decimal, value-decimal, digits-numeral, some-numeral}
use Rattle.rb_syntax.specs.declared.token.Symbol.TheVariants as symbol
use Rattle.rb_syntax.specs.declared.token.Token.{Token}
use Rattle.rb_syntax.specs.declared.token.Token.TheVariants as tok
use Rattle.rb_syntax.specs.declared.token.Placed.{Placed}
use Rattle.rb_syntax.specs.declared.piece.Piece.{Piece}
use Rattle.rb_syntax.specs.declared.piece.Piece.TheVariants as piece
use Rattle.rb_syntax.specs.Bytes.{is_blank}
use Rattle.rb_syntax.specs.Pieces.{name_token, number_or_fault, number_piece, run_piece, symbol_piece, first_piece, piece_at}
use Rattle.rb_syntax.proofs.WordBytes.{digit-word, letter-word}
use Rattle.rb_syntax.specs.Fronts.{Front, ends, front_with, with_front, front_from}
use Rattle.rb_values.specs.declared.sign.Sign.{Sign}
use Rattle.rb_values.specs.declared.sign.Sign.TheVariants as sign
use Rattle.rb_values.specs.Terms.{sign_of, signs}

clash : {P : Type 0} → true ≡ false → P
clash e = cc

-- Pieces one after the other -------------------------------------------------------------------

one-more : (n at : ℕ) (bytes : List ℕ) → 0 < length bytes → front_from (suc n) at bytes ≡ with_front at (piece_at bytes) (λ len. front_from n (at + len) (drop len bytes))
unfolding front_from
one-more n at bytes h = let e : (length bytes == 0) ≡ false = grind (arith, common_steps) in rw e refl

gap-front : (at len : ℕ) (rest : ℕ → Front) → with_front at (piece.Gap len) rest ≡ rest len
unfolding with_front
gap-front at len rest = refl

token-front : (at len : ℕ) (t : Token) (rest : ℕ → Front) → with_front at (piece.Token t len) rest ≡ front_with (record { token = t; at = at }) (rest len)
unfolding with_front
token-front at len t rest = refl

none-left : (n at : ℕ) → front_from n at [] ≡ ends None
unfolding front_from
none-left zero at = refl
none-left (suc n) at = refl

drop-front : (xs ys : List ℕ) → drop (length xs) (xs ++ ys) ≡ ys
drop-front [] ys = refl
drop-front (x ∷ xs) ys = drop-front xs ys

take-front : (xs ys : List ℕ) → take (length xs) (xs ++ ys) ≡ xs
take-front [] ys = refl
take-front (x ∷ xs) ys = ap (λ (zs : List ℕ). x ∷ zs) (take-front xs ys)

-- some bytes have tokens, which are these signs
pub record Shows (at : ℕ) (bytes : List ℕ) (ss : List Sign) : Type 0 where
  pub tokens : List Placed
  pub cut : (n : ℕ) → length bytes ≤ n → front_from n at bytes ≡ record { tokens = tokens; fault = None }
  pub are : signs tokens ≡ ss

pub shows-end : (at : ℕ) → Shows at [] []
shows-end at = record { tokens = []; cut = λ n h. none-left n at; are = refl }

module _ (at len : ℕ) (xs rest : List ℕ) (ss : List Sign) (some : 0 < length xs) (all : len ≡ length xs) (next : Shows (at + len) rest ss) where
  left : drop len (xs ++ rest) ≡ rest
  left = ap (λ (n : ℕ). drop n (xs ++ rest)) all ∙ drop-front xs rest

  rest-cut : (n : ℕ) → length (xs ++ rest) ≤ suc n → front_from n (at + len) (drop len (xs ++ rest)) ≡ record { tokens = next.tokens; fault = None }
  rest-cut n h = ap (λ (bs : List ℕ). front_from n (at + len) bs) left ∙ next.cut n (omega (arith, h, some, length-append xs rest))

  by-piece : (n : ℕ) (p : Piece) → piece_at (xs ++ rest) ≡ p
      → front_from (suc n) at (xs ++ rest) ≡ with_front at p (λ len. front_from n (at + len) (drop len (xs ++ rest)))
  by-piece n p e = one-more n at (xs ++ rest) (omega (arith, some, length-append xs rest))
      ∙ ap (λ (p : Piece). with_front at p (λ len. front_from n (at + len) (drop len (xs ++ rest)))) e

  shows-gap : piece_at (xs ++ rest) ≡ piece.Gap len → Shows at (xs ++ rest) ss
  shows-gap e = record { tokens = next.tokens; cut = cut; are = next.are } where
    cut : (n : ℕ) → length (xs ++ rest) ≤ n → front_from n at (xs ++ rest) ≡ record { tokens = next.tokens; fault = None }
    cut zero h = absurd (omega (arith, h, some, length-append xs rest))
    cut (suc n) h = by-piece n (piece.Gap len) e ∙ gap-front at len _ ∙ rest-cut n h

  shows-token : (t : Token) (s : Sign) → sign_of (record { token = t; at = at }) ≡ s → piece_at (xs ++ rest) ≡ piece.Token t len → Shows at (xs ++ rest) (s ∷ ss)
  shows-token t s is e = record {
    tokens = record { token = t; at = at } ∷ next.tokens;
    cut = cut;
    are = ap (λ (s : Sign). s ∷ signs next.tokens) is ∙ ap (λ (ss : List Sign). s ∷ ss) next.are;
  } where
    cut : (n : ℕ) → length (xs ++ rest) ≤ n → front_from n at (xs ++ rest) ≡ record { tokens = record { token = t; at = at } ∷ next.tokens; fault = None }
    cut zero h = absurd (omega (arith, h, some, length-append xs rest))
    cut (suc n) h = by-piece n (piece.Token t len) e ∙ token-front at len t _ ∙ ap (front_with (record { token = t; at = at })) (rest-cut n h)

-- Signs between names and numbers ---------------------------------------------------------------

open-piece : (rest : List ℕ) → piece_at (40 ∷ rest) ≡ piece.Token (tok.Symbol symbol.OpenParen) 1
unfolding piece_at first_piece symbol_piece
open-piece rest = refl

close-piece : (rest : List ℕ) → piece_at (41 ∷ rest) ≡ piece.Token (tok.Symbol symbol.CloseParen) 1
unfolding piece_at first_piece symbol_piece
close-piece rest = refl

comma-piece : (rest : List ℕ) → piece_at (44 ∷ rest) ≡ piece.Token (tok.Symbol symbol.Comma) 1
unfolding piece_at first_piece symbol_piece
comma-piece rest = refl

blank-piece : (rest : List ℕ) → piece_at (32 ∷ rest) ≡ piece.Gap 1
unfolding piece_at first_piece
blank-piece rest = refl

shows-from : (at from : ℕ) (bytes : List ℕ) (ss : List Sign) → from ≡ at → Shows from bytes ss → Shows at bytes ss
shows-from at from bytes ss e = subst (λ (n : ℕ). Shows n bytes ss) e

pub shows-open : (at from : ℕ) (rest : List ℕ) (ss : List Sign) → from ≡ at + 1 → Shows from rest ss → Shows at (codes "(" ++ rest) (sign.Open ∷ ss)
shows-open at from rest ss e next =
    shows-token at 1 (40 ∷ []) rest ss (omega arith) refl (shows-from (at + 1) from rest ss e next) (tok.Symbol symbol.OpenParen) sign.Open refl (open-piece rest)

pub shows-close : (at from : ℕ) (rest : List ℕ) (ss : List Sign) → from ≡ at + 1 → Shows from rest ss → Shows at (codes ")" ++ rest) (sign.Close ∷ ss)
shows-close at from rest ss e next =
    shows-token at 1 (41 ∷ []) rest ss (omega arith) refl (shows-from (at + 1) from rest ss e next) (tok.Symbol symbol.CloseParen) sign.Close refl (close-piece rest)

pub shows-comma : (at from : ℕ) (rest : List ℕ) (ss : List Sign) → from ≡ at + 2 → Shows from rest ss → Shows at (codes ", " ++ rest) (sign.Comma ∷ ss)
shows-comma at from rest ss e next =
    shows-token at 1 (44 ∷ []) (32 ∷ rest) ss (omega arith) refl
    (shows-gap (at + 1) 1 (32 ∷ []) rest ss (omega arith) refl (shows-from (at + 1 + 1) from rest ss (omega (arith, e)) next) (blank-piece rest))
    (tok.Symbol symbol.Comma) sign.Comma refl (comma-piece (32 ∷ rest))

-- Runs of letters, digits and underscores -------------------------------------------------------

-- no such run goes on here
abbrev pub Stops : List ℕ → Type 0
Stops rest = prefix_len is_word_byte rest ≡ 0

in-range : (low high b : ℕ) → is_in_range low high b ≡ true → low ≤ b
in-range low high b e = leb-true low b (and_parts (nat_le low b) (nat_le b high) e).0

four-cases : (u l d x : Bool) (P : Type 0) → (u ≡ true → P) → (l ≡ true → P) → (d ≡ true → P) → (x ≡ true → P)
    → either u (either l (either d x)) ≡ true → P
four-cases true l d x P f g h i e = f refl
four-cases false true d x P f g h i e = g refl
four-cases false false true x P f g h i e = h refl
four-cases false false false x P f g h i e = i e

word-high : (b : ℕ) → is_word_byte b ≡ true → 33 ≤ b
word-high b = four-cases (is_in_range 65 90 b) (is_in_range 97 122 b) (is_in_range 48 57 b) (b == 95) (33 ≤ b)
    (λ e. omega (arith, in-range 65 90 b e)) (λ e. omega (arith, in-range 97 122 b e)) (λ e. omega (arith, in-range 48 57 b e))
    (λ e. omega (arith, eqb-true b 95 e))

other : (b c : ℕ) → c < b → (b == c) ≡ false
other b c h = grind (arith, common_steps)

no-blank : (b : ℕ) → 33 ≤ b → is_blank b ≡ false
no-blank b h = rw (other b 9 (omega arith), other b 10 (omega arith), other b 13 (omega arith), other b 32 (omega arith)) refl

run-length : (run rest : List ℕ) → list_all is_word_byte run ≡ true → Stops rest → prefix_len is_word_byte (run ++ rest) ≡ length run
run-length [] rest all stops = stops
run-length (b ∷ bs) rest all stops =
    let h = and_parts (is_word_byte b) (list_all is_word_byte bs) all in
    let i : prefix_len is_word_byte (bs ++ rest) ≡ length bs = run-length bs rest h.1 stops in
    rw h.0 (omega (arith, i))

run-front : (run rest : List ℕ) → list_all is_word_byte run ≡ true → Stops rest → take_while is_word_byte (run ++ rest) ≡ run
run-front run rest all stops = ap (λ (n : ℕ). take n (run ++ rest)) (run-length run rest all stops) ∙ take-front run rest

first-run : (b : ℕ) (bytes : List ℕ) → is_blank b ≡ false → is_word_byte b ≡ true → first_piece b bytes ≡ run_piece b (take_while is_word_byte bytes)
unfolding first_piece
first-run b bytes e f = rw (e, f) refl

run-at : (b : ℕ) (bs rest : List ℕ) → list_all is_word_byte (b ∷ bs) ≡ true → Stops rest → piece_at ((b ∷ bs) ++ rest) ≡ run_piece b (b ∷ bs)
unfolding piece_at
run-at b bs rest all stops =
    let word = (and_parts (is_word_byte b) (list_all is_word_byte bs) all).0 in
    first-run b ((b ∷ bs) ++ rest) (no-blank b (word-high b word)) word ∙ ap (run_piece b) (run-front (b ∷ bs) rest all stops)

capital-piece : (b : ℕ) (bs : List ℕ) → is_capital b ≡ true → run_piece b (b ∷ bs) ≡ piece.Token (tok.Upper (b ∷ bs)) (length (b ∷ bs))
unfolding run_piece name_token
capital-piece b bs e = let letter : is_ascii_alphabetic b ≡ true = or_left (is_in_range 65 90 b) (is_in_range 97 122 b) e in
    let capital : is_ascii_uppercase b ≡ true = e in rw (letter, capital) refl

pub shows-name : (at from : ℕ) (name rest : List ℕ) (ss : List Sign) → is_upper name ≡ true → Stops rest → from ≡ at + length name → Shows from rest ss
    → Shows at (name ++ rest) (sign.Name at name ∷ ss)
shows-name at from [] rest ss e stops f next = cc
shows-name at from (b ∷ bs) rest ss e stops f next =
    let h = and_parts (is_capital b) (list_all is_word_byte bs) e in
    let letter : is_ascii_alphabetic b ≡ true = or_left (is_in_range 65 90 b) (is_in_range 97 122 b) h.0 in
    let all : list_all is_word_byte (b ∷ bs) ≡ true = and_from (is_word_byte b) (list_all is_word_byte bs) (letter-word b letter) h.1 in
    shows-token at (length (b ∷ bs)) (b ∷ bs) rest ss (omega arith) refl (shows-from (at + length (b ∷ bs)) from rest ss f next)
    (tok.Upper (b ∷ bs)) (sign.Name at (b ∷ bs)) refl (run-at b bs rest all stops ∙ capital-piece b bs h.0)

-- Numbers ---------------------------------------------------------------------------------------

digit-words : (bs : List ℕ) → list_all is_ascii_digit bs ≡ true → list_all is_word_byte bs ≡ true
digit-words [] e = refl
digit-words (b ∷ bs) e =
    let h = and_parts (is_ascii_digit b) (list_all is_ascii_digit bs) e in
    and_from (is_word_byte b) (list_all is_word_byte bs) (digit-word b h.0) (digit-words bs h.1)

digit-range : (b : ℕ) → is_ascii_digit b ≡ true → (48 ≤ b) × (b ≤ 57)
digit-range b e = let h = and_parts (nat_le 48 b) (nat_le b 57) e in (leb-true 48 b h.0, leb-true b 57 h.1)

no-letter : (b : ℕ) → is_ascii_digit b ≡ true → is_ascii_alphabetic b ≡ false
no-letter b e =
    let h = digit-range b e in
    let up : nat_le 65 b ≡ false = grind (arith, common_steps, h.1) in
    let low : nat_le 97 b ≡ false = grind (arith, common_steps, h.1) in
    rw (up, low) refl

digit-run : (d : ℕ) (run : List ℕ) → is_ascii_alphabetic d ≡ false → is_ascii_digit d ≡ true → run_piece d run ≡ number_piece run
unfolding run_piece
digit-run d run e f = rw (e, f) refl

number-run : (run : List ℕ) (n : ℕ) → number_in 0 (2 ^ 64 - 1) run ≡ Some n → number_piece run ≡ piece.Token (tok.Num n) (length run)
unfolding number_piece number_or_fault
number-run run n e = ap (λ o. number_or_fault o run) e

digits-piece : (d : ℕ) (ds : List ℕ) (n : ℕ) → is_numeral (d ∷ ds) ≡ true → number_in 0 (2 ^ 64 - 1) (d ∷ ds) ≡ Some n
    → run_piece d (d ∷ ds) ≡ piece.Token (tok.Num n) (length (d ∷ ds))
digits-piece d ds n e v =
    let digit : is_ascii_digit d ≡ true = (and_parts (is_ascii_digit d) (list_all is_ascii_digit ds) (digits-numeral (d ∷ ds) e)).0 in
    digit-run d (d ∷ ds) (no-letter d digit) digit ∙ number-run (d ∷ ds) n v

numeral-piece : (ds rest : List ℕ) (n : ℕ) → is_numeral ds ≡ true → number_in 0 (2 ^ 64 - 1) ds ≡ Some n → Stops rest
    → piece_at (ds ++ rest) ≡ piece.Token (tok.Num n) (length ds)
numeral-piece [] rest n e v stops = let h : 0 < length {A = ℕ} [] = some-numeral [] e in absurd (omega (arith, h))
numeral-piece (d ∷ ds) rest n e v stops =
    run-at d ds rest (digit-words (d ∷ ds) (digits-numeral (d ∷ ds) e)) stops ∙ digits-piece d ds n e v

within-max : (n : ℕ) → n < 2 ^ 64 → (nat_le 0 n && nat_le n (2 ^ 64 - 1)) ≡ true
within-max n h = grind (arith, common_steps)

number-decimal : (n : ℕ) → n < 2 ^ 64 → number_in 0 (2 ^ 64 - 1) (decimal n) ≡ Some n
number-decimal n small = rw (numeral-decimal n small, value-decimal n small, within-max n small) refl

pub shows-number : (at from n : ℕ) (rest : List ℕ) (ss : List Sign) → n < 2 ^ 64 → Stops rest → from ≡ at + length (decimal n) → Shows from rest ss
    → Shows at (decimal n ++ rest) (sign.Number at n ∷ ss)
shows-number at from n rest ss small stops f next =
    let e : is_numeral (decimal n) ≡ true = numeral-decimal n small in
    shows-token at (length (decimal n)) (decimal n) rest ss (some-numeral (decimal n) e) refl (shows-from (at + length (decimal n)) from rest ss f next)
    (tok.Num n) (sign.Number at n) refl (numeral-piece (decimal n) rest n e (number-decimal n small) stops)
