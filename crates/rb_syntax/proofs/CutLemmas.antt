-- What is read is what stands in the text: its longest pieces, one after the other.
use Rattle.std.proofs.Common.{◌≡◌, ℕ, zero, suc, ◌+◌, ◌-◌, ◌<◌, ◌≤◌, ◌^◌, List, [], ◌∷◌, length, take, drop, codes, take_while, nat_eq, Bool, true, false, ◌==◌, if◌then◌else◌, Option, Some, None, Ok, Err, refl, sym, ◌∙◌, ap, subst, arith, length-drop, eqb-true}
use Rattle.std.specs.Char.{is_ascii_digit, is_ascii_alphabetic}
use Rattle.std.specs.List.{list_all, prefix_len, starts_with}
use Rattle.std.proofs.lemmas.Bool.{eqb-false}
use Rattle.std.proofs.lemmas.List.Folds.{length-prefix_len}
use Rattle.std.specs.Str.Parse.{digits_value}
use Rattle.rb_core.specs.Decimal.{number_in}
use Rattle.rb_core.specs.WellNumbered.{is_word_byte}
use Rattle.rb_syntax.specs.declared.token.Symbol.{Symbol}
use Rattle.rb_syntax.specs.declared.token.Symbol.TheVariants.{Underscore}
use Rattle.rb_syntax.specs.declared.token.Token.{Token}
use Rattle.rb_syntax.specs.declared.token.Token.TheVariants as tok
use Rattle.rb_syntax.specs.declared.token.Placed.{Placed}
use Rattle.rb_syntax.specs.declared.piece.Piece.{Piece}
use Rattle.rb_syntax.specs.declared.piece.Piece.TheVariants as piece
use Rattle.rb_syntax.specs.declared.lex.LexFault.TheVariants.{BadByte, NumberTooWide, Memory}
use Rattle.rb_syntax.specs.Bytes.{is_blank, numeral_len}
use Rattle.rb_syntax.specs.Words.{symbol_at}
use Rattle.rb_syntax.specs.Pieces.{name_token, number_or_fault, number_piece, underscore_piece, run_piece, symbol_piece, first_piece, piece_at}
use Rattle.rb_syntax.specs.Lexing.{Lexed, before, with_piece, lexing_from, lexing_of}
use Rattle.rb_syntax.specs.Cutting.{IsGap, IsLongest, IsNumeral, IsWritten, IsTokenRun, IsBadBehind, IsWideNumber, Cut, LexesTo, no_piece, wrong_run}
use Rattle.rb_syntax.specs.Cutting as cut
use Rattle.rb_syntax.proofs.PieceLemmas.{run-cons, comment-within, numeral_len-le}
use Rattle.rb_syntax.proofs.SymbolLemmas.{symbol-length}
use Rattle.rb_syntax.proofs.LongestLemmas.{prefix-all, blank-longest, comment-longest, comment-gap, run-longest, symbol-is-longest, symbol-front, no-piece}
use Rattle.rb_syntax.proofs.TokenLemmas.{none-empty, len-numeral, number-found, number-wide, name_token-written, numeral-good, numeral-bad, underscore-bad, is-underscore}

-- a piece is what stands at the front of these bytes
abbrev pub IsFront : List ℕ → Piece → Type 0
IsFront bytes (piece.Gap n) = (0 < n) × IsLongest n bytes × IsGap (take n bytes)
IsFront bytes (piece.Token t n) = (0 < n) × IsLongest n bytes × IsWritten t (take n bytes)
IsFront bytes (piece.Bad k) = IsBadBehind k bytes
IsFront bytes piece.Wide = IsWideNumber bytes

if-front : (bytes : List ℕ) (b : Bool) (p q : Piece) → (b ≡ true → IsFront bytes p) → (b ≡ false → IsFront bytes q) → IsFront bytes (if b then p else q)
if-front bytes true p q f g = f refl
if-front bytes false p q f g = g refl

take-within : (k n : ℕ) (xs : List ℕ) → k ≤ n → take k (take n xs) ≡ take k xs
take-within zero n xs h = refl
take-within (suc k) zero xs h = absurd (omega arith)
take-within (suc k) (suc n) [] h = refl
take-within (suc k) (suc n) (x ∷ xs) h = ap (λ (ys : List ℕ). x ∷ ys) (take-within k n xs (omega arith))

below : (a b : ℕ) → a ≤ b → (a ≡ b → ⊥) → a < b
below a b h n = omega arith

-- a run b ∷ rs at the front of b ∷ bs
module _ (b : ℕ) (bs rs : List ℕ) (word : is_word_byte b ≡ true) (all : list_all is_word_byte (b ∷ rs) ≡ true)
    (longest : IsLongest (suc (length rs)) (b ∷ bs)) (is : take (suc (length rs)) (b ∷ bs) ≡ b ∷ rs) where
  front : (k : ℕ) → k ≤ suc (length rs) → take k (b ∷ rs) ≡ take k (b ∷ bs)
  front k h = ap (λ (xs : List ℕ). take k xs) (sym is) ∙ take-within k (suc (length rs)) (b ∷ bs) h

  token-front : (t : Token) → IsWritten t (b ∷ rs) → IsFront (b ∷ bs) (piece.Token t (suc (length rs)))
  token-front t w = (omega arith, longest, subst (IsWritten t) (sym is) w)

  bad-front : (k : ℕ) → k < suc (length rs) → IsTokenRun (take k (b ∷ rs)) → (IsTokenRun (take (suc k) (b ∷ rs)) → ⊥) → IsFront (b ∷ bs) (piece.Bad k)
  bad-front k h good bad = wrong_run (suc (length rs)) longest h (subst IsTokenRun (front k (omega arith)) good)
      (λ r. bad (subst IsTokenRun (sym (front (suc k) h)) r))

  number_or_fault-front : (o : Option ℕ) → number_in 0 (2 ^ 64 - 1) (b ∷ rs) ≡ o → is_ascii_digit b ≡ true
      → IsFront (b ∷ bs) (number_or_fault o (b ∷ rs))
  unfolding number_or_fault
  number_or_fault-front (Some n) found digit =
      let f = number-found 0 (2 ^ 64 - 1) (b ∷ rs) n found in token-front (tok.Num n) (f.0, f.1, omega (arith, f.3))
  number_or_fault-front None found digit =
      if-front (b ∷ bs) (numeral_len (b ∷ rs) == suc (length rs)) _ _
      (λ e. let n : IsNumeral (b ∷ rs) = len-numeral (b ∷ rs) (omega arith) (eqb-true _ _ e) in
      record {
        len = suc (length rs);
        longest = longest;
        numeral = subst IsNumeral (sym is) n;
        wide = subst (λ (xs : List ℕ). 2 ^ 64 ≤ digits_value 10 xs) (sym is) (number-wide (b ∷ rs) n found);
      })
      (λ e. let l : numeral_len (b ∷ rs) < suc (length rs) = below (numeral_len (b ∷ rs)) (suc (length rs)) (numeral_len-le (b ∷ rs)) (eqb-false _ _ e) in
      bad-front (numeral_len (b ∷ rs)) l (cut.numeral (numeral-good b rs digit)) (numeral-bad b rs digit l))

  number-front : is_ascii_digit b ≡ true → IsFront (b ∷ bs) (number_piece (b ∷ rs))
  unfolding number_piece
  number-front digit = number_or_fault-front (number_in 0 (2 ^ 64 - 1) (b ∷ rs)) refl digit

  underscore-front : b ≡ 95 → IsFront (b ∷ bs) (underscore_piece (b ∷ rs))
  unfolding underscore_piece
  underscore-front at =
      if-front (b ∷ bs) (suc (length rs) == 1) _ _
      (λ e. let one : suc (length rs) ≡ 1 = eqb-true _ _ e in
      let none : rs ≡ [] = none-empty rs (omega arith) in
      subst (λ (n : ℕ). IsFront (b ∷ bs) (piece.Token (tok.Symbol Underscore) n)) one
      (token-front (tok.Symbol Underscore) (rw (at, none) refl)))
      (λ e. let l : 1 < suc (length rs) = below 1 (suc (length rs)) (omega arith) (λ h. eqb-false _ _ e (sym h)) in
      bad-front 1 l (cut.underscore (rw at refl)) (second-bad rs l))
    where
      second-bad : (xs : List ℕ) → 1 < suc (length xs) → IsTokenRun (take 2 (b ∷ xs)) → ⊥
      second-bad [] h r = omega arith
      second-bad (c ∷ cs) h r = underscore-bad b c [] at r

  run-front : IsFront (b ∷ bs) (run_piece b (b ∷ rs))
  unfolding run_piece
  run-front =
      if-front (b ∷ bs) (is_ascii_alphabetic b) _ _
      (λ e. token-front (name_token b (b ∷ rs)) (name_token-written b rs e all))
      (λ e. if-front (b ∷ bs) (is_ascii_digit b) _ _ (λ d. number-front d) (λ d. underscore-front (is-underscore b word e d)))

symbol-front-of : (b : ℕ) (bs : List ℕ) (o : Option Symbol) → is_blank b ≡ false → is_word_byte b ≡ false → starts_with nat_eq (b ∷ bs) (codes "//") ≡ false
    → symbol_at (b ∷ bs) ≡ o → IsFront (b ∷ bs) (symbol_piece o)
unfolding symbol_piece
symbol-front-of b bs (Some s) no_blank no_word no_comment e =
    (symbol-length s, symbol-is-longest b bs s no_blank no_word no_comment e, symbol-front b bs s e)
symbol-front-of b bs None no_blank no_word no_comment e = no_piece refl (omega arith) (λ n _ q. no-piece b bs no_blank no_word no_comment e n q)

run-front-of : (b : ℕ) (bs : List ℕ) → is_word_byte b ≡ true → IsFront (b ∷ bs) (run_piece b (take_while is_word_byte (b ∷ bs)))
run-front-of b bs e =
    let is : take_while is_word_byte (b ∷ bs) ≡ b ∷ take_while is_word_byte bs = run-cons b bs e in
    let len : prefix_len is_word_byte (b ∷ bs) ≡ suc (length (take_while is_word_byte bs)) =
    sym (length-prefix_len is_word_byte (b ∷ bs)) ∙ ap length is in
    let longest : IsLongest (suc (length (take_while is_word_byte bs))) (b ∷ bs) = subst (λ (n : ℕ). IsLongest n (b ∷ bs)) len (run-longest b bs e) in
    let all : list_all is_word_byte (b ∷ take_while is_word_byte bs) ≡ true =
    subst (λ (xs : List ℕ). list_all is_word_byte xs ≡ true) is (prefix-all is_word_byte (b ∷ bs)) in
    let same : take (suc (length (take_while is_word_byte bs))) (b ∷ bs) ≡ b ∷ take_while is_word_byte bs =
    ap (λ (n : ℕ). take n (b ∷ bs)) (sym len) ∙ is in
    subst (λ (xs : List ℕ). IsFront (b ∷ bs) (run_piece b xs)) (sym is) (run-front b bs (take_while is_word_byte bs) e all longest same)

first-front : (b : ℕ) (bs : List ℕ) → IsFront (b ∷ bs) (first_piece b (b ∷ bs))
unfolding first_piece
first-front b bs =
    if-front (b ∷ bs) (is_blank b) _ _ (λ e. (omega arith, blank-longest b bs e, cut.blank b e refl))
    (λ no_blank. if-front (b ∷ bs) (is_word_byte b) _ _ (λ e. run-front-of b bs e)
    (λ no_word. if-front (b ∷ bs) (starts_with nat_eq (b ∷ bs) (codes "//")) _ _
    (λ e. (comment-within (b ∷ bs) e, comment-longest b bs e, comment-gap b bs e))
    (λ no_comment. symbol-front-of b bs (symbol_at (b ∷ bs)) no_blank no_word no_comment refl)))

pub piece_at-front : (bytes : List ℕ) → 0 < length bytes → IsFront bytes (piece_at bytes)
unfolding piece_at
piece_at-front [] h = absurd (omega arith)
piece_at-front (b ∷ bs) h = first-front b bs

-- the law from a byte on
abbrev IsRightFrom : ℕ → List ℕ → Lexed → Type 0
IsRightFrom at bytes (Ok tokens) = Cut (λ place rest. rest ≡ []) at bytes tokens
IsRightFrom at bytes (Err (BadByte p)) = (tokens : List Placed) × Cut (λ place rest. (k : ℕ) × (p ≡ place + k) × IsBadBehind k rest) at bytes tokens
IsRightFrom at bytes (Err (NumberTooWide p)) = (tokens : List Placed) × Cut (λ place rest. (p ≡ place) × IsWideNumber rest) at bytes tokens
IsRightFrom at bytes (Err Memory) = ⊥

right-gap : (at n : ℕ) (bytes : List ℕ) (r : Lexed) → IsLongest n bytes → IsGap (take n bytes) → IsRightFrom (at + n) (drop n bytes) r → IsRightFrom at bytes r
right-gap at n bytes (Ok ts) l g h = cut.gap at n bytes ts l g h
right-gap at n bytes (Err (BadByte p)) l g h = (h.0, cut.gap at n bytes h.0 l g h.1)
right-gap at n bytes (Err (NumberTooWide p)) l g h = (h.0, cut.gap at n bytes h.0 l g h.1)
right-gap at n bytes (Err Memory) l g h = h

right-token : (at n : ℕ) (t : Token) (bytes : List ℕ) (r : Lexed) → IsLongest n bytes → IsWritten t (take n bytes) → IsRightFrom (at + n) (drop n bytes) r
    → IsRightFrom at bytes (before (record { token = t; at = at }) r)
unfolding before
right-token at n t bytes (Ok ts) l w h = cut.token at n t bytes ts l w h
right-token at n t bytes (Err (BadByte p)) l w h = (record { token = t; at = at } ∷ h.0, cut.token at n t bytes h.0 l w h.1)
right-token at n t bytes (Err (NumberTooWide p)) l w h = (record { token = t; at = at } ∷ h.0, cut.token at n t bytes h.0 l w h.1)
right-token at n t bytes (Err Memory) l w h = h

with-right : (at : ℕ) (bytes : List ℕ) (p : Piece) (behind : ℕ → Lexed) → IsFront bytes p
    → ((n : ℕ) → 0 < n → IsRightFrom (at + n) (drop n bytes) (behind n)) → IsRightFrom at bytes (with_piece at p behind)
unfolding with_piece
with-right at bytes (piece.Gap n) behind f go = right-gap at n bytes (behind n) f.1 f.2 (go n f.0)
with-right at bytes (piece.Token t n) behind f go = right-token at n t bytes (behind n) f.1 f.2 (go n f.0)
with-right at bytes (piece.Bad k) behind f go = ([], cut.stop at bytes (k, refl, f))
with-right at bytes piece.Wide behind f go = ([], cut.stop at bytes (refl, f))

lexing_from-right : (n at : ℕ) (bytes : List ℕ) → length bytes ≤ n → IsRightFrom at bytes (lexing_from n at bytes)
unfolding lexing_from
lexing_from-right zero at bytes h = cut.stop at bytes (none-empty bytes (omega arith))
lexing_from-right (suc n) at bytes h =
    elim (length bytes == 0) as (λ (b : Bool). (length bytes == 0) ≡ b
    → IsRightFrom at bytes (if b then Ok [] else with_piece at (piece_at bytes) (λ len. lexing_from n (at + len) (drop len bytes)))) [
      | true ↦ λ e. cut.stop at bytes (none-empty bytes (eqb-true _ _ e))
      | false ↦ λ e. with-right at bytes (piece_at bytes) (λ len. lexing_from n (at + len) (drop len bytes))
          (piece_at-front bytes (below 0 (length bytes) (omega arith) (λ z. eqb-false _ _ e (sym z))))
          (λ len some. lexing_from-right n (at + len) (drop len bytes) (omega (arith, length-drop len bytes)))
    ] refl

-- the law of `lexing_of`
pub lexed-right : (bytes : List ℕ) → LexesTo bytes (lexing_of bytes)
lexed-right bytes = right-from bytes (lexing_of bytes) (lexing_from-right (length bytes) 0 bytes (omega arith))
  where
    right-from : (xs : List ℕ) (r : Lexed) → IsRightFrom 0 xs r → LexesTo xs r
    right-from xs (Ok ts) h = h
    right-from xs (Err (BadByte p)) h = h
    right-from xs (Err (NumberTooWide p)) h = h
    right-from xs (Err Memory) h = h
