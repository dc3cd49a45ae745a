-- A piece has a byte, and lies within the bytes at whose front it stands.
use Rattle.std.proofs.Common.{◌≡◌, ◌≢◌, ℕ, suc, ◌-◌, ◌<◌, ◌≤◌, ◌^◌, List, [], ◌∷◌, ◌++◌, length, drop, codes, take_while, nat_eq, if◌then◌else◌, ◌==◌, Bool, true, false, Option, Some, None, refl, ◌∙◌, arith}
use Rattle.std.specs.Char.{is_ascii_digit, is_ascii_alphabetic}
use Rattle.std.specs.List.{prefix_len, starts_with}
use Rattle.std.proofs.lemmas.List.Sums.{prefix_len-le-length, take_while-cons}
use Rattle.std.proofs.lemmas.List.Folds.{length-prefix_len}
use Rattle.std.proofs.lemmas.Grind.{common_steps}
use Rattle.rb_core.specs.Decimal.{number_in}
use Rattle.rb_core.specs.WellNumbered.{is_word_byte}
use Rattle.rb_syntax.specs.declared.token.Symbol.{Symbol}
use Rattle.rb_syntax.specs.declared.piece.Piece.{Piece}
use Rattle.rb_syntax.specs.Bytes.{is_blank, is_in_line, numeral_len}
use Rattle.rb_syntax.specs.Words.{symbol_text, symbol_at}
use Rattle.rb_syntax.specs.Pieces.{number_or_fault, number_piece, underscore_piece, run_piece, symbol_piece, first_piece, piece_at}
use Rattle.rb_syntax.specs.Lexing.{IsWithin}
use Rattle.rb_syntax.proofs.SymbolLemmas.{starts-is, symbol-length, symbol-fits}

if-within : (m : ℕ) (b : Bool) (p q : Piece) → (b ≡ true → IsWithin m p) → (b ≡ false → IsWithin m q) → IsWithin m (if b then p else q)
if-within m true p q h g = h refl
if-within m false p q h g = g refl

pub numeral_len-le : (run : List ℕ) → numeral_len run ≤ length run
numeral_len-le [] = omega arith
numeral_len-le (d ∷ ds) = grind (arith, common_steps, prefix_len-le-length)

number_or_fault-within : (o : Option ℕ) (m : ℕ) (run : List ℕ) → 0 < length run → length run ≤ m → IsWithin m (number_or_fault o run)
unfolding number_or_fault
number_or_fault-within (Some n) m run h k = (h, k)
number_or_fault-within None m run h k =
    if-within m (numeral_len run == length run) _ _ (λ _. tt)
    (λ e. let n : numeral_len run ≢ length run = grind (arith, common_steps) in omega (arith, numeral_len-le run))

number-within : (m : ℕ) (run : List ℕ) → 0 < length run → length run ≤ m → IsWithin m (number_piece run)
unfolding number_piece
number-within m run h k = number_or_fault-within (number_in 0 (2 ^ 64 - 1) run) m run h k

underscore-within : (m : ℕ) (run : List ℕ) → 0 < length run → length run ≤ m → IsWithin m (underscore_piece run)
unfolding underscore_piece
underscore-within m run h k =
    if-within m (length run == 1) _ _ (λ _. (omega arith, omega arith)) (λ e. let n : length run ≢ 1 = grind (arith, common_steps) in omega arith)

run-within : (m first : ℕ) (run : List ℕ) → 0 < length run → length run ≤ m → IsWithin m (run_piece first run)
unfolding run_piece
run-within m first run h k = if-within m (is_ascii_alphabetic first) _ _ (λ _. (h, k)) (λ _. if-within m (is_ascii_digit first) _ _ (λ _. number-within m run h k) (λ _. underscore-within m run h k))

symbol-some : (m : ℕ) (s : Option Symbol) → 0 < m → ((t : Symbol) → s ≡ Some t → length (symbol_text t) ≤ m) → IsWithin m (symbol_piece s)
unfolding symbol_piece
symbol-some m (Some t) h g = (symbol-length t, g t refl)
symbol-some m None h g = h

pub comment-within : (bytes : List ℕ) → starts_with nat_eq bytes (codes "//") ≡ true → 0 < prefix_len is_in_line bytes
comment-within [] e = cc
comment-within (b ∷ bs) e = let k : b ∷ bs ≡ codes "//" ++ drop 2 (b ∷ bs) = starts-is (b ∷ bs) (codes "//") e in
    let h : b ≡ 47 = cc in rw h (omega arith)

pub run-cons : (b : ℕ) (bs : List ℕ) → is_word_byte b ≡ true → take_while is_word_byte (b ∷ bs) ≡ b ∷ take_while is_word_byte bs
run-cons b bs e = take_while-cons is_word_byte b bs ∙ rw e refl

first-within : (b : ℕ) (bs : List ℕ) → IsWithin (suc (length bs)) (first_piece b (b ∷ bs))
unfolding first_piece
first-within b bs =
    if-within _ (is_blank b) _ _ (λ _. (omega arith, omega arith))
    (λ _. if-within _ (is_word_byte b) _ _ (λ e. run-within (suc (length bs)) b (take_while is_word_byte (b ∷ bs)) (rw (run-cons b bs e) (omega arith))
    (rw length-prefix_len (prefix_len-le-length is_word_byte (b ∷ bs))))
    (λ _. if-within _ (starts_with nat_eq (b ∷ bs) (codes "//")) _ _ (λ e. (comment-within (b ∷ bs) e, prefix_len-le-length is_in_line (b ∷ bs)))
    (λ _. symbol-some _ (symbol_at (b ∷ bs)) (omega arith) (λ t e. symbol-fits (b ∷ bs) t e))))

pub piece_at-within : (bs : List ℕ) → 0 < length bs → IsWithin (length bs) (piece_at bs)
unfolding piece_at
piece_at-within [] h = absurd (omega arith)
piece_at-within (b ∷ bs) h = first-within b bs
