-- A text is cut into its longest pieces; the tokens among them are its tokens.
use Rattle.std.specs.Prelude.{◌≡◌, ◌≢◌, ℕ, suc, ◌+◌, ◌<◌, ◌≤◌, ◌^◌, List, [], ◌∷◌, length, take, drop, codes, nat_eq, Bool, true, Ok, Err}
use Rattle.std.specs.Char.{is_ascii_digit, is_ascii_uppercase, is_ascii_lowercase, is_ascii_alphabetic}
use Rattle.std.specs.List.{list_all, starts_with}
use Rattle.std.specs.Str.Parse.{digits_value}
use Rattle.rb_core.specs.WellNumbered.{is_word_byte}
use Rattle.rb_syntax.specs.declared.token.ReservedWord.{ReservedWord}
use Rattle.rb_syntax.specs.declared.token.Symbol.{Symbol}
use Rattle.rb_syntax.specs.declared.token.Token.{Token}
use Rattle.rb_syntax.specs.declared.token.Token.TheVariants as tok
use Rattle.rb_syntax.specs.declared.token.Placed.{Placed}
use Rattle.rb_syntax.specs.declared.lex.LexFault.TheVariants.{BadByte, NumberTooWide, Memory}
use Rattle.rb_syntax.specs.Bytes.{is_blank, is_in_line}
use Rattle.rb_syntax.specs.Words.{word_text, symbol_text}
use Rattle.rb_syntax.specs.Lexing.{Lexed}

-- Pieces.

-- the text is a blank, or a comment: '//' and what follows it in its line
pub data IsGap (text : List ℕ) : Type 0 where
  blank : (b : ℕ) → is_blank b ≡ true → text ≡ b ∷ [] → IsGap text
  comment : starts_with nat_eq text (codes "//") ≡ true → list_all is_in_line text ≡ true → IsGap text

-- the text is a piece: a gap, a run of letters, digits and '_', or a symbol
pub data IsPiece (text : List ℕ) : Type 0 where
  gap : IsGap text → IsPiece text
  run : 0 < length text → list_all is_word_byte text ≡ true → IsPiece text
  symbol : (s : Symbol) → text ≡ symbol_text s → IsPiece text

-- the first n bytes are a piece, the longest that stands at the front
pub record IsLongest (n : ℕ) (bytes : List ℕ) : Type 0 where
  pub inside : n ≤ length bytes
  pub piece : IsPiece (take n bytes)
  pub longest : (k : ℕ) → k ≤ length bytes → IsPiece (take k bytes) → k ≤ n

-- How tokens are written.

-- there is a first byte, and it passes the test p
abbrev pub FirstByteIs : (ℕ → Bool) → List ℕ → Type 0
FirstByteIs p [] = ⊥
FirstByteIs p (b ∷ bs) = p b ≡ true

-- the text is a number in digits without a leading zero: '0' alone, or digits of which the first is another
pub record IsNumeral (text : List ℕ) : Type 0 where
  pub some : 0 < length text
  pub digits : list_all is_ascii_digit text ≡ true
  pub leading : FirstByteIs (λ d. nat_eq d 48) text → length text ≡ 1

-- the text is the word for integers of `bits` bits: 'u' and a number from 1 to 64 without a leading zero
pub record IsUintWord (bits : ℕ) (text : List ℕ) : Type 0 where
  pub digits : List ℕ
  pub written : text ≡ 117 ∷ digits
  pub numeral : IsNumeral digits
  pub value : digits_value 10 digits ≡ bits
  pub some : 1 ≤ bits
  pub most : bits ≤ 64

-- the name is no reserved word: none of `ReservedWord`, and none of u1 to u64
abbrev pub IsNotReserved : List ℕ → Type 0
IsNotReserved name = ((w : ReservedWord) → name ≢ word_text w) × ((bits : ℕ) → IsUintWord bits name → ⊥)

-- the token is written as this text; a name that begins with a small letter must not be reserved, and a number must
-- be below 2^64
abbrev pub IsWritten : Token → List ℕ → Type 0
IsWritten (tok.Upper name) text = (text ≡ name) × FirstByteIs is_ascii_uppercase name
    × (list_all is_word_byte name ≡ true)
IsWritten (tok.Lower name) text =
    (text ≡ name) × FirstByteIs is_ascii_lowercase name × (list_all is_word_byte name ≡ true) × IsNotReserved name
IsWritten (tok.Num n) text = IsNumeral text × (digits_value 10 text ≡ n) × (n < 2 ^ 64)
IsWritten (tok.Reserved w) text = text ≡ word_text w
IsWritten (tok.Uint bits) text = IsUintWord bits text
IsWritten (tok.Symbol s) text = text ≡ symbol_text s

-- Texts.

-- the bytes, of which the first has this number in its text, are cut into their longest pieces up to a place where
-- `Stops` holds; these are the tokens among the pieces, each with the number of its first byte
pub data Cut (Stops : ℕ → List ℕ → Type 0) : ℕ → List ℕ → List Placed → Type 0 where
  stop : (at : ℕ) (bytes : List ℕ) → Stops at bytes → Cut Stops at bytes []
  gap : (at n : ℕ) (bytes : List ℕ) (tokens : List Placed) → IsLongest n bytes → IsGap (take n bytes)
      → Cut Stops (at + n) (drop n bytes) tokens → Cut Stops at bytes tokens
  token : (at n : ℕ) (t : Token) (bytes : List ℕ) (tokens : List Placed) → IsLongest n bytes
      → IsWritten t (take n bytes)
      → Cut Stops (at + n) (drop n bytes) tokens → Cut Stops at bytes (record { token = t; at = at } ∷ tokens)

-- all bytes of a text are cut into their longest pieces, and these are the tokens among them
abbrev pub HasTokens : List ℕ → List Placed → Type 0
HasTokens bytes tokens = Cut (λ at rest. rest ≡ []) 0 bytes tokens

-- the text is a run that is a token, if numbers may be as wide as they like
pub data IsTokenRun (text : List ℕ) : Type 0 where
  name : FirstByteIs is_ascii_alphabetic text → list_all is_word_byte text ≡ true → IsTokenRun text
  numeral : IsNumeral text → IsTokenRun text
  underscore : text ≡ codes "_" → IsTokenRun text

-- behind k good bytes the next is bad: k is 0, and no piece begins there; or the longest piece has more than k bytes,
-- of which the first k are a token, but the first k + 1 are none
pub data IsBadBehind (k : ℕ) (bytes : List ℕ) : Type 0 where
  no_piece : k ≡ 0 → 0 < length bytes → ((n : ℕ) → n ≤ length bytes → IsPiece (take n bytes) → ⊥) → IsBadBehind k bytes
  wrong_run : (n : ℕ) → IsLongest n bytes → k < n → IsTokenRun (take k bytes)
      → (IsTokenRun (take (suc k) bytes) → ⊥) → IsBadBehind k bytes

-- byte p of a text is bad: the bytes are cut into their longest pieces up to the place where p, or a run with p in
-- it, begins
abbrev pub HasBadByte : List ℕ → ℕ → Type 0
HasBadByte bytes p =
    (tokens : List Placed) × Cut (λ at rest. (k : ℕ) × (p ≡ at + k) × IsBadBehind k rest) 0 bytes tokens

-- the longest piece at the front of the bytes is a number of 2^64 or more
pub record IsWideNumber (bytes : List ℕ) : Type 0 where
  pub len : ℕ
  pub longest : IsLongest len bytes
  pub numeral : IsNumeral (take len bytes)
  pub wide : 2 ^ 64 ≤ digits_value 10 (take len bytes)

-- a number of 2^64 or more begins at byte p of a text, and the bytes before it are cut into their longest pieces
abbrev pub HasWideNumber : List ℕ → ℕ → Type 0
HasWideNumber bytes p = (tokens : List Placed) × Cut (λ at rest. (p ≡ at) × IsWideNumber rest) 0 bytes tokens

-- the answer is what stands in the text: its tokens, its first bad byte, or the first byte of a number that is too
-- wide; never want of memory
abbrev pub LexesTo : List ℕ → Lexed → Type 0
LexesTo bytes (Ok tokens) = HasTokens bytes tokens
LexesTo bytes (Err (BadByte p)) = HasBadByte bytes p
LexesTo bytes (Err (NumberTooWide p)) = HasWideNumber bytes p
LexesTo bytes (Err Memory) = ⊥
