-- The piece at the front of some bytes: a blank, a comment, a run of letters, digits and '_', or a symbol.
use Rattle.std.specs.Prelude.{ℕ, ◌-◌, ◌^◌, List, [], ◌∷◌, length, codes, take_while, nat_eq, ◌==◌, if◌then◌else◌, Option, Some, None}
use Rattle.std.specs.Char.{is_ascii_digit, is_ascii_uppercase, is_ascii_alphabetic}
use Rattle.std.specs.List.{prefix_len, starts_with}
use Rattle.rb_core.specs.Decimal.{number_in}
use Rattle.rb_core.specs.WellNumbered.{is_word_byte}
use Rattle.rb_syntax.specs.declared.token.ReservedWord.{ReservedWord}
use Rattle.rb_syntax.specs.declared.token.Symbol.{Symbol}
use Rattle.rb_syntax.specs.declared.token.Symbol.TheVariants.{Underscore}
use Rattle.rb_syntax.specs.declared.token.Token.{Token}
use Rattle.rb_syntax.specs.declared.token.Token.TheVariants as tok
use Rattle.rb_syntax.specs.declared.piece.Piece.{Piece}
use Rattle.rb_syntax.specs.declared.piece.Piece.TheVariants as piece
use Rattle.rb_syntax.specs.Bytes.{is_blank, is_in_line, numeral_len}
use Rattle.rb_syntax.specs.Words.{word_of, uint_width, symbol_text, symbol_at}

-- the token of a run `name` with a small letter first that is no reserved word, u1 to u64 aside, by what `uint_width`
-- finds of it: the type of integers of so many bits, or the name of a function or a variable
unfoldable pub width_or_name : Option ℕ → List ℕ → Token
width_or_name (Some bits) name = tok.Uint bits
width_or_name None name = tok.Lower name

-- the token of a run `name` with a small letter first, by what `word_of` finds of it: that reserved word, or else the
-- type of integers or the name that it is
unfoldable pub word_or_name : Option ReservedWord → List ℕ → Token
word_or_name (Some w) name = tok.Reserved w
word_or_name None name = width_or_name (uint_width name) name

-- the token of a run `name` whose first byte is the letter `first`: with a capital the name of a type or a
-- constructor, else a reserved word, a type of integers, or the name of a function or a variable
unfoldable pub name_token : ℕ → List ℕ → Token
name_token first name = if is_ascii_uppercase first then tok.Upper name else word_or_name (word_of name) name

-- the piece of a run that begins with a digit, by the number below 2^64 that the whole run spells: that number; where
-- it spells none, it is too wide if the whole run is digits without a leading zero, else the byte behind the longest
-- such number at its front is bad
unfoldable pub number_or_fault : Option ℕ → List ℕ → Piece
number_or_fault (Some n) run = piece.Token (tok.Num n) (length run)
number_or_fault None run = if numeral_len run == length run then piece.Wide else piece.Bad (numeral_len run)

-- the piece of a run that begins with a digit: a number where the whole run is one without a leading zero, too wide
-- from 2^64 on; else the byte behind the longest such number at its front is bad
unfoldable pub number_piece : List ℕ → Piece
number_piece run = number_or_fault (number_in 0 (2 ^ 64 - 1) run) run

-- the piece of a run that begins with '_': that symbol where nothing else is in the run, else its second byte is bad
unfoldable pub underscore_piece : List ℕ → Piece
underscore_piece run = if length run == 1 then piece.Token (tok.Symbol Underscore) 1 else piece.Bad 1

-- the piece of a run of letters, digits and '_' by its first byte `first`: a word or a name, a number, or '_'
unfoldable pub run_piece : ℕ → List ℕ → Piece
run_piece first run =
    if is_ascii_alphabetic first then piece.Token (name_token first run) (length run)
    else if is_ascii_digit first then number_piece run
    else underscore_piece run

-- the piece of the symbol that stands at the front of bytes; where there is None, their first byte is bad
unfoldable pub symbol_piece : Option Symbol → Piece
symbol_piece (Some s) = piece.Token (tok.Symbol s) (length (symbol_text s))
symbol_piece None = piece.Bad 0

-- the piece at the front of bytes, of which `first` is the first: a blank, a run, a comment, or a symbol
unfoldable pub first_piece : ℕ → List ℕ → Piece
first_piece first bytes =
    if is_blank first then piece.Gap 1
    else if is_word_byte first then run_piece first (take_while is_word_byte bytes)
    else if starts_with nat_eq bytes (codes "//") then piece.Gap (prefix_len is_in_line bytes)
    else symbol_piece (symbol_at bytes)

-- the piece at the front of bytes; an empty gap where there are none
unfoldable pub piece_at : List ℕ → Piece
piece_at [] = piece.Gap 0
piece_at (b ∷ bs) = first_piece b (b ∷ bs)
