-- What a token is, and what it begins. A form is a kind of expression that begins with a reserved word: an operation,
-- a conversion to a width, a binding, or a match. The form `Other` says that no expression begins with the word.
use Rattle.std.specs.Prelude.{ℕ, Bool, true, false, ◌==◌}
use Rattle.rb_core.specs.declared.expression.Op.TheVariants as op
use Rattle.rb_syntax.specs.declared.token.ReservedWord.{ReservedWord}
use Rattle.rb_syntax.specs.declared.token.ReservedWord.TheVariants as word
use Rattle.rb_syntax.specs.declared.token.Symbol.{Symbol}
use Rattle.rb_syntax.specs.declared.token.Symbol.TheVariants as symbol
use Rattle.rb_syntax.specs.declared.token.Token.{Token}
use Rattle.rb_syntax.specs.declared.token.Token.TheVariants as token
use Rattle.rb_read.specs.declared.starting.Form.{Form}
use Rattle.rb_read.specs.declared.starting.Form.TheVariants as form

-- a number for each symbol, by which symbols are compared: different symbols have different numbers
abbrev pub symbol_number : Symbol → ℕ
symbol_number symbol.Equals = 0
symbol_number symbol.Bar = 1
symbol_number symbol.OpenParen = 2
symbol_number symbol.CloseParen = 3
symbol_number symbol.Comma = 4
symbol_number symbol.Semicolon = 5
symbol_number symbol.OpenBrace = 6
symbol_number symbol.CloseBrace = 7
symbol_number symbol.Less = 8
symbol_number symbol.Greater = 9
symbol_number symbol.Colon = 10
symbol_number symbol.OpenBracket = 11
symbol_number symbol.CloseBracket = 12
symbol_number symbol.Dot = 13
symbol_number symbol.At = 14
symbol_number symbol.Arrow = 15
symbol_number symbol.FatArrow = 16
symbol_number symbol.Underscore = 17

-- a number for each reserved word, by which words are compared: different words have different numbers
abbrev pub word_number : ReservedWord → ℕ
word_number word.Type = 0
word_number word.Layout = 1
word_number word.Fun = 2
word_number word.Let = 3
word_number word.In = 4
word_number word.Match = 5
word_number word.Word = 6
word_number word.Split = 7
word_number word.Else = 8
word_number word.Inline = 9
word_number word.Boxed = 10
word_number word.Packed = 11
word_number word.Add = 12
word_number word.Sub = 13
word_number word.Mul = 14
word_number word.And = 15
word_number word.Or = 16
word_number word.Xor = 17
word_number word.Eq = 18
word_number word.Lt = 19
word_number word.To = 20

-- whether a token is symbol `s`
abbrev pub is_symbol : Symbol → Token → Bool
is_symbol s (token.Symbol t) = symbol_number t == symbol_number s
is_symbol s _ = false

-- whether a token is the reserved word `w`
abbrev pub is_word : ReservedWord → Token → Bool
is_word w (token.Reserved v) = word_number v == word_number w
is_word w _ = false

-- whether a token is a number
abbrev pub is_number : Token → Bool
is_number (token.Num n) = true
is_number _ = false

-- the form of the expression that a reserved word begins, or `Other` where it begins none
unfoldable pub form_of : ReservedWord → Form
form_of word.Add = form.Operation op.Add
form_of word.Sub = form.Operation op.Sub
form_of word.Mul = form.Operation op.Mul
form_of word.And = form.Operation op.And
form_of word.Or = form.Operation op.Or
form_of word.Xor = form.Operation op.Xor
form_of word.Eq = form.Operation op.Eq
form_of word.Lt = form.Operation op.Lt
form_of word.To = form.Conversion
form_of word.Let = form.Binding
form_of word.Match = form.Matching
form_of _ = form.Other
