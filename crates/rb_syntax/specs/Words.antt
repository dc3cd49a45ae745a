-- How words and symbols are written.
use Rattle.std.specs.Prelude.{ℕ, List, [], ◌∷◌, codes, ◌==◌, if◌then◌else◌, Option, None, find, nat_eq}
use Rattle.std.specs.List.{starts_with}
use Rattle.std.specs.Cmp.Lexicographic.{pointwise}
use Rattle.rb_core.specs.Decimal.{number_in}
use Rattle.rb_syntax.specs.declared.token.ReservedWord.{ReservedWord}
use Rattle.rb_syntax.specs.declared.token.ReservedWord.TheVariants as word
use Rattle.rb_syntax.specs.declared.token.Symbol.{Symbol}
use Rattle.rb_syntax.specs.declared.token.Symbol.TheVariants as symbol

-- the bytes that a reserved word is written with
abbrev pub word_text : ReservedWord → List ℕ
word_text word.Type = codes "type"
word_text word.Layout = codes "layout"
word_text word.Fun = codes "fun"
word_text word.Let = codes "let"
word_text word.In = codes "in"
word_text word.Match = codes "match"
word_text word.Word = codes "word"
word_text word.Split = codes "split"
word_text word.Else = codes "else"
word_text word.Inline = codes "inline"
word_text word.Boxed = codes "boxed"
word_text word.Packed = codes "packed"
word_text word.Add = codes "add"
word_text word.Sub = codes "sub"
word_text word.Mul = codes "mul"
word_text word.And = codes "and"
word_text word.Or = codes "or"
word_text word.Xor = codes "xor"
word_text word.Eq = codes "eq"
word_text word.Lt = codes "lt"
word_text word.To = codes "to"

-- the bytes that a symbol is written with
abbrev pub symbol_text : Symbol → List ℕ
symbol_text symbol.Equals = codes "="
symbol_text symbol.Bar = codes "|"
symbol_text symbol.OpenParen = codes "("
symbol_text symbol.CloseParen = codes ")"
symbol_text symbol.Comma = codes ","
symbol_text symbol.Semicolon = codes ";"
symbol_text symbol.OpenBrace = codes "{"
symbol_text symbol.CloseBrace = codes "}"
symbol_text symbol.Less = codes "<"
symbol_text symbol.Greater = codes ">"
symbol_text symbol.Colon = codes ":"
symbol_text symbol.OpenBracket = codes "["
symbol_text symbol.CloseBracket = codes "]"
symbol_text symbol.Dot = codes "."
symbol_text symbol.At = codes "@"
symbol_text symbol.Arrow = codes "->"
symbol_text symbol.FatArrow = codes "=>"
symbol_text symbol.Underscore = codes "_"

-- all reserved words but `u1` to `u64`
abbrev pub words : List ReservedWord
words = word.Type ∷ word.Layout ∷ word.Fun ∷ word.Let ∷ word.In ∷ word.Match ∷ word.Word ∷ word.Split ∷ word.Else
    ∷ word.Inline ∷ word.Boxed ∷ word.Packed ∷ word.Add ∷ word.Sub ∷ word.Mul ∷ word.And ∷ word.Or ∷ word.Xor
    ∷ word.Eq ∷ word.Lt ∷ word.To ∷ []

-- all symbols, those of two bytes first, so that of two at the front the longer is found
abbrev pub symbols : List Symbol
symbols =
    symbol.Arrow ∷ symbol.FatArrow ∷ symbol.Equals ∷ symbol.Bar ∷ symbol.OpenParen ∷ symbol.CloseParen ∷ symbol.Comma
    ∷ symbol.Semicolon ∷ symbol.OpenBrace ∷ symbol.CloseBrace ∷ symbol.Less ∷ symbol.Greater ∷ symbol.Colon
    ∷ symbol.OpenBracket ∷ symbol.CloseBracket ∷ symbol.Dot ∷ symbol.At ∷ symbol.Underscore ∷ []

-- the reserved word that is written so, if there is one; u1 to u64 aside
abbrev pub word_of : List ℕ → Option ReservedWord
word_of name = find (λ w. pointwise nat_eq (word_text w) name) words

-- the first symbol of `symbols` that stands at the front of bytes, if there is one
abbrev pub symbol_at : List ℕ → Option Symbol
symbol_at bytes = find (λ s. starts_with nat_eq bytes (symbol_text s)) symbols

-- the width of the type of integers that is written so, if there is one: u1 to u64
abbrev pub uint_width : List ℕ → Option ℕ
uint_width [] = None
uint_width (u ∷ ds) = if u == 117 then number_in 1 64 ds else None
