-- A first token that is a symbol or a reserved word, and is compared with another by its tag, as code compares them.
use Rattle.std.proofs.Common.{◌≡◌, List, [], ◌∷◌, ◌≤◌, length, get_or, refl, sym, ◌∙◌, ap, arith}
use denote.Enum.Bare.{sameb}
use denote.Enum.Declared.{tag_of}
use Rattle.rb_syntax.specs.contracts.token.ReservedWord as words
use Rattle.rb_syntax.specs.contracts.token.Symbol as symbols
use Rattle.rb_syntax.specs.declared.token.ReservedWord.{ReservedWord}
use Rattle.rb_syntax.specs.declared.token.ReservedWord.TheVariants as word
use Rattle.rb_syntax.specs.declared.token.Symbol.{Symbol}
use Rattle.rb_syntax.specs.declared.token.Symbol.TheVariants as symbol
use Rattle.rb_syntax.specs.declared.token.Token.TheVariants as token
use Rattle.rb_syntax.specs.declared.token.Placed.{Placed}
use Rattle.rb_syntax.specs.Tokens.{tokens}
use Rattle.rb_read.specs.inner.Starting.{symbol_number, word_number, is_symbol, is_word}
use Rattle.rb_read.specs.inner.Combining.{at_front}

-- the tag of a word is its number
word-tag : (w : ReservedWord) → tag_of words.the_type w ≡ word_number w
word-tag word.Type = refl
word-tag word.Layout = refl
word-tag word.Fun = refl
word-tag word.Let = refl
word-tag word.In = refl
word-tag word.Match = refl
word-tag word.Word = refl
word-tag word.Split = refl
word-tag word.Else = refl
word-tag word.Inline = refl
word-tag word.Boxed = refl
word-tag word.Packed = refl
word-tag word.Add = refl
word-tag word.Sub = refl
word-tag word.Mul = refl
word-tag word.And = refl
word-tag word.Or = refl
word-tag word.Xor = refl
word-tag word.Eq = refl
word-tag word.Lt = refl
word-tag word.To = refl

-- the tag of a symbol is its number
symbol-tag : (s : Symbol) → tag_of symbols.the_type s ≡ symbol_number s
symbol-tag symbol.Equals = refl
symbol-tag symbol.Bar = refl
symbol-tag symbol.OpenParen = refl
symbol-tag symbol.CloseParen = refl
symbol-tag symbol.Comma = refl
symbol-tag symbol.Semicolon = refl
symbol-tag symbol.OpenBrace = refl
symbol-tag symbol.CloseBrace = refl
symbol-tag symbol.Less = refl
symbol-tag symbol.Greater = refl
symbol-tag symbol.Colon = refl
symbol-tag symbol.OpenBracket = refl
symbol-tag symbol.CloseBracket = refl
symbol-tag symbol.Dot = refl
symbol-tag symbol.At = refl
symbol-tag symbol.Arrow = refl
symbol-tag symbol.FatArrow = refl
symbol-tag symbol.Underscore = refl

pub same_word : (v w : ReservedWord) (ps : List Placed) (p : Placed) → 1 ≤ length ps → p ≡ get_or ps 0 p → p.token ≡ token.Reserved v
    → sameb words.the_type v w ≡ at_front (λ t. is_word w t) (tokens ps)
same_word v w [] p some first is = absurd (omega arith)
same_word v w (q ∷ qs) p some first is =
    let h : q.token ≡ token.Reserved v = ap (λ x. x.token) (sym first) ∙ is in
    rw (h, word-tag v, word-tag w) refl

pub same_symbol : (r s : Symbol) (ps : List Placed) (p : Placed) → 1 ≤ length ps → p ≡ get_or ps 0 p → p.token ≡ token.Symbol r
    → sameb symbols.the_type r s ≡ at_front (λ t. is_symbol s t) (tokens ps)
same_symbol r s [] p some first is = absurd (omega arith)
same_symbol r s (q ∷ qs) p some first is =
    let h : q.token ≡ token.Symbol r = ap (λ x. x.token) (sym first) ∙ is in
    rw (h, symbol-tag r, symbol-tag s) refl
