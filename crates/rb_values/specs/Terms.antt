-- What a value's text says before types are looked at: a term, whose constructors are names. Signs are what the
-- tokens of a text are to a value.
use Rattle.std.specs.Prelude.{◌≡◌, ℕ, suc, ◌+◌, List, [], ◌∷◌, map, None}
use Rattle.rb_syntax.specs.declared.token.Symbol.{Symbol}
use Rattle.rb_syntax.specs.declared.token.Symbol.TheVariants as symbol
use Rattle.rb_syntax.specs.declared.token.Token.{Token}
use Rattle.rb_syntax.specs.declared.token.Token.TheVariants as tok
use Rattle.rb_syntax.specs.declared.token.Placed.{Placed}
use Rattle.rb_syntax.specs.Fronts.{front}
use Rattle.rb_values.specs.declared.sign.Sign.{Sign}
use Rattle.rb_values.specs.declared.sign.Sign.TheVariants as sign

-- a term: a number, or a name with its fields, of which there may be none. Each keeps the byte at which it begins
mutual
  pub data Term : Type 0 where
    number : (at n : ℕ) → Term
    build : (at : ℕ) → (name : List ℕ) → Terms → Term

  -- the fields of a name, in order
  pub data Terms : Type 0 where
    none : Terms
    also : Term → Terms → Terms

-- how many terms a list of terms has
abbrev pub term_count : Terms → ℕ
term_count none = 0
term_count (also t ts) = suc (term_count ts)

-- how many nodes a term has: a number is one node, and a name one more than its fields have
abbrev mutual
  pub term_nodes : Term → ℕ
  term_nodes (number at n) = 1
  term_nodes (build at name fields) = 1 + terms_nodes fields

  -- how many nodes these terms have together
  pub terms_nodes : Terms → ℕ
  terms_nodes none = 0
  terms_nodes (also t ts) = term_nodes t + terms_nodes ts

-- How a term is spelled, in front of what follows it: a number, a name, or name ( fields ) with commas between.

-- the signs of a term, with `rest` behind them
abbrev mutual
  pub term_signs : Term → List Sign → List Sign
  term_signs (number at n) rest = sign.Number at n ∷ rest
  term_signs (build at name fields) rest = sign.Name at name ∷ in_parens fields rest

  -- the signs of a name's fields in parentheses, with `rest` behind them; no parentheses where there are no fields
  pub in_parens : Terms → List Sign → List Sign
  in_parens none rest = rest
  in_parens (also t ts) rest = sign.Open ∷ term_signs t (others ts rest)

  -- the signs of a name's fields behind the first, each behind a comma, then the closing parenthesis and `rest`
  pub others : Terms → List Sign → List Sign
  others none rest = sign.Close ∷ rest
  others (also t ts) rest = sign.Comma ∷ term_signs t (others ts rest)

-- What a token is to a value.

-- the sign that a symbol is to a value: a parenthesis and a comma have their own, any other stands in no value
abbrev pub symbol_sign : Symbol → Sign
symbol_sign symbol.OpenParen = sign.Open
symbol_sign symbol.CloseParen = sign.Close
symbol_sign symbol.Comma = sign.Comma
symbol_sign symbol.Equals = sign.Other
symbol_sign symbol.Bar = sign.Other
symbol_sign symbol.Semicolon = sign.Other
symbol_sign symbol.OpenBrace = sign.Other
symbol_sign symbol.CloseBrace = sign.Other
symbol_sign symbol.Less = sign.Other
symbol_sign symbol.Greater = sign.Other
symbol_sign symbol.Colon = sign.Other
symbol_sign symbol.OpenBracket = sign.Other
symbol_sign symbol.CloseBracket = sign.Other
symbol_sign symbol.Dot = sign.Other
symbol_sign symbol.At = sign.Other
symbol_sign symbol.Arrow = sign.Other
symbol_sign symbol.FatArrow = sign.Other
symbol_sign symbol.Underscore = sign.Other

-- the sign of a token that begins at byte `at`: a number and a name with a capital keep that byte
abbrev pub token_sign : ℕ → Token → Sign
token_sign at (tok.Num n) = sign.Number at n
token_sign at (tok.Upper name) = sign.Name at name
token_sign at (tok.Symbol s) = symbol_sign s
token_sign at (tok.Lower name) = sign.Other
token_sign at (tok.Reserved w) = sign.Other
token_sign at (tok.Uint bits) = sign.Other

-- the sign of a token of a text
abbrev pub sign_of : Placed → Sign
sign_of p = token_sign p.at p.token

-- the signs of the tokens of a text, in order
abbrev pub signs : List Placed → List Sign
signs ps = map sign_of ps

-- the text has tokens, and they spell this term
abbrev pub SpellsTerm : List ℕ → Term → Type 0
SpellsTerm text t = ((front text).fault ≡ None) × (signs (front text).tokens ≡ term_signs t [])
