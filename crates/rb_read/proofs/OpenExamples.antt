-- What is open, on worked files: the check computes each end.
use Rattle.std.proofs.Common.{◌≡◌, ℕ, zero, suc, List, [], ◌∷◌, ◌++◌, codes, refl}
use Rattle.rb_core.specs.Limits.{most_levels}
use Rattle.rb_syntax.specs.declared.token.ReservedWord.{ReservedWord}
use Rattle.rb_syntax.specs.declared.token.ReservedWord.TheVariants.{Layout, Fun, Let, In, Match, Split, Else, Inline, Boxed, Add, To}
use Rattle.rb_syntax.specs.declared.token.ReservedWord.TheVariants as word
use Rattle.rb_syntax.specs.declared.token.Symbol.{Symbol}
use Rattle.rb_syntax.specs.declared.token.Symbol.TheVariants.{Equals, Bar, OpenParen, CloseParen, Comma, Semicolon, OpenBrace, CloseBrace, Less, Greater, Colon, OpenBracket, CloseBracket, Dot, At, Arrow, FatArrow, Underscore}
use Rattle.rb_syntax.specs.declared.token.Token.{Token}
use Rattle.rb_syntax.specs.declared.token.Token.TheVariants as token
use Rattle.rb_read.specs.inner.Starting.{form_of}
use Rattle.rb_read.proofs.Open.{as_pattern, begins, step, is_done, whole, stopped, too_deep, end_of_tokens, go_on, run, start}

abbrev sym : Symbol → Token
sym s = token.Symbol s

abbrev res : ReservedWord → Token
res w = token.Reserved w

abbrev low : Token
low = token.Lower (codes "x")

abbrev up : Token
up = token.Upper (codes "T")

abbrev num : Token
num = token.Num 0

abbrev range : List Token
range = sym OpenBracket ∷ num ∷ sym Colon ∷ num ∷ sym CloseBracket ∷ []

-- fun x(x: T): T = match T(x, 0) { T(_, x) => let x: u8 = x() in add(x, T), _ => to u8(0) };
abbrev function : List Token
function = res Fun ∷ low ∷ sym OpenParen ∷ low ∷ sym Colon ∷ up ∷ sym CloseParen ∷ sym Colon ∷ up ∷ sym Equals
    ∷ res Match ∷ up ∷ sym OpenParen ∷ low ∷ sym Comma ∷ num ∷ sym CloseParen ∷ sym OpenBrace
    ∷ up ∷ sym OpenParen ∷ sym Underscore ∷ sym Comma ∷ low ∷ sym CloseParen ∷ sym FatArrow
    ∷ res Let ∷ low ∷ sym Colon ∷ token.Uint 8 ∷ sym Equals ∷ low ∷ sym OpenParen ∷ sym CloseParen
    ∷ res In ∷ res Add ∷ sym OpenParen ∷ low ∷ sym Comma ∷ up ∷ sym CloseParen ∷ sym Comma
    ∷ sym Underscore ∷ sym FatArrow ∷ res To ∷ token.Uint 8 ∷ sym OpenParen ∷ num ∷ sym CloseParen ∷ sym CloseBrace ∷ sym Semicolon ∷ []

-- layout T <0, 0> = split 0 [0:0] -> 0 @ 0 : 0 [0:0] { 0 => T : { inline .0.0 } else => T(_) : { word 0 { [0:0] = 0,
-- [0:0] .0 [0:0], [0:0] .0.0 word 0, [0:0] -> 0 { word 0 { } } } } };
abbrev layout : List Token
layout = res Layout ∷ up ∷ sym Less ∷ num ∷ sym Comma ∷ num ∷ sym Greater ∷ sym Equals ∷ res Split ∷ num ∷ range
    ++ sym Arrow ∷ num ∷ sym At ∷ num ∷ sym Colon ∷ num ∷ range
    ++ sym OpenBrace ∷ num ∷ sym FatArrow ∷ up ∷ sym Colon ∷ sym OpenBrace ∷ res Inline ∷ sym Dot ∷ num ∷ sym Dot ∷ num ∷ sym CloseBrace
    ∷ res Else ∷ sym FatArrow ∷ up ∷ sym OpenParen ∷ sym Underscore ∷ sym CloseParen ∷ sym Colon ∷ sym OpenBrace
    ∷ res word.Word ∷ num ∷ sym OpenBrace ∷ range ++ sym Equals ∷ num ∷ sym Comma
    ∷ range ++ sym Dot ∷ num ∷ range ++ sym Comma
    ∷ range ++ sym Dot ∷ num ∷ sym Dot ∷ num ∷ res word.Word ∷ num ∷ sym Comma
    ∷ range ++ sym Arrow ∷ num ∷ sym OpenBrace ∷ res word.Word ∷ num ∷ sym OpenBrace ∷ sym CloseBrace ∷ sym CloseBrace
    ∷ sym CloseBrace ∷ sym CloseBrace ∷ sym CloseBrace ∷ sym Semicolon ∷ []

-- type T = T | T(u8, T); layout T = boxed;
abbrev types : List Token
types = res word.Type ∷ up ∷ sym Equals ∷ up ∷ sym Bar ∷ up ∷ sym OpenParen ∷ token.Uint 8 ∷ sym Comma ∷ up ∷ sym CloseParen ∷ sym Semicolon
    ∷ res Layout ∷ up ∷ sym Equals ∷ res Boxed ∷ sym Semicolon ∷ []

all-whole : run most_levels start (types ++ layout ++ function) ≡ whole
unfolding run go_on step begins as_pattern form_of is_done end_of_tokens
all-whole = refl

-- fun x(x: u8,): u8 = x; has its fault at the first `)`, with six tokens left
comma-last : run most_levels start (res Fun ∷ low ∷ sym OpenParen ∷ low ∷ sym Colon ∷ token.Uint 8 ∷ sym Comma ∷ sym CloseParen ∷ sym Colon ∷ token.Uint 8
    ∷ sym Equals ∷ low ∷ sym Semicolon ∷ []) ≡ stopped 6
unfolding run go_on step begins as_pattern form_of is_done end_of_tokens
comma-last = refl

-- type T = T | T; layout T <0> = split 0 [0:0] { 0 => T   is no whole file, and has no wrong token
left-unfinished : run most_levels start (res word.Type ∷ up ∷ sym Equals ∷ up ∷ sym Bar ∷ up ∷ sym Semicolon ∷ res Layout ∷ up ∷ sym Less ∷ num ∷ sym Greater ∷ sym Equals
    ∷ res Split ∷ num ∷ range ++ sym OpenBrace ∷ num ∷ sym FatArrow ∷ up ∷ []) ≡ stopped 0
unfolding run go_on step begins as_pattern form_of is_done end_of_tokens
left-unfinished = refl

-- behind the last item
after-last : run most_levels start (types ++ sym Semicolon ∷ []) ≡ stopped 1
unfolding run go_on step begins as_pattern form_of is_done end_of_tokens
after-last = refl

-- so many conversions round a number
abbrev nested : ℕ → List Token → List Token
nested zero rest = num ∷ rest
nested (suc n) rest = res To ∷ token.Uint 8 ∷ sym OpenParen ∷ nested n (sym CloseParen ∷ rest)

abbrev of_nested : ℕ → List Token
of_nested n = res Fun ∷ low ∷ sym OpenParen ∷ sym CloseParen ∷ sym Colon ∷ token.Uint 8 ∷ sym Equals ∷ nested n (sym Semicolon ∷ [])

level-128 : run most_levels start (of_nested 127) ≡ whole
unfolding run go_on step begins as_pattern form_of is_done end_of_tokens
level-128 = refl

-- the number is at level 129, with the closing parentheses and the semicolon behind it
level-129 : run most_levels start (of_nested 128) ≡ too_deep 130
unfolding run go_on step begins as_pattern form_of is_done end_of_tokens
level-129 = refl
