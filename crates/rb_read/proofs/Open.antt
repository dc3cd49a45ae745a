-- What is still open while tokens are read from left to right: the grammar, without trees and without a limit of
-- levels.
use Rattle.std.specs.Prelude.{ℕ, suc, ◌^◌, List, [], ◌∷◌, ◌++◌, length, Bool, true, false, nat_lt, if◌then◌else◌, Option, Some, None}
use Rattle.rb_syntax.specs.declared.token.ReservedWord.{ReservedWord}
use Rattle.rb_syntax.specs.declared.token.ReservedWord.TheVariants as word
use Rattle.rb_syntax.specs.declared.token.Symbol.{Symbol}
use Rattle.rb_syntax.specs.declared.token.Symbol.TheVariants as symbol
use Rattle.rb_syntax.specs.declared.token.Token.{Token}
use Rattle.rb_syntax.specs.declared.token.Token.TheVariants as token
use Rattle.rb_syntax.specs.Spelling.{is_uint_width}
use Rattle.rb_read.specs.declared.starting.Form.{Form}
use Rattle.rb_read.specs.declared.starting.Form.TheVariants as form
use Rattle.rb_read.specs.inner.Starting.{is_symbol, is_word, form_of}

-- the parts of the grammar, nodes with their level
pub data Kind : Type 0 where
  the : Symbol → Kind
  the_word : ReservedWord → Kind
  a_lower : Kind
  an_upper : Kind
  a_number : Kind
  a_width : Kind
  -- a number below 2^32
  a_field : Kind
  a_type : Kind
  a_con : Kind
  a_param : Kind
  expr : (level : ℕ) → Kind
  -- behind a function's name: arguments in parentheses
  arguments : (level : ℕ) → Kind
  -- behind a constructor's name: parts in parentheses
  fields : Kind → Kind
  pat : (level : ℕ) → Kind
  clause : (level : ℕ) → Kind
  -- `. NUM`
  into_field : Kind
  a_range : Kind
  -- behind a path in a part: a range, or a word's number
  path_end : Kind
  -- a part behind its range
  part_kind : (level : ℕ) → Kind
  part : (level : ℕ) → Kind
  lay_item : (level : ℕ) → Kind
  loc_step : Kind
  -- a provenance, and what stands below its constructor
  prov : (level : ℕ) → Kind
  below : (level : ℕ) → Kind
  tree : (level : ℕ) → Kind
  arm : (level : ℕ) → Kind
  other : (level : ℕ) → Kind
  -- a layout behind its type's name
  layout_rest : Kind
  derived : Kind
  item : Kind

pub data Open : Type 0 where
  one : Kind → Open
  -- one or nothing
  maybe : Kind → Open
  -- any number, one after the other
  many : Kind → Open
  -- parts with commas between and the symbol that closes them, or that symbol at once
  first : Kind → (close : Symbol) → Open
  -- behind a part: a separator and more, or the symbol that closes them
  next : Kind → (separator close : Symbol) → Open

-- the level of the node that the token begins, or 0; and what is open behind the token
abbrev pub Step : Type 0
Step = Option (ℕ × List Open)

-- the same, with more open behind
abbrev pub ahead_of : List Open → Step → Step
ahead_of k None = None
ahead_of k (Some s) = Some (s.0, s.1 ++ k)

abbrev pub if_so : Bool → List Open → Step
if_so true k = Some (0, k)
if_so false k = None

abbrev pub as_expr : ℕ → Form → Step
as_expr l (form.Operation op) = Some (l, one (the symbol.OpenParen) ∷ one (expr (suc l)) ∷ one (the symbol.Comma) ∷ one (expr (suc l)) ∷ one (the symbol.CloseParen) ∷ [])
as_expr l form.Conversion = Some (l, one a_width ∷ one (the symbol.OpenParen) ∷ one (expr (suc l)) ∷ one (the symbol.CloseParen) ∷ [])
as_expr l form.Binding = Some (
  l,
  one a_lower ∷ one (the symbol.Colon) ∷ one a_type ∷ one (the symbol.Equals)
      ∷ one (expr (suc l)) ∷ one (the_word word.In) ∷ one (expr (suc l)) ∷ [],
)
as_expr l form.Matching = Some (l, one (expr (suc l)) ∷ one (the symbol.OpenBrace) ∷ one (clause (suc l)) ∷ next (clause (suc l)) symbol.Comma symbol.CloseBrace ∷ [])
as_expr l form.Other = None

abbrev pub some_open : Kind → Symbol → Symbol → List Open
some_open a separator close = one a ∷ next a separator close ∷ []

abbrev pub range_rest : List Open
range_rest = one a_number ∷ one (the symbol.Colon) ∷ one a_number ∷ one (the symbol.CloseBracket) ∷ []

unfoldable pub as_pattern : ℕ → Token → Step
as_pattern l (token.Symbol symbol.Underscore) = Some (l, [])
as_pattern l (token.Lower name) = Some (l, [])
as_pattern l (token.Num n) = Some (l, [])
as_pattern l (token.Upper name) = Some (l, maybe (fields (pat (suc l))) ∷ [])
as_pattern l _ = None

-- what a token begins as a part of the grammar
unfoldable pub begins : Kind → Token → Step
begins (the s) t = if_so (is_symbol s t) []
begins (the_word w) t = if_so (is_word w t) []
begins a_lower (token.Lower name) = Some (0, [])
begins a_lower _ = None
begins an_upper (token.Upper name) = Some (0, [])
begins an_upper _ = None
begins a_number (token.Num n) = Some (0, [])
begins a_number _ = None
begins a_width (token.Uint bits) = if_so (is_uint_width bits) []
begins a_width _ = None
begins a_field (token.Num n) = if_so (nat_lt n (2 ^ 32)) []
begins a_field _ = None
begins a_type (token.Uint bits) = if_so (is_uint_width bits) []
begins a_type (token.Upper name) = Some (0, [])
begins a_type _ = None
begins a_con (token.Upper name) = Some (0, maybe (fields a_type) ∷ [])
begins a_con _ = None
begins a_param (token.Lower name) = Some (0, one (the symbol.Colon) ∷ one a_type ∷ [])
begins a_param _ = None
begins (expr l) (token.Num n) = Some (l, [])
begins (expr l) (token.Lower name) = Some (l, maybe (arguments (suc l)) ∷ [])
begins (expr l) (token.Upper name) = Some (l, maybe (fields (expr (suc l))) ∷ [])
begins (expr l) (token.Reserved w) = as_expr l (form_of w)
begins (expr l) _ = None
begins (arguments l) t = if_so (is_symbol symbol.OpenParen t) (first (expr l) symbol.CloseParen ∷ [])
begins (fields a) t = if_so (is_symbol symbol.OpenParen t) (some_open a symbol.Comma symbol.CloseParen)
begins (pat l) t = as_pattern l t
begins (clause l) t = ahead_of (one (the symbol.FatArrow) ∷ one (expr l) ∷ []) (as_pattern l t)
begins into_field t = if_so (is_symbol symbol.Dot t) (one a_field ∷ [])
begins a_range t = if_so (is_symbol symbol.OpenBracket t) range_rest
begins path_end (token.Symbol symbol.OpenBracket) = Some (0, range_rest)
begins path_end (token.Reserved word.Word) = Some (0, one a_number ∷ [])
begins path_end _ = None
begins (part_kind l) (token.Symbol symbol.Equals) = Some (0, one a_number ∷ [])
begins (part_kind l) (token.Symbol symbol.Dot) = Some (0, one a_field ∷ many into_field ∷ maybe path_end ∷ [])
begins (part_kind l) (token.Symbol symbol.Arrow) = Some (l, one a_number ∷ one (the symbol.OpenBrace) ∷ first (lay_item (suc l)) symbol.CloseBrace ∷ [])
begins (part_kind l) _ = None
begins (part l) t = if_so (is_symbol symbol.OpenBracket t) (range_rest ++ one (part_kind l) ∷ [])
begins (lay_item l) (token.Reserved word.Word) = Some (0, one a_number ∷ one (the symbol.OpenBrace) ∷ first (part l) symbol.CloseBrace ∷ [])
begins (lay_item l) (token.Reserved word.Inline) = Some (0, one into_field ∷ many into_field ∷ [])
begins (lay_item l) _ = None
begins loc_step t = if_so (is_symbol symbol.Arrow t) (one a_number ∷ one (the symbol.At) ∷ one a_number ∷ one (the symbol.Colon) ∷ one a_number ∷ one a_range ∷ [])
begins (prov l) (token.Upper name) = Some (l, maybe (fields (below (suc l))) ∷ [])
begins (prov l) _ = None
begins (below l) (token.Symbol symbol.Underscore) = Some (l, [])
begins (below l) (token.Upper name) = Some (l, maybe (fields (below (suc l))) ∷ [])
begins (below l) _ = None
begins (tree l) (token.Reserved word.Split) = Some (
  l,
  one a_number ∷ one a_range ∷ many loc_step ∷ one (the symbol.OpenBrace)
      ∷ many (arm (suc l)) ∷ maybe (other (suc l)) ∷ one (the symbol.CloseBrace) ∷ [],
)
begins (tree l) (token.Upper name) = Some (
  suc l,
  maybe (fields (below (suc (suc l)))) ∷ one (the symbol.Colon) ∷ one (the symbol.OpenBrace)
      ∷ some_open (lay_item (suc l)) symbol.Comma symbol.CloseBrace,
)
begins (tree l) _ = None
begins (arm l) (token.Num n) = Some (0, one (the symbol.FatArrow) ∷ one (tree l) ∷ [])
begins (arm l) _ = None
begins (other l) t = if_so (is_word word.Else t) (one (the symbol.FatArrow) ∷ one (tree l) ∷ [])
begins layout_rest (token.Symbol symbol.Less) = Some (
  0,
  one a_number ∷ next a_number symbol.Comma symbol.Greater
      ∷ one (the symbol.Equals) ∷ one (tree 1) ∷ one (the symbol.Semicolon) ∷ [],
)
begins layout_rest (token.Symbol symbol.Equals) = Some (0, one derived ∷ one (the symbol.Semicolon) ∷ [])
begins layout_rest _ = None
begins derived (token.Reserved word.Boxed) = Some (0, [])
begins derived (token.Reserved word.Packed) = Some (0, [])
begins derived _ = None
begins item (token.Reserved word.Type) = Some (0, one an_upper ∷ one (the symbol.Equals) ∷ some_open a_con symbol.Bar symbol.Semicolon)
begins item (token.Reserved word.Layout) = Some (0, one an_upper ∷ one layout_rest ∷ [])
begins item (token.Reserved word.Fun) = Some (
  0,
  one a_lower ∷ one (the symbol.OpenParen) ∷ first a_param symbol.CloseParen
      ∷ one (the symbol.Colon) ∷ one a_type ∷ one (the symbol.Equals) ∷ one (expr 1) ∷ one (the symbol.Semicolon) ∷ [],
)
begins item _ = None

-- the first of two that there is
abbrev pub or_else : Step → Step → Step
or_else (Some s) r = Some s
or_else None r = r

unfoldable pub step : List Open → Token → Step
step [] t = None
step (one a ∷ k) t = ahead_of k (begins a t)
step (maybe a ∷ k) t = or_else (ahead_of k (begins a t)) (step k t)
step (many a ∷ k) t = or_else (ahead_of (many a ∷ k) (begins a t)) (step k t)
step (first a close ∷ k) t = if is_symbol close t then Some (0, k) else ahead_of (next a symbol.Comma close ∷ k) (begins a t)
step (next a separator close ∷ k) t =
    if is_symbol separator t then Some (0, one a ∷ next a separator close ∷ k) else if is_symbol close t then Some (0, k) else None

-- nothing more is owed
unfoldable pub is_done : List Open → Bool
is_done [] = true
is_done (one a ∷ k) = false
is_done (maybe a ∷ k) = is_done k
is_done (many a ∷ k) = is_done k
is_done (first a close ∷ k) = false
is_done (next a separator close ∷ k) = false

-- how the tokens end, where levels over the limit are refused: with the number of tokens left
pub data End : Type 0 where
  whole : End
  stopped : (left : ℕ) → End
  too_deep : (left : ℕ) → End

unfoldable pub end_of_tokens : Bool → End
end_of_tokens true = whole
end_of_tokens false = stopped 0

unfoldable pub go_on : ℕ → ℕ → Step → (List Open → End) → End
go_on limit left None behind = stopped left
go_on limit left (Some s) behind = if nat_lt limit s.0 then too_deep left else behind s.1

unfoldable pub run : ℕ → List Open → List Token → End
run limit k [] = end_of_tokens (is_done k)
run limit k (t ∷ ts) = go_on limit (suc (length ts)) (step k t) (λ k'. run limit k' ts)

-- what is open before a file
abbrev pub start : List Open
start = many item ∷ []
