-- A text is cut in one way: it has one list of tokens, and then neither a bad byte nor a number that is too wide.
use Rattle.std.proofs.Common.{◌≡◌, ℕ, zero, suc, ◌+◌, ◌<◌, ◌≤◌, ◌^◌, List, [], ◌∷◌, ◌++◌, length, take, drop, codes, nat_eq, Bool, true, false, not, ◌==◌, ◌||◌, if◌then◌else◌, Option, Some, find, refl, sym, ◌∙◌, ap, subst, arith, length-take, length-drop, leb-true, eqb-true}
use Rattle.std.specs.Char.{is_ascii_digit, is_ascii_uppercase, is_ascii_lowercase, is_ascii_alphabetic}
use Rattle.std.specs.Int.{is_in_range}
use Rattle.std.specs.List.{list_all, starts_with}
use Rattle.std.specs.Str.{bytes_eq}
use Rattle.std.specs.Str.Parse.{digits_value}
use Rattle.std.proofs.lemmas.Bool.{and_parts}
use Rattle.std.proofs.Math.Nat.{le_antisymm}
use Rattle.std.proofs.lemmas.Bool.Decides.{Decides-eqb}
use Rattle.std.proofs.lemmas.Grind.{common_steps}
use Rattle.std.proofs.lemmas.Slice.Eq.{starts_is}
use Rattle.rb_core.specs.WellNumbered.{is_word_byte}
use Rattle.rb_syntax.specs.Bytes.{is_blank}
use Rattle.rb_syntax.proofs.WordBytes.{digit-word, letter-word}
use Rattle.rb_syntax.specs.Cutting.{IsGap, IsLongest, FirstByteIs, IsNumeral, IsUintWord, IsWritten, Cut, HasTokens, IsTokenRun, IsBadBehind, HasBadByte, IsWideNumber, HasWideNumber}
use Rattle.rb_syntax.specs.Cutting as cut
use Rattle.rb_syntax.specs.Words.{word_text, symbol_text, symbols, word_of}
use Rattle.rb_syntax.specs.declared.token.Placed.{Placed}
use Rattle.rb_syntax.specs.declared.token.Symbol.{Symbol}
use Rattle.rb_syntax.specs.declared.token.Symbol.TheVariants as symbol
use Rattle.rb_syntax.specs.declared.token.Token.{Token}
use Rattle.rb_syntax.specs.declared.token.Token.TheVariants as tok
use Rattle.rb_syntax.specs.declared.token.ReservedWord.{ReservedWord}
use Rattle.rb_syntax.specs.declared.token.ReservedWord.TheVariants as word

-- First bytes -------------------------------------------------------------------------------

range : (lo hi b : ℕ) → is_in_range lo hi b ≡ true → (lo ≤ b) × (b ≤ hi)
range lo hi b e = let h = and_parts _ _ e in (leb-true lo b h.0, leb-true b hi h.1)

-- what one test says of the first byte another says too
begins_so : (p q : ℕ → Bool) → ((b : ℕ) → p b ≡ true → q b ≡ true) → (text : List ℕ) → FirstByteIs p text → FirstByteIs q text
begins_so p q h [] e = e
begins_so p q h (b ∷ bs) e = h b e

never_both : (p : ℕ → Bool) (text : List ℕ) → FirstByteIs p text → FirstByteIs (λ b. not (p b)) text → ⊥
never_both p [] e f = e
never_both p (b ∷ bs) e f = let g : not true ≡ true = subst (λ (c : Bool). not c ≡ true) e f in absurd (cc g)

begins_front : (p : ℕ → Bool) (k : ℕ) (text : List ℕ) → FirstByteIs p (take k text) → FirstByteIs p text
begins_front p zero text e = absurd e
begins_front p (suc k) [] e = e
begins_front p (suc k) (b ∷ bs) e = e

front_begins : (p : ℕ → Bool) (k : ℕ) (text : List ℕ) → FirstByteIs p text → FirstByteIs p (take (suc k) text)
front_begins p k [] e = e
front_begins p k (b ∷ bs) e = e

begins_all : (p : ℕ → Bool) (text : List ℕ) → 0 < length text → list_all p text ≡ true → FirstByteIs p text
begins_all p [] some e = absurd (omega (arith, some))
begins_all p (b ∷ bs) some e = (and_parts (p b) (list_all p bs) e).0

-- the kinds of bytes that tokens begin with: capitals, small letters, digits, and others
kind : ℕ → ℕ
kind b = if is_ascii_uppercase b then 0 else if is_ascii_lowercase b then 1 else if is_ascii_digit b then 2 else 3

abbrev is_kind : ℕ → ℕ → Bool
is_kind k b = kind b == k

-- a gap begins with a blank or a slash
abbrev is_gap_byte : ℕ → Bool
is_gap_byte b = is_blank b || (b == 47)

abbrev is_token_byte : ℕ → Bool
is_token_byte b = not (is_gap_byte b)

high : (b : ℕ) → 48 ≤ b → is_token_byte b ≡ true
high b h = grind (arith, common_steps)

capital : (b : ℕ) → is_ascii_uppercase b ≡ true → (is_kind 0 b ≡ true) × (is_token_byte b ≡ true)
unfolding kind
capital b e = (rw e refl, high b (let r = range 65 90 b e in omega (arith, r.0)))

small : (b : ℕ) → is_ascii_lowercase b ≡ true → (is_kind 1 b ≡ true) × (is_token_byte b ≡ true)
unfolding kind
small b e =
    let r = range 97 122 b e in
    let no : is_ascii_uppercase b ≡ false = grind (arith, common_steps) in
    (rw (no, e) refl, high b (omega (arith, r.0)))

digit : (b : ℕ) → is_ascii_digit b ≡ true → (is_kind 2 b ≡ true) × (is_token_byte b ≡ true)
unfolding kind
digit b e =
    let r = range 48 57 b e in
    let no : is_ascii_uppercase b ≡ false = grind (arith, common_steps) in
    let none : is_ascii_lowercase b ≡ false = grind (arith, common_steps) in
    (rw (no, none, e) refl, high b r.0)

-- The first byte of a token -----------------------------------------------------------------

-- which kind of byte a token begins with
abbrev kind_of : Token → ℕ
kind_of (tok.Upper name) = 0
kind_of (tok.Lower name) = 1
kind_of (tok.Num n) = 2
kind_of (tok.Reserved w) = 1
kind_of (tok.Uint bits) = 1
kind_of (tok.Symbol s) = 3

abbrev AsWord : List ℕ → Type 0
AsWord text = FirstByteIs (is_kind 1) text × FirstByteIs is_token_byte text × FirstByteIs (λ b. not (b == 117)) text × FirstByteIs is_ascii_alphabetic text × (list_all is_word_byte text ≡ true)

word-as : (w : ReservedWord) → AsWord (word_text w)
unfolding kind
word-as word.Type = (refl, refl, refl, refl, refl)
word-as word.Layout = (refl, refl, refl, refl, refl)
word-as word.Fun = (refl, refl, refl, refl, refl)
word-as word.Let = (refl, refl, refl, refl, refl)
word-as word.In = (refl, refl, refl, refl, refl)
word-as word.Match = (refl, refl, refl, refl, refl)
word-as word.Word = (refl, refl, refl, refl, refl)
word-as word.Split = (refl, refl, refl, refl, refl)
word-as word.Else = (refl, refl, refl, refl, refl)
word-as word.Inline = (refl, refl, refl, refl, refl)
word-as word.Boxed = (refl, refl, refl, refl, refl)
word-as word.Packed = (refl, refl, refl, refl, refl)
word-as word.Add = (refl, refl, refl, refl, refl)
word-as word.Sub = (refl, refl, refl, refl, refl)
word-as word.Mul = (refl, refl, refl, refl, refl)
word-as word.And = (refl, refl, refl, refl, refl)
word-as word.Or = (refl, refl, refl, refl, refl)
word-as word.Xor = (refl, refl, refl, refl, refl)
word-as word.Eq = (refl, refl, refl, refl, refl)
word-as word.Lt = (refl, refl, refl, refl, refl)
word-as word.To = (refl, refl, refl, refl, refl)

abbrev AsSymbol : List ℕ → Type 0
AsSymbol text = FirstByteIs (is_kind 3) text × FirstByteIs is_token_byte text

symbol-as : (s : Symbol) → AsSymbol (symbol_text s)
unfolding kind
symbol-as symbol.Equals = (refl, refl)
symbol-as symbol.Bar = (refl, refl)
symbol-as symbol.OpenParen = (refl, refl)
symbol-as symbol.CloseParen = (refl, refl)
symbol-as symbol.Comma = (refl, refl)
symbol-as symbol.Semicolon = (refl, refl)
symbol-as symbol.OpenBrace = (refl, refl)
symbol-as symbol.CloseBrace = (refl, refl)
symbol-as symbol.Less = (refl, refl)
symbol-as symbol.Greater = (refl, refl)
symbol-as symbol.Colon = (refl, refl)
symbol-as symbol.OpenBracket = (refl, refl)
symbol-as symbol.CloseBracket = (refl, refl)
symbol-as symbol.Dot = (refl, refl)
symbol-as symbol.At = (refl, refl)
symbol-as symbol.Arrow = (refl, refl)
symbol-as symbol.FatArrow = (refl, refl)
symbol-as symbol.Underscore = (refl, refl)

numeral-as : (text : List ℕ) → IsNumeral text → FirstByteIs (is_kind 2) text × FirstByteIs is_token_byte text
numeral-as text n =
    let d : FirstByteIs is_ascii_digit text = begins_all is_ascii_digit text n.some n.digits in
    (begins_so is_ascii_digit (is_kind 2) (λ b e. (digit b e).0) text d, begins_so is_ascii_digit is_token_byte (λ b e. (digit b e).1) text d)

width-as : (bits : ℕ) (text : List ℕ) → IsUintWord bits text → FirstByteIs (is_kind 1) text × FirstByteIs is_token_byte text
unfolding kind
width-as bits text w = subst (λ (xs : List ℕ). FirstByteIs (is_kind 1) xs × FirstByteIs is_token_byte xs) (sym w.written) (refl, refl)

written-as : (t : Token) (text : List ℕ) → IsWritten t text → FirstByteIs (is_kind (kind_of t)) text × FirstByteIs is_token_byte text
written-as (tok.Upper name) text w =
    subst (λ (xs : List ℕ). FirstByteIs (is_kind 0) xs × FirstByteIs is_token_byte xs) (sym w.0)
    (begins_so is_ascii_uppercase (is_kind 0) (λ b e. (capital b e).0) name w.1, begins_so is_ascii_uppercase is_token_byte (λ b e. (capital b e).1) name w.1)
written-as (tok.Lower name) text w =
    subst (λ (xs : List ℕ). FirstByteIs (is_kind 1) xs × FirstByteIs is_token_byte xs) (sym w.0)
    (begins_so is_ascii_lowercase (is_kind 1) (λ b e. (small b e).0) name w.1, begins_so is_ascii_lowercase is_token_byte (λ b e. (small b e).1) name w.1)
written-as (tok.Num n) text w = numeral-as text w.0
written-as (tok.Reserved r) text w =
    let a = word-as r in subst (λ (xs : List ℕ). FirstByteIs (is_kind 1) xs × FirstByteIs is_token_byte xs) (sym w) (a.0, a.1)
written-as (tok.Uint bits) text w = width-as bits text w
written-as (tok.Symbol s) text w = subst (λ (xs : List ℕ). AsSymbol xs) (sym w) (symbol-as s)

same_kind : (k j : ℕ) (text : List ℕ) → FirstByteIs (is_kind k) text → FirstByteIs (is_kind j) text → k ≡ j
same_kind k j [] e f = absurd e
same_kind k j (b ∷ bs) e f = let p : kind b ≡ k = eqb-true (kind b) k e in let q : kind b ≡ j = eqb-true (kind b) j f in sym p ∙ q

gap-as : (text : List ℕ) → IsGap text → FirstByteIs is_gap_byte text
gap-as text (cut.blank b e is) = subst (λ (xs : List ℕ). FirstByteIs is_gap_byte xs) (sym is) (rw e refl)
gap-as text (cut.comment starts line) =
    let is : text ≡ codes "//" ++ drop 2 text = (starts_is Decides-eqb text (codes "//") (starts_with nat_eq text (codes "//")) refl).0 starts in
    subst (λ (xs : List ℕ). FirstByteIs is_gap_byte xs) (sym is) refl

no_gap : (text : List ℕ) → IsGap text → FirstByteIs is_token_byte text → ⊥
no_gap text g h = never_both is_gap_byte text (gap-as text g) h

-- One token ---------------------------------------------------------------------------------

word-found : (w : ReservedWord) → word_of (word_text w) ≡ Some w
word-found word.Type = refl
word-found word.Layout = refl
word-found word.Fun = refl
word-found word.Let = refl
word-found word.In = refl
word-found word.Match = refl
word-found word.Word = refl
word-found word.Split = refl
word-found word.Else = refl
word-found word.Inline = refl
word-found word.Boxed = refl
word-found word.Packed = refl
word-found word.Add = refl
word-found word.Sub = refl
word-found word.Mul = refl
word-found word.And = refl
word-found word.Or = refl
word-found word.Xor = refl
word-found word.Eq = refl
word-found word.Lt = refl
word-found word.To = refl

abbrev symbol_of : List ℕ → Option Symbol
symbol_of text = find (λ s. bytes_eq (symbol_text s) text) symbols

symbol-found : (s : Symbol) → symbol_of (symbol_text s) ≡ Some s
symbol-found symbol.Equals = refl
symbol-found symbol.Bar = refl
symbol-found symbol.OpenParen = refl
symbol-found symbol.CloseParen = refl
symbol-found symbol.Comma = refl
symbol-found symbol.Semicolon = refl
symbol-found symbol.OpenBrace = refl
symbol-found symbol.CloseBrace = refl
symbol-found symbol.Less = refl
symbol-found symbol.Greater = refl
symbol-found symbol.Colon = refl
symbol-found symbol.OpenBracket = refl
symbol-found symbol.CloseBracket = refl
symbol-found symbol.Dot = refl
symbol-found symbol.At = refl
symbol-found symbol.Arrow = refl
symbol-found symbol.FatArrow = refl
symbol-found symbol.Underscore = refl

some_same : {X : Type 0} (x y : X) → Some x ≡ Some y → x ≡ y
some_same x y e = cc

same_word : (v w : ReservedWord) → word_text v ≡ word_text w → v ≡ w
same_word v w e = some_same v w (sym (word-found v) ∙ ap word_of e ∙ word-found w)

same_symbol : (s u : Symbol) → symbol_text s ≡ symbol_text u → s ≡ u
same_symbol s u e = some_same s u (sym (symbol-found s) ∙ ap symbol_of e ∙ symbol-found u)

-- no reserved word begins with 'u', as widths do
no_width : (w : ReservedWord) (bits : ℕ) (text : List ℕ) → text ≡ word_text w → IsUintWord bits text → ⊥
no_width w bits text is v =
    let e : FirstByteIs (λ b. not (b == 117)) (117 ∷ v.digits) = subst (λ (xs : List ℕ). FirstByteIs (λ b. not (b == 117)) xs) (sym is ∙ v.written) (word-as w).2 in absurd (cc e)

module _ (text : List ℕ) where
  other_kind : (t u : Token) → (kind_of t ≡ kind_of u → ⊥) → IsWritten t text → IsWritten u text → ⊥
  other_kind t u ne h k = ne (same_kind (kind_of t) (kind_of u) text (written-as t text h).0 (written-as u text k).0)

  one_token : (t u : Token) → IsWritten t text → IsWritten u text → t ≡ u
  one_token (tok.Upper name) (tok.Upper other) h k = ap tok.Upper (sym h.0 ∙ k.0)
  one_token (tok.Lower name) (tok.Lower other) h k = ap tok.Lower (sym h.0 ∙ k.0)
  one_token (tok.Lower name) (tok.Reserved w) h k = absurd (h.3.0 w (sym h.0 ∙ k))
  one_token (tok.Lower name) (tok.Uint bits) h k = absurd (h.3.1 bits (subst (λ (xs : List ℕ). IsUintWord bits xs) h.0 k))
  one_token (tok.Reserved w) (tok.Lower name) h k = absurd (k.3.0 w (sym k.0 ∙ h))
  one_token (tok.Reserved v) (tok.Reserved w) h k = ap tok.Reserved (same_word v w (sym h ∙ k))
  one_token (tok.Reserved w) (tok.Uint bits) h k = absurd (no_width w bits text h k)
  one_token (tok.Uint bits) (tok.Lower name) h k = absurd (k.3.1 bits (subst (λ (xs : List ℕ). IsUintWord bits xs) k.0 h))
  one_token (tok.Uint bits) (tok.Reserved w) h k = absurd (no_width w bits text k h)
  one_token (tok.Uint bits) (tok.Uint other) h k =
      let same : 117 ∷ h.digits ≡ 117 ∷ k.digits = sym h.written ∙ k.written in
      let digits : h.digits ≡ k.digits = cc in ap tok.Uint (sym h.value ∙ ap (digits_value 10) digits ∙ k.value)
  one_token (tok.Num n) (tok.Num m) h k = ap tok.Num (sym h.1 ∙ k.1)
  one_token (tok.Symbol s) (tok.Symbol u) h k = ap tok.Symbol (same_symbol s u (sym h ∙ k))
  one_token t u h k = absurd (other_kind t u (λ e. omega (arith, e)) h k)

  no_wide : (t : Token) → IsWritten t text → IsNumeral text → 2 ^ 64 ≤ digits_value 10 text → ⊥
  no_wide (tok.Num n) h numeral wide = omega (arith, h.1, h.2, wide)
  no_wide t h numeral wide = let e : kind_of t ≡ 2 = same_kind (kind_of t) 2 text (written-as t text h).0 (numeral-as text numeral).0 in absurd (omega (arith, e))

-- Runs go on as tokens ----------------------------------------------------------------------

or-right : (a b : Bool) → b ≡ true → (a || b) ≡ true
or-right true b e = refl
or-right false b e = e

or-left : (a b : Bool) → a ≡ true → (a || b) ≡ true
or-left a b e = rw e refl

digits-words : (ds : List ℕ) → list_all is_ascii_digit ds ≡ true → list_all is_word_byte ds ≡ true
digits-words [] e = refl
digits-words (d ∷ ds) e =
    let h = and_parts (is_ascii_digit d) (list_all is_ascii_digit ds) e in
    rw (digit-word d h.0) (digits-words ds h.1)

all-front : (p : ℕ → Bool) (k : ℕ) (xs : List ℕ) → list_all p xs ≡ true → list_all p (take k xs) ≡ true
all-front p zero xs e = refl
all-front p (suc k) [] e = refl
all-front p (suc k) (x ∷ xs) e = let h = and_parts (p x) (list_all p xs) e in rw h.0 (all-front p k xs h.1)

-- a run begins with a byte of names and numbers
run-begins : (text : List ℕ) → IsTokenRun text → FirstByteIs is_word_byte text × FirstByteIs is_token_byte text
run-begins text (cut.name first all) = begun text first where
  begun : (xs : List ℕ) → FirstByteIs is_ascii_alphabetic xs → FirstByteIs is_word_byte xs × FirstByteIs is_token_byte xs
  begun [] e = (absurd e, absurd e)
  begun (b ∷ bs) e = (letter-word b e, grind (arith, common_steps))
run-begins text (cut.numeral n) =
    (begins_so is_ascii_digit is_word_byte digit-word text (begins_all is_ascii_digit text n.some n.digits), (numeral-as text n).1)
run-begins text (cut.underscore is) = subst (λ (xs : List ℕ). FirstByteIs is_word_byte xs × FirstByteIs is_token_byte xs) (sym is) (refl, refl)

-- the front of a name or a number is one, and so is a longer one
name-front : (k : ℕ) (text : List ℕ) → FirstByteIs is_ascii_alphabetic text → list_all is_word_byte text ≡ true → IsTokenRun (take (suc k) text)
name-front k text first all = cut.name (front_begins is_ascii_alphabetic k text first) (all-front is_word_byte (suc k) text all)

numeral-front : (k : ℕ) (text : List ℕ) → IsNumeral text → IsNumeral (take (suc k) text)
numeral-front k [] n = n
numeral-front k (b ∷ bs) n = record {
  some = omega arith;
  digits = all-front is_ascii_digit (suc k) (b ∷ bs) n.digits;
  leading = λ z. let one = n.leading z in let few = length-take k bs in omega (arith, one, few);
}

symbol-short : (s : Symbol) (k : ℕ) → k < length (symbol_text s) → FirstByteIs is_word_byte (take k (symbol_text s)) → ⊥
symbol-short s zero l e = e
symbol-short symbol.Arrow (suc k) l e = absurd (cc e)
symbol-short symbol.FatArrow (suc k) l e = absurd (cc e)
symbol-short symbol.Equals (suc k) l e = omega (arith, l)
symbol-short symbol.Bar (suc k) l e = omega (arith, l)
symbol-short symbol.OpenParen (suc k) l e = omega (arith, l)
symbol-short symbol.CloseParen (suc k) l e = omega (arith, l)
symbol-short symbol.Comma (suc k) l e = omega (arith, l)
symbol-short symbol.Semicolon (suc k) l e = omega (arith, l)
symbol-short symbol.OpenBrace (suc k) l e = omega (arith, l)
symbol-short symbol.CloseBrace (suc k) l e = omega (arith, l)
symbol-short symbol.Less (suc k) l e = omega (arith, l)
symbol-short symbol.Greater (suc k) l e = omega (arith, l)
symbol-short symbol.Colon (suc k) l e = omega (arith, l)
symbol-short symbol.OpenBracket (suc k) l e = omega (arith, l)
symbol-short symbol.CloseBracket (suc k) l e = omega (arith, l)
symbol-short symbol.Dot (suc k) l e = omega (arith, l)
symbol-short symbol.At (suc k) l e = omega (arith, l)
symbol-short symbol.Underscore (suc k) l e = omega (arith, l)

written-run : (t : Token) (text : List ℕ) (k : ℕ) → IsWritten t text → k < length text → IsTokenRun (take k text) → IsTokenRun (take (suc k) text)
written-run (tok.Upper name) text k h l run =
    subst (λ (xs : List ℕ). IsTokenRun (take (suc k) xs)) (sym h.0) (name-front k name (begins_so is_ascii_uppercase is_ascii_alphabetic (λ b e. or-left _ _ e) name h.1) h.2)
written-run (tok.Lower name) text k h l run =
    subst (λ (xs : List ℕ). IsTokenRun (take (suc k) xs)) (sym h.0) (name-front k name (begins_so is_ascii_lowercase is_ascii_alphabetic (λ b e. or-right _ _ e) name h.1) h.2)
written-run (tok.Num n) text k h l run = cut.numeral (numeral-front k text h.0)
written-run (tok.Reserved w) text k h l run =
    let a = word-as w in subst (λ (xs : List ℕ). IsTokenRun (take (suc k) xs)) (sym h) (name-front k (word_text w) a.3 a.4)
written-run (tok.Uint bits) text k h l run =
    subst (λ (xs : List ℕ). IsTokenRun (take (suc k) xs)) (sym h.written) (name-front k (117 ∷ h.digits) refl (digits-words h.digits h.numeral.digits))
written-run (tok.Symbol s) text k h l run =
    absurd (symbol-short s k (subst (λ (xs : List ℕ). k < length xs) h l) (run-begins (take k (symbol_text s)) (subst (λ (xs : List ℕ). IsTokenRun (take k xs)) h run)).0)

-- One way to cut ----------------------------------------------------------------------------

abbrev AtEnd : ℕ → List ℕ → Type 0
AtEnd at rest = rest ≡ []

same_length : (n m : ℕ) (bytes : List ℕ) → IsLongest n bytes → IsLongest m bytes → n ≡ m
same_length n m bytes h k = le_antisymm (k.longest n h.inside h.piece) (h.longest m k.inside k.piece)

-- no gap and no token is left where nothing is
none_left : (n : ℕ) (bytes : List ℕ) → bytes ≡ [] → take n bytes ≡ []
none_left n bytes e = subst (λ (xs : List ℕ). take n xs ≡ []) (sym e) (nothing n) where
  nothing : (k : ℕ) → take {A = ℕ} k [] ≡ []
  nothing zero = refl
  nothing (suc k) = refl

module _ (Stops : ℕ → List ℕ → Type 0)
    (no_gap_there : (at n : ℕ) (bytes : List ℕ) → Stops at bytes → IsLongest n bytes → IsGap (take n bytes) → ⊥)
    (no_token_there : (at n : ℕ) (t : Token) (bytes : List ℕ) → Stops at bytes → IsLongest n bytes → IsWritten t (take n bytes) → ⊥) where
  -- a text that is cut to its end is cut in the same way up to any other stop, which is its end
  pub same_cut : (at : ℕ) (bytes : List ℕ) (ps qs : List Placed) → Cut AtEnd at bytes ps → Cut Stops at bytes qs → (ps ≡ qs) × ((place : ℕ) × Stops place [])
  same_cut at bytes ps qs (cut.stop _ _ e) (cut.stop _ _ h) = (refl, (at, subst (λ (xs : List ℕ). Stops at xs) e h))
  same_cut at bytes ps qs (cut.stop _ _ e) (cut.gap _ m _ _ l g rest) =
      absurd (subst (λ (xs : List ℕ). FirstByteIs is_gap_byte xs) (none_left m bytes e) (gap-as (take m bytes) g))
  same_cut at bytes ps qs (cut.stop _ _ e) (cut.token _ m t _ us l w rest) =
      absurd (subst (λ (xs : List ℕ). FirstByteIs is_token_byte xs) (none_left m bytes e) (written-as t (take m bytes) w).1)
  same_cut at bytes ps qs (cut.gap _ n _ _ l g rest) (cut.stop _ _ h) = absurd (no_gap_there at n bytes h l g)
  same_cut at bytes ps qs (cut.gap _ n _ _ l g rest) (cut.gap _ m _ _ k f other) =
      let e : m ≡ n = same_length m n bytes k l in
      same_cut (at + n) (drop n bytes) ps qs rest (subst (λ (x : ℕ). Cut Stops (at + x) (drop x bytes) qs) e other)
  same_cut at bytes ps qs (cut.gap _ n _ _ l g rest) (cut.token _ m t _ us k w other) =
      let e : m ≡ n = same_length m n bytes k l in
      absurd (no_gap (take n bytes) g (subst (λ (x : ℕ). FirstByteIs is_token_byte (take x bytes)) e (written-as t (take m bytes) w).1))
  same_cut at bytes ps qs (cut.token _ n t _ ts l w rest) (cut.stop _ _ h) = absurd (no_token_there at n t bytes h l w)
  same_cut at bytes ps qs (cut.token _ n t _ ts l w rest) (cut.gap _ m _ _ k f other) =
      let e : n ≡ m = same_length n m bytes l k in
      absurd (no_gap (take m bytes) f (subst (λ (x : ℕ). FirstByteIs is_token_byte (take x bytes)) e (written-as t (take n bytes) w).1))
  same_cut at bytes ps qs (cut.token _ n t _ ts l w rest) (cut.token _ m u _ us k v other) =
      let e : m ≡ n = same_length m n bytes k l in
      let same : t ≡ u = one_token (take n bytes) t u w (subst (λ (x : ℕ). IsWritten u (take x bytes)) e v) in
      let i = same_cut (at + n) (drop n bytes) ts us rest (subst (λ (x : ℕ). Cut Stops (at + x) (drop x bytes) us) e other) in
      (ap (λ (x : Token). record { token = x; at = at } ∷ ts) same ∙ ap (λ (xs : List Placed). record { token = u; at = at } ∷ xs) i.0, i.1)

pub one_cut : (bytes : List ℕ) (ps qs : List Placed) → HasTokens bytes ps → HasTokens bytes qs → ps ≡ qs
one_cut bytes ps qs h k = (same_cut AtEnd
    (λ at n xs e l g. absurd (subst (λ (ys : List ℕ). FirstByteIs is_gap_byte ys) (none_left n xs e) (gap-as (take n xs) g)))
    (λ at n t xs e l w. absurd (subst (λ (ys : List ℕ). FirstByteIs is_token_byte ys) (none_left n xs e) (written-as t (take n xs) w).1))
    0 bytes ps qs h k).0

abbrev BadHere : ℕ → ℕ → List ℕ → Type 0
BadHere p at rest = (k : ℕ) × (p ≡ at + k) × IsBadBehind k rest

take-within : (k n : ℕ) (xs : List ℕ) → k ≤ n → take k (take n xs) ≡ take k xs
take-within zero n xs h = refl
take-within (suc k) zero xs h = absurd (omega (arith, h))
take-within (suc k) (suc n) [] h = refl
take-within (suc k) (suc n) (x ∷ xs) h = ap (λ (ys : List ℕ). x ∷ ys) (take-within k n xs (omega (arith, h)))

bad_gap : (k n : ℕ) (bytes : List ℕ) → IsBadBehind k bytes → IsLongest n bytes → IsGap (take n bytes) → ⊥
bad_gap k n bytes (cut.no_piece is some none) l g = none n l.inside l.piece
bad_gap k n bytes (cut.wrong_run m longest lt good bad) l g =
    no_gap (take n bytes) g (front_begins_in (begins_front is_token_byte k bytes (run-begins (take k bytes) good).1)) where
      front_begins_in : FirstByteIs is_token_byte bytes → FirstByteIs is_token_byte (take n bytes)
      front_begins_in h = let e : m ≡ n = same_length m n bytes longest l in first_in n (omega (arith, lt, e)) h where
        first_in : (x : ℕ) → 0 < x → FirstByteIs is_token_byte bytes → FirstByteIs is_token_byte (take x bytes)
        first_in zero some f = absurd (omega (arith, some))
        first_in (suc x) some f = front_begins is_token_byte x bytes f

bad_token : (k n : ℕ) (t : Token) (bytes : List ℕ) → IsBadBehind k bytes → IsLongest n bytes → IsWritten t (take n bytes) → ⊥
bad_token k n t bytes (cut.no_piece is some none) l w = none n l.inside l.piece
bad_token k n t bytes (cut.wrong_run m longest lt good bad) l w =
    let e : m ≡ n = same_length m n bytes longest l in
    let here : take k (take n bytes) ≡ take k bytes = take-within k n bytes (omega (arith, lt, e)) in
    let next : take (suc k) (take n bytes) ≡ take (suc k) bytes = take-within (suc k) n bytes (omega (arith, lt, e)) in
    let many : length (take n bytes) ≡ n = let s = length-take n bytes in omega (arith, s, l.inside) in
    bad (subst IsTokenRun next (written-run t (take n bytes) k w (omega (arith, lt, e, many)) (subst IsTokenRun (sym here) good)))

pub never_bad : (bytes : List ℕ) (ps : List Placed) (p : ℕ) → HasTokens bytes ps → HasBadByte bytes p → ⊥
never_bad bytes ps p h k =
    let at_end = (same_cut (BadHere p) (λ at n xs b l g. bad_gap b.0 n xs b.2 l g) (λ at n t xs b l w. bad_token b.0 n t xs b.2 l w) 0 bytes ps k.0 h k.1).1 in
    none_bad at_end.1.0 at_end.1.2 where
      none_bad : (n : ℕ) → IsBadBehind n [] → ⊥
      none_bad n (cut.no_piece is some none) = omega (arith, some)
      none_bad n (cut.wrong_run m longest lt good bad) = let i : m ≤ 0 = longest.inside in omega (arith, i, lt)

abbrev WideHere : ℕ → ℕ → List ℕ → Type 0
WideHere p at rest = (p ≡ at) × IsWideNumber rest

pub never_wide : (bytes : List ℕ) (ps : List Placed) (p : ℕ) → HasTokens bytes ps → HasWideNumber bytes p → ⊥
never_wide bytes ps p h k =
    let at_end = (same_cut (WideHere p)
    (λ at n xs b l g.
    let e : b.1.len ≡ n = same_length b.1.len n xs b.1.longest l in
    no_gap (take n xs) g (subst (λ (x : ℕ). FirstByteIs is_token_byte (take x xs)) e (numeral-as (take b.1.len xs) b.1.numeral).1))
    (λ at n t xs b l w.
    let e : b.1.len ≡ n = same_length b.1.len n xs b.1.longest l in
    no_wide (take n xs) t w (subst (λ (x : ℕ). IsNumeral (take x xs)) e b.1.numeral) (subst (λ (x : ℕ). 2 ^ 64 ≤ digits_value 10 (take x xs)) e b.1.wide))
    0 bytes ps k.0 h k.1).1 in
    none_wide at_end.1.1 where
      none_wide : IsWideNumber [] → ⊥
      none_wide w = let i : w.len ≤ 0 = w.longest.inside in let s = w.numeral.some in let f = length-take {A = ℕ} w.len [] in omega (arith, i, s, f)

-- a text has no more tokens than bytes
pub few_tokens : (bytes : List ℕ) (ps : List Placed) → HasTokens bytes ps → length ps ≤ length bytes
few_tokens bytes ps h = few 0 bytes ps h where
  few : (at : ℕ) (xs : List ℕ) (qs : List Placed) → Cut AtEnd at xs qs → length qs ≤ length xs
  few at xs qs (cut.stop _ _ e) = omega arith
  few at xs qs (cut.gap _ n _ _ l g rest) = let i = few (at + n) (drop n xs) qs rest in let d = length-drop n xs in omega (arith, i, d)
  few at xs qs (cut.token _ n t _ us l w rest) =
      let i = few (at + n) (drop n xs) us rest in let d = length-drop n xs in
      let some : 0 < n = some_taken n xs (written-as t (take n xs) w).1 in
      omega (arith, i, d, some, l.inside)
    where
      some_taken : (k : ℕ) (ys : List ℕ) → FirstByteIs is_token_byte (take k ys) → 0 < k
      some_taken zero ys e = absurd e
      some_taken (suc k) ys e = omega arith
