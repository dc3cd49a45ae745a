-- Words and symbols by their bytes.
use Rattle.std.proofs.Common.{◌≡◌, ℕ, zero, suc, ◌<◌, ◌≤◌, List, [], ◌∷◌, ◌++◌, length, drop, get_or, nat_eq, Bool, true, false, cond, not, ◌&&◌, nat_le, Some, None, refl, sym, ◌∙◌, ap, arith, lit<, leb-true}
use Rattle.std.specs.Prelude.{find}
use Rattle.std.specs.List.{starts_with, list_all}
use Rattle.std.proofs.lemmas.Bool.Decides.{Decides-eqb}
use Rattle.std.proofs.lemmas.Slice.Eq.{starts_is}
use Rattle.std.proofs.lemmas.List.Prefix.{front_fits}
use Rattle.rb_syntax.specs.declared.token.ReservedWord.{ReservedWord}
use Rattle.rb_syntax.specs.declared.token.ReservedWord.TheVariants as word
use Rattle.rb_syntax.specs.declared.token.Symbol.{Symbol}
use Rattle.rb_syntax.specs.declared.token.Symbol.TheVariants as symbol
use Rattle.rb_syntax.specs.Words.{word_text, word_of, symbol_text, symbol_at, symbols}

pub find-passes : {X : Type 0} (p : X → Bool) (xs : List X) (x : X) → find p xs ≡ Some x → p x ≡ true
find-passes p [] x e = cc
find-passes p (y ∷ ys) x e = elim (p y) as (λ (b : Bool). p y ≡ b → cond b (Some y) (find p ys) ≡ Some x → p x ≡ true) [
  | true ↦ λ h g. let k : y ≡ x = cc in ap p (sym k) ∙ h
  | false ↦ λ h g. find-passes p ys x g
] refl e

pub find-none : {X : Type 0} (p : X → Bool) (xs : List X) → find p xs ≡ None → list_all (λ x. not (p x)) xs ≡ true
find-none p [] e = refl
find-none p (y ∷ ys) e = elim (p y) as (λ (b : Bool). cond b (Some y) (find p ys) ≡ None → (not b && list_all (λ x. not (p x)) ys) ≡ true) [
  | true ↦ λ g. cc
  | false ↦ λ g. find-none p ys g
] e

pub and-left : (a b : Bool) → (a && b) ≡ true → a ≡ true
and-left true b e = refl
and-left false b e = e

pub and-right : (a b : Bool) → (a && b) ≡ true → b ≡ true
and-right true b e = e
and-right false b e = cc

all-at : {X : Type 0} (p : X → Bool) (xs : List X) (i : ℕ) (d : X) → i < length xs → list_all p xs ≡ true → p (get_or xs i d) ≡ true
all-at p [] i d h e = absurd (omega arith)
all-at p (x ∷ xs) zero d h e = and-left (p x) (list_all p xs) e
all-at p (x ∷ xs) (suc i) d h e = all-at p xs i d (omega arith) (and-right (p x) (list_all p xs) e)

-- what begins so is that, and then the rest
pub starts-is : (bytes text : List ℕ) → starts_with nat_eq bytes text ≡ true → bytes ≡ text ++ drop (length text) bytes
starts-is bytes text e = (starts_is Decides-eqb bytes text (starts_with nat_eq bytes text) refl).0 e

pub is-starts : (bytes text rest : List ℕ) → bytes ≡ text ++ rest → starts_with nat_eq bytes text ≡ true
is-starts bytes text rest e = (starts_is Decides-eqb bytes text (starts_with nat_eq bytes text) refl).1 rest e

pub starts-fits : (bytes text : List ℕ) → starts_with nat_eq bytes text ≡ true → length text ≤ length bytes
starts-fits bytes text e = front_fits bytes text (drop (length text) bytes) (starts-is bytes text e)

-- a test that the list of symbols passes is passed by each
pub each_symbol : (p : Symbol → Bool) → list_all p symbols ≡ true → (s : Symbol) → p s ≡ true
each_symbol p e symbol.Arrow = all-at p symbols 0 symbol.At (lit< tt) e
each_symbol p e symbol.FatArrow = all-at p symbols 1 symbol.At (lit< tt) e
each_symbol p e symbol.Equals = all-at p symbols 2 symbol.At (lit< tt) e
each_symbol p e symbol.Bar = all-at p symbols 3 symbol.At (lit< tt) e
each_symbol p e symbol.OpenParen = all-at p symbols 4 symbol.At (lit< tt) e
each_symbol p e symbol.CloseParen = all-at p symbols 5 symbol.At (lit< tt) e
each_symbol p e symbol.Comma = all-at p symbols 6 symbol.At (lit< tt) e
each_symbol p e symbol.Semicolon = all-at p symbols 7 symbol.At (lit< tt) e
each_symbol p e symbol.OpenBrace = all-at p symbols 8 symbol.At (lit< tt) e
each_symbol p e symbol.CloseBrace = all-at p symbols 9 symbol.At (lit< tt) e
each_symbol p e symbol.Less = all-at p symbols 10 symbol.At (lit< tt) e
each_symbol p e symbol.Greater = all-at p symbols 11 symbol.At (lit< tt) e
each_symbol p e symbol.Colon = all-at p symbols 12 symbol.At (lit< tt) e
each_symbol p e symbol.OpenBracket = all-at p symbols 13 symbol.At (lit< tt) e
each_symbol p e symbol.CloseBracket = all-at p symbols 14 symbol.At (lit< tt) e
each_symbol p e symbol.Dot = all-at p symbols 15 symbol.At (lit< tt) e
each_symbol p e symbol.At = all-at p symbols 16 symbol.At (lit< tt) e
each_symbol p e symbol.Underscore = all-at p symbols 17 symbol.At (lit< tt) e

pub symbol-length : (s : Symbol) → 0 < length (symbol_text s)
symbol-length s = leb-true 1 (length (symbol_text s)) (each_symbol (λ t. nat_le 1 (length (symbol_text t))) refl s)

pub symbol-fits : (bytes : List ℕ) (s : Symbol) → symbol_at bytes ≡ Some s → length (symbol_text s) ≤ length bytes
symbol-fits bytes s e = starts-fits bytes (symbol_text s) (find-passes (λ t. starts_with nat_eq bytes (symbol_text t)) symbols s e)

-- where no symbol is found, none stands
pub symbol-none : (bytes : List ℕ) (s : Symbol) → symbol_at bytes ≡ None → starts_with nat_eq bytes (symbol_text s) ≡ true → ⊥
symbol-none bytes s e h =
    let k : not (starts_with nat_eq bytes (symbol_text s)) ≡ true =
    each_symbol (λ t. not (starts_with nat_eq bytes (symbol_text t))) (find-none (λ t. starts_with nat_eq bytes (symbol_text t)) symbols e) s in
    let g : not true ≡ true = rw h at k in cc

-- the first byte, 0 where there is none
abbrev pub first : List ℕ → ℕ
first [] = 0
first (b ∷ bs) = b

-- of the symbols that stand, the one that is found is the longest
pub symbol-longest : (bytes : List ℕ) (s t : Symbol) → symbol_at bytes ≡ Some s → starts_with nat_eq bytes (symbol_text t) ≡ true
    → length (symbol_text t) ≤ length (symbol_text s)
symbol-longest bytes s symbol.Arrow e h =
    let k : Some symbol.Arrow ≡ Some s = rw h at e in let g : symbol.Arrow ≡ s = cc in rw (← g) (omega arith)
symbol-longest bytes s symbol.FatArrow e h = elim (starts_with nat_eq bytes (symbol_text symbol.Arrow))
    as (λ (b : Bool). cond b (Some symbol.Arrow) (cond (starts_with nat_eq bytes (symbol_text symbol.FatArrow)) (Some symbol.FatArrow) (find (λ t. starts_with nat_eq bytes (symbol_text t)) (drop 2 symbols))) ≡ Some s → 2 ≤ length (symbol_text s)) [
      | true ↦ λ g. let k : symbol.Arrow ≡ s = cc in rw (← k) (omega arith)
      | false ↦ λ g. let k : Some symbol.FatArrow ≡ Some s = rw h at g in let l : symbol.FatArrow ≡ s = cc in rw (← l) (omega arith)
    ] e
symbol-longest bytes s symbol.Equals e h = symbol-length s
symbol-longest bytes s symbol.Bar e h = symbol-length s
symbol-longest bytes s symbol.OpenParen e h = symbol-length s
symbol-longest bytes s symbol.CloseParen e h = symbol-length s
symbol-longest bytes s symbol.Comma e h = symbol-length s
symbol-longest bytes s symbol.Semicolon e h = symbol-length s
symbol-longest bytes s symbol.OpenBrace e h = symbol-length s
symbol-longest bytes s symbol.CloseBrace e h = symbol-length s
symbol-longest bytes s symbol.Less e h = symbol-length s
symbol-longest bytes s symbol.Greater e h = symbol-length s
symbol-longest bytes s symbol.Colon e h = symbol-length s
symbol-longest bytes s symbol.OpenBracket e h = symbol-length s
symbol-longest bytes s symbol.CloseBracket e h = symbol-length s
symbol-longest bytes s symbol.Dot e h = symbol-length s
symbol-longest bytes s symbol.At e h = symbol-length s
symbol-longest bytes s symbol.Underscore e h = symbol-length s

-- each word is found by its bytes
pub word-found : (w : ReservedWord) → word_of (word_text w) ≡ Some w
word-found word.Type = refl
word-found word.Layout = refl
word-found word.Fun = refl
word-found word.Let = refl
word-found word.In = refl
word-found word.Match = refl
word-found word.Word = refl
word-found word.Split = refl
word-found word.Else = refl
word-found word.Inline = refl
word-found word.Boxed = refl
word-found word.Packed = refl
word-found word.Add = refl
word-found word.Sub = refl
word-found word.Mul = refl
word-found word.And = refl
word-found word.Or = refl
word-found word.Xor = refl
word-found word.Eq = refl
word-found word.Lt = refl
word-found word.To = refl
