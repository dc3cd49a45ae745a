-- Readers of one token as forms of the grammar.
use Rattle.std.proofs.Common.{◌≡◌, ℕ, ◌^◌, List, [], ◌∷◌, Bool, true, false, ◌==◌, nat_lt, if◌then◌else◌, refl, sym, ◌∙◌, ap, arith}
use Rattle.std.proofs.lemmas.Bool.{eqb-true}
use Rattle.std.proofs.lemmas.Grind.{common_steps}
use Rattle.rb_syntax.specs.declared.token.ReservedWord.{ReservedWord}
use Rattle.rb_syntax.specs.declared.token.ReservedWord.TheVariants as word
use Rattle.rb_syntax.specs.declared.token.Symbol.{Symbol}
use Rattle.rb_syntax.specs.declared.token.Symbol.TheVariants as symbol
use Rattle.rb_syntax.specs.declared.token.Token.{Token}
use Rattle.rb_syntax.specs.declared.token.Token.TheVariants as tok
use Rattle.rb_syntax.specs.Written.{Written, token, number, Writing, flaw_unless}
use Rattle.rb_syntax.specs.Spelling.{is_uint_width, num, uint_written, lower_written, upper_written}
use Rattle.rb_read.specs.inner.Starting.{symbol_number, word_number, is_symbol, is_word}
use Rattle.rb_read.specs.inner.Combining.{into, nothing, passing_token, expect, expect_word}
use Rattle.rb_read.proofs.Open.{Kind, the, the_word, a_lower, an_upper, a_number, a_width, a_field, if_so, begins}
use Rattle.rb_read.specs.inner.Tokens as tokens
use Rattle.rb_read.proofs.Forms.{IsRight}
use Rattle.rb_read.proofs.FormLaws.{nat_lt-zero, nothing-form}
use Rattle.rb_read.proofs.NodeForms.{IsPart, part-form, AtToken, none-at, node-at, node-again, if-at}

-- Symbols and words by their numbers.

symbol_of : ℕ → Symbol
symbol_of n =
    if n == 0 then symbol.Equals else if n == 1 then symbol.Bar else if n == 2 then symbol.OpenParen else if n == 3 then symbol.CloseParen
    else if n == 4 then symbol.Comma else if n == 5 then symbol.Semicolon else if n == 6 then symbol.OpenBrace else if n == 7 then symbol.CloseBrace
    else if n == 8 then symbol.Less else if n == 9 then symbol.Greater else if n == 10 then symbol.Colon else if n == 11 then symbol.OpenBracket
    else if n == 12 then symbol.CloseBracket else if n == 13 then symbol.Dot else if n == 14 then symbol.At else if n == 15 then symbol.Arrow
    else if n == 16 then symbol.FatArrow else symbol.Underscore

symbol_of-number : (s : Symbol) → symbol_of (symbol_number s) ≡ s
unfolding symbol_of
symbol_of-number symbol.Equals = refl
symbol_of-number symbol.Bar = refl
symbol_of-number symbol.OpenParen = refl
symbol_of-number symbol.CloseParen = refl
symbol_of-number symbol.Comma = refl
symbol_of-number symbol.Semicolon = refl
symbol_of-number symbol.OpenBrace = refl
symbol_of-number symbol.CloseBrace = refl
symbol_of-number symbol.Less = refl
symbol_of-number symbol.Greater = refl
symbol_of-number symbol.Colon = refl
symbol_of-number symbol.OpenBracket = refl
symbol_of-number symbol.CloseBracket = refl
symbol_of-number symbol.Dot = refl
symbol_of-number symbol.At = refl
symbol_of-number symbol.Arrow = refl
symbol_of-number symbol.FatArrow = refl
symbol_of-number symbol.Underscore = refl

word_of : ℕ → ReservedWord
word_of n =
    if n == 0 then word.Type else if n == 1 then word.Layout else if n == 2 then word.Fun else if n == 3 then word.Let
    else if n == 4 then word.In else if n == 5 then word.Match else if n == 6 then word.Word else if n == 7 then word.Split
    else if n == 8 then word.Else else if n == 9 then word.Inline else if n == 10 then word.Boxed else if n == 11 then word.Packed
    else if n == 12 then word.Add else if n == 13 then word.Sub else if n == 14 then word.Mul else if n == 15 then word.And
    else if n == 16 then word.Or else if n == 17 then word.Xor else if n == 18 then word.Eq else if n == 19 then word.Lt else word.To

word_of-number : (w : ReservedWord) → word_of (word_number w) ≡ w
unfolding word_of
word_of-number word.Type = refl
word_of-number word.Layout = refl
word_of-number word.Fun = refl
word_of-number word.Let = refl
word_of-number word.In = refl
word_of-number word.Match = refl
word_of-number word.Word = refl
word_of-number word.Split = refl
word_of-number word.Else = refl
word_of-number word.Inline = refl
word_of-number word.Boxed = refl
word_of-number word.Packed = refl
word_of-number word.Add = refl
word_of-number word.Sub = refl
word_of-number word.Mul = refl
word_of-number word.And = refl
word_of-number word.Or = refl
word_of-number word.Xor = refl
word_of-number word.Eq = refl
word_of-number word.Lt = refl
word_of-number word.To = refl

nat-eq : (n : ℕ) → (n == n) ≡ true
nat-eq n = grind (arith, common_steps)

pub is_symbol-self : (s : Symbol) → is_symbol s (tok.Symbol s) ≡ true
is_symbol-self s = nat-eq (symbol_number s)

pub is_word-self : (w : ReservedWord) → is_word w (tok.Reserved w) ≡ true
is_word-self w = nat-eq (word_number w)

pub is_symbol-is : (s : Symbol) (t : Token) → is_symbol s t ≡ true → t ≡ tok.Symbol s
is_symbol-is s (tok.Symbol u) e = ap (λ v. tok.Symbol v) (sym (symbol_of-number u) ∙ ap symbol_of (eqb-true (symbol_number u) (symbol_number s) e) ∙ symbol_of-number s)
is_symbol-is s (tok.Upper x) e = cc
is_symbol-is s (tok.Lower x) e = cc
is_symbol-is s (tok.Num n) e = cc
is_symbol-is s (tok.Reserved w) e = cc
is_symbol-is s (tok.Uint b) e = cc

pub is_word-is : (w : ReservedWord) (t : Token) → is_word w t ≡ true → t ≡ tok.Reserved w
is_word-is w (tok.Reserved u) e = ap (λ v. tok.Reserved v) (sym (word_of-number u) ∙ ap word_of (eqb-true (word_number u) (word_number w) e) ∙ word_of-number w)
is_word-is w (tok.Symbol u) e = cc
is_word-is w (tok.Upper x) e = cc
is_word-is w (tok.Lower x) e = cc
is_word-is w (tok.Num n) e = cc
is_word-is w (tok.Uint b) e = cc

-- one token that passes a test, which is this one
passing-part : {total limit : ℕ} {a : Kind} (test : Token → Bool) (u : Token) → ((t : Token) → begins a t ≡ if_so (test t) []) → test u ≡ true
    → ((t : Token) → test t ≡ true → t ≡ u) → IsPart total limit (λ _. false) a (λ _ rest. token u ∷ rest) (passing_token test)
unfolding passing_token into nothing
passing-part {total = total} {limit = limit} {a = a} test u begun passes only = part-form refl
    (λ t. if-at (test t)
    (λ e. node-at (nothing-form total limit) 0 (begun t ∙ ap (λ b. if_so b []) e) (nat_lt-zero limit) (λ at x. x) (λ ts. rw e refl) (λ at. []) (λ at. tt) (λ at. tt) (λ at. refl)
    (λ at y rest. ap (λ v. token v ∷ rest) (sym (only t e))))
    (λ e. none-at (begun t ∙ ap (λ b. if_so b []) e) (λ ts. rw e refl)))
    (λ x rest i c. node-again (nothing-form total limit) u (λ at y. y) (λ ts. rw passes refl) [] tt refl x x rest (token u ∷ rest) refl (λ at h. refl) i c)

pub symbol-part : (total limit : ℕ) (s : Symbol) → IsPart total limit (λ _. false) (the s) (λ _ rest. token (tok.Symbol s) ∷ rest) (expect s)
unfolding begins
symbol-part total limit s = passing-part (λ t. is_symbol s t) (tok.Symbol s) (λ t. refl) (is_symbol-self s) (λ t e. is_symbol-is s t e)

pub word-part : (total limit : ℕ) (w : ReservedWord) → IsPart total limit (λ _. false) (the_word w) (λ _ rest. token (tok.Reserved w) ∷ rest) (expect_word w)
unfolding begins
word-part total limit w = passing-part (λ t. is_word w t) (tok.Reserved w) (λ t. refl) (is_word-self w) (λ t e. is_word-is w t e)

-- Names and numbers.

pub lower-part : (total limit : ℕ) → IsPart total limit (λ _. false) a_lower lower_written (tokens.lower_name total)
unfolding begins tokens.lower_name into nothing
lower-part total limit = part-form refl on
    (λ x rest i c. node-again (nothing-form total limit) (tok.Lower x.text) (λ at y. record { at = at; text = x.text }) (λ ts. refl) (number x.at ∷ []) tt refl x tt rest _ refl
    (λ at h. rw (← h.0) refl) i c) where
      on : (t : Token) → AtToken total limit a_lower lower_written (tokens.lower_name total) t
      on (tok.Lower name) = node-at (nothing-form total limit) 0 refl (nat_lt-zero limit) (λ at y. record { at = at; text = name }) (λ ts. refl) (λ at. number at ∷ [])
          (λ at. tt) (λ at. (refl, tt)) (λ at. refl) (λ at y rest. refl)
      on _ = none-at refl (λ ts. refl)

pub upper-part : (total limit : ℕ) → IsPart total limit (λ _. false) an_upper upper_written (tokens.upper_name total)
unfolding begins tokens.upper_name into nothing
upper-part total limit = part-form refl on
    (λ x rest i c. node-again (nothing-form total limit) (tok.Upper x.text) (λ at y. record { at = at; text = x.text }) (λ ts. refl) (number x.at ∷ []) tt refl x tt rest _ refl
    (λ at h. rw (← h.0) refl) i c) where
      on : (t : Token) → AtToken total limit an_upper upper_written (tokens.upper_name total) t
      on (tok.Upper name) = node-at (nothing-form total limit) 0 refl (nat_lt-zero limit) (λ at y. record { at = at; text = name }) (λ ts. refl) (λ at. number at ∷ [])
          (λ at. tt) (λ at. (refl, tt)) (λ at. refl) (λ at y rest. refl)
      on _ = none-at refl (λ ts. refl)

pub number-part : (total limit : ℕ) → IsPart total limit (λ _. false) a_number (λ n rest. num n ∷ rest) tokens.number
unfolding begins tokens.number into nothing
number-part total limit = part-form refl on
    (λ x rest i c. node-again (nothing-form total limit) (tok.Num x) (λ at y. x) (λ ts. refl) [] tt refl x tt rest _ refl (λ at h. refl) i c) where
      on : (t : Token) → AtToken total limit a_number (λ n rest. num n ∷ rest) tokens.number t
      on (tok.Num n) = node-at (nothing-form total limit) 0 refl (nat_lt-zero limit) (λ at y. n) (λ ts. refl) (λ at. []) (λ at. tt) (λ at. tt) (λ at. refl) (λ at y rest. refl)
      on _ = none-at refl (λ ts. refl)

pub checked-right : (total : ℕ) (b : Bool) (ws : List Written) → IsRight total (flaw_unless b ws) → b ≡ true
checked-right total true ws h = refl
checked-right total false ws h = absurd h.0

abbrev pub field_number : ℕ → Writing
field_number n rest = flaw_unless (nat_lt n (2 ^ 32)) (num n ∷ rest)

pub field-part : (total limit : ℕ) → IsPart total limit (λ _. false) a_field field_number tokens.field
unfolding begins tokens.field tokens.number into nothing
field-part total limit = part-form refl on
    (λ x rest i c. let e : nat_lt x (2 ^ 32) ≡ true = checked-right total _ _ i in
    node-again (nothing-form total limit) (tok.Num x) (λ at y. x) (λ ts. rw e refl) [] tt refl x tt rest _ (rw e refl) (λ at h. refl) i c) where
      on : (t : Token) → AtToken total limit a_field field_number tokens.field t
      on (tok.Num n) = if-at (nat_lt n (2 ^ 32))
          (λ e. node-at (nothing-form total limit) 0 (rw e refl) (nat_lt-zero limit) (λ at y. n) (λ ts. rw e refl) (λ at. []) (λ at. tt) (λ at. tt) (λ at. refl) (λ at y rest. rw e refl))
          (λ e. none-at (rw e refl) (λ ts. rw e refl))
      on _ = none-at refl (λ ts. refl)

pub width-part : (total limit : ℕ) → IsPart total limit (λ _. false) a_width uint_written tokens.width
unfolding begins tokens.width into nothing
width-part total limit = part-form refl on
    (λ x rest i c. let e : is_uint_width x ≡ true = checked-right total _ _ i in
    node-again (nothing-form total limit) (tok.Uint x) (λ at y. x) (λ ts. rw e refl) [] tt refl x tt rest _ (rw e refl) (λ at h. refl) i c) where
      on : (t : Token) → AtToken total limit a_width uint_written tokens.width t
      on (tok.Uint bits) = if-at (is_uint_width bits)
          (λ e. node-at (nothing-form total limit) 0 (rw e refl) (nat_lt-zero limit) (λ at y. bits) (λ ts. rw e refl) (λ at. []) (λ at. tt) (λ at. tt) (λ at. refl) (λ at y rest. rw e refl))
          (λ e. none-at (rw e refl) (λ ts. rw e refl))
      on _ = none-at refl (λ ts. refl)
