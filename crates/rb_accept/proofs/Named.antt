-- Names that the lexer cuts from a text are spelled as names of their kinds are.
use Rattle.std.proofs.Common.{◌≡◌, ℕ, List, [], ◌∷◌, take, Bool, true, false, ◌&&◌}
use Rattle.std.specs.List.{list_all}
use Rattle.std.specs.Char.{is_ascii_uppercase, is_ascii_lowercase}
use Rattle.std.proofs.lemmas.Bool.{and_parts}
use Rattle.rb_core.specs.WellNumbered.{is_upper, is_lower, is_capital, is_small, is_word_byte}
use Rattle.rb_names.specs.Written.{AreNamed}
use Rattle.rb_syntax.specs.Cutting.{FirstByteIs, Cut, stop, gap, token, IsWritten}
use Rattle.rb_syntax.specs.Tokens.{tokens}
use Rattle.rb_syntax.specs.declared.token.Placed.{Placed}
use Rattle.rb_syntax.specs.declared.token.Token.{Token}
use Rattle.rb_syntax.specs.declared.token.Token.TheVariants as tok

pub and_both : (a b : Bool) → a ≡ true → b ≡ true → (a && b) ≡ true
and_both true b d e = e
and_both false b d e = absurd cc

upper : (name : List ℕ) → FirstByteIs is_ascii_uppercase name → list_all is_word_byte name ≡ true → is_upper name ≡ true
upper [] first all = absurd first
upper (b ∷ bs) first all =
    and_both (is_capital b) (list_all is_word_byte bs) first (and_parts (is_word_byte b) (list_all is_word_byte bs) all).1

lower : (name : List ℕ) → FirstByteIs is_ascii_lowercase name → list_all is_word_byte name ≡ true → is_lower name ≡ true
lower [] first all = absurd first
lower (b ∷ bs) first all =
    and_both (is_small b) (list_all is_word_byte bs) first (and_parts (is_word_byte b) (list_all is_word_byte bs) all).1

written-named : (t : Token) (text : List ℕ) → IsWritten t text → (ts : List Token) → AreNamed ts → AreNamed (t ∷ ts)
written-named (tok.Upper name) text w ts h = (upper name w.1 w.2, h)
written-named (tok.Lower name) text w ts h = (lower name w.1 w.2, h)
written-named (tok.Num n) text w ts h = h
written-named (tok.Reserved r) text w ts h = h
written-named (tok.Uint bits) text w ts h = h
written-named (tok.Symbol s) text w ts h = h

pub cut-named : (Stops : ℕ → List ℕ → Type 0) (from : ℕ) (text : List ℕ) (placed : List Placed) → Cut Stops from text placed → AreNamed (tokens placed)
cut-named Stops from text placed (stop at bytes h) = tt
cut-named Stops from text placed (gap at n bytes ps long g rest) = cut-named Stops _ _ ps rest
cut-named Stops from text placed (token at n t bytes ps long w rest) = written-named t (take n bytes) w (tokens ps) (cut-named Stops _ _ ps rest)
