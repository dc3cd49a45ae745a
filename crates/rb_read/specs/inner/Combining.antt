-- Readers of lists of tokens, and how they are put together.
use Rattle.std.specs.Prelude.{ℕ, zero, suc, List, [], ◌∷◌, ◌++◌, length, drop, Bool, false, if◌then◌else◌, Option, Some, None, Result, Ok, Err}
use Rattle.rb_syntax.specs.declared.token.Symbol.{Symbol}
use Rattle.rb_syntax.specs.declared.token.Symbol.TheVariants as symbol
use Rattle.rb_syntax.specs.declared.token.ReservedWord.{ReservedWord}
use Rattle.rb_syntax.specs.declared.token.Token.{Token}
use Rattle.rb_read.specs.inner.Starting.{is_symbol, is_word}

-- why nothing is read: a token at which nothing goes on, or one that begins a node beyond the limit; each with the
-- number of the tokens from it on, itself counted, where 0 means behind the last token
pub data Fault : Type 0 where
  stuck : (left : ℕ) → Fault
  deep : (left : ℕ) → Fault

-- what reading gives: a part and the tokens behind it, or why none is read
abbrev pub ReadOutcome : Type 0 → Type 0
ReadOutcome A = Result (A × List Token) Fault

-- a reader of a part, which takes the part from the front of the tokens, or says why none is read there
abbrev pub Reader : Type 0 → Type 0
Reader A = List Token → ReadOutcome A

infixl 10 ◌>>=◌
-- goes on with what was read and the tokens behind it; a fault stays
abbrev pub ◌>>=◌ : {A B : Type 0} → ReadOutcome A → (A × List Token → ReadOutcome B) → ReadOutcome B
(Ok x) >>= f = f x
(Err e) >>= f = Err e

-- reads one part, and then another behind it, and gives both; a fault of either stays
unfoldable pub pair : {A B : Type 0} → Reader A → Reader B → Reader (A × B)
pair r s ts = r ts >>= λ x. s x.1 >>= λ y. Ok ((x.0, y.0), y.1)

-- reads a part, and gives what `make` makes of it; a fault stays
unfoldable pub into : {A B : Type 0} → (A → B) → Reader A → Reader B
into make r ts = r ts >>= λ x. Ok (make x.0, x.1)

-- takes no token, and never stops
unfoldable pub nothing : Reader (Unit {0})
nothing ts = Ok (tt, ts)

-- whether there is a first token, and it passes a test
abbrev pub at_front : (Token → Bool) → List Token → Bool
at_front test [] = false
at_front test (t ∷ ts) = test t

-- whether there is a first token, and it is symbol `s`
abbrev pub begins_with : Symbol → List Token → Bool
begins_with s ts = at_front (λ t. is_symbol s t) ts

-- takes the first token if it passes a test; else it is stuck there, behind the last where none is left
unfoldable pub passing_token : (Token → Bool) → Reader (Unit {0})
passing_token test [] = Err (stuck 0)
passing_token test (t ∷ ts) = if test t then Ok (tt, ts) else Err (stuck (suc (length ts)))

-- takes symbol `s`; else it is stuck where another token stands, or none
abbrev pub expect : Symbol → Reader (Unit {0})
expect s = passing_token (λ t. is_symbol s t)

-- takes the reserved word `w`; else it is stuck where another token stands, or none
abbrev pub expect_word : ReservedWord → Reader (Unit {0})
expect_word w = passing_token (λ t. is_word w t)

-- reads a part and symbol `s` behind it, and gives the part; a fault of either stays
unfoldable pub closed_by : {A : Type 0} → Reader A → Symbol → Reader A
closed_by r s = into (λ p. p.0) (pair r (expect s))

-- what is read of a list, with the parts `xs` in front of it; a fault stays
abbrev pub with_all : {A : Type 0} → List A → ReadOutcome (List A) → ReadOutcome (List A)
with_all xs r = r >>= λ y. Ok (xs ++ y.0, y.1)

-- the parts of a list from part `x` on, over the tokens behind it: a separator and others, which `go` reads, or the
-- symbol that closes them
unfoldable pub behind : {A : Type 0} → Symbol → Symbol → Reader (List A) → A → Reader (List A)
behind separator close go x ts =
    if begins_with separator ts then with_all (x ∷ []) (go (drop 1 ts))
    else (expect close ts >>= λ y. Ok (x ∷ [], y.1))

-- one part or more, each but the last with a separator behind it, and then the symbol that closes them; of so many
-- parts at most. With none of them left to read, it is stuck at 0, that is, behind the last token, even where tokens
-- stand
unfoldable pub some_of : {A : Type 0} → Reader A → Symbol → Symbol → ℕ → Reader (List A)
some_of r separator close zero ts = Err (stuck 0)
some_of r separator close (suc n) ts =
    r ts >>= λ x. behind separator close (λ us. some_of r separator close n us) x.0 x.1

-- one part or more with a separator between, and the symbol that closes them; at most as many parts as tokens. Behind
-- a separator a part must be read: a separator just before the close leaves no way on, unless `r` reads a part there
abbrev pub some_closed : {A : Type 0} → Reader A → Symbol → Symbol → Reader (List A)
some_closed r separator close ts = some_of r separator close (length ts) ts

-- any number of parts with commas between, and the symbol that closes them, which may stand there at once; at most as
-- many parts as tokens. Behind a comma a part must be read: a comma just before the close leaves no way on, unless
-- `r` reads a part there
unfoldable pub any_closed : {A : Type 0} → Reader A → Symbol → Reader (List A)
any_closed r close ts = if begins_with close ts then Ok ([], drop 1 ts) else some_closed r symbol.Comma close ts

-- one part or more in parentheses with commas between, or nothing where no parenthesis opens. Behind the opening one
-- and behind a comma a part must be read: `()` and a comma just before the closing one leave no way on, unless `r`
-- reads a part there; at most as many parts as tokens
unfoldable pub in_parens : {A : Type 0} → Reader A → Reader (List A)
in_parens r ts =
    if begins_with symbol.OpenParen ts then some_closed r symbol.Comma symbol.CloseParen (drop 1 ts) else Ok ([], ts)

-- a part where the first token passes the test, or else nothing
unfoldable pub optional : {A : Type 0} → (Token → Bool) → Reader A → Reader (Option A)
optional test r ts = if at_front test ts then into (λ x. Some x) r ts else Ok (None, ts)

-- parts one after the other, as long as the first token passes the test, and so many at most
unfoldable pub many_of : {A : Type 0} → (Token → Bool) → Reader A → ℕ → Reader (List A)
many_of test r zero ts = Ok ([], ts)
many_of test r (suc n) ts =
    if at_front test ts then (r ts >>= λ x. with_all (x.0 ∷ []) (many_of test r n x.1)) else Ok ([], ts)

-- parts one after the other, as long as the first token passes the test; there may be none, and at most as many as
-- tokens. The tokens behind them are handed on, and a fault in a part stays
abbrev pub each_of : {A : Type 0} → (Token → Bool) → Reader A → Reader (List A)
each_of test r ts = many_of test r (length ts) ts

-- the reader of a node where no level is left, which never reads one: a first token that `begins` a node is too deep,
-- and at any other, or none, it is stuck
unfoldable pub beyond : {A : Type 0} → (Token → Bool) → Reader A
beyond begins [] = Err (stuck 0)
beyond begins (t ∷ ts) = if begins t then Err (deep (suc (length ts))) else Err (stuck (suc (length ts)))
