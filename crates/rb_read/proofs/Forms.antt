-- What holds of a form of the grammar: of how it is written, how it is read, and what is open where it begins.
use Rattle.std.proofs.Common.{◌≡◌, ℕ, ◌≤◌, List, [], ◌∷◌, ◌++◌, length, Bool, false, nat_lt, if◌then◌else◌, Option, Some, None, Ok, Err, IfOk}
use Rattle.rb_syntax.specs.declared.token.Token.{Token}
use Rattle.rb_syntax.specs.Written.{Written, token, number, node, flaw, tokens_in, AreNumbered, AreWithin, HaveNoFlaw, Writing}
use Rattle.rb_read.specs.inner.Combining.{stuck, deep, ReadOutcome, Reader}
use Rattle.rb_read.proofs.Open.{Open, End, stopped, too_deep, run}

-- the end of what goes on behind what was read
abbrev pub goes : {A : Type 0} → ℕ → List Open → ReadOutcome A → End
goes limit k (Ok x) = run limit k x.1
goes limit k (Err (stuck m)) = stopped m
goes limit k (Err (deep m)) = too_deep m

-- What is written spells the tokens, of total tokens in all, and is within the limit.
pub record Spells (total limit : ℕ) (ts : List Token) (ws : List Written) : Type 0 where
  pub spells : tokens_in ws ≡ ts
  pub formed : HaveNoFlaw ws
  pub numbered : AreNumbered total ws
  pub small : AreWithin limit ws

-- what is written in front of what spells the tokens that are left spells the tokens
abbrev pub Took : (total limit : ℕ) → List Token → Writing → List Token → Type 0
Took total limit ts w us = (rest : List Written) → Spells total limit us rest → Spells total limit ts (w rest)

-- it has no flaw and no wrong number
abbrev pub IsRight : ℕ → List Written → Type 0
IsRight total ws = HaveNoFlaw ws × AreNumbered total ws

-- the tokens from the first node beyond the limit on
abbrev pub over : ℕ → List Written → Option ℕ
over limit [] = None
over limit (token t ∷ ws) = over limit ws
over limit (number at ∷ ws) = over limit ws
over limit (node l ∷ ws) = if nat_lt limit l then Some (length (tokens_in ws)) else over limit ws
over limit (flaw ∷ ws) = over limit ws

-- what the reader gives on what is written: the tree, or the first node beyond the limit
pub data Again (total limit : ℕ) {X : Type 0} (r : Reader X) (x : X) (ws rest : List Written) : Type 0 where
  fits : over limit ws ≡ over limit rest → r (tokens_in ws) ≡ Ok (x, tokens_in rest) → IsRight total rest → Again total limit r x ws rest
  exceeds : (m : ℕ) → over limit ws ≡ Some m → r (tokens_in ws) ≡ Err (deep m) → Again total limit r x ws rest

-- the first token, where there is one, is not barred
abbrev pub Clear : (Token → Bool) → List Token → Type 0
Clear bars [] = Unit {0}
Clear bars (t ∷ ts) = bars t ≡ false

-- `bars` are the tokens that would go on with it
pub record IsForm (total limit : ℕ) {X : Type 0} (bars : Token → Bool) (opens : List Open) (written : X → Writing) (r : Reader X) : Type 0 where
  pub takes : (ts : List Token) → IfOk (r ts) (λ x. Took total limit ts (written x.0) x.1)
  pub again : (x : X) (rest : List Written) → IsRight total (written x rest) → Clear bars (tokens_in rest) → Again total limit r x (written x rest) rest
  pub follows : (ts : List Token) (k : List Open) → run limit (opens ++ k) ts ≡ goes limit k (r ts)
  pub shrinks : (ts : List Token) → IfOk (r ts) (λ x. length x.1 ≤ length ts)
