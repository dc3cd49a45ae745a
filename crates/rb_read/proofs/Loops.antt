-- One turn of a loop over parts, each but the last with a separator behind it.
use Rattle.std.proofs.Common.{◌≡◌, ℕ, suc, ◌+◌, ◌-◌, List, [], ◌∷◌, ◌++◌, ◌<◌, length, take, drop, Bool, true, false, if◌then◌else◌, Ok, Err, refl, sym, ◌∙◌, ap, arith, append_assoc}
use Rattle.std.proofs.Math.Seq.{take-length}
use Rattle.rb_syntax.specs.declared.token.Placed.{Placed}
use Rattle.rb_syntax.specs.declared.token.Token.{Token}
use Rattle.rb_syntax.specs.declared.token.Symbol.{Symbol}
use Rattle.rb_syntax.specs.Tokens.{tokens}
use Rattle.rb_read.specs.declared.stop.Stop.{Stop}
use Rattle.rb_read.specs.declared.stop.Stop.TheVariants as stop
use Rattle.rb_read.specs.inner.Combining.{Fault, stuck, deep, ReadOutcome, Reader, ◌>>=◌, begins_with, expect, at_front, with_all, behind, some_of, beyond}
use Rattle.rb_read.specs.inner.Gives.{Fails}

-- the tokens behind the first
pub tokens-rest : (ps : List Placed) → tokens (take (length ps - 1) (drop 1 ps)) ≡ drop 1 (tokens ps)
tokens-rest [] = refl
tokens-rest (p ∷ ps) = let e : length (p ∷ ps) - 1 ≡ length ps = omega arith in rw (e, take-length) refl

pub with_all-more : {A : Type 0} (xs : List A) (x : A) (r : ReadOutcome (List A)) → with_all (xs ++ x ∷ []) r ≡ with_all xs (with_all (x ∷ []) r)
with_all-more xs x (Ok y) = ap (λ us. Ok (us, y.1)) (append_assoc xs (x ∷ []) y.0)
with_all-more xs x (Err e) = refl

module _ {A : Type 0} (r : Reader A) (separator close : Symbol) (front : List A) (count i : ℕ) (ts : List Token) (all : ReadOutcome (List A))
    (below : i < count) (so_far : with_all front (some_of r separator close (count - i) ts) ≡ all) where
  one_more : count - i ≡ suc (count - (i + 1))
  one_more = omega arith

  fails : (e : Fault) → r ts ≡ Err e → all ≡ Err e
  unfolding some_of
  fails e h = let g : with_all front (some_of r separator close (count - i) ts) ≡ Err e = rw (one_more, h) refl in sym so_far ∙ g

  -- no part
  pub ends-part : (e : Stop) → Fails e (r ts) → Fails e all
  ends-part stop.Memory h = tt
  ends-part (stop.Stuck left) h = fails (stuck left) h
  ends-part (stop.Deep left) h = fails (deep left) h

  -- a part, and a separator behind it
  pub goes_on : (x : A) (rest : List Token) → r ts ≡ Ok (x, rest) → begins_with separator rest ≡ true
      → with_all (front ++ x ∷ []) (some_of r separator close (count - (i + 1)) (drop 1 rest)) ≡ all
  unfolding some_of behind
  goes_on x rest e b =
      let g : with_all front (some_of r separator close (count - i) ts) ≡ with_all front (with_all (x ∷ []) (some_of r separator close (count - (i + 1)) (drop 1 rest))) = rw (one_more, e, b) refl in
      with_all-more front x (some_of r separator close (count - (i + 1)) (drop 1 rest)) ∙ sym g ∙ so_far

  -- a part, and no separator
  last : (x : A) (rest : List Token) (c : ReadOutcome (Unit {0})) → r ts ≡ Ok (x, rest) → begins_with separator rest ≡ false
      → expect close rest ≡ c → all ≡ with_all front (c >>= λ y. Ok (x ∷ [], y.1))
  unfolding some_of behind
  last x rest c e b h = let g : with_all front (some_of r separator close (count - i) ts) ≡ with_all front (c >>= λ y. Ok (x ∷ [], y.1)) = rw (one_more, e, b, h) refl in sym so_far ∙ g

  pub ends-close : (e : Stop) (x : A) (rest : List Token) → r ts ≡ Ok (x, rest) → begins_with separator rest ≡ false
      → Fails e (expect close rest) → Fails e all
  ends-close stop.Memory x rest h b c = tt
  ends-close (stop.Stuck left) x rest h b c = last x rest (Err (stuck left)) h b c
  ends-close (stop.Deep left) x rest h b c = last x rest (Err (deep left)) h b c

  pub is_done : (x : A) (rest us : List Token) → r ts ≡ Ok (x, rest) → begins_with separator rest ≡ false
      → expect close rest ≡ Ok (tt, us) → all ≡ Ok (front ++ x ∷ [], us)
  is_done x rest us h b c = last x rest (Ok (tt, us)) h b c

-- no turn is left
pub no_turn : {A : Type 0} (r : Reader A) (separator close : Symbol) (front : List A) (count i : ℕ) (ts : List Token) (all : ReadOutcome (List A))
    → count - i ≡ 0 → with_all front (some_of r separator close (count - i) ts) ≡ all → all ≡ Err (stuck 0)
unfolding some_of
no_turn r separator close front count i ts all z h = sym h ∙ rw z refl

-- where no level is left
fails-beyond : (A : Type 0) (b : Bool) (n m : ℕ) → n ≡ m
    → Fails {R = A × List Token} (if b then stop.Deep n else stop.Stuck n) (if b then Err (deep m) else Err (stuck m))
fails-beyond A true n m e = ap (λ k. Err (deep k)) (sym e)
fails-beyond A false n m e = ap (λ k. Err (stuck k)) (sym e)

pub tokens-length : (ps : List Placed) → length ps ≡ length (tokens ps)
tokens-length [] = refl
tokens-length (p ∷ ps) = ap suc (tokens-length ps)

pub beyond-fails : (A : Type 0) (test : Token → Bool) (ps : List Placed)
    → Fails (if at_front test (tokens ps) then stop.Deep (length ps) else stop.Stuck (length ps)) (beyond {A = A} test (tokens ps))
unfolding beyond
beyond-fails A test [] = refl
beyond-fails A test (p ∷ ps) = fails-beyond A (test p.token) (length (p ∷ ps)) (suc (length (tokens ps))) (tokens-length (p ∷ ps))
