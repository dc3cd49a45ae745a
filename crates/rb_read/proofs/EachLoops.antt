-- One turn of a loop over parts that stand one after the other.
use Rattle.std.proofs.Common.{◌≡◌, ℕ, suc, ◌+◌, ◌-◌, List, [], ◌∷◌, ◌++◌, ◌<◌, Bool, true, false, Ok, Err, refl, sym, ◌∙◌, ap, arith}
use Rattle.std.proofs.lemmas.List.{append-nil}
use Rattle.rb_syntax.specs.declared.token.Token.{Token}
use Rattle.rb_read.specs.declared.stop.Stop.{Stop}
use Rattle.rb_read.specs.declared.stop.Stop.TheVariants as stop
use Rattle.rb_read.specs.inner.Combining.{Fault, stuck, deep, ReadOutcome, Reader, at_front, with_all, many_of}
use Rattle.rb_read.specs.inner.Gives.{Fails}
use Rattle.rb_read.proofs.Loops.{with_all-more}

module _ {A : Type 0} (test : Token → Bool) (r : Reader A) (front : List A) (count i : ℕ) (ts : List Token) (all : ReadOutcome (List A))
    (below : i < count) (so_far : with_all front (many_of test r (count - i) ts) ≡ all) where
  one_more : count - i ≡ suc (count - (i + 1))
  one_more = omega arith

  -- no part begins here
  pub stops : at_front test ts ≡ false → all ≡ Ok (front, ts)
  unfolding many_of
  stops b =
      let g : with_all front (many_of test r (count - i) ts) ≡ Ok (front ++ [], ts) = rw (one_more, b) refl in
      sym so_far ∙ g ∙ ap (λ xs. Ok (xs, ts)) (append-nil front)

  fails : (e : Fault) → at_front test ts ≡ true → r ts ≡ Err e → all ≡ Err e
  unfolding many_of
  fails e b h = let g : with_all front (many_of test r (count - i) ts) ≡ Err e = rw (one_more, b, h) refl in sym so_far ∙ g

  -- one begins, and isn't read
  pub ends-each : (e : Stop) → at_front test ts ≡ true → Fails e (r ts) → Fails e all
  ends-each stop.Memory b h = tt
  ends-each (stop.Stuck left) b h = fails (stuck left) b h
  ends-each (stop.Deep left) b h = fails (deep left) b h

  -- a part
  pub goes_over : (x : A) (rest : List Token) → at_front test ts ≡ true → r ts ≡ Ok (x, rest)
      → with_all (front ++ x ∷ []) (many_of test r (count - (i + 1)) rest) ≡ all
  unfolding many_of
  goes_over x rest b e =
      let g : with_all front (many_of test r (count - i) ts) ≡ with_all front (with_all (x ∷ []) (many_of test r (count - (i + 1)) rest)) = rw (one_more, b, e) refl in
      with_all-more front x (many_of test r (count - (i + 1)) rest) ∙ sym g ∙ so_far

-- no turn is left
pub no_more : {A : Type 0} (test : Token → Bool) (r : Reader A) (front : List A) (count i : ℕ) (ts : List Token) (all : ReadOutcome (List A))
    → count - i ≡ 0 → with_all front (many_of test r (count - i) ts) ≡ all → all ≡ Ok (front, ts)
unfolding many_of
no_more test r front count i ts all z h = sym h ∙ (rw z (ap (λ xs. Ok (xs, ts)) (append-nil front)))
