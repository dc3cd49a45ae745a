-- Heads that are a complete signature.
use Rattle.std.proofs.Common.{◌≡◌, ℕ, zero, suc, ◌+◌, ◌^◌, ◌<◌, List, [], length, Bool, true, false, ◌&&◌, Option, Some, None, sym, ap, ◌∙◌, arith, subst, inl, inr}
use Rattle.std.specs.Prelude.{slice_get}
use Rattle.std.proofs.lemmas.Bool.{false≢true, cases_lt, ltb-true}
use Rattle.std.proofs.Math.Bool.{and-false}
use Rattle.std.proofs.lemmas.Option.{slice_get_past}
use Rattle.rb_core.specs.declared.value.Value.{Value, out-Value}
use Rattle.rb_core.specs.declared.value.Value.TheOpen as V
use Rattle.rb_core.specs.declared.types.DataDecl.{DataDecl}
use Rattle.rb_core.specs.declared.types.Ty.{Ty}
use Rattle.rb_core.specs.declared.types.Ty.TheVariants.{Int, Named}
use Rattle.rb_core.specs.Values.{is_of_type, fields_in, fields_of_con, are_of}
use Rattle.rb_matrix.specs.declared.matrix.Head.{Head}
use Rattle.rb_matrix.specs.Heads.{any_begins}
use Rattle.rb_matrix.proofs.HeadLemmas.{any_begins-con}
use Rattle.rb_matrix.proofs.Vectors.{and-left, and-right, con-of, con-of_int, num-of, num-of_int}
use Rattle.rb_decide.specs.ClauseMatrices.{all_below, con_count, is_complete}

pub below-at : (n : ℕ) (f : ℕ → Bool) (k : ℕ) → all_below n f ≡ true → k < n → f k ≡ true
below-at zero f k e lt = absurd (omega (arith, lt))
below-at (suc n) f k e lt = elim (cases_lt k n) [
  | inl less ↦ below-at n f k (and-right (f n) (all_below n f) e) less
  | inr le ↦ let same : n ≡ k = omega (arith, lt, le) in subst (λ j. f j ≡ true) same (and-left (f n) (all_below n f) e)
]

-- one that is missing
pub not-below : (n : ℕ) (f : ℕ → Bool) (k : ℕ) → f k ≡ false → k < n → all_below n f ≡ false
not-below zero f k e lt = absurd (omega (arith, lt))
not-below (suc n) f k e lt = elim (cases_lt k n) [
  | inl less ↦ ap (λ b. f n && b) (not-below n f k e less) ∙ and-false (f n)
  | inr le ↦ let same : k ≡ n = omega (arith, lt, le) in ap (λ b. b && all_below n f) (ap f (sym same) ∙ e)
]

pub one-below : (n : ℕ) (f : ℕ → Bool) → all_below n f ≡ true → f n ≡ true → all_below (n + 1) f ≡ true
one-below n f e g = subst (λ m. all_below m f ≡ true) (next n) (ap (λ b. b && all_below n f) g ∙ e)
  where
    next : (n : ℕ) → suc n ≡ n + 1
    next n = omega arith

module _ (types : List DataDecl) where
  in-cons : (d : Option DataDecl) (k : ℕ) (ts : List (Ty → Bool)) → are_of ts (fields_in d k) ≡ true → k < con_count d
  in-cons None k ts e = absurd (false≢true e)
  in-cons (Some d) k ts e = elim (cases_lt k (length d.cons)) [
    | inl lt ↦ lt
    | inr le ↦ absurd (false≢true (sym (ap (λ o. are_of ts (fields_of_con o)) (slice_get_past d.cons k le)) ∙ e))
  ]

  -- each value of the type begins with one of them
  pub covered : (t : Ty) (hs : List Head) (w : Value) (l : V.Value-F Value) → out-Value w ≡ l → is_complete types t hs ≡ true → is_of_type types w t ≡ true → any_begins hs l ≡ true
  covered (Int bits) hs w (V.Num n) is e of = below-at (2 ^ bits) (λ m. any_begins hs (V.Num m)) n e (ltb-true n (2 ^ bits) (sym (num-of_int types w n bits is) ∙ of))
  covered (Int bits) hs w (V.Con k us) is e of = absurd (false≢true (sym (con-of_int types w k bits us is) ∙ of))
  covered (Named t) hs w (V.Num n) is e of = absurd (false≢true (sym (num-of types w n t is) ∙ of))
  covered (Named t) hs w (V.Con k us) is e of =
      any_begins-con hs k us ∙ below-at (con_count (slice_get types t)) (λ j. any_begins hs (V.Con j [])) k e
      (in-cons (slice_get types t) k _ (sym (con-of types w k us t is) ∙ of))
