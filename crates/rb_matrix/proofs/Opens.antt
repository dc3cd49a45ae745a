-- A row without a head matches every vector of its length.
use Rattle.std.proofs.Common.{◌≡◌, ℕ, List, [], ◌∷◌, length, Bool, true, false, ◌&&◌, ◌||◌, ◌==◌, not, refl, sym, ap, ◌∙◌, arith, inl, inr}
use Rattle.std.proofs.Math.Bool.{and-false}
use Rattle.std.proofs.lemmas.Bool.{eqb-true, false≢true, or_cases}
use Rattle.rb_core.specs.declared.value.Value.{Value}
use Rattle.rb_core.specs.declared.types.DataDecl.{DataDecl}
use Rattle.rb_core.specs.declared.types.Ty.{Ty}
use Rattle.rb_core.specs.declared.pattern.Pat.{Pat, out-Pat}
use Rattle.rb_core.specs.declared.pattern.Pat.TheOpen as P
use Rattle.rb_core.specs.declared.pattern.Pat.TheOpen.{Pat-F}
use Rattle.rb_matrix.specs.declared.problem.Problem.{Problem}
use Rattle.rb_matrix.specs.declared.problem.Left.{Left}
use Rattle.rb_matrix.specs.declared.problem.Left.TheVariants.{Whole}
use Rattle.rb_matrix.specs.inner.Open.{layer_open, is_open, any_open}
use Rattle.rb_matrix.specs.Rows.{row_matches, any_row, all_rows, vector_of}
use Rattle.rb_matrix.specs.Search.{AreUseless}
use Rattle.rb_matrix.specs.inner.Left.{IsSplit}
use Rattle.rb_matrix.proofs.Laws.{opened, open_matches}
use Rattle.rb_matrix.proofs.Vectors.{and-left, and-right, vector-length}
use Rattle.rb_matrix.proofs.Working.{no-split}

layer-matches : (l : Pat-F Pat) (v : Value) → layer_open l ≡ true → open_matches l v ≡ true
layer-matches (P.Wild at) v h = refl
layer-matches (P.Var at x) v h = refl
layer-matches (P.Num at n) v h = absurd (false≢true h)
layer-matches (P.Con at c ps) v h = absurd (false≢true h)

open-matches : (ps : List Pat) (vs : List Value) → is_open ps ≡ true → length ps ≡ length vs → row_matches ps vs ≡ true
open-matches [] [] h e = refl
open-matches [] (v ∷ vs) h e = absurd (omega (arith, e))
open-matches (p ∷ ps) [] h e = absurd (omega (arith, e))
open-matches (p ∷ ps) (v ∷ vs) h e =
    let first = opened p v ∙ layer-matches (out-Pat p) v (and-left (layer_open (out-Pat p)) (is_open ps) h) in
    ap (λ b. b && row_matches ps vs) first ∙ open-matches ps vs (and-right (layer_open (out-Pat p)) (is_open ps) h) (omega (arith, e))

pub or-right : (a b : Bool) → b ≡ true → (a || b) ≡ true
or-right true b h = refl
or-right false b h = h

pub any-matches : (rows : List (List Pat)) (n : ℕ) (vs : List Value) → any_open rows n ≡ true → length vs ≡ n → any_row rows vs ≡ true
any-matches [] n vs h e = absurd (false≢true h)
any-matches (r ∷ rs) n vs h e = elim (or_cases ((length r == n) && is_open r) (any_open rs n) h) [
  | inl here ↦ ap (λ b. b || any_row rs vs) (open-matches r vs (and-right (length r == n) (is_open r) here) (eqb-true (length r) n (and-left (length r == n) (is_open r) here) ∙ sym e))
  | inr later ↦ or-right (row_matches r vs) (any_row rs vs) (any-matches rs n vs later e)
]

nowhere : (types : List DataDecl) (tys : List Ty) (wanted unwanted : List (List Pat)) → any_open unwanted (length tys) ≡ true → AreUseless types tys wanted unwanted
nowhere types tys wanted unwanted h vs = by (vector_of types tys vs) refl
  where
    by : (b : Bool) → vector_of types tys vs ≡ b → (b && (all_rows wanted vs && not (any_row unwanted vs))) ≡ false
    by false e = refl
    by true e =
        ap (λ b. all_rows wanted vs && not b) (any-matches unwanted (length tys) vs h (vector-length types tys vs e)) ∙ and-false (all_rows wanted vs)

-- an unwanted row without a head leaves nothing to look for
pub lost-open : (types : List DataDecl) (p : Problem) (ls : List Left) → ls ≡ [] → any_open p.unwanted (length p.tys) ≡ true → IsSplit types (Whole p) ls
lost-open types p ls e h = no-split types (Whole p) ls e (nowhere types p.tys p.wanted p.unwanted h)
