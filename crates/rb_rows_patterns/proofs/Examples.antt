-- The types of the rows have values.
use Rattle.std.proofs.Common.{◌≡◌, ℕ, zero, suc, ◌<◌, List, [], ◌∷◌, true, ◌&&◌, refl, ap, ◌∙◌, arith, subst, sym}
use Rattle.std.proofs.lemmas.Bool.{lt-ltb}
use Rattle.rb_core.specs.declared.value.Value.{Value, Con}
use Rattle.rb_core.specs.declared.value.Value.TheVariants.{outs-Con}
use Rattle.rb_core.specs.declared.types.DataDecl.{DataDecl}
use Rattle.rb_core.specs.declared.types.Ty.TheVariants.{Int, Named}
use Rattle.rb_core.specs.TypedPrograms.{HasValue}
use Rattle.rb_core.specs.Values.{is_of_type}
use Rattle.rb_rows_patterns.specs.inner.Examples.{example_types}
use Rattle.rb_matrix.specs.Search.{AreInhabited, IsTypeIn}
use Rattle.rb_matrix.proofs.Vectors.{con-of, num-of_int}
use Rattle.rb_matrix.proofs.Inhabited.{out-num}
use Rattle.rb_core.specs.declared.value.Value.{Num}

red : Value
red = Con 0 []

leaf : Value
leaf = Con 0 []

red-of : is_of_type example_types red (Named 0) ≡ true
unfolding red
red-of = con-of example_types (Con 0 []) 0 [] 0 (outs-Con 0 [])

leaf-of : is_of_type example_types leaf (Named 1) ≡ true
unfolding leaf
leaf-of = con-of example_types (Con 0 []) 0 [] 1 (outs-Con 0 [])

bit-of : is_of_type example_types (Num 0) (Int 1) ≡ true
bit-of = num-of_int example_types (Num 0) 0 1 (out-num 0)

pair-of : is_of_type example_types (Con 0 (red ∷ leaf ∷ [])) (Named 2) ≡ true
pair-of = con-of example_types (Con 0 (red ∷ leaf ∷ [])) 0 (red ∷ leaf ∷ []) 2 (outs-Con 0 (red ∷ leaf ∷ []))
    ∙ ap (λ b. b && (is_of_type example_types leaf (Named 1) && true)) red-of ∙ ap (λ b. b && true) leaf-of

six : List Value
six = Num 0 ∷ Num 0 ∷ Num 0 ∷ Num 0 ∷ Num 0 ∷ Num 0 ∷ []

six-of : is_of_type example_types (Con 0 six) (Named 3) ≡ true
unfolding six
six-of = con-of example_types (Con 0 six) 0 six 3 (outs-Con 0 six)
    ∙ ap (λ b. b && (b && (b && (b && (b && (b && true)))))) bit-of

values : (t : ℕ) → t < 4 → HasValue example_types t
values zero lt = (red, red-of)
values (suc zero) lt = (leaf, leaf-of)
values (suc (suc zero)) lt = (Con 0 (red ∷ leaf ∷ []), pair-of)
values (suc (suc (suc zero))) lt = (Con 0 six, six-of)
values (suc (suc (suc (suc t)))) lt = absurd (omega (arith, lt))

examples-inhabited : AreInhabited example_types
examples-inhabited = record { numbered = refl; values = values }

pub inhabited-at : (types : List DataDecl) → types ≡ example_types → AreInhabited types
inhabited-at types e = subst AreInhabited (sym e) examples-inhabited

pub type-at : (types : List DataDecl) (t : ℕ) → types ≡ example_types → t < 4 → IsTypeIn types (Named t)
type-at types t e lt = subst (λ l. IsTypeIn l (Named t)) (sym e) (lt-ltb t 4 lt)

pub none-inhabited : AreInhabited []
none-inhabited = record { numbered = refl; values = λ t lt. absurd (omega (arith, lt)) }
