-- The part for a head has no vector where an unwanted row that begins with it matches every vector.
use Rattle.std.proofs.Common.{◌≡◌, ℕ, zero, suc, ◌+◌, List, [], ◌∷◌, ◌++◌, length, Bool, true, false, ◌&&◌, ◌||◌, not, Some, refl, sym, ap, ◌∙◌, arith, inl, inr}
use Rattle.std.specs.Prelude.{slice_index_or}
use Rattle.std.proofs.Math.Bool.{and-false}
use Rattle.std.proofs.lemmas.Bool.{false≢true, or_cases}
use Rattle.std.proofs.lemmas.List.{length-append}
use Rattle.rb_core.specs.declared.value.Value.{Value}
use Rattle.rb_core.specs.declared.types.DataDecl.{DataDecl}
use Rattle.rb_core.specs.declared.types.Ty.{Ty}
use Rattle.rb_core.specs.declared.pattern.Pat.{Pat}
use Rattle.rb_core.specs.Values.{is_of_type, subs}
use Rattle.rb_matrix.specs.declared.matrix.Head.{Head}
use Rattle.rb_matrix.specs.declared.problem.Problem.{Problem}
use Rattle.rb_matrix.specs.Rows.{row_matches, any_row, all_rows, vector_of}
use Rattle.rb_matrix.specs.Heads.{begins, fields_at}
use Rattle.rb_matrix.specs.Specialize.{special}
use Rattle.rb_matrix.specs.inner.Groups.{rows_at}
use Rattle.rb_matrix.specs.inner.Open.{any_open}
use Rattle.rb_matrix.specs.inner.Problems.{NoneBy}
use Rattle.rb_matrix.proofs.Laws.{special-any}
use Rattle.rb_matrix.proofs.Opens.{any-matches, or-right}
use Rattle.rb_matrix.proofs.Parts.{of-fields}
use Rattle.rb_matrix.proofs.Vectors.{and-left, and-right, vector-length}

-- what the row in some place matches, some row does
row-among : (rows : List (List Pat)) (i : ℕ) (v : Value) (vs : List Value) → row_matches (slice_index_or rows i []) (v ∷ vs) ≡ true → any_row rows (v ∷ vs) ≡ true
row-among [] i v vs h = absurd (false≢true h)
row-among (r ∷ rs) zero v vs h = ap (λ b. b || any_row rs (v ∷ vs)) h
row-among (r ∷ rs) (suc i) v vs h = or-right (row_matches r (v ∷ vs)) (any_row rs (v ∷ vs)) (row-among rs i v vs h)

rows-among : (rows : List (List Pat)) (ns : List ℕ) (v : Value) (vs : List Value) → any_row (rows_at rows ns) (v ∷ vs) ≡ true → any_row rows (v ∷ vs) ≡ true
rows-among rows [] v vs h = absurd (false≢true h)
rows-among rows (i ∷ ns) v vs h = elim (or_cases (row_matches (slice_index_or rows i []) (v ∷ vs)) (any_row (rows_at rows ns) (v ∷ vs)) h) [
  | inl here ↦ row-among rows i v vs here
  | inr later ↦ rows-among rows ns v vs later
]

module _ (types : List DataDecl) (ty : Ty) (ts : List Ty) (p : Problem) (h : Head) (fs : List Ty) (at : fields_at types ty h ≡ Some fs) (ns : List ℕ)
    (covers : any_open (special h (length fs) (rows_at p.unwanted ns)) (length fs + length ts) ≡ true) where
  matched : (v : Value) (vs : List Value) → begins h v ≡ true → (is_of_type types v ty && vector_of types ts vs) ≡ true → any_row p.unwanted (v ∷ vs) ≡ true
  matched v vs is of =
      let few = vector-length types fs (subs v) (sym (of-fields types ty h fs v at is) ∙ and-left (is_of_type types v ty) (vector_of types ts vs) of) in
      let rest = vector-length types ts vs (and-right (is_of_type types v ty) (vector_of types ts vs) of) in
      let long : length (subs v ++ vs) ≡ length fs + length ts = (let all = length-append (subs v) vs in omega (arith, all, few, rest)) in
      let rows = rows_at p.unwanted ns in
      rows-among p.unwanted ns v vs (special-any h v vs is rows
      ∙ any-matches (special h (length (subs v)) rows) (length fs + length ts) (subs v ++ vs) (ap (λ n. any_open (special h n rows) (length fs + length ts)) few ∙ covers) long)

  pub part-open : NoneBy types ty ts p h
  part-open v vs is = by (is_of_type types v ty && vector_of types ts vs) refl
    where
      by : (b : Bool) → (is_of_type types v ty && vector_of types ts vs) ≡ b → (b && (all_rows p.wanted (v ∷ vs) && not (any_row p.unwanted (v ∷ vs)))) ≡ false
      by false e = refl
      by true e = ap (λ b. all_rows p.wanted (v ∷ vs) && not b) (matched v vs is e) ∙ and-false (all_rows p.wanted (v ∷ vs))
