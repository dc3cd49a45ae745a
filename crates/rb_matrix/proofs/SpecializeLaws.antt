-- The law of the specialised matrix, with the types of its columns.
use Rattle.std.proofs.Common.{◌≡◌, List, [], ◌∷◌, ◌++◌, length, drop, true, ◌&&◌, Some, sym, ap, ◌∙◌}
use Rattle.std.proofs.lemmas.Bool.{false≢true}
use Rattle.rb_core.specs.declared.value.Value.{Value}
use Rattle.rb_core.specs.declared.types.DataDecl.{DataDecl}
use Rattle.rb_core.specs.declared.types.Ty.{Ty}
use Rattle.rb_core.specs.declared.pattern.Pat.{Pat}
use Rattle.rb_core.specs.Values.{subs, is_of_type}
use Rattle.rb_matrix.specs.declared.matrix.Head.{Head}
use Rattle.rb_matrix.specs.declared.matrix.Matrix.{Matrix}
use Rattle.rb_matrix.specs.Heads.{begins, column_fields}
use Rattle.rb_matrix.specs.Rows.{any_row, vector_of}
use Rattle.rb_matrix.specs.Specialize.{special, UnfoldsAlike}
use Rattle.rb_matrix.proofs.Laws.{special-any}
use Rattle.rb_matrix.proofs.Vectors.{and-left, and-right, vector-append, vector-length}
use Rattle.rb_matrix.proofs.Parts.{of-fields}

module _ (types : List DataDecl) (h : Head) (fs : List Ty) (rows : List (List Pat)) where
  by-columns : (tys : List Ty) → column_fields types tys h ≡ Some fs → (v : Value) (vs : List Value) → begins h v ≡ true → vector_of types tys (v ∷ vs) ≡ true
      → (vector_of types (fs ++ drop 1 tys) (subs v ++ vs) ≡ true) × (any_row rows (v ∷ vs) ≡ any_row (special h (length fs) rows) (subs v ++ vs))
  by-columns [] at v vs is of = absurd (false≢true of)
  by-columns (t ∷ ts) at v vs is of =
      let subs-of = sym (of-fields types t h fs v at is) ∙ and-left (is_of_type types v t) (vector_of types ts vs) of in
      let many = vector-length types fs (subs v) subs-of in (
        vector-append types fs ts (subs v) vs many ∙ ap (λ b. b && vector_of types ts vs) subs-of ∙ and-right (is_of_type types v t) (vector_of types ts vs) of,
        special-any h v vs is rows ∙ ap (λ n. any_row (special h n rows) (subs v ++ vs)) many,
      )

pub unfolds-alike : (types : List DataDecl) (h : Head) (m : Matrix) (fs : List Ty) → column_fields types m.tys h ≡ Some fs
    → (s : Matrix) → s.tys ≡ fs ++ drop 1 m.tys → s.rows ≡ special h (length fs) m.rows → UnfoldsAlike types h m s
unfolds-alike types h m fs at s tys rows v vs is of =
    let both = by-columns types h fs m.rows m.tys at v vs is of in
    (ap (λ l. vector_of types l (subs v ++ vs)) tys ∙ both.0, both.1 ∙ ap (λ l. any_row l (subs v ++ vs)) (sym rows))
