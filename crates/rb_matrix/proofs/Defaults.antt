-- What the part by the default matrix says of a problem.
use Rattle.std.proofs.Common.{◌≡◌, ◌<◌, List, [], ◌∷◌, length, Bool, true, false, ◌&&◌, not, Some, None, refl, sym, ap, ◌∙◌}
use Rattle.std.proofs.Math.Bool.{and-false}
use Rattle.std.proofs.lemmas.Bool.{false≢true}
use Rattle.rb_core.specs.declared.value.Value.{Value, out-Value}
use Rattle.rb_core.specs.declared.types.DataDecl.{DataDecl}
use Rattle.rb_core.specs.declared.types.Ty.{Ty}
use Rattle.rb_core.specs.declared.pattern.Pat.{Pat}
use Rattle.rb_core.specs.Matching.{matches_of}
use Rattle.rb_core.specs.Values.{is_of_type}
use Rattle.rb_matrix.specs.declared.matrix.Head.{Head}
use Rattle.rb_matrix.specs.Rows.{row_matches, any_row, all_rows, vector_of}
use Rattle.rb_matrix.specs.Heads.{begins, any_begins, column_begins}
use Rattle.rb_matrix.specs.FirstHead.{first_head}
use Rattle.rb_matrix.specs.Specialize.{defaults}
use Rattle.rb_matrix.specs.Search.{row_plain, useful_by, RowIsFound, AreUseless}
use Rattle.rb_matrix.specs.Signature.{IsAbsent}
use Rattle.rb_matrix.proofs.Laws.{default-any, default-all, default-lost, default-less, first-lost, no-head}
use Rattle.rb_matrix.proofs.Vectors.{and-left, and-right}
use Rattle.rb_matrix.proofs.Parts.{three, off}

pub same : (b : Bool) → b ≡ b
same b = refl

still-false : (c a b : Bool) → (a && b) ≡ false → ((c && a) && b) ≡ false
still-false true a b h = h
still-false false a b h = refl

module _ (types : List DataDecl) (ty : Ty) (ts : List Ty) (wanted unwanted : List (List Pat)) (noW : first_head wanted ≡ None) where
  pub rest-lost : length (defaults wanted) < length wanted → AreUseless types (ty ∷ ts) wanted unwanted
  rest-lost lt [] = refl
  rest-lost lt (v ∷ vs) =
      ap (λ b. (is_of_type types v ty && vector_of types ts vs) && (b && not (any_row unwanted (v ∷ vs)))) (default-lost v vs wanted (no-head wanted (out-Value v) noW) lt)
      ∙ and-false (is_of_type types v ty && vector_of types ts vs)

  module _ (kept : length (defaults wanted) ≡ length wanted) where
    all-same : (v : Value) (vs : List Value) → all_rows wanted (v ∷ vs) ≡ all_rows (defaults wanted) vs
    all-same v vs = default-all v vs wanted (no-head wanted (out-Value v) noW) kept

    -- nothing in the rest, nothing at all: the other rows only take vectors away
    pub rest-none : AreUseless types ts (defaults wanted) (defaults unwanted) → AreUseless types (ty ∷ ts) wanted unwanted
    rest-none none [] = refl
    rest-none none (v ∷ vs) = by (any_row unwanted (v ∷ vs)) refl
      where
        by : (b : Bool) → any_row unwanted (v ∷ vs) ≡ b → useful_by types (ty ∷ ts) wanted unwanted (v ∷ vs) ≡ false
        by true e = ap (λ b. (is_of_type types v ty && vector_of types ts vs) && (all_rows wanted (v ∷ vs) && not b)) e
            ∙ ap (λ b. (is_of_type types v ty && vector_of types ts vs) && b) (and-false (all_rows wanted (v ∷ vs))) ∙ and-false (is_of_type types v ty && vector_of types ts vs)
        by false e =
            three _ _ _ _ _ _ (same (is_of_type types v ty && vector_of types ts vs)) (all-same v vs) (e ∙ sym (default-less v vs unwanted e))
            ∙ still-false (is_of_type types v ty) (vector_of types ts vs) (all_rows (defaults wanted) vs && not (any_row (defaults unwanted) vs)) (none vs)

    module _ (q : Pat) (absent : IsAbsent types ty (column_begins unwanted) q)
        (row : List Pat) (r : RowIsFound types ts (defaults wanted) (defaults unwanted) row) where
      exact : (v : Value) (vs : List Value) → is_of_type types v ty ≡ true → matches_of q v ≡ true
          → useful_by types (ty ∷ ts) wanted unwanted (v ∷ vs) ≡ useful_by types ts (defaults wanted) (defaults unwanted) vs
      exact v vs of matched = three _ _ _ _ _ _ (ap (λ b. b && vector_of types ts vs) of) (all-same v vs)
          (default-any v vs unwanted (absent.apart v of matched))

      rest-all : (zs : List Value) → vector_of types (ty ∷ ts) zs ≡ true → row_matches (q ∷ row) zs ≡ true → useful_by types (ty ∷ ts) wanted unwanted zs ≡ true
      rest-all [] of matched = absurd (false≢true of)
      rest-all (z ∷ zs) of matched =
          exact z zs (and-left _ (vector_of types ts zs) of) (and-left _ (row_matches row zs) matched)
          ∙ r.all zs (and-right (is_of_type types z ty) (vector_of types ts zs) of) (and-right (matches_of q z) (row_matches row zs) matched)

      pub rest-found : RowIsFound types (ty ∷ ts) wanted unwanted (q ∷ row)
      rest-found = record {
        plain = ap (λ b. b && row_plain types ts row) absent.plain ∙ r.plain;
        value = absent.value ∷ r.value;
        matched = ap (λ b. b && row_matches row r.value) absent.matched ∙ r.matched;
        found = exact absent.value r.value absent.typed absent.matched ∙ r.found;
        all = rest-all;
      }

-- Heads that leave nothing out -------------------------------------------------------------------

module _ (types : List DataDecl) (ty : Ty) (ts : List Ty) (wanted unwanted : List (List Pat)) (hs : List Head)
    (none : (v : Value) (vs : List Value) → any_begins hs (out-Value v) ≡ true → useful_by types (ty ∷ ts) wanted unwanted (v ∷ vs) ≡ false) where
  -- each value of the type begins with one of them
  pub all-none : ((v : Value) → is_of_type types v ty ≡ true → any_begins hs (out-Value v) ≡ true) → AreUseless types (ty ∷ ts) wanted unwanted
  all-none all [] = refl
  all-none all (v ∷ vs) = by (is_of_type types v ty) refl
    where
      by : (b : Bool) → is_of_type types v ty ≡ b → useful_by types (ty ∷ ts) wanted unwanted (v ∷ vs) ≡ false
      by true e = none v vs (all v e)
      by false e = off _ (vector_of types ts vs) (all_rows wanted (v ∷ vs) && not (any_row unwanted (v ∷ vs))) e

-- a wanted row begins with the one head
pub one-none : (types : List DataDecl) (ty : Ty) (ts : List Ty) (wanted unwanted : List (List Pat)) (h : Head) → first_head wanted ≡ Some h
    → ((v : Value) (vs : List Value) → begins h v ≡ true → useful_by types (ty ∷ ts) wanted unwanted (v ∷ vs) ≡ false) → AreUseless types (ty ∷ ts) wanted unwanted
one-none types ty ts wanted unwanted h first none [] = refl
one-none types ty ts wanted unwanted h first none (v ∷ vs) = by (begins h v) refl
  where
    by : (b : Bool) → begins h v ≡ b → useful_by types (ty ∷ ts) wanted unwanted (v ∷ vs) ≡ false
    by true e = none v vs e
    by false e = ap (λ b. (is_of_type types v ty && vector_of types ts vs) && (b && not (any_row unwanted (v ∷ vs)))) (first-lost v vs wanted h first e)
        ∙ and-false (is_of_type types v ty && vector_of types ts vs)
