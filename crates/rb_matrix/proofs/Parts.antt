-- What the parts of a problem say of it.
use Rattle.std.proofs.Common.{◌≡◌, ℕ, ◌+◌, ◌^◌, ◌<◌, ◌≤◌, List, [], ◌∷◌, ◌++◌, map, take, drop, length, Bool, true, false, ◌&&◌, not, ◌==◌, Option, Some, None, refl, sym, ap, ◌∙◌, arith, subst, ◌⊎◌, inl, inr}
use Rattle.std.specs.Prelude.{slice_get, nat_lt, if◌then◌else◌}
use Rattle.std.proofs.Math.Bool.{and-false}
use Rattle.std.proofs.lemmas.Bool.{eqb-true, eqb-false, eq-eqb, false≢true, false_from_ne_true}
use Rattle.std.proofs.lemmas.Option.{none-some}
use Rattle.std.proofs.lemmas.List.{take-append-drop, length-append, length-take}
use Rattle.rb_core.specs.declared.value.Value.{Value, Num, Con, out-Value}
use Rattle.rb_core.specs.declared.value.Value.TheOpen as V
use Rattle.rb_core.specs.declared.value.Value.TheVariants.{outs-Con}
use Rattle.rb_core.specs.declared.types.ConRef.{ConRef}
use Rattle.rb_core.specs.declared.types.DataDecl.{DataDecl}
use Rattle.rb_core.specs.declared.types.Ty.{Ty}
use Rattle.rb_core.specs.declared.types.Ty.TheVariants.{Int, Named}
use Rattle.rb_core.specs.declared.pattern.Pat.{Pat}
use Rattle.rb_core.specs.declared.pattern.Pat as Pats
use Rattle.rb_core.specs.Matching.{matches_of, is_number, is_con}
use Rattle.rb_core.specs.Values.{is_of_type, are_of, fields_in, subs, subs_in}
use Rattle.rb_matrix.specs.declared.matrix.Head.{Head}
use Rattle.rb_matrix.specs.declared.matrix.Head.TheVariants as H
use Rattle.rb_matrix.specs.Rows.{row_matches, any_row, all_rows, vector_of}
use Rattle.rb_matrix.specs.Heads.{layer_begins, begins, fields_at}
use Rattle.rb_matrix.specs.Specialize.{special}
use Rattle.rb_matrix.specs.Search.{AreTypesIn, AreInhabited, is_plain, row_plain, useful_by, RowIsFound, AreUseless}
use Rattle.rb_matrix.specs.inner.Problems.{row_for_parent, step_of, fields_bound}
use Rattle.rb_matrix.proofs.Laws.{special-any, special-all, special-lost}
use Rattle.rb_matrix.proofs.Vectors.{and-left, and-right, row-length, split-row, vector-append, vector-length, plain-append, plain-length, con-of, con-of_int, num-of, num-of_int, num-matches, con-matches, num-plain, con-plain}
use Rattle.rb_matrix.proofs.Absent.{fields-live}
use Rattle.rb_matrix.proofs.Inhabited.{out-num}
use Rattle.rb_matrix.proofs.Weights.{fields-bound}

pub three : (a a' b b' c c' : Bool) → a ≡ a' → b ≡ b' → c ≡ c' → (a && (b && not c)) ≡ (a' && (b' && not c'))
three a a' b b' c c' e f g = ap (λ x. x && (b && not c)) e ∙ ap (λ x. a' && (x && not c)) f ∙ ap (λ x. a' && (b' && not x)) g

pub off : (a b c : Bool) → a ≡ false → ((a && b) && c) ≡ false
off a b c e = ap (λ x. (x && b) && c) e

pub same_or : (n m : ℕ) (b : Bool) → (n == m) ≡ b → (n ≡ m) ⊎ (n ≡ m → ⊥)
same_or n m true e = inl (eqb-true n m e)
same_or n m false e = inr (eqb-false n m e)

-- A head's fields at a type ----------------------------------------------------------------------

fits-num : (b : Bool) (fs : List Ty) → (if b then Some [] else None) ≡ Some fs → (b ≡ true) × (fs ≡ [])
fits-num true fs e = (refl, cc)
fits-num false fs e = absurd (none-some fs e)

abbrev no_types : Option (List Ty)
no_types = Some []

not-fits : (b : Bool) → (if b then no_types else None) ≡ None → b ≡ false
not-fits true e = cc
not-fits false e = refl

module _ (types : List DataDecl) where
  -- a value with the head is of the type exactly where its subvalues are of the head's fields' types
  of-layer : (ty : Ty) (h : Head) (fs : List Ty) (v : Value) (l : V.Value-F Value) → fields_at types ty h ≡ Some fs → out-Value v ≡ l → layer_begins h l ≡ true
      → is_of_type types v ty ≡ vector_of types fs (subs_in l)
  of-layer (Int bits) (H.Num m) fs v (V.Num n) at is e =
      let f = fits-num (nat_lt m (2 ^ bits)) fs at in
      num-of_int types v n bits is ∙ ap (λ i. nat_lt i (2 ^ bits)) (sym (eqb-true m n e)) ∙ f.0 ∙ ap (λ l. vector_of types l []) (sym f.1)
  of-layer (Int bits) (H.Num m) fs v (V.Con k us) at is e = absurd (false≢true e)
  of-layer (Int bits) (H.Con c) fs v l at is e = absurd (none-some fs at)
  of-layer (Named t) (H.Num m) fs v l at is e = absurd (none-some fs at)
  of-layer (Named t) (H.Con c) fs v (V.Num n) at is e = absurd (false≢true e)
  of-layer (Named t) (H.Con c) fs v (V.Con k us) at is e =
      con-of types v k us t is ∙ ap (λ i. are_of (map (is_of_type types) us) (fields_in (slice_get types t) i)) (sym (eqb-true c.con k e))
      ∙ ap (are_of (map (is_of_type types) us)) at

  pub of-fields : (ty : Ty) (h : Head) (fs : List Ty) (v : Value) → fields_at types ty h ≡ Some fs → begins h v ≡ true → is_of_type types v ty ≡ vector_of types fs (subs v)
  of-fields ty h fs v at e = of-layer ty h fs v (out-Value v) at refl e

  -- no value of the type has a head that is not of it
  no-layer : (ty : Ty) (h : Head) (v : Value) (l : V.Value-F Value) → fields_at types ty h ≡ None → out-Value v ≡ l → layer_begins h l ≡ true → is_of_type types v ty ≡ false
  no-layer (Int bits) (H.Num m) v (V.Num n) at is e =
      num-of_int types v n bits is ∙ ap (λ i. nat_lt i (2 ^ bits)) (sym (eqb-true m n e)) ∙ not-fits (nat_lt m (2 ^ bits)) at
  no-layer (Int bits) (H.Num m) v (V.Con k us) at is e = absurd (false≢true e)
  no-layer (Int bits) (H.Con c) v (V.Num n) at is e = absurd (false≢true e)
  no-layer (Int bits) (H.Con c) v (V.Con k us) at is e = con-of_int types v k bits us is
  no-layer (Named t) (H.Num m) v (V.Num n) at is e = num-of types v n t is
  no-layer (Named t) (H.Num m) v (V.Con k us) at is e = absurd (false≢true e)
  no-layer (Named t) (H.Con c) v (V.Num n) at is e = absurd (false≢true e)
  no-layer (Named t) (H.Con c) v (V.Con k us) at is e =
      con-of types v k us t is ∙ ap (λ i. are_of (map (is_of_type types) us) (fields_in (slice_get types t) i)) (sym (eqb-true c.con k e))
      ∙ ap (are_of (map (is_of_type types) us)) at

  pub no-fields : (ty : Ty) (h : Head) (ts : List Ty) (wanted unwanted : List (List Pat)) → fields_at types ty h ≡ None
      → (v : Value) (vs : List Value) → begins h v ≡ true → useful_by types (ty ∷ ts) wanted unwanted (v ∷ vs) ≡ false
  no-fields ty h ts wanted unwanted at v vs e =
      off _ (vector_of types ts vs) (all_rows wanted (v ∷ vs) && not (any_row unwanted (v ∷ vs))) (no-layer ty h v (out-Value v) at refl e)

  pub fields_at-few : (ty : Ty) (h : Head) (fs : List Ty) → fields_at types ty h ≡ Some fs → length fs ≤ fields_bound types
  fields_at-few (Int bits) (H.Num m) fs at = let f = fits-num (nat_lt m (2 ^ bits)) fs at in let e = ap (λ l. length l) f.1 in omega (arith, e)
  fields_at-few (Int bits) (H.Con c) fs at = absurd (none-some fs at)
  fields_at-few (Named t) (H.Num m) fs at = absurd (none-some fs at)
  fields_at-few (Named t) (H.Con c) fs at = fields-bound types t c.con fs at

  pub fields_at-live : AreInhabited types → (ty : Ty) (h : Head) (fs : List Ty) → fields_at types ty h ≡ Some fs → AreTypesIn types fs
  fields_at-live i (Int bits) (H.Num m) fs at = subst (AreTypesIn types) (sym (fits-num (nat_lt m (2 ^ bits)) fs at).1) tt
  fields_at-live i (Int bits) (H.Con c) fs at = absurd (none-some fs at)
  fields_at-live i (Named t) (H.Num m) fs at = absurd (none-some fs at)
  fields_at-live i (Named t) (H.Con c) fs at = fields-live types i t c.con fs at

  pub live-append : (fs ts : List Ty) → AreTypesIn types fs → AreTypesIn types ts → AreTypesIn types (fs ++ ts)
  live-append [] ts h k = k
  live-append (f ∷ fs) ts h k = (h.0, live-append fs ts h.1 k)

-- The pattern that stands for the head -----------------------------------------------------------

-- what the witness needs of a pattern that takes n patterns from the front of a row
record IsFront (types : List DataDecl) (ty : Ty) (h : Head) (fs : List Ty) (front : List Pat) (p : Pat) : Type 0 where
  plain : is_plain types p ty ≡ row_plain types fs front
  matches : (z : Value) → matches_of p z ≡ (begins h z && row_matches front (subs z))
  value : (us : List Value) → vector_of types fs us ≡ true → (z : Value) × (begins h z ≡ true) × (subs z ≡ us)

number-front : (types : List DataDecl) (bits m : ℕ) → nat_lt m (2 ^ bits) ≡ true → IsFront types (Int bits) (H.Num m) [] [] (Pats.Num 0 m)
number-front types bits m fits = record {
  plain = num-plain types m bits ∙ fits;
  matches = λ z. num-matches 0 m z ∙ layer (out-Value z);
  value = λ us of. (Num m, ap (layer_begins (H.Num m)) (out-num m) ∙ eq-eqb m m refl, ap subs_in (out-num m) ∙ empty us of);
}
  where
    and-true : (b : Bool) → b ≡ (b && true)
    and-true true = refl
    and-true false = refl

    layer : (l : V.Value-F Value) → is_number m l ≡ (layer_begins (H.Num m) l && row_matches [] (subs_in l))
    layer (V.Num n) = and-true (m == n)
    layer (V.Con k us) = refl

    empty : (us : List Value) → vector_of types [] us ≡ true → [] ≡ us
    empty [] of = refl
    empty (u ∷ us) of = absurd (false≢true of)

con-front : (types : List DataDecl) (t : ℕ) (c : ConRef) (fs : List Ty) (front : List Pat) → fields_in (slice_get types t) c.con ≡ Some fs
    → IsFront types (Named t) (H.Con c) fs front (Pats.Con 0 (record { ty = t; con = c.con }) front)
con-front types t c fs front at = record {
  plain = con-plain types t c.con front ∙ ap (are_of (map (is_plain types) front)) at;
  matches = λ z. con-matches 0 (record { ty = t; con = c.con }) front z ∙ layer (out-Value z);
  value = λ us of. (Con c.con us, ap (layer_begins (H.Con c)) (outs-Con c.con us) ∙ eq-eqb c.con c.con refl, ap subs_in (outs-Con c.con us));
}
  where
    layer : (l : V.Value-F Value) → is_con c.con (map matches_of front) l ≡ (layer_begins (H.Con c) l && row_matches front (subs_in l))
    layer (V.Num n) = refl
    layer (V.Con k us) = refl

-- One part ---------------------------------------------------------------------------------------

module _ (types : List DataDecl) (ty : Ty) (ts : List Ty) (wanted unwanted : List (List Pat)) (h : Head) (fs : List Ty) (at : fields_at types ty h ≡ Some fs) where
  abbrev S : List (List Pat) → List (List Pat)
  S rows = special h (length fs) rows

  same-useful : (v : Value) (vs : List Value) → begins h v ≡ true → length (subs v) ≡ length fs → length (S wanted) ≡ length wanted
      → useful_by types (ty ∷ ts) wanted unwanted (v ∷ vs) ≡ useful_by types (fs ++ ts) (S wanted) (S unwanted) (subs v ++ vs)
  same-useful v vs is e kept = three _ _ _ _ _ _
      (ap (λ b. b && vector_of types ts vs) (of-fields types ty h fs v at is) ∙ sym (vector-append types fs ts (subs v) vs e))
      (special-all h v vs is wanted (ap (λ n. length (special h n wanted)) e ∙ kept) ∙ ap (λ n. all_rows (special h n wanted) (subs v ++ vs)) e)
      (special-any h v vs is unwanted ∙ ap (λ n. any_row (special h n unwanted) (subs v ++ vs)) e)

  -- a value with the head and another number of subvalues is of no matter
  by-length : (v : Value) (vs : List Value) → begins h v ≡ true
      → (length (subs v) ≡ length fs → useful_by types (ty ∷ ts) wanted unwanted (v ∷ vs) ≡ false) → useful_by types (ty ∷ ts) wanted unwanted (v ∷ vs) ≡ false
  by-length v vs is go = elim (same_or (length (subs v)) (length fs) (length (subs v) == length fs) refl) [
    | inl e ↦ go e
    | inr ne ↦ off _ (vector_of types ts vs) (all_rows wanted (v ∷ vs) && not (any_row unwanted (v ∷ vs)))
        (of-fields types ty h fs v at is ∙ false_from_ne_true _ (λ of. ne (vector-length types fs (subs v) of)))
  ]

  pub part-none : length (S wanted) ≡ length wanted → AreUseless types (fs ++ ts) (S wanted) (S unwanted)
      → (v : Value) (vs : List Value) → begins h v ≡ true → useful_by types (ty ∷ ts) wanted unwanted (v ∷ vs) ≡ false
  part-none kept none v vs is = by-length v vs is (λ e. same-useful v vs is e kept ∙ none (subs v ++ vs))

  pub part-lost : length (S wanted) < length wanted
      → (v : Value) (vs : List Value) → begins h v ≡ true → useful_by types (ty ∷ ts) wanted unwanted (v ∷ vs) ≡ false
  part-lost lt v vs is = by-length v vs is (λ e.
      ap (λ b. (is_of_type types v ty && vector_of types ts vs) && (b && not (any_row unwanted (v ∷ vs))))
      (special-lost h v vs is wanted (subst (λ n. length (special h n wanted) < length wanted) (sym e) lt))
      ∙ and-false (is_of_type types v ty && vector_of types ts vs))

  module _ (row : List Pat) (kept : length (S wanted) ≡ length wanted) (r : RowIsFound types (fs ++ ts) (S wanted) (S unwanted) row) where
    abbrev n : ℕ
    n = length fs

    abbrev xs : List Value
    xs = r.value

    row-long : length row ≡ length fs + length ts
    row-long = plain-length types (fs ++ ts) row r.plain ∙ length-append fs ts

    xs-long : length xs ≡ length fs + length ts
    xs-long = sym (row-length row xs r.matched) ∙ row-long

    long : n ≤ length row
    long = let f = row-long in omega (arith, f)

    front-length : length (take n row) ≡ n
    front-length = let f = row-long in omega (arith, length-take n row, f)

    us-length : length (take n xs) ≡ n
    us-length = let f = xs-long in omega (arith, length-take n xs, f)

    us-of : vector_of types fs (take n xs) ≡ true
    us-of = and-left _ (vector_of types ts (drop n xs)) (sym (vector-append types fs ts (take n xs) (drop n xs) us-length)
        ∙ ap (vector_of types (fs ++ ts)) (take-append-drop n xs) ∙ and-left (vector_of types (fs ++ ts) xs) (all_rows (S wanted) xs && not (any_row (S unwanted) xs)) r.found)

    module _ (p : Pat) (f : IsFront types ty h fs (take n row) p) where
      found-each : (z : Value) (zs : List Value) → (is_of_type types z ty && vector_of types ts zs) ≡ true → (matches_of p z && row_matches (drop n row) zs) ≡ true
          → useful_by types (ty ∷ ts) wanted unwanted (z ∷ zs) ≡ true
      found-each z zs of matched =
          let first = sym (f.matches z) ∙ and-left (matches_of p z) (row_matches (drop n row) zs) matched in
          let is = and-left (begins h z) (row_matches (take n row) (subs z)) first in
          let fine = sym (of-fields types ty h fs z at is) ∙ and-left (is_of_type types z ty) (vector_of types ts zs) of in
          let e = vector-length types fs (subs z) fine in
          same-useful z zs is e kept ∙ r.all (subs z ++ zs)
          (vector-append types fs ts (subs z) zs e ∙ ap (λ b. b && vector_of types ts zs) fine ∙ and-right (is_of_type types z ty) (vector_of types ts zs) of)
          (split-row n row (subs z) zs e long ∙ ap (λ b. b && row_matches (drop n row) zs) (and-right (begins h z) (row_matches (take n row) (subs z)) first)
          ∙ and-right (matches_of p z) (row_matches (drop n row) zs) matched)

      found-all : (zs : List Value) → vector_of types (ty ∷ ts) zs ≡ true → row_matches (p ∷ drop n row) zs ≡ true → useful_by types (ty ∷ ts) wanted unwanted zs ≡ true
      found-all [] of matched = absurd (false≢true of)
      found-all (z ∷ zs) of matched = found-each z zs of matched

      found-front : RowIsFound types (ty ∷ ts) wanted unwanted (p ∷ drop n row)
      found-front = let z = f.value (take n xs) us-of in record {
        plain = ap (λ b. b && row_plain types ts (drop n row)) f.plain ∙ sym (plain-append types fs ts (take n row) (drop n row) front-length)
            ∙ ap (row_plain types (fs ++ ts)) (take-append-drop n row) ∙ r.plain;
        value = z.0 ∷ drop n xs;
        matched = ap (λ b. b && row_matches (drop n row) (drop n xs)) (f.matches z.0 ∙ ap (λ b. b && row_matches (take n row) (subs z.0)) z.1 ∙ ap (row_matches (take n row)) z.2)
            ∙ sym (split-row n row (take n xs) (drop n xs) us-length long) ∙ ap (row_matches row) (take-append-drop n xs) ∙ r.matched;
        found = same-useful z.0 (drop n xs) z.1 (ap (λ l. length l) z.2 ∙ us-length) kept
            ∙ ap (λ l. useful_by types (fs ++ ts) (S wanted) (S unwanted) (l ++ drop n xs)) z.2
            ∙ ap (useful_by types (fs ++ ts) (S wanted) (S unwanted)) (take-append-drop n xs) ∙ r.found;
        all = found-all;
      }

-- by the forms of heads and types
pub part-found : (types : List DataDecl) (ty : Ty) (ts : List Ty) (wanted unwanted : List (List Pat)) (h : Head) (fs : List Ty) (at : fields_at types ty h ≡ Some fs)
    (row : List Pat) (kept : length (special h (length fs) wanted) ≡ length wanted) (r : RowIsFound types (fs ++ ts) (special h (length fs) wanted) (special h (length fs) unwanted) row)
    → RowIsFound types (ty ∷ ts) wanted unwanted (row_for_parent (step_of ty h (length fs)) row)
part-found types (Int bits) ts wanted unwanted (H.Num m) fs at row kept r =
    let f = fits-num (nat_lt m (2 ^ bits)) fs at in
    let none : length fs ≡ 0 = ap (λ l. length l) f.1 in
    let front : IsFront types (Int bits) (H.Num m) fs (take (length fs) row) (Pats.Num 0 m) =
    subst (λ l. IsFront types (Int bits) (H.Num m) l (take (length l) row) (Pats.Num 0 m)) (sym f.1) (number-front types bits m f.0) in
    subst (λ k. RowIsFound types (Int bits ∷ ts) wanted unwanted (Pats.Num 0 m ∷ drop k row)) none
    (found-front types (Int bits) ts wanted unwanted (H.Num m) fs at row kept r (Pats.Num 0 m) front)
part-found types (Int bits) ts wanted unwanted (H.Con c) fs at row kept r = absurd (none-some fs at)
part-found types (Named t) ts wanted unwanted (H.Num m) fs at row kept r = absurd (none-some fs at)
part-found types (Named t) ts wanted unwanted (H.Con c) fs at row kept r =
    found-front types (Named t) ts wanted unwanted (H.Con c) fs at row kept r _ (con-front types t c fs (take (length fs) row) at)
