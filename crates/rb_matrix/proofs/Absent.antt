-- Patterns that are absent from the heads of a column.
use Rattle.std.proofs.Common.{◌≡◌, ℕ, ◌^◌, ◌<◌, List, [], ◌∷◌, map, length, true, false, ◌&&◌, ◌==◌, Option, Some, None, refl, sym, ap, ◌∙◌, arith, subst, inl, inr}
use Rattle.std.specs.Prelude.{slice_get}
use Rattle.std.proofs.lemmas.Bool.{false≢true, eqb-true, eq-eqb, lt-ltb, ltb-true, cases_lt}
use Rattle.std.proofs.lemmas.Option.{none-some, slice_get_past}
use Rattle.rb_core.specs.declared.value.Value.{Value, Num, Con, out-Value}
use Rattle.rb_core.specs.declared.value.Value.TheOpen as V
use Rattle.rb_core.specs.declared.value.Value.TheVariants.{outs-Con}
use Rattle.rb_core.specs.declared.types.Con as Cons
use Rattle.rb_core.specs.declared.types.ConRef.{ConRef}
use Rattle.rb_core.specs.declared.types.DataDecl.{DataDecl}
use Rattle.rb_core.specs.declared.types.Ty.{Ty}
use Rattle.rb_core.specs.declared.types.Ty.TheVariants.{Int, Named}
use Rattle.rb_core.specs.declared.pattern.Pat.{Pat, Wild}
use Rattle.rb_core.specs.declared.pattern.Pat as Pats
use Rattle.rb_core.specs.Matching.{matches_of, is_number, is_con}
use Rattle.rb_core.specs.Values.{is_of_type, are_of, fields_in, fields_of_con}
use Rattle.rb_matrix.specs.declared.matrix.Head.{Head}
use Rattle.rb_matrix.specs.Heads.{any_begins}
use Rattle.rb_matrix.specs.Rows.{row_matches, vector_of}
use Rattle.rb_matrix.specs.Specialize.{wilds}
use Rattle.rb_matrix.specs.Search.{IsTypeIn, AreTypesIn, AreInhabited, is_plain}
use Rattle.rb_matrix.specs.Signature.{IsAbsent}
use Rattle.rb_matrix.proofs.Laws.{wild-matches, row-wilds}
use Rattle.rb_matrix.proofs.HeadLemmas.{any_begins-con}
use Rattle.rb_matrix.proofs.Inhabited.{out-num, live, lives, con-types}
use Rattle.rb_matrix.proofs.Vectors.{and-left, vector-length, con-of, con-of_int, num-of, num-of_int, num-matches, con-matches, wild-plain, num-plain, con-plain, wilds-plain}

pub none-of_length : (hs : List Head) → length hs ≡ 0 → hs ≡ []
none-of_length [] e = refl
none-of_length (h ∷ hs) e = absurd (omega (arith, e))

module _ (types : List DataDecl) where
  -- no head at all
  pub wild-absent : AreInhabited types → (t : Ty) (hs : List Head) → IsTypeIn types t → hs ≡ [] → IsAbsent types t (any_begins hs) (Wild 0)
  wild-absent i t hs h none = let v = live types i t h in record {
    plain = wild-plain types t;
    value = v.0;
    typed = v.1;
    matched = wild-matches v.0;
    apart = λ w of matched. ap (λ l. any_begins l (out-Value w)) none;
  }

  -- a number that is not listed
  module _ (bits n : ℕ) (hs : List Head) (fits : n < 2 ^ bits) (gone : any_begins hs (V.Num n) ≡ false) where
    number-apart : (v : Value) (l : V.Value-F Value) → out-Value v ≡ l → matches_of (Pats.Num 0 n) v ≡ true → any_begins hs l ≡ false
    number-apart v (V.Num m) is e =
        let same = eqb-true n m (sym (num-matches 0 n v ∙ ap (is_number n) is) ∙ e) in ap (λ i. any_begins hs (V.Num i)) (sym same) ∙ gone
    number-apart v (V.Con k us) is e = absurd (false≢true (sym (num-matches 0 n v ∙ ap (is_number n) is) ∙ e))

    pub number-absent : IsAbsent types (Int bits) (any_begins hs) (Pats.Num 0 n)
    number-absent = record {
      plain = num-plain types n bits ∙ lt-ltb n (2 ^ bits) fits;
      value = Num n;
      typed = num-of_int types (Num n) n bits (out-num n) ∙ lt-ltb n (2 ^ bits) fits;
      matched = num-matches 0 n (Num n) ∙ ap (is_number n) (out-num n) ∙ eq-eqb n n refl;
      apart = λ v of e. number-apart v (out-Value v) refl e;
    }

  -- every number of the type is listed
  pub numbers-all : (bits : ℕ) (hs : List Head) → ((m : ℕ) → m < 2 ^ bits → any_begins hs (V.Num m) ≡ true)
      → (v : Value) → is_of_type types v (Int bits) ≡ true → any_begins hs (out-Value v) ≡ true
  numbers-all bits hs all v of = by (out-Value v) refl
    where
      by : (l : V.Value-F Value) → out-Value v ≡ l → any_begins hs l ≡ true
      by (V.Num m) is = all m (ltb-true m (2 ^ bits) (sym (num-of_int types v m bits is) ∙ of))
      by (V.Con k us) is = absurd (false≢true (sym (con-of_int types v k bits us is) ∙ of))

  -- a constructor that is not listed
  module _ (t k : ℕ) (fs : List Ty) (hs : List Head) (fields : fields_in (slice_get types t) k ≡ Some fs) (i : AreInhabited types) (alive : AreTypesIn types fs) (gone : any_begins hs (V.Con k []) ≡ false) where
    abbrev c : ConRef
    c = record { ty = t; con = k }

    abbrev q : Pat
    q = Pats.Con 0 c (wilds (length fs))

    us : List Value
    us = (lives types i fs alive).0

    us-of : vector_of types fs us ≡ true
    unfolding us
    us-of = (lives types i fs alive).1

    con-apart : (v : Value) (l : V.Value-F Value) → out-Value v ≡ l → matches_of q v ≡ true → any_begins hs l ≡ false
    con-apart v (V.Num m) is e = absurd (false≢true (sym (con-matches 0 c (wilds (length fs)) v ∙ ap (λ l. is_con k (map matches_of (wilds (length fs))) l) is) ∙ e))
    con-apart v (V.Con j ws) is e =
        let first = sym (con-matches 0 c (wilds (length fs)) v ∙ ap (λ l. is_con k (map matches_of (wilds (length fs))) l) is) ∙ e in
        let same = eqb-true k j (and-left (k == j) (row_matches (wilds (length fs)) ws) first) in
        any_begins-con hs j ws ∙ ap (λ i. any_begins hs (V.Con i [])) (sym same) ∙ gone

    con-absent_all : IsAbsent types (Named t) (any_begins hs) q
    con-absent_all = record {
      plain = con-plain types t k (wilds (length fs)) ∙ ap (are_of (map (is_plain types) (wilds (length fs)))) fields ∙ wilds-plain types fs;
      value = Con k us;
      typed = con-of types (Con k us) k us t (outs-Con k us) ∙ ap (are_of (map (is_of_type types) us)) fields ∙ us-of;
      matched = con-matches 0 c (wilds (length fs)) (Con k us) ∙ ap (λ l. is_con k (map matches_of (wilds (length fs))) l) (outs-Con k us)
          ∙ ap (λ b. b && row_matches (wilds (length fs)) us) (eq-eqb k k refl) ∙ ap (λ n. row_matches (wilds n) us) (sym (vector-length types fs us us-of)) ∙ row-wilds us;
      apart = λ v of e. con-apart v (out-Value v) refl e;
    }

    pub con-absent : (whole : Pat) (ws : List Pat) → whole ≡ Pats.Con 0 c ws → ws ≡ wilds (length fs) → IsAbsent types (Named t) (any_begins hs) whole
    con-absent whole ws is are = subst (IsAbsent types (Named t) (any_begins hs)) (sym (is ∙ ap (λ l. Pats.Con 0 c l) are)) con-absent_all

  -- a constructor's fields, where the program has it
  abbrev fields_or : List Ty → Option (List Ty) → List Ty
  fields_or d None = d
  fields_or d (Some fs) = fs

  at-con : (d : DataDecl) (t k : ℕ) (fs : List Ty) (o : Option Cons.Con) → slice_get types t ≡ Some d → slice_get d.cons k ≡ o → fields_of_con o ≡ Some fs
      → (e : DataDecl) × (c : Cons.Con) × (slice_get types t ≡ Some e) × (slice_get e.cons k ≡ Some c) × (c.fields ≡ fs)
  at-con d t k fs None e f h = absurd (none-some fs h)
  at-con d t k fs (Some c) e f h = (d, c, e, f, ap (fields_or fs) h)

  at-type : (t k : ℕ) (fs : List Ty) (o : Option DataDecl) → slice_get types t ≡ o → fields_in o k ≡ Some fs
      → (e : DataDecl) × (c : Cons.Con) × (slice_get types t ≡ Some e) × (slice_get e.cons k ≡ Some c) × (c.fields ≡ fs)
  at-type t k fs None e h = absurd (none-some fs h)
  at-type t k fs (Some d) e h = at-con d t k fs (slice_get d.cons k) e refl h

  pub con-at : (t k : ℕ) (fs : List Ty) → fields_in (slice_get types t) k ≡ Some fs
      → (e : DataDecl) × (c : Cons.Con) × (slice_get types t ≡ Some e) × (slice_get e.cons k ≡ Some c) × (c.fields ≡ fs)
  con-at t k fs h = at-type t k fs (slice_get types t) refl h

  pub fields-live : AreInhabited types → (t k : ℕ) (fs : List Ty) → fields_in (slice_get types t) k ≡ Some fs → AreTypesIn types fs
  fields-live i t k fs h = let a = con-at t k fs h in subst (AreTypesIn types) a.4 (con-types types i t k a.0 a.1 a.2 a.3)

  -- every constructor of the type is listed
  pub cons-all : (t : ℕ) (d : DataDecl) (hs : List Head) → slice_get types t ≡ Some d → ((k : ℕ) → k < length d.cons → any_begins hs (V.Con k []) ≡ true)
      → (v : Value) → is_of_type types v (Named t) ≡ true → any_begins hs (out-Value v) ≡ true
  cons-all t d hs e all v of = by (out-Value v) refl
    where
      by : (l : V.Value-F Value) → out-Value v ≡ l → any_begins hs l ≡ true
      by (V.Num m) is = absurd (false≢true (sym (num-of types v m t is) ∙ of))
      by (V.Con k us) is = any_begins-con hs k us ∙ elim (cases_lt k (length d.cons)) [
        | inl lt ↦ all k lt
        | inr le ↦ absurd (false≢true (sym (con-of types v k us t is ∙ ap (λ o. are_of (map (is_of_type types) us) (fields_in o k)) e ∙ ap (λ o. are_of (map (is_of_type types) us) (fields_of_con o)) (slice_get_past d.cons k le)) ∙ of))
      ]

  -- there is no such type
  pub no-type : (t : ℕ) → slice_get types t ≡ None → (v : Value) → is_of_type types v (Named t) ≡ true → ⊥
  no-type t e v of = by (out-Value v) refl
    where
      by : (l : V.Value-F Value) → out-Value v ≡ l → ⊥
      by (V.Num m) is = false≢true (sym (num-of types v m t is) ∙ of)
      by (V.Con k us) is = false≢true (sym (con-of types v k us t is ∙ ap (λ o. are_of (map (is_of_type types) us) (fields_in o k)) e) ∙ of)
