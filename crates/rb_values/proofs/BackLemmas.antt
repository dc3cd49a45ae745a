-- The text of a value of a type spells a term that fits the type and names that value.
use Rattle.std.proofs.Common.{◌≡◌, ℕ, zero, suc, ◌+◌, ◌<◌, ◌≤◌, ◌^◌, List, [], ◌∷◌, ◌++◌, length, map, codes, nat_lt, nat_le, true, false, not, ◌&&◌, ◌==◌, Option, Some, None, option_map, Ok, slice_get, refl, sym, ◌∙◌, ap, subst, arith, length-append, append_assoc, append-nil, pow_mono}
use Rattle.std.specs.Prelude.{unwrap_or}
use Rattle.std.specs.Fmt.{decimal}
use Rattle.std.specs.List.{list_all, list_any, flat_map, prefix_len}
use Rattle.std.specs.Str.{bytes_eq}
use Rattle.std.proofs.lemmas.Bool.{ltb-true, leb-true, lt-ltb, eq-eqb, and_parts, or_parts, not-true}
use Rattle.std.proofs.lemmas.Bool.Decides.{Decides-eqb}
use Rattle.std.proofs.lemmas.Option.{get_or_from_slice_get}
use Rattle.std.proofs.lemmas.Slice.Eq.{slice_eq-Decides}
use Rattle.rb_core.specs.declared.value.Value.{Value, Num}
use Rattle.rb_core.specs.declared.value.Value as val
use Rattle.rb_core.specs.declared.types.Ty.{Ty}
use Rattle.rb_core.specs.declared.types.Ty.TheVariants.{Int, Named}
use Rattle.rb_core.specs.declared.types.Con.{Con}
use Rattle.rb_core.specs.declared.types.ConRef.{ConRef}
use Rattle.rb_core.specs.declared.types.DataDecl.{DataDecl}
use Rattle.rb_core.specs.Typing.{type_holds}
use Rattle.rb_core.specs.Texts.{con_name, con_text}
use Rattle.rb_core.specs.Values.{con_in as core_con_in, con_of, fields_of_con, fields_in, all_of_types, are_of, is_of_type, node_count}
use Rattle.rb_core.specs.WellNumbered.{is_distinct, is_upper, is_between, is_type, con_names, con_is_numbered, type_is_numbered}
use Rattle.rb_core.proofs.MatchingLemmas.{all_at}
use Rattle.rb_core.proofs.ValueLaws.{Each, induction, is_of_type-Num, is_of_type-Con, fold-Num, fold-Con}
use Rattle.rb_syntax.specs.Fronts.{Front, front}
use Rattle.rb_values.specs.declared.sign.Sign.{Sign}
use Rattle.rb_values.specs.declared.sign.Sign.TheVariants as sign
use Rattle.rb_values.specs.Terms.{Term, Terms, number, build, none, also, term_count, term_nodes, term_signs, in_parens, others, signs}
use Rattle.rb_values.specs.Fitting.{con_index, con_in, con_named, con_fields, misfits_of, misfits, misfits_each, con_number, value_of, values_of}
use Rattle.rb_values.specs.Texts.{con_ref, type_of_field, field_of, before, after_last, fields_text, text_step, text_of}
use Rattle.rb_values.specs.Reading.{ValueIsRead}
use Rattle.rb_values.specs.Laws.{AreDeclared, IsReadAs}
use Rattle.rb_values.proofs.FittingLemmas.{as-many}
use Rattle.rb_values.proofs.AnswerLemmas.{one-answer}
use Rattle.rb_values.proofs.CuttingLemmas.{Shows, shows-end, shows-open, shows-close, shows-comma, Stops, shows-name, shows-number}

-- Names of constructors ---------------------------------------------------------------------------

same-bytes : (xs : List ℕ) → bytes_eq xs xs ≡ true
same-bytes xs = (slice_eq-Decides Decides-eqb xs xs (bytes_eq xs xs) refl).1 refl

abbrev Distinct : List (List ℕ) → Type 0
Distinct names = is_distinct bytes_eq names ≡ true

any-in : (x : List ℕ) (xs ys : List (List ℕ)) → list_any (bytes_eq x) (xs ++ ys) ≡ false → (list_any (bytes_eq x) xs ≡ false) × (list_any (bytes_eq x) ys ≡ false)
any-in x [] ys e = (refl, e)
any-in x (z ∷ xs) ys e =
    let h = or_parts (bytes_eq x z) (list_any (bytes_eq x) (xs ++ ys)) e in
    let r = any-in x xs ys h.1 in
    (rw h.0 r.0, r.1)

distinct-parts : (xs ys : List (List ℕ)) → Distinct (xs ++ ys) → Distinct xs × Distinct ys
distinct-parts [] ys e = (refl, e)
distinct-parts (x ∷ xs) ys e =
    let h = and_parts (not (list_any (bytes_eq x) (xs ++ ys))) (is_distinct bytes_eq (xs ++ ys)) e in
    let a = any-in x xs ys (not-true (list_any (bytes_eq x) (xs ++ ys)) h.0) in
    let r = distinct-parts xs ys h.1 in
    (rw a.0 r.0, r.1)

of-type : (types : List DataDecl) (t : ℕ) (d : DataDecl) → Distinct (flat_map con_names types) → slice_get types t ≡ Some d → Distinct (con_names d)
of-type [] t d e at = cc
of-type (x ∷ types) zero d e at =
    let same : x ≡ d = cc in subst (λ (d : DataDecl). Distinct (con_names d)) same (distinct-parts (con_names x) (flat_map con_names types) e).0
of-type (x ∷ types) (suc t) d e at = of-type types t d (distinct-parts (con_names x) (flat_map con_names types) e).1 at

other-name : (x : List ℕ) (cons : List Con) (k : ℕ) (c : Con) → list_any (bytes_eq x) (map (λ c. c.name) cons) ≡ false → slice_get cons k ≡ Some c → bytes_eq x c.name ≡ false
other-name x [] k c e at = cc
other-name x (d ∷ cons) zero c e at =
    let same : d ≡ c = cc in ap (λ (c : Con). bytes_eq x c.name) (sym same) ∙ (or_parts (bytes_eq x d.name) (list_any (bytes_eq x) (map (λ c. c.name) cons)) e).0
other-name x (d ∷ cons) (suc k) c e at = other-name x cons k c (or_parts (bytes_eq x d.name) (list_any (bytes_eq x) (map (λ c. c.name) cons)) e).1 at

-- a constructor is the first of its name
first-of : (cons : List Con) (k : ℕ) (c : Con) → Distinct (map (λ c. c.name) cons) → slice_get cons k ≡ Some c
    → (prefix_len (λ x. not (bytes_eq x.name c.name)) cons ≡ k) × (k < length cons)
first-of [] k c e at = cc
first-of (d ∷ cons) zero c e at =
    let same : d ≡ c = cc in
    let equal : bytes_eq d.name c.name ≡ true = ap (λ (c : Con). bytes_eq d.name c.name) (sym same) ∙ same-bytes d.name in
    (rw equal refl, omega arith)
first-of (d ∷ cons) (suc k) c e at =
    let h = and_parts (not (list_any (bytes_eq d.name) (map (λ c. c.name) cons))) (is_distinct bytes_eq (map (λ c. c.name) cons)) e in
    let differs : bytes_eq d.name c.name ≡ false = other-name d.name cons k c (not-true _ h.0) at in
    let r = first-of cons k c h.1 at in
    (rw differs (omega (arith, r.0)), omega (arith, r.1))

found : (cons : List Con) (k : ℕ) (c : Con) → Distinct (map (λ c. c.name) cons) → slice_get cons k ≡ Some c → con_index cons c.name ≡ Some k
found cons k c e at =
    let r = first-of cons k c e at in
    let within : nat_lt k (length cons) ≡ true = lt-ltb k (length cons) r.1 in
    rw (r.0, within) refl

-- Values and their terms --------------------------------------------------------------------------

text-Num : (types : List DataDecl) (n : ℕ) (ty : Ty) → text_of types (Num n) ty ≡ decimal n
text-Num types n ty = ap (λ (f : Ty → List ℕ). f ty) (fold-Num (Ty → List ℕ) (text_step types) n)

text-Con : (types : List DataDecl) (k : ℕ) (vs : List Value) (ty : Ty) →
    text_of types (val.Con k vs) ty ≡ con_text types (con_ref ty k) ++ fields_text (field_of types (con_ref ty k)) 0 (map (text_of types) vs)
text-Con types k vs ty = ap (λ (f : Ty → List ℕ). f ty) (fold-Con (Ty → List ℕ) (text_step types) k vs)

-- fields have these types from one on
abbrev AreFrom : (ℕ → Ty) → ℕ → List Ty → Type 0
AreFrom f j ts = (i : ℕ) (t : Ty) → slice_get ts i ≡ Some t → f (j + i) ≡ t

from-here : (f : ℕ → Ty) (j : ℕ) (t : Ty) (ts : List Ty) → AreFrom f j (t ∷ ts) → f j ≡ t
from-here f j t ts h = let e : j ≡ j + 0 = omega arith in ap f e ∙ h 0 t refl

from-next : (f : ℕ → Ty) (j : ℕ) (t : Ty) (ts : List Ty) → AreFrom f j (t ∷ ts) → AreFrom f (j + 1) ts
from-next f j t ts h i u e = let k : j + 1 + i ≡ j + suc i = omega arith in ap f k ∙ h (suc i) u e

last-text : (j : ℕ) → 0 < j → after_last j ≡ codes ")"
unfolding after_last
last-text zero h = absurd (omega (arith, h))
last-text (suc j) h = refl

between-text : (j : ℕ) → 0 < j → before j ≡ codes ", "
unfolding before
between-text zero h = absurd (omega (arith, h))
between-text (suc j) h = refl

first-text : before 0 ≡ codes "("
unfolding before
first-text = refl

none-text : after_last 0 ≡ []
unfolding after_last
none-text = refl

-- what a text says at a place, in front of what follows it
abbrev Says : ℕ → List ℕ → (List Sign → List Sign) → Type 0
Says at text show = (from : ℕ) (rest : List ℕ) (ss : List Sign) → Stops rest → from ≡ at + length text → Shows from rest ss → Shows at (text ++ rest) (show ss)

says-both : (at : ℕ) (one other : List ℕ) (show next : List Sign → List Sign) → ((rest : List ℕ) → Stops rest → Stops (other ++ rest))
    → Says at one show → Says (at + length one) other next → Says at (one ++ other) (λ ss. show (next ss))
says-both at one other show next ahead h g from rest ss stops e shown =
    subst (λ (bytes : List ℕ). Shows at bytes (show (next ss))) (sym (append_assoc one other rest))
    (h (at + length one) (other ++ rest) (next ss) (ahead rest stops) refl
    (g from rest ss stops (omega (arith, e, length-append one other)) shown))

says-open : (at : ℕ) (text : List ℕ) (show : List Sign → List Sign) → Says (at + 1) text show → Says at (codes "(" ++ text) (λ ss. sign.Open ∷ show ss)
says-open at text show h from rest ss stops e shown =
    shows-open at (at + 1) (text ++ rest) (show ss) refl (h from rest ss stops (omega (arith, e, length-append (codes "(") text)) shown)

says-comma : (at : ℕ) (text : List ℕ) (show : List Sign → List Sign) → Says (at + 2) text show → Says at (codes ", " ++ text) (λ ss. sign.Comma ∷ show ss)
says-comma at text show h from rest ss stops e shown =
    shows-comma at (at + 2) (text ++ rest) (show ss) refl (h from rest ss stops (omega (arith, e, length-append (codes ", ") text)) shown)

module _ (types : List DataDecl) where
  -- the text of a value at a place spells a term that names it
  record IsSpelled (ty : Ty) (at : ℕ) (v : Value) : Type 0 where
    term : Term
    fits : misfits types term ty ≡ []
    value : value_of types term ty ≡ v
    says : Says at (text_of types v ty) (term_signs term)

  abbrev Claim : Value → Type 0
  Claim v = (ty : Ty) → is_type types ty ≡ true → is_of_type types v ty ≡ true → (at : ℕ) → IsSpelled ty at v

  -- a text of fields spells terms that name them
  record AreSpelled (tys : List Ty) (at : ℕ) (vs : List Value) (text : List ℕ) (show : Terms → List Sign → List Sign) : Type 0 where
    terms : Terms
    count : term_count terms ≡ length tys
    fits : misfits_each types terms tys ≡ []
    values : values_of types terms tys ≡ vs
    says : Says at text (show terms)
    ahead : (rest : List ℕ) → Stops rest → Stops (text ++ rest)

  -- a field and those behind it, with what stands before it
  one-more : (t : Ty) (ts : List Ty) (at : ℕ) (v : Value) (vs : List Value) (more : List ℕ) (s : IsSpelled t at v)
      → (r : AreSpelled ts (at + length (text_of types v t)) vs more others)
      → (misfits types s.term t ++ misfits_each types r.terms ts ≡ []) × (value_of types s.term t ∷ values_of types r.terms ts ≡ v ∷ vs)
      × Says at (text_of types v t ++ more) (λ ss. term_signs s.term (others r.terms ss))
  one-more t ts at v vs more s r = (
    rw (s.fits, r.fits) refl,
    rw (s.value, r.values) refl,
    says-both at (text_of types v t) more (term_signs s.term) (others r.terms) r.ahead s.says r.says,
  )

  behind : (vs : List Value) → Each Claim vs → (tys : List Ty) (f : ℕ → Ty) (j at : ℕ) → 0 < j → AreFrom f j tys → list_all (is_type types) tys ≡ true
      → all_of_types (map (is_of_type types) vs) tys ≡ true → AreSpelled tys at vs (fields_text f j (map (text_of types) vs)) others
  behind [] es [] f j at some from known e = subst (λ (text : List ℕ). AreSpelled [] at [] text others) (sym (last-text j some)) (record {
    terms = none;
    count = refl;
    fits = refl;
    values = refl;
    says = λ from rest ss stops e shown. shows-close at from rest ss e shown;
    ahead = λ rest stops. refl;
  })
  behind [] es (t ∷ ts) f j at some from known e = cc
  behind (v ∷ vs) es [] f j at some from known e = cc
  behind (v ∷ vs) es (t ∷ ts) f j at some from known e =
      let of = and_parts (is_of_type types v t) (all_of_types (map (is_of_type types) vs) ts) e in
      let in_types = and_parts (is_type types t) (list_all (is_type types) ts) known in
      let more : List ℕ = fields_text f (j + 1) (map (text_of types) vs) in
      let s : IsSpelled t (at + 2) v = es.0 t in_types.0 of.0 (at + 2) in
      let r : AreSpelled ts (at + 2 + length (text_of types v t)) vs more others =
      behind vs es.1 ts f (j + 1) (at + 2 + length (text_of types v t)) (omega arith) (from-next f j t ts from) in_types.1 of.1 in
      let m = one-more t ts (at + 2) v vs more s r in
      let text : before j ++ (text_of types v (f j) ++ more) ≡ codes ", " ++ (text_of types v t ++ more) =
      ap (λ (b : List ℕ). b ++ (text_of types v (f j) ++ more)) (between-text j some)
      ∙ ap (λ (u : Ty). codes ", " ++ (text_of types v u ++ more)) (from-here f j t ts from) in
      subst (λ (text : List ℕ). AreSpelled (t ∷ ts) at (v ∷ vs) text others) (sym text) (record {
        terms = also s.term r.terms;
        count = ap (λ (n : ℕ). suc n) r.count;
        fits = m.0;
        values = m.1;
        says = says-comma at (text_of types v t ++ more) _ m.2;
        ahead = λ rest stops. refl;
      })

  parens : (vs : List Value) → Each Claim vs → (tys : List Ty) (f : ℕ → Ty) (at : ℕ) → AreFrom f 0 tys → list_all (is_type types) tys ≡ true
      → all_of_types (map (is_of_type types) vs) tys ≡ true → AreSpelled tys at vs (fields_text f 0 (map (text_of types) vs)) in_parens
  parens [] es [] f at from known e = subst (λ (text : List ℕ). AreSpelled [] at [] text in_parens) (sym none-text) (record {
    terms = none;
    count = refl;
    fits = refl;
    values = refl;
    says = λ from rest ss stops e shown. let same : from ≡ at = omega (arith, e) in subst (λ (n : ℕ). Shows n rest ss) same shown;
    ahead = λ rest stops. stops;
  })
  parens [] es (t ∷ ts) f at from known e = cc
  parens (v ∷ vs) es [] f at from known e = cc
  parens (v ∷ vs) es (t ∷ ts) f at from known e =
      let of = and_parts (is_of_type types v t) (all_of_types (map (is_of_type types) vs) ts) e in
      let in_types = and_parts (is_type types t) (list_all (is_type types) ts) known in
      let more : List ℕ = fields_text f (0 + 1) (map (text_of types) vs) in
      let s : IsSpelled t (at + 1) v = es.0 t in_types.0 of.0 (at + 1) in
      let r : AreSpelled ts (at + 1 + length (text_of types v t)) vs more others =
      behind vs es.1 ts f (0 + 1) (at + 1 + length (text_of types v t)) (omega arith) (from-next f 0 t ts from) in_types.1 of.1 in
      let m = one-more t ts (at + 1) v vs more s r in
      let text : before 0 ++ (text_of types v (f 0) ++ more) ≡ codes "(" ++ (text_of types v t ++ more) =
      ap (λ (b : List ℕ). b ++ (text_of types v (f 0) ++ more)) first-text
      ∙ ap (λ (u : Ty). codes "(" ++ (text_of types v u ++ more)) (from-here f 0 t ts from) in
      subst (λ (text : List ℕ). AreSpelled (t ∷ ts) at (v ∷ vs) text in_parens) (sym text) (record {
        terms = also s.term r.terms;
        count = ap (λ (n : ℕ). suc n) r.count;
        fits = m.0;
        values = m.1;
        says = says-open at (text_of types v t ++ more) _ m.2;
        ahead = λ rest stops. refl;
      })

  number-spelled : (n : ℕ) → Claim (Num n)
  number-spelled n (Int bits) known e at =
      let wide = and_parts (nat_le 1 bits) (nat_le bits 64) known in
      let held : type_holds (Int bits) n ≡ true = sym (is_of_type-Num types n (Int bits)) ∙ e in
      let small : n < 2 ^ 64 = omega (arith, ltb-true n (2 ^ bits) held, pow_mono (leb-true bits 64 wide.1)) in
      record {
        term = number at n;
        fits = rw held refl;
        value = refl;
        says = subst (λ (text : List ℕ). Says at text (term_signs (number at n))) (sym (text-Num types n (Int bits)))
            (λ from rest ss stops e shown. shows-number at from n rest ss small stops e shown);
      }
  number-spelled n (Named t) known e at = let no : false ≡ true = sym (is_of_type-Num types n (Named t)) ∙ e in cc

  -- the constructor that a value of a data type has
  record Built (t k : ℕ) (vs : List Value) : Type 0 where
    data_type : DataDecl
    con : Con
    is_type : slice_get types t ≡ Some data_type
    is_con : slice_get data_type.cons k ≡ Some con
    fields : all_of_types (map (is_of_type types) vs) con.fields ≡ true

  built : (t k : ℕ) (vs : List Value) → is_of_type types (val.Con k vs) (Named t) ≡ true → Built t k vs
  built t k vs e = at_type (slice_get types t) refl (sym (is_of_type-Con types k vs (Named t)) ∙ e) where
    at_con : (d : DataDecl) → slice_get types t ≡ Some d → (c : Option Con) → slice_get d.cons k ≡ c → are_of (map (is_of_type types) vs) (fields_of_con c) ≡ true → Built t k vs
    at_con d at None h e = cc
    at_con d at (Some c) h e = record { data_type = d; con = c; is_type = at; is_con = h; fields = e }

    at_type : (d : Option DataDecl) → slice_get types t ≡ d → are_of (map (is_of_type types) vs) (fields_in d k) ≡ true → Built t k vs
    at_type None at e = cc
    at_type (Some d) at e = at_con d at (slice_get d.cons k) refl e

  module _ (declared : AreDeclared types) where
    module _ (t k : ℕ) (vs : List Value) (b : Built t k vs) where
      con-numbered : con_is_numbered types b.con ≡ true
      con-numbered =
          let d = all_at (type_is_numbered types) types t b.data_type declared.numbered b.is_type in
          let counts = and_parts (is_upper b.data_type.name) (is_between 1 256 (length b.data_type.cons) && list_all (con_is_numbered types) b.data_type.cons) d in
          all_at (con_is_numbered types) b.data_type.cons k b.con (and_parts (is_between 1 256 (length b.data_type.cons)) (list_all (con_is_numbered types) b.data_type.cons) counts.1).1 b.is_con

      named : is_upper b.con.name ≡ true
      named = (and_parts (is_upper b.con.name) (nat_le (length b.con.fields) 32 && list_all (is_type types) b.con.fields) con-numbered).0

      field-types : list_all (is_type types) b.con.fields ≡ true
      field-types = (and_parts (nat_le (length b.con.fields) 32) (list_all (is_type types) b.con.fields)
          (and_parts (is_upper b.con.name) (nat_le (length b.con.fields) 32 && list_all (is_type types) b.con.fields) con-numbered).1).1

      abbrev its-ref : ConRef
      its-ref = con_ref (Named t) k

      con-is : con_of types its-ref ≡ Some b.con
      con-is = ap (λ (d : Option DataDecl). core_con_in d k) b.is_type ∙ b.is_con

      name-is : con_text types its-ref ≡ b.con.name
      name-is = ap con_name con-is

      are-fields : AreFrom (field_of types its-ref) 0 b.con.fields
      unfolding field_of
      are-fields i u e = let same : 0 + i ≡ i = omega arith in
          ap (λ (j : ℕ). type_of_field (con_of types its-ref) j) same ∙ ap (λ (c : Option Con). type_of_field c i) con-is ∙ get_or_from_slice_get b.con.fields i u (Int 1) e

      con-named : con_named types (Named t) b.con.name ≡ Some (record { ty = t; con = k })
      con-named = ap (con_in t b.con.name) b.is_type
          ∙ ap (option_map (λ (k : ℕ). record { ty = t; con = k })) (found b.data_type.cons k b.con (of-type types t b.data_type declared.names b.is_type) b.is_con)

      its-fields : con_fields types (con_named types (Named t) b.con.name) ≡ Some b.con.fields
      its-fields = ap (con_fields types) con-named ∙ ap (λ (d : Option DataDecl). fields_in d k) b.is_type ∙ ap fields_of_con b.is_con

      construction-spelled : Each Claim vs → (at : ℕ) → IsSpelled (Named t) at (val.Con k vs)
      construction-spelled es at =
          let r : AreSpelled b.con.fields (at + length b.con.name) vs (fields_text (field_of types its-ref) 0 (map (text_of types) vs)) in_parens =
          parens vs es b.con.fields (field_of types its-ref) (at + length b.con.name) are-fields field-types b.fields in
          let same : (term_count r.terms == length b.con.fields) ≡ true = eq-eqb (term_count r.terms) (length b.con.fields) r.count in
          let text : text_of types (val.Con k vs) (Named t) ≡ b.con.name ++ fields_text (field_of types its-ref) 0 (map (text_of types) vs) =
          text-Con types k vs (Named t) ∙ ap (λ (name : List ℕ). name ++ fields_text (field_of types its-ref) 0 (map (text_of types) vs)) name-is in
          record {
            term = build at b.con.name r.terms;
            fits = ap (misfits_of at (term_count r.terms) (misfits_each types r.terms)) its-fields ∙ rw same r.fits;
            value = ap (λ (o : Option (List Ty)). val.Con (con_number (con_named types (Named t) b.con.name)) (values_of types r.terms (unwrap_or o []))) its-fields
                ∙ ap (λ (o : Option ConRef). val.Con (con_number o) (values_of types r.terms b.con.fields)) con-named
                ∙ ap (λ (vs : List Value). val.Con k vs) r.values;
            says = subst (λ (text : List ℕ). Says at text (term_signs (build at b.con.name r.terms))) (sym text)
                (says-both at b.con.name (fields_text (field_of types its-ref) 0 (map (text_of types) vs)) (λ ss. sign.Name at b.con.name ∷ ss) (in_parens r.terms) r.ahead
                (λ from rest ss stops e shown. shows-name at from b.con.name rest ss named stops e shown) r.says);
          }

    build-spelled : (k : ℕ) (vs : List Value) → Each Claim vs → Claim (val.Con k vs)
    build-spelled k vs es (Int bits) known e at = let no : false ≡ true = sym (is_of_type-Con types k vs (Int bits)) ∙ e in cc
    build-spelled k vs es (Named t) known e at = construction-spelled t k vs (built t k vs e) es at

    spelled-at : (v : Value) → Claim v
    spelled-at = induction Claim number-spelled build-spelled

    module _ (ty : Ty) (limit : ℕ) (v : Value) (known : is_type types ty ≡ true) (typed : is_of_type types v ty ≡ true) (within : node_count v ≤ limit) where
      read : ValueIsRead types ty limit (text_of types v ty) (Ok v)
      read =
          let s : IsSpelled ty 0 v = spelled-at v ty known typed 0 in
          let text : List ℕ = text_of types v ty in
          let shown : Shows 0 (text ++ []) (term_signs s.term []) = s.says (length text) [] [] refl (omega arith) (shows-end (length text)) in
          let whole : Shows 0 text (term_signs s.term []) = subst (λ (bytes : List ℕ). Shows 0 bytes (term_signs s.term [])) (append-nil text) shown in
          let tokens : front text ≡ record { tokens = whole.tokens; fault = None } = whole.cut (length text) (omega arith) in
          let nodes : node_count v ≡ term_nodes s.term = ap node_count (sym s.value) ∙ as-many types s.term ty s.fits in
          record {
            term = s.term;
            spells = (ap (λ (f : Front). f.fault) tokens, ap (λ (f : Front). signs f.tokens) tokens ∙ whole.are);
            within = omega (arith, nodes, within);
            fits = s.fits;
            value = sym s.value;
          }

      pub read-back : IsReadAs types ty limit (text_of types v ty) v
      read-back = record {
        read = read;
        alone = λ r told h. one-answer types ty limit (text_of types v ty) r (Ok v) told (λ e. cc) h read;
      }
