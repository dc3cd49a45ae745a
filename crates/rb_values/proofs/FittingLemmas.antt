-- A term that fits a type names a value of that type with as many nodes.
use Rattle.std.proofs.Common.{◌≡◌, ℕ, ◌+◌, ◌≤◌, List, [], ◌∷◌, ◌++◌, length, map, sum, Bool, true, false, ◌==◌, if◌then◌else◌, Option, Some, None, Result, Ok, Err, IfOk, option_map, slice_get, refl, ◌∙◌, ap, arith}
use Rattle.std.specs.Prelude.{unwrap_or}
use Rattle.std.proofs.lemmas.Bool.{eqb-true, and_from}
use Rattle.rb_core.specs.declared.value.Value.{Value, Num}
use Rattle.rb_core.specs.declared.value.Value as val
use Rattle.rb_core.specs.declared.types.Ty.{Ty}
use Rattle.rb_core.specs.declared.types.Ty.TheVariants.{Int, Named}
use Rattle.rb_core.specs.declared.types.ConRef.{ConRef}
use Rattle.rb_core.specs.declared.types.DataDecl.{DataDecl}
use Rattle.rb_core.specs.Typing.{type_holds}
use Rattle.rb_core.specs.Values.{fields_of, all_of_types, are_of, is_of_type, node_count}
use Rattle.rb_core.proofs.ValueLaws.{is_of_type-Num, is_of_type-Con, node_count-Num, node_count-Con}
use Rattle.rb_values.specs.declared.fault.ValueFault.{ValueFault}
use Rattle.rb_values.specs.Reading.{ValueIsRead}
use Rattle.rb_values.specs.Terms.{Term, Terms, number, build, none, also, term_count, term_nodes, terms_nodes}
use Rattle.rb_values.specs.Fitting.{con_index, con_in, con_named, con_fields, misfits_of, misfits, misfits_each, con_number, value_of, values_of}
use Rattle.rb_values.proofs.PrintLemmas.{nodes-cons}

fits-one : (b : Bool) (at : ℕ) (each : List ℕ) → (if b then each else at ∷ []) ≡ [] → (b ≡ true) × (each ≡ [])
fits-one true at each e = (refl, e)
fits-one false at each e = cc

fits-both : (xs ys : List ℕ) → xs ++ ys ≡ [] → (xs ≡ []) × (ys ≡ [])
fits-both [] ys e = (refl, e)
fits-both (x ∷ xs) ys e = cc

-- a name that fits has a constructor with so many fields, which fit theirs
fits-name : (at count : ℕ) (each : List Ty → List ℕ) (o : Option (List Ty)) → misfits_of at count each o ≡ []
    → (tys : List Ty) × (o ≡ Some tys) × (count ≡ length tys) × (each tys ≡ [])
fits-name at count each None e = cc
fits-name at count each (Some tys) e =
    let r = fits-one (count == length tys) at (each tys) e in
    (tys, refl, eqb-true count (length tys) r.0, r.1)

known-con : (types : List DataDecl) (o : Option ConRef) (tys : List Ty) → con_fields types o ≡ Some tys → (c : ConRef) × (o ≡ Some c) × (fields_of types c ≡ Some tys)
known-con types None tys e = cc
known-con types (Some c) tys e = (c, refl, e)

mapped-type : (t : ℕ) (o : Option ℕ) (c : ConRef) → option_map (λ (k : ℕ). record { ty = t; con = k }) o ≡ Some c → Named t ≡ Named c.ty
mapped-type t None c e = cc
mapped-type t (Some k) c e = let q : record { ty = t; con = k } ≡ c = cc in ap (λ (d : ConRef). Named d.ty) q

in-type : (t : ℕ) (name : List ℕ) (o : Option DataDecl) (c : ConRef) → con_in t name o ≡ Some c → Named t ≡ Named c.ty
in-type t name None c e = cc
in-type t name (Some d) c e = mapped-type t (con_index d.cons name) c e

named-type : (types : List DataDecl) (ty : Ty) (name : List ℕ) (c : ConRef) → con_named types ty name ≡ Some c → ty ≡ Named c.ty
named-type types (Int bits) name c e = cc
named-type types (Named t) name c e = in-type t name (slice_get types t) c e

module _ (types : List DataDecl) where
  of-integer : (n : ℕ) (ty : Ty) → type_holds ty n ≡ true → is_of_type types (Num n) ty ≡ true
  of-integer n (Int bits) h = is_of_type-Num types n (Int bits) ∙ h
  of-integer n (Named t) h = cc

  -- what a name that fits says
  record Fits (name : List ℕ) (fields : Terms) (ty : Ty) : Type 0 where
    con : ConRef
    tys : List Ty
    named : con_named types ty name ≡ Some con
    known : fields_of types con ≡ Some tys
    count : term_count fields ≡ length tys
    each : misfits_each types fields tys ≡ []
    value : (at : ℕ) → value_of types (build at name fields) ty ≡ val.Con con.con (values_of types fields tys)

  fits : (at : ℕ) (name : List ℕ) (fields : Terms) (ty : Ty) → misfits types (build at name fields) ty ≡ [] → Fits name fields ty
  fits at name fields ty e =
      let r = fits-name at (term_count fields) (misfits_each types fields) (con_fields types (con_named types ty name)) e in
      let c = known-con types (con_named types ty name) r.0 r.1 in
      record {
        con = c.0;
        tys = r.0;
        named = c.1;
        known = c.2;
        count = r.2;
        each = r.3;
        value = λ at.
            ap (λ (o : Option (List Ty)). val.Con (con_number (con_named types ty name)) (values_of types fields (unwrap_or o []))) r.1
            ∙ ap (λ (o : Option ConRef). val.Con (con_number o) (values_of types fields r.0)) c.1;
      }

  mutual
    pub is-of_type : (t : Term) (ty : Ty) → misfits types t ty ≡ [] → is_of_type types (value_of types t ty) ty ≡ true
    is-of_type (number at n) ty e = of-integer n ty (fits-one (type_holds ty n) at [] e).0
    is-of_type (build at name fields) ty e =
        let f = fits at name fields ty e in
        let vs : List Value = values_of types fields f.tys in
        ap (λ (v : Value). is_of_type types v ty) (f.value at)
        ∙ ap (λ (ty : Ty). is_of_type types (val.Con f.con.con vs) ty) (named-type types ty name f.con f.named)
        ∙ is_of_type-Con types f.con.con vs (Named f.con.ty)
        ∙ ap (are_of (map (is_of_type types) vs)) f.known
        ∙ are-of_types fields f.tys f.count f.each

    are-of_types : (ts : Terms) (tys : List Ty) → term_count ts ≡ length tys → misfits_each types ts tys ≡ []
        → all_of_types (map (is_of_type types) (values_of types ts tys)) tys ≡ true
    are-of_types none [] h e = refl
    are-of_types none (ty ∷ tys) h e = absurd (omega (arith, h))
    are-of_types (also t ts) [] h e = absurd (omega (arith, h))
    are-of_types (also t ts) (ty ∷ tys) h e =
        let b = fits-both (misfits types t ty) (misfits_each types ts tys) e in
        and_from _ _ (is-of_type t ty b.0) (are-of_types ts tys (omega (arith, h)) b.1)

  mutual
    pub as-many : (t : Term) (ty : Ty) → misfits types t ty ≡ [] → node_count (value_of types t ty) ≡ term_nodes t
    as-many (number at n) ty e = node_count-Num n
    as-many (build at name fields) ty e =
        let f = fits at name fields ty e in
        let vs : List Value = values_of types fields f.tys in
        ap node_count (f.value at) ∙ node_count-Con f.con.con vs ∙ ap (λ (n : ℕ). 1 + n) (as-many_each fields f.tys f.count f.each)

    as-many_each : (ts : Terms) (tys : List Ty) → term_count ts ≡ length tys → misfits_each types ts tys ≡ []
        → sum (map node_count (values_of types ts tys)) ≡ terms_nodes ts
    as-many_each none [] h e = refl
    as-many_each none (ty ∷ tys) h e = absurd (omega (arith, h))
    as-many_each (also t ts) [] h e = absurd (omega (arith, h))
    as-many_each (also t ts) (ty ∷ tys) h e =
        let b = fits-both (misfits types t ty) (misfits_each types ts tys) e in
        let n = as-many t ty b.0 in
        let m = as-many_each ts tys (omega (arith, h)) b.1 in
        omega (arith, n, m, nodes-cons (value_of types t ty) (values_of types ts tys))

  -- What is read is of its type, and has as many nodes as its text says ----------------------

  module _ (ty : Ty) (limit : ℕ) (text : List ℕ) where
    pub read-of_type : (r : Result Value ValueFault) → ValueIsRead types ty limit text r → IfOk r (λ (v : Value). is_of_type types v ty ≡ true)
    read-of_type (Ok v) h = ap (λ (v : Value). is_of_type types v ty) h.value ∙ is-of_type h.term ty h.fits
    read-of_type (Err e) h = tt

    pub read-within : (r : Result Value ValueFault) → ValueIsRead types ty limit text r → IfOk r (λ (v : Value). node_count v ≤ limit)
    read-within (Ok v) h = let n : node_count v ≡ term_nodes h.term = ap node_count h.value ∙ as-many h.term ty h.fits in omega (arith, n, h.within)
    read-within (Err e) h = tt
