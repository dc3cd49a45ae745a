-- Provenances of typed programs fit their types.
use Rattle.std.proofs.Common.{◌≡◌, ℕ, zero, suc, ◌==◌, ◌&&◌, map, length, List, [], ◌∷◌, ◌++◌, Bool, true, false, Option, Some, None, Ok, Err, refl, sym, ap, ◌∙◌, arith}
use Rattle.std.specs.Prelude.{slice_get, is_some, unwrap_or, if◌then◌else◌}
use Rattle.std.specs.List.{list_all}
use Rattle.std.specs.Result.{result_err}
use Rattle.std.proofs.lemmas.Bool.{and_parts}
use Rattle.std.proofs.lemmas.Option.{same_Some}
use Rattle.rb_core.specs.declared.types.Ty.{Ty}
use Rattle.rb_core.specs.declared.types.Ty.TheVariants.{Int, Named}
use Rattle.rb_core.specs.declared.types.ConRef.{ConRef}
use Rattle.rb_core.specs.declared.types.DataDecl.{DataDecl}
use Rattle.rb_core.specs.declared.program.Param.{Param}
use Rattle.rb_core.specs.declared.pattern.Pat.{Pat, out-Pat, Wild, Var, Num, Con}
use Rattle.rb_core.specs.declared.pattern.Pat.TheVariants.{outs-Con}
use Rattle.rb_core.specs.declared.typing.TypeFault.{TypeFault}
use Rattle.rb_core.specs.declared.typing.TypeFault.TheVariants.{Mismatch, Arity}
use Rattle.rb_core.specs.Typing.{Typing, and_then, same_type, type_holds, number_type, field_types, also_bound, subpatterns, field_params, pattern_params, distinct_binders}
use Rattle.rb_core.specs.TypedPrograms.{first_fault, provenance_fault}
use Rattle.rb_core.specs.Values.{all_of_types, are_of, fields_of}
use Rattle.rb_core.specs.WellNumbered.{pattern_is_numbered, is_constructor, Below, below_step, is_provenance}
use Rattle.rb_core.specs.Layouts.{is_short}
use Rattle.rb_core.specs.declared.pattern.Pat.TheFolds.{fold-Pat}
use Rattle.rb_core.specs.WellNumbered as W
use Rattle.rb_core.proofs.PatternLaws.{Each, induction, fold-Wild, fold-Var, fold-Num, fold-Con}
use Rattle.rb_core.proofs.TypingLemmas.{pattern-Num, pattern-Con}
use Rattle.rb_layout.specs.Positions.{root_type}
use Rattle.rb_rel.specs.Provenances.{fits_type, fits_step, is_named}
use Rattle.rb_rel.proofs.Lists.{and_true}
use Rattle.rb_rel.proofs.Opens.{fits-Con, fits-Num}
use Rattle.rb_rel.proofs.Reading.{same_nat}

-- where both parts went well, the whole did
then-ok : {A B : Type 0} (x : Typing A) (go : A → Typing B) (b : B) → ◌≡◌ {A = Typing B} (and_then x go) (Ok b) → (a : A) × ◌≡◌ {A = Typing A} x (Ok a) × ◌≡◌ {A = Typing B} (go a) (Ok b)
then-ok (Ok a) go b e = (a, refl, e)
then-ok (Err fault) go b e = absurd cc

chosen-ok : {A : Type 0} (t : Bool) (x : Typing A) (fault : TypeFault) (a : A) → ◌≡◌ {A = Typing A} (if t then x else Err fault) (Ok a) → (t ≡ true) × ◌≡◌ {A = Typing A} x (Ok a)
chosen-ok true x fault a e = (refl, e)
chosen-ok false x fault a e = absurd cc

module _ (types : List DataDecl) where
  abbrev Fits : Pat → Type 0
  Fits p = (ty : Ty) (bs : List Param) → pattern_is_numbered types p ≡ true → ◌≡◌ {A = Typing (List Param)} (pattern_params types p ty) (Ok bs) → fits_type types p ty ≡ true

  subs_fit : (ps : List Pat) → Each Fits ps → (ts : List Ty) (bs : List Param) → length (map (pattern_params types) ps) ≡ length ts
      → list_all (λ b. b) (map (pattern_is_numbered types) ps) ≡ true
      → ◌≡◌ {A = Typing (List Param)} (subpatterns (map (pattern_params types) ps) ts) (Ok bs) → all_of_types (map (fits_type types) ps) ts ≡ true
  subs_fit [] each [] bs l n e = refl
  subs_fit [] each (t ∷ ts) bs l n e = absurd (omega (arith, l))
  subs_fit (p ∷ ps) each [] bs l n e = absurd (omega (arith, l))
  subs_fit (p ∷ ps) each (t ∷ ts) bs l n e =
      let rest = subpatterns (map (pattern_params types) ps) ts in
      let a = then-ok (pattern_params types p t) (λ bound. also_bound bound rest) bs e in
      let b = then-ok rest (λ qs. Ok (a.0 ++ qs)) bs a.2 in
      let m = and_parts (pattern_is_numbered types p) (list_all (λ b. b) (map (pattern_is_numbered types) ps)) n in
      and_true (fits_type types p t) (all_of_types (map (fits_type types) ps) ts) (each.0 t a.0 m.0 a.1) (subs_fit ps each.1 ts b.0 (omega (arith, l)) m.1 b.1)

  same_named : (ty : Ty) (t : ℕ) → same_type ty (Named t) ≡ true → is_named t ty ≡ true
  same_named (Int bits) t e = absurd cc
  same_named (Named s) t e = e

  fields_fit : (at : ℕ) (ps : List Pat) → Each Fits ps → (o : Option (List Ty)) (bs : List Param) → is_some o ≡ true
      → list_all (λ b. b) (map (pattern_is_numbered types) ps) ≡ true
      → ◌≡◌ {A = Typing (List Param)} (field_params at (map (pattern_params types) ps) (unwrap_or o [])) (Ok bs) → are_of (map (fits_type types) ps) o ≡ true
  fields_fit at ps each None bs some n e = absurd cc
  fields_fit at ps each (Some ts) bs some n e =
      let c = chosen-ok (length (map (pattern_params types) ps) == length ts) (subpatterns (map (pattern_params types) ps) ts) (Arity at (length ts) (length (map (pattern_params types) ps))) bs e in
      subs_fit ps each ts bs (same_nat (length (map (pattern_params types) ps)) (length ts) c.0) n c.1

  con_fits : (at : ℕ) (c : ConRef) (ps : List Pat) → Each Fits ps → Fits (Con at c ps)
  con_fits at c ps each ty bs n e =
      let a = and_parts (is_constructor types c) (is_short (map (pattern_is_numbered types) ps) && list_all (λ b. b) (map (pattern_is_numbered types) ps)) (sym (fold-Con Bool (W.numbered_pattern_step types) at c ps) ∙ n) in
      let b = and_parts (is_short (map (pattern_is_numbered types) ps)) (list_all (λ b. b) (map (pattern_is_numbered types) ps)) a.1 in
      let d = chosen-ok (same_type ty (Named c.ty)) (field_params at (map (pattern_params types) ps) (field_types types c)) (Mismatch at ty (Named c.ty)) bs (sym (pattern-Con types at c ps ty) ∙ e) in
      fits-Con types at c ps ty ∙ and_true (is_named c.ty ty) (are_of (map (fits_type types) ps) (fields_of types c)) (same_named ty c.ty d.0) (fields_fit at ps each (fields_of types c) bs a.0 b.1 d.1)

  pub typed_fits : (p : Pat) → Fits p
  typed_fits = induction Fits (record {
    wild = λ at ty bs n e. ap (λ (f : Ty → Bool). f ty) (fold-Wild (Ty → Bool) (fits_step types) at);
    var = λ at x ty bs n e. ap (λ (f : Ty → Bool). f ty) (fold-Var (Ty → Bool) (fits_step types) at x);
    num = λ at k ty bs n e. fits-Num types at k ty ∙ (chosen-ok (type_holds ty k) (Ok []) (Mismatch at ty (number_type k)) bs (sym (pattern-Num types at k ty) ∙ e)).0;
    con = con_fits;
  })

  abbrev Roots : Pat → Type 0
  Roots p = (t : ℕ) → is_provenance p ≡ true → fits_type types p (Named t) ≡ true → root_type (out-Pat p) ≡ Named t

  no_root : (p : Pat) → (fold-Pat Below below_step p).provenance ≡ false → is_provenance p ≡ true → ⊥
  no_root p e h = let x = sym e ∙ h in cc

  pub rooted : (p : Pat) → Roots p
  rooted = induction Roots (record {
    wild = λ at t is f. absurd (no_root (Wild at) (ap (λ (b : Below). b.provenance) (fold-Wild Below below_step at)) is);
    var = λ at x t is f. absurd (no_root (Var at x) (ap (λ (b : Below). b.provenance) (fold-Var Below below_step at x)) is);
    num = λ at k t is f. absurd (no_root (Num at k) (ap (λ (b : Below). b.provenance) (fold-Num Below below_step at k)) is);
    con = λ at c ps each t is f.
        let b = and_parts (is_named c.ty (Named t)) (are_of (map (fits_type types) ps) (fields_of types c)) (sym (fits-Con types at c ps (Named t)) ∙ f) in
        ap root_type (outs-Con at c ps) ∙ ap Named (sym (same_nat t c.ty b.0));
  })

  -- a provenance without a fault is typed
  pub faultless : (t : ℕ) (p : Pat) → provenance_fault types t p ≡ None → (bs : List Param) × ◌≡◌ {A = Typing (List Param)} (pattern_params types p (Named t)) (Ok bs)
  faultless t p e = go (pattern_params types p (Named t)) e
    where
      go : (x : Typing (List Param)) → result_err (and_then x distinct_binders) ≡ None → (bs : List Param) × ◌≡◌ {A = Typing (List Param)} x (Ok bs)
      go (Ok bs) h = (bs, refl)
      go (Err fault) h = absurd cc

-- none of several faults
pub none_before : (xs ys : List (Option TypeFault)) → first_fault (xs ++ ys) ≡ None → first_fault xs ≡ None
none_before [] ys e = refl
none_before (None ∷ xs) ys e = none_before xs ys e
none_before (Some f ∷ xs) ys e = absurd cc

pub none_at : (xs : List (Option TypeFault)) (k : ℕ) (x : Option TypeFault) → first_fault xs ≡ None → slice_get xs k ≡ Some x → x ≡ None
none_at [] k x e h = absurd cc
none_at (None ∷ xs) zero x e h = sym (same_Some _ _ h)
none_at (None ∷ xs) (suc k) x e h = none_at xs k x e h
none_at (Some f ∷ xs) k x e h = absurd cc
