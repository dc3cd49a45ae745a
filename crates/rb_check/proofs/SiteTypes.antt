-- The matches of a well numbered program: each scrutinee has a type of the program, and each match has
-- fewer clauses than 32 bits number.
use Rattle.std.proofs.Common.{◌≡◌, ℕ, ◌<◌, ◌^◌, List, [], ◌∷◌, ◌++◌, map, length, Bool, true, false, ◌==◌, Option, Some, None, refl, sym, ◌∙◌, subst}
use Rattle.std.specs.Prelude.{slice_get, nat_lt, nat_le, unwrap_or, if◌then◌else◌, is_some}
use Rattle.std.specs.List.{list_all, flat_map}
use Rattle.std.proofs.lemmas.Bool.{lt-ltb, ltb-true, and_parts}
use Rattle.std.proofs.lemmas.List.{length-map}
use Rattle.std.proofs.lemmas.Option.{slice_get_within}
use Rattle.rb_core.specs.declared.types.Ty.{Ty}
use Rattle.rb_core.specs.declared.types.Ty.TheVariants.{Int, Named}
use Rattle.rb_core.specs.declared.types.Con.{Con}
use Rattle.rb_core.specs.declared.types.ConRef.{ConRef}
use Rattle.rb_core.specs.declared.types.DataDecl.{DataDecl}
use Rattle.rb_core.specs.declared.typing.Binder.{Binder}
use Rattle.rb_core.specs.declared.site.Site.{Site}
use Rattle.rb_core.specs.declared.pattern.Pat.{Pat}
use Rattle.rb_core.specs.declared.program.Fun.{Fun}
use Rattle.rb_core.specs.declared.program.Param.{Param}
use Rattle.rb_core.specs.declared.program.Program.{Program}
use Rattle.rb_core.specs.declared.expression.Op.{Op}
use Rattle.rb_core.specs.declared.expression.Op.TheVariants.{Eq, Lt}
use Rattle.rb_core.specs.declared.expression.Clause.{Clause}
use Rattle.rb_core.specs.declared.expression.Expr.{Expr}
use Rattle.rb_core.specs.declared.expression.Expr as X
use Rattle.rb_core.specs.declared.expression.Expr.TheOpen as E
use Rattle.rb_core.specs.Values.{fields_in, fields_of_con}
use Rattle.rb_core.specs.Typing.{binder_of, bound_type, field_types, operand_wanted, operator_type, result_of, result_type}
use Rattle.rb_core.specs.Inference.{all_binders, binders, first_clause_type, inferred_type, clause_inferred, with_binder}
use Rattle.rb_core.specs.Coverage.{branch_sites, function_sites, part_sites, sites, sites_of}
use Rattle.rb_core.specs.WellNumbered.{Within, expression_is_numbered, function_is_numbered, is_constructor, is_lower, is_type, param_is_numbered, vars_of}
use Rattle.rb_core.specs.TypedPrograms.{IsTyped}
use Rattle.rb_core.proofs.PatternLaws as PL
use Rattle.rb_core.proofs.ExpressionLaws as EL
use Rattle.rb_core.proofs.CoverageForms.{branch, part, sites-Clause, sites-Num, sites-Var, sites-Call, sites-Build, sites-Binary, sites-To, sites-Let, sites-Match}
use Rattle.rb_core.proofs.InferenceAgreement.{binders-Wild, binders-Var, binders-Num, binders-Con}
use Rattle.rb_core.proofs.InferenceForms.{clause_inferred-is, inferred-Num, inferred-Var, inferred-Call, inferred-Build, inferred-Binary, inferred-To, inferred-Let, inferred-Match}
use Rattle.rb_core.proofs.MatchingLemmas.{all_at}
use Rattle.rb_core.proofs.NumberedForms.{body_numbered, clause_numbered, numbered-is}
use Rattle.rb_matrix.specs.Search.{AreInhabited, AreTypesIn, IsTypeIn}
use Rattle.rb_matrix.proofs.Inhabited.{con-types}
use Rattle.rb_check.specs.inner.Covering.{AreNumberedSites}

module _ (types : List DataDecl) where
  -- each binder has a type of the program
  abbrev AreBound : List Binder → Type 0
  AreBound [] = Unit {0}
  AreBound (b ∷ bs) = IsTypeIn types b.ty × AreBound bs

  both_bound : (xs ys : List Binder) → AreBound xs → AreBound ys → AreBound (xs ++ ys)
  both_bound [] ys h k = k
  both_bound (x ∷ xs) ys h k = (h.0, both_bound xs ys h.1 k)

  variable-in : (outer : Ty) (x : ℕ) (bs : List Binder) → IsTypeIn types outer → AreBound bs → IsTypeIn types (bound_type outer x bs)
  variable-in outer x [] h k = h
  variable-in outer x (b ∷ bs) h k = variable-in (if b.var == x then b.ty else outer) x bs (of_test (b.var == x)) k.1
    where
      of_test : (c : Bool) → IsTypeIn types (if c then b.ty else outer)
      of_test true = k.0
      of_test false = h

  params_bound : (ps : List Param) → list_all (param_is_numbered types) ps ≡ true → AreBound (map binder_of ps)
  params_bound [] h = tt
  params_bound (p ∷ ps) h = let all = and_parts (is_type types p.ty) (list_all (param_is_numbered types) ps) h in (all.0, params_bound ps all.1)

  constructor-in : (c : ConRef) → is_constructor types c ≡ true → IsTypeIn types (Named c.ty)
  constructor-in c e = of_type (slice_get types c.ty) refl e
    where
      of_type : (o : Option DataDecl) → slice_get types c.ty ≡ o → is_some (fields_in o c.con) ≡ true → IsTypeIn types (Named c.ty)
      of_type None there h = cc
      of_type (Some d) there h = lt-ltb c.ty (length types) (slice_get_within types c.ty d there)

  -- the type that is wanted is one of the program
  abbrev IsWanted : Option Ty → Type 0
  IsWanted None = Unit {0}
  IsWanted (Some t) = IsTypeIn types t

  wanted_or : (wanted : Option Ty) (t : Ty) → IsWanted wanted → IsTypeIn types t → IsTypeIn types (unwrap_or wanted t)
  wanted_or None t w h = h
  wanted_or (Some u) t w h = w

  operand-wanted : (op : Op) (wanted : Option Ty) → IsWanted wanted → IsWanted (operand_wanted op wanted)
  operand-wanted Eq wanted w = tt
  operand-wanted Lt wanted w = tt
  operand-wanted op None w = tt
  operand-wanted op (Some (Int n)) w = w
  operand-wanted op (Some (Named t)) w = tt

  operator-in : (op : Op) (t : Ty) → IsTypeIn types t → IsTypeIn types (operator_type op t)
  operator-in Eq t h = refl
  operator-in Lt t h = refl
  operator-in op t h = h

  both_numbered : (xs ys : List Site) → AreNumberedSites types xs → AreNumberedSites types ys → AreNumberedSites types (xs ++ ys)
  both_numbered [] ys h k = k
  both_numbered (x ∷ xs) ys h k = (h.0, both_numbered xs ys h.1 k)

  module _ (inhabited : AreInhabited types) where
    fields-in : (c : ConRef) → AreTypesIn types (field_types types c)
    fields-in c = of_type (slice_get types c.ty) refl
      where
        of_con : (d : DataDecl) → slice_get types c.ty ≡ Some d → (o : Option Con) → slice_get d.cons c.con ≡ o → AreTypesIn types (unwrap_or (fields_of_con o) [])
        of_con d there None e = tt
        of_con d there (Some k) e = con-types types inhabited c.ty c.con d k there e

        of_type : (o : Option DataDecl) → slice_get types c.ty ≡ o → AreTypesIn types (unwrap_or (fields_in o c.con) [])
        of_type None there = tt
        of_type (Some d) there = of_con d there (slice_get d.cons c.con) refl

    -- a pattern binds variables of types of the program
    abbrev Binds : Pat → Type 0
    Binds p = (t : Ty) → IsTypeIn types t → AreBound (binders types p t)

    all_bind : (ps : List Pat) (ts : List Ty) → PL.Each Binds ps → AreTypesIn types ts → AreBound (all_binders (map (binders types) ps) ts)
    all_bind [] ts each h = tt
    all_bind (p ∷ ps) [] each h = tt
    all_bind (p ∷ ps) (t ∷ ts) each h = both_bound (binders types p t) _ (each.0 t h.0) (all_bind ps ts each.1 h.1)

    pattern-binds : (p : Pat) → Binds p
    pattern-binds = PL.induction Binds (record {
      wild = λ at t h. subst AreBound (sym (binders-Wild types at t)) tt;
      var = λ at x t h. subst AreBound (sym (binders-Var types at x t)) (h, tt);
      num = λ at n t h. subst AreBound (sym (binders-Num types at n t)) tt;
      con = λ at c ps each t h. subst AreBound (sym (binders-Con types at c ps t)) (all_bind ps (field_types types c) each (fields-in c));
    })

    module _ (funs : List Fun) (functions : list_all (function_is_numbered types funs) funs ≡ true) where
      -- a function's parameters and result, and its body within the parameters
      function-parts : (f : Fun) → function_is_numbered types funs f ≡ true
          → AreBound (map binder_of f.params) × IsTypeIn types f.result × (expression_is_numbered types funs f.body (map (λ p. p.var) f.params) ≡ true)
      function-parts f e =
          let named = and_parts (is_lower f.name) _ e in
          let counted = and_parts (nat_le (length f.params) 32) _ named.1 in
          let params = and_parts (list_all (param_is_numbered types) f.params) _ counted.1 in
          let body = and_parts (is_type types f.result) _ params.1 in
          (params_bound f.params params.0, body.0, body.1)

      result-in : (g : ℕ) → IsTypeIn types (result_type funs g)
      result-in g = of_fun (slice_get funs g) refl
        where
          of_fun : (o : Option Fun) → slice_get funs g ≡ o → IsTypeIn types (result_of o)
          of_fun None there = refl
          of_fun (Some f) there = (function-parts f (all_at (function_is_numbered types funs) funs g f functions there)).1

      abbrev numbered : Expr → Within
      numbered = expression_is_numbered types funs

      abbrev all_numbered : List Expr → List ℕ → Type 0
      all_numbered es xs = list_all (λ (w : Within). w xs) (map numbered es) ≡ true

      abbrev clauses_numbered : List Clause → List ℕ → Type 0
      clauses_numbered cs xs = list_all (λ (w : Within). w xs) (map (clause_numbered types funs) cs) ≡ true

      abbrev inferred : Expr → Option Ty → List Binder → Ty
      inferred = inferred_type types funs

      -- Inferred types

      abbrev HasType : Expr → Type 0
      HasType e = (xs : List ℕ) (wanted : Option Ty) (scope : List Binder) → numbered e xs ≡ true → IsWanted wanted → AreBound scope → IsTypeIn types (inferred e wanted scope)

      first_clause-in : (cs : List Clause) → EL.EachBody HasType cs → (xs : List ℕ) (t : Ty) (scope : List Binder) → clauses_numbered cs xs → IsTypeIn types t → AreBound scope
          → IsTypeIn types (first_clause_type types (map (clause_inferred types funs) cs) t scope)
      first_clause-in [] each xs t scope n h s = refl
      first_clause-in (c ∷ cs) each xs t scope n h s =
          let here = and_parts (clause_numbered types funs c xs) _ n in
          let bound = both_bound scope (binders types c.pat t) s (pattern-binds c.pat t h) in
          subst (λ (b : Pat × (Option Ty → List Binder → Ty)). IsTypeIn types (b.1 None (scope ++ binders types b.0 t))) (sym (clause_inferred-is types funs c))
          (each.0 (vars_of c.pat ++ xs) None (scope ++ binders types c.pat t) (body_numbered types funs c xs here.0) tt bound)

      type-in : (e : Expr) → HasType e
      unfolding X.roll-Expr denote.Hole.Carrier.roll
      type-in = EL.induction HasType (record {
        num = λ at n xs wanted scope e w s. subst (IsTypeIn types) (sym (inferred-Num types funs wanted scope at n)) (wanted_or wanted (Int 64) w refl);
        var = λ at x xs wanted scope e w s. subst (IsTypeIn types) (sym (inferred-Var types funs wanted scope at x)) (variable-in (Int 64) x scope refl s);
        call = λ at g es each xs wanted scope e w s. subst (IsTypeIn types) (sym (inferred-Call types funs wanted scope at g es)) (result-in g);
        build = λ at c es each xs wanted scope e w s.
            subst (IsTypeIn types) (sym (inferred-Build types funs wanted scope at c es)) (constructor-in c (and_parts (is_constructor types c) _ (sym (numbered-is types funs (E.Build at c es) xs) ∙ e)).0);
        binary = λ at op a b ha hb xs wanted scope e w s.
            let parts = and_parts (numbered a xs) (numbered b xs) (sym (numbered-is types funs (E.Binary at op a b) xs) ∙ e) in
            subst (IsTypeIn types) (sym (inferred-Binary types funs wanted scope at op a b))
            (operator-in op _ (wanted_or (operand_wanted op wanted) _ (operand-wanted op wanted w) (ha xs None scope parts.0 tt s)));
        to = λ at bits a ha xs wanted scope e w s.
            subst (IsTypeIn types) (sym (inferred-To types funs wanted scope at bits a)) (and_parts _ (numbered a xs) (sym (numbered-is types funs (E.To at bits a) xs) ∙ e)).0;
        bound = λ at x t a b ha hb xs wanted scope e w s.
            let parts = and_parts (is_type types t) _ (sym (numbered-is types funs (E.Let at x t a b) xs) ∙ e) in
            let rest = and_parts (numbered a xs) (numbered b (x ∷ xs)) parts.1 in
            subst (IsTypeIn types) (sym (inferred-Let types funs wanted scope at x t a b))
            (hb (x ∷ xs) wanted (with_binder scope x t) rest.1 w (both_bound scope _ s (parts.0, tt)));
        choice = λ at e cs he hcs xs wanted scope n w s.
            let parts = and_parts (numbered e xs) _ (sym (numbered-is types funs (E.Match at e cs) xs) ∙ n) in
            let more = and_parts _ _ parts.1 in
            let last = and_parts _ _ more.1 in
            subst (IsTypeIn types) (sym (inferred-Match types funs wanted scope at e cs))
            (wanted_or wanted _ w (first_clause-in cs hcs xs (inferred e None scope) scope last.1 (he xs None scope parts.0 tt s) s));
      })

      -- Matches

      abbrev HasSites : Expr → Type 0
      HasSites e = (xs : List ℕ) (scope : List Binder) → numbered e xs ≡ true → AreBound scope → AreNumberedSites types (sites types funs e scope)

      parts-numbered : (es : List Expr) → EL.Each HasSites es → (xs : List ℕ) (scope : List Binder) → all_numbered es xs → AreBound scope
          → AreNumberedSites types (flat_map (part_sites scope) (map (part types funs) es))
      parts-numbered [] each xs scope n s = tt
      parts-numbered (e ∷ es) each xs scope n s =
          let all = and_parts (numbered e xs) _ n in
          both_numbered (sites types funs e scope) _ (each.0 xs scope all.0 s) (parts-numbered es each.1 xs scope all.1 s)

      branches-numbered : (cs : List Clause) → EL.EachBody HasSites cs → (xs : List ℕ) (t : Ty) (scope : List Binder) → clauses_numbered cs xs → IsTypeIn types t → AreBound scope
          → AreNumberedSites types (flat_map (branch_sites types t scope) (map (branch types funs) cs))
      branches-numbered [] each xs t scope n h s = tt
      branches-numbered (c ∷ cs) each xs t scope n h s =
          let all = and_parts (clause_numbered types funs c xs) _ n in
          let within = scope ++ binders types c.pat t in
          let bound = both_bound scope (binders types c.pat t) s (pattern-binds c.pat t h) in
          both_numbered (branch_sites types t scope (branch types funs c)) _
          (subst (AreNumberedSites types) (sym (sites-Clause types funs c within)) (each.0 (vars_of c.pat ++ xs) within (body_numbered types funs c xs all.0) bound))
          (branches-numbered cs each.1 xs t scope all.1 h s)

      clause-count : (cs : List Clause) → nat_lt (length (map (clause_numbered types funs) cs)) (2 ^ 32) ≡ true → length (map (λ (b : Clause × (List Binder → List Site)). b.0.pat) (map (branch types funs) cs)) < 2 ^ 32
      clause-count cs e = let few = ltb-true (length (map (clause_numbered types funs) cs)) (2 ^ 32) e in simp length-map (simp length-map at few)

      sites-numbered : (e : Expr) → HasSites e
      unfolding X.roll-Expr denote.Hole.Carrier.roll
      sites-numbered = EL.induction HasSites (record {
        num = λ at n xs scope e s. subst (AreNumberedSites types) (sym (sites-Num types funs at n scope)) tt;
        var = λ at x xs scope e s. subst (AreNumberedSites types) (sym (sites-Var types funs at x scope)) tt;
        call = λ at g es each xs scope e s.
            let parts = and_parts _ _ (sym (numbered-is types funs (E.Call at g es) xs) ∙ e) in
            let more = and_parts _ _ parts.1 in
            subst (AreNumberedSites types) (sym (sites-Call types funs at g es scope)) (parts-numbered es each xs scope more.1 s);
        build = λ at c es each xs scope e s.
            let parts = and_parts (is_constructor types c) _ (sym (numbered-is types funs (E.Build at c es) xs) ∙ e) in
            let more = and_parts _ _ parts.1 in
            subst (AreNumberedSites types) (sym (sites-Build types funs at c es scope)) (parts-numbered es each xs scope more.1 s);
        binary = λ at op a b ha hb xs scope e s.
            let parts = and_parts (numbered a xs) (numbered b xs) (sym (numbered-is types funs (E.Binary at op a b) xs) ∙ e) in
            subst (AreNumberedSites types) (sym (sites-Binary types funs at op a b scope)) (both_numbered _ _ (ha xs scope parts.0 s) (hb xs scope parts.1 s));
        to = λ at bits a ha xs scope e s.
            let parts = and_parts _ (numbered a xs) (sym (numbered-is types funs (E.To at bits a) xs) ∙ e) in
            subst (AreNumberedSites types) (sym (sites-To types funs at bits a scope)) (ha xs scope parts.1 s);
        bound = λ at x t a b ha hb xs scope e s.
            let parts = and_parts (is_type types t) _ (sym (numbered-is types funs (E.Let at x t a b) xs) ∙ e) in
            let rest = and_parts (numbered a xs) (numbered b (x ∷ xs)) parts.1 in
            subst (AreNumberedSites types) (sym (sites-Let types funs at x t a b scope))
            (both_numbered _ _ (ha xs scope rest.0 s) (hb (x ∷ xs) (with_binder scope x t) rest.1 (both_bound scope _ s (parts.0, tt))));
        choice = λ at e cs he hcs xs scope n s.
            let parts = and_parts (numbered e xs) _ (sym (numbered-is types funs (E.Match at e cs) xs) ∙ n) in
            let more = and_parts _ _ parts.1 in
            let last = and_parts _ _ more.1 in
            let t = inferred e None scope in
            let ty : IsTypeIn types t = type-in e xs None scope parts.0 tt s in
            subst (AreNumberedSites types) (sym (sites-Match types funs at e cs scope))
            (record { ty = ty; short = clause-count cs last.0 }, both_numbered _ _ (he xs scope parts.0 s) (branches-numbered cs hcs xs t scope last.1 ty s));
      })

      functions-numbered : (fs : List Fun) → list_all (function_is_numbered types funs) fs ≡ true → AreNumberedSites types (flat_map (function_sites types funs) fs)
      functions-numbered [] h = tt
      functions-numbered (f ∷ fs) h =
          let all = and_parts (function_is_numbered types funs f) _ h in
          let parts = function-parts f all.0 in
          both_numbered (function_sites types funs f) _ (sites-numbered f.body _ (map binder_of f.params) parts.2 parts.0) (functions-numbered fs all.1)

pub types-inhabited : (p : Program) → IsTyped p → AreInhabited p.types
types-inhabited p typed = record { numbered = typed.numbered.types; values = typed.values }

-- the matches of a typed program
pub program-numbered : (p : Program) → IsTyped p → AreNumberedSites p.types (sites_of p)
program-numbered p typed = functions-numbered p.types (types-inhabited p typed) p.funs typed.numbered.functions p.funs typed.numbered.functions
