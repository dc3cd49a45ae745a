-- The inferred type of an expression is the type that typing gives it, where typing gives one.
use Rattle.std.proofs.Common.{◌≡◌, ℕ, List, [], ◌∷◌, ◌++◌, map, length, Option, Some, None, Ok, ◌==◌, refl, sym, ap, ◌∙◌, eqb-true}
use Rattle.std.specs.Prelude.{unwrap_or}
use Rattle.std.proofs.lemmas.List.{map-append, length-map}
use Rattle.rb_core.specs.declared.types.Ty.{Ty}
use Rattle.rb_core.specs.declared.types.Ty.TheVariants.{Int, Named}
use Rattle.rb_core.specs.declared.types.ConRef.{ConRef}
use Rattle.rb_core.specs.declared.types.DataDecl.{DataDecl}
use Rattle.rb_core.specs.declared.program.Param.{Param}
use Rattle.rb_core.specs.declared.program.Fun.{Fun}
use Rattle.rb_core.specs.declared.typing.Binder.{Binder}
use Rattle.rb_core.specs.declared.pattern.Pat as Q
use Rattle.rb_core.specs.declared.pattern.Pat.{Pat}
use Rattle.rb_core.specs.declared.expression.Op.{Op}
use Rattle.rb_core.specs.declared.expression.Clause.{Clause}
use Rattle.rb_core.specs.declared.expression.Expr.{Expr}
use Rattle.rb_core.specs.Typing.{Typing, same_type, as_wanted, type_holds, number_typing, integer, distinct_binders, twice_at, first_repeat, binder_of, field_types, subpatterns, pattern_params, pattern_binders, arguments, param_types, result_type, operand_wanted, operator_type, integer_operand, operands_typing, clauses_typing, rule_of, clause_rule, type_of, variable_type}
use Rattle.rb_core.specs.Inference.{Inference, binders, all_binders, operands_type, match_type, inferred_type, clause_inferred, binders_step}
use Rattle.rb_core.proofs.PatternLaws as PL
use Rattle.rb_core.proofs.ExpressionLaws as EL
use Rattle.rb_core.proofs.TypingLemmas.{pattern-Wild, pattern-Var, pattern-Num, pattern-Con, type-Num, type-Var, type-Call, type-Build, type-Binary, type-To, type-Let, type-Match, type-Clause}
use Rattle.rb_core.proofs.TypingAnswers.{came, chosen, constructed, fits_found, fits_wanted, integer_is}
use Rattle.rb_core.proofs.InferenceForms.{inferred-Num, inferred-Var, inferred-Call, inferred-Build, inferred-Binary, inferred-To, inferred-Let, inferred-Match, clause_inferred-is}

number-is : (at n : ℕ) (wanted : Option Ty) (t : Ty) → number_typing at n wanted ≡ Ok t → unwrap_or wanted (Int 64) ≡ t
number-is at n None t e = cc
number-is at n (Some w) t e = (chosen (type_holds w n) w t _ e).1

distinct-are : (ps : List Param) (bs : List Binder) → distinct_binders ps ≡ Ok bs → map binder_of ps ≡ bs
distinct-are ps bs e = of_repeat (first_repeat ps) e
  where
    of_repeat : (o : Option ℕ) → twice_at o ps ≡ Ok bs → map binder_of ps ≡ bs
    of_repeat None h = cc
    of_repeat (Some at) h = cc

module _ (types : List DataDecl) where
  pub binders-Wild : (at : ℕ) (t : Ty) → binders types (Q.Wild at) t ≡ []
  binders-Wild at t = ap (λ (b : Ty → List Binder). b t) (PL.fold-Wild (Ty → List Binder) (binders_step types) at)

  pub binders-Var : (at x : ℕ) (t : Ty) → binders types (Q.Var at x) t ≡ record { var = x; ty = t } ∷ []
  binders-Var at x t = ap (λ (b : Ty → List Binder). b t) (PL.fold-Var (Ty → List Binder) (binders_step types) at x)

  pub binders-Num : (at n : ℕ) (t : Ty) → binders types (Q.Num at n) t ≡ []
  binders-Num at n t = ap (λ (b : Ty → List Binder). b t) (PL.fold-Num (Ty → List Binder) (binders_step types) at n)

  pub binders-Con : (at : ℕ) (c : ConRef) (ps : List Pat) (t : Ty) → binders types (Q.Con at c ps) t ≡ all_binders (map (binders types) ps) (field_types types c)
  binders-Con at c ps t = ap (λ (b : Ty → List Binder). b t) (PL.fold-Con (Ty → List Binder) (binders_step types) at c ps)

  abbrev Binds : Pat → Type 0
  Binds p = (t : Ty) (ps : List Param) → pattern_params types p t ≡ Ok ps → map binder_of ps ≡ binders types p t

  subpatterns-bind : (ps : List Pat) (ts : List Ty) (bound : List Param) → PL.Each Binds ps
      → length ps ≡ length ts → subpatterns (map (pattern_params types) ps) ts ≡ Ok bound → map binder_of bound ≡ all_binders (map (binders types) ps) ts
  subpatterns-bind [] ts bound each same e = let none : [] ≡ bound = cc in rw (← none) refl
  subpatterns-bind (p ∷ ps) [] bound each same e = absurd (cc same)
  subpatterns-bind (p ∷ ps) (t ∷ ts) bound each same e =
      let first = came (pattern_params types p t) _ bound e in
      let rest = came (subpatterns (map (pattern_params types) ps) ts) (λ qs. Ok (first.from ++ qs)) bound first.then_is in
      let all : first.from ++ rest.from ≡ bound = let h = rest.then_is in cc in
      let tail : length ps ≡ length ts = cc in
      rw (← all) (map-append binder_of first.from rest.from
      ∙ ap (λ bs. bs ++ map binder_of rest.from) (each.0 t first.from first.first_is)
      ∙ ap (λ bs. binders types p t ++ bs) (subpatterns-bind ps ts rest.from each.1 tail rest.first_is))

  bind : PL.Cases Binds
  bind = record {
    wild = λ at t ps e. let none : [] ≡ ps = let h = sym (pattern-Wild types at t) ∙ e in cc in rw (← none) (sym (binders-Wild at t));
    var = λ at x t ps e.
        let one : record { at = at; var = x; ty = t } ∷ [] ≡ ps = let h = sym (pattern-Var types at x t) ∙ e in cc in
        rw (← one) (sym (binders-Var at x t));
    num = λ at n t ps e.
        let none : [] ≡ ps = (chosen (type_holds t n) [] ps _ (sym (pattern-Num types at n t) ∙ e)).1 in rw (← none) (sym (binders-Num at n t));
    con = λ at c qs each t ps e.
        let typed = constructed (same_type t (Named c.ty)) _ _ ps (sym (pattern-Con types at c qs t) ∙ e) in
        let counted = constructed (length (map (pattern_params types) qs) == length (field_types types c)) _ _ ps typed.1 in
        let same : length qs ≡ length (field_types types c) = sym (length-map qs (pattern_params types)) ∙ eqb-true _ _ counted.0 in
        subpatterns-bind qs (field_types types c) ps each same counted.1 ∙ sym (binders-Con at c qs t);
  }

  pub params-are_binders : (p : Pat) → Binds p
  params-are_binders = PL.induction Binds bind

  -- the binders of a whole pattern are what it binds
  pub pattern_binders-are : (p : Pat) (t : Ty) (bs : List Binder) → pattern_binders types p t ≡ Ok bs → bs ≡ binders types p t
  pattern_binders-are p t bs e =
      let params = came (pattern_params types p t) distinct_binders bs e in
      sym (distinct-are params.from bs params.then_is) ∙ params-are_binders p t params.from params.first_is

-- Expressions

module _ (types : List DataDecl) (funs : List Fun) where
  abbrev ty : Expr → Option Ty → List Binder → Typing Ty
  ty = type_of types funs

  -- an expression of which a type is wanted has that type
  abbrev HasWanted : Expr → Type 0
  HasWanted e = (w : Ty) (scope : List Binder) (t : Ty) → ty e (Some w) scope ≡ Ok t → w ≡ t

  abbrev IsInferred : Expr → Type 0
  IsInferred e = (wanted : Option Ty) (scope : List Binder) (t : Ty) → ty e wanted scope ≡ Ok t → inferred_type types funs e wanted scope ≡ t

  -- a clause that is typed has a body that is, with the pattern's binders
  pub clause_typed : (c : Clause) (s : Ty) (wanted : Option Ty) (scope : List Binder) (t : Ty) → clause_rule types funs c s wanted scope ≡ Ok t → ty c.body wanted (scope ++ binders types c.pat s) ≡ Ok t
  clause_typed c s wanted scope t e =
      let within = came (pattern_binders types c.pat s) (λ bs. ty c.body wanted (scope ++ bs)) t (sym (type-Clause types funs c.pat c.body s wanted scope) ∙ e) in
      ap (λ bs. ty c.body wanted (scope ++ bs)) (sym (pattern_binders-are types c.pat s within.from within.first_is)) ∙ within.then_is

  clauses-wanted : (cs : List Clause) (s w : Ty) (scope : List Binder) (t : Ty) → EL.EachBody HasWanted cs
      → clauses_typing (map (clause_rule types funs) cs) s (Some w) scope ≡ Ok t → w ≡ t
  clauses-wanted [] s w scope t each e = cc
  clauses-wanted (c ∷ cs) s w scope t each e =
      let first = came (clause_rule types funs c s (Some w) scope) (λ found. clauses_typing (map (clause_rule types funs) cs) s (Some found) scope) t e in
      let here = clause_typed c s (Some w) scope first.from first.first_is in
      each.0 w (scope ++ binders types c.pat s) first.from here ∙ clauses-wanted cs s first.from scope t each.1 first.then_is

  wanted_cases : EL.Cases HasWanted
  wanted_cases = record {
    num = λ at n w scope t e. number-is at n (Some w) t (sym (type-Num types funs at n (Some w) scope) ∙ e);
    var = λ at x w scope t e. fits_wanted at w (variable_type x scope) t (sym (type-Var types funs at x (Some w) scope) ∙ e);
    call = λ at g es each w scope t e.
        fits_wanted at w (result_type funs g) t (came (arguments at (map (rule_of types funs) es) (param_types funs g) scope) (λ done. as_wanted at (Some w) (result_type funs g)) t
        (sym (type-Call types funs at g es (Some w) scope) ∙ e)).then_is;
    build = λ at c es each w scope t e.
        fits_wanted at w (Named c.ty) t (came (arguments at (map (rule_of types funs) es) (field_types types c) scope) (λ done. as_wanted at (Some w) (Named c.ty)) t
        (sym (type-Build types funs at c es (Some w) scope) ∙ e)).then_is;
    binary = λ at op a b ha hb w scope t e.
        let parts = came (operands_typing op (rule_of types funs a) (rule_of types funs b) (Some w) scope) (λ u. as_wanted at (Some w) (operator_type op u)) t
        (sym (type-Binary types funs at op a b (Some w) scope) ∙ e) in
        fits_wanted at w (operator_type op parts.from) t parts.then_is;
    to = λ at bits a ha w scope t e.
        fits_wanted at w (Int bits) t (came (integer_operand (rule_of types funs a) None scope) (λ u. as_wanted at (Some w) (Int bits)) t
        (sym (type-To types funs at bits a (Some w) scope) ∙ e)).then_is;
    bound = λ at x u a b ha hb w scope t e.
        hb w _ t (came (ty a (Some u) scope) (λ v. ty b (Some w) (scope ++ record { var = x; ty = u } ∷ [])) t (sym (type-Let types funs at x u a b (Some w) scope) ∙ e)).then_is;
    choice = λ at s cs hs each w scope t e.
        let scrutinee = came (ty s None scope) (λ v. clauses_typing (map (clause_rule types funs) cs) v (Some w) scope) t (sym (type-Match types funs at s cs (Some w) scope) ∙ e) in
        clauses-wanted cs scrutinee.from w scope t each scrutinee.then_is;
  }

  pub wanted-is_found : (e : Expr) → HasWanted e
  wanted-is_found = EL.induction HasWanted wanted_cases

  all_wanted : (cs : List Clause) → EL.EachBody HasWanted cs
  all_wanted [] = tt
  all_wanted (c ∷ cs) = (wanted-is_found c.body, all_wanted cs)

  -- clauses of which a type is wanted have that type
  pub found_is : (cs : List Clause) (s w : Ty) (scope : List Binder) (t : Ty) → clauses_typing (map (clause_rule types funs) cs) s (Some w) scope ≡ Ok t → w ≡ t
  found_is cs s w scope t = clauses-wanted cs s w scope t (all_wanted cs)

  -- operands that have a type: that of the first, which is the wanted one or the inferred one
  operands-type : (op : Op) (a b : Expr) (wanted : Option Ty) (scope : List Binder) (u : Ty) → IsInferred a
      → operands_typing op (rule_of types funs a) (rule_of types funs b) wanted scope ≡ Ok u → operands_type op wanted (inferred_type types funs a None scope) ≡ u
  operands-type op a b wanted scope u ha e =
      let first = came (integer_operand (rule_of types funs a) (operand_wanted op wanted) scope) (λ v. ty b (Some v) scope) u e in
      let found = came (ty a (operand_wanted op wanted) scope) (integer (rule_of types funs a).at) first.from first.first_is in
      of_wanted (operand_wanted op wanted) found.from found.first_is
      ∙ (integer_is (rule_of types funs a).at found.from first.from found.then_is).2
      ∙ wanted-is_found b first.from scope u first.then_is
    where
      of_wanted : (o : Option Ty) (v : Ty) → ty a o scope ≡ Ok v → unwrap_or o (inferred_type types funs a None scope) ≡ v
      of_wanted None v h = ha None scope v h
      of_wanted (Some w) v h = wanted-is_found a w scope v h

  match-type : (cs : List Clause) (s t : Ty) (wanted : Option Ty) (scope : List Binder) → EL.EachBody IsInferred cs
      → clauses_typing (map (clause_rule types funs) cs) s wanted scope ≡ Ok t → match_type types wanted (map (clause_inferred types funs) cs) s scope ≡ t
  match-type cs s t (Some w) scope each e = found_is cs s w scope t e
  match-type [] s t None scope each e = cc
  match-type (c ∷ cs) s t None scope each e =
      let first = came (clause_rule types funs c s None scope) (λ found. clauses_typing (map (clause_rule types funs) cs) s (Some found) scope) t e in
      let here = clause_typed c s None scope first.from first.first_is in
      ap (λ (b : Pat × Inference). b.1 None (scope ++ binders types b.0 s)) (clause_inferred-is types funs c)
      ∙ each.0 None (scope ++ binders types c.pat s) first.from here
      ∙ found_is cs s first.from scope t first.then_is

  inferred_cases : EL.Cases IsInferred
  inferred_cases = record {
    num = λ at n wanted scope t e. inferred-Num types funs wanted scope at n ∙ number-is at n wanted t (sym (type-Num types funs at n wanted scope) ∙ e);
    var = λ at x wanted scope t e. inferred-Var types funs wanted scope at x ∙ fits_found at wanted (variable_type x scope) t (sym (type-Var types funs at x wanted scope) ∙ e);
    call = λ at g es each wanted scope t e.
        inferred-Call types funs wanted scope at g es
        ∙ fits_found at wanted (result_type funs g) t (came (arguments at (map (rule_of types funs) es) (param_types funs g) scope) (λ done. as_wanted at wanted (result_type funs g)) t
        (sym (type-Call types funs at g es wanted scope) ∙ e)).then_is;
    build = λ at c es each wanted scope t e.
        inferred-Build types funs wanted scope at c es
        ∙ fits_found at wanted (Named c.ty) t (came (arguments at (map (rule_of types funs) es) (field_types types c) scope) (λ done. as_wanted at wanted (Named c.ty)) t
        (sym (type-Build types funs at c es wanted scope) ∙ e)).then_is;
    binary = λ at op a b ha hb wanted scope t e.
        let parts = came (operands_typing op (rule_of types funs a) (rule_of types funs b) wanted scope) (λ u. as_wanted at wanted (operator_type op u)) t
        (sym (type-Binary types funs at op a b wanted scope) ∙ e) in
        inferred-Binary types funs wanted scope at op a b
        ∙ ap (operator_type op) (operands-type op a b wanted scope parts.from ha parts.first_is)
        ∙ fits_found at wanted (operator_type op parts.from) t parts.then_is;
    to = λ at bits a ha wanted scope t e.
        inferred-To types funs wanted scope at bits a
        ∙ fits_found at wanted (Int bits) t (came (integer_operand (rule_of types funs a) None scope) (λ u. as_wanted at wanted (Int bits)) t
        (sym (type-To types funs at bits a wanted scope) ∙ e)).then_is;
    bound = λ at x u a b ha hb wanted scope t e.
        inferred-Let types funs wanted scope at x u a b
        ∙ hb wanted _ t (came (ty a (Some u) scope) (λ v. ty b wanted (scope ++ record { var = x; ty = u } ∷ [])) t (sym (type-Let types funs at x u a b wanted scope) ∙ e)).then_is;
    choice = λ at s cs hs each wanted scope t e.
        let scrutinee = came (ty s None scope) (λ v. clauses_typing (map (clause_rule types funs) cs) v wanted scope) t (sym (type-Match types funs at s cs wanted scope) ∙ e) in
        inferred-Match types funs wanted scope at s cs
        ∙ ap (λ v. match_type types wanted (map (clause_inferred types funs) cs) v scope) (hs None scope scrutinee.from scrutinee.first_is)
        ∙ match-type cs scrutinee.from t wanted scope each scrutinee.then_is;
  }

  pub inferred-is_found : (e : Expr) → IsInferred e
  inferred-is_found = EL.induction IsInferred inferred_cases
