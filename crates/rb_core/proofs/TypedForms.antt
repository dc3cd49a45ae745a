-- What typing says of an expression's parts, form by form.
use Rattle.std.proofs.Common.{◌≡◌, ◌==◌, ℕ, zero, suc, ◌<◌, ◌^◌, List, [], ◌∷◌, ◌++◌, map, length, true, Option, Some, None, Ok, refl, sym, ap, ◌∙◌, subst, arith, eqb-true}
use Rattle.std.proofs.lemmas.Bool.Decides.{nat_tests}
use Rattle.std.specs.Prelude.{unwrap_or, slice_get}
use Rattle.rb_core.specs.declared.types.Ty.{Ty}
use Rattle.rb_core.specs.declared.types.Ty.TheVariants.{Int, Named}
use Rattle.rb_core.specs.declared.types.ConRef.{ConRef}
use Rattle.rb_core.specs.declared.types.DataDecl.{DataDecl}
use Rattle.rb_core.specs.declared.typing.Binder.{Binder}
use Rattle.rb_core.specs.declared.program.Fun.{Fun}
use Rattle.rb_core.specs.declared.expression.Op.{Op}
use Rattle.rb_core.specs.declared.expression.Clause.{Clause}
use Rattle.rb_core.specs.declared.expression.Expr.{Expr}
use Rattle.rb_core.specs.declared.expression.Expr as X
use Rattle.rb_core.specs.Typing.{Typing, and_then, as_wanted, type_holds, number_typing, integer, operand_wanted, operator_type, integer_operand, operands_typing, variable_type, field_types, rule_of, clause_rule, clauses_typing, pattern_binders, type_of, arguments, each_argument, param_types, result_type}
use Rattle.rb_core.specs.Inference.{with_binder, operands_type, inferred_type, binders, match_type, clause_inferred}
use Rattle.rb_core.specs.Clauses.{wanted_of, PatternIsTyped}
use Rattle.rb_core.proofs.TypingLemmas.{type-Num, type-Var, type-Call, type-Build, type-Binary, type-To, type-Let, type-Match, type-Clause}
use Rattle.rb_core.proofs.InferenceForms.{inferred-Match}
use Rattle.rb_core.proofs.TypingAnswers.{ok-same, Came, came, chosen, constructed, fits_found, integer_is}
use Rattle.rb_core.proofs.InferenceAgreement.{wanted-is_found, inferred-is_found, clause_typed, found_is}

-- the integer type that a number is typed as
held_number : (n : ℕ) (w : Ty) → type_holds w n ≡ true → (bits : ℕ) × (w ≡ Int bits) × (n < 2 ^ bits)
held_number n (Int bits) h = let lt : n < 2 ^ bits = grind (arith, nat_tests, h) in (bits, refl, lt)
held_number n (Named t) h = cc

number_typed : (at n : ℕ) (wanted : Option Ty) (t : Ty) → n < 2 ^ 64 → number_typing at n wanted ≡ Ok t → (bits : ℕ) × (t ≡ Int bits) × (n < 2 ^ bits) × (unwrap_or wanted (Int 64) ≡ t)
number_typed at n None t lt e = (64, sym (ok-same e), lt, ok-same e)
number_typed at n (Some w) t lt e =
    let c = chosen (type_holds w n) w t _ e in let h = held_number n w c.0 in (h.0, sym c.1 ∙ h.1, h.2, c.1)

-- the integer type that an operand is typed as, which is the type that comes of it
integer_typed : (at : ℕ) (operand : Typing Ty) (t : Ty) → and_then operand (integer at) ≡ Ok t → (n : ℕ) × (operand ≡ Ok (Int n)) × (Int n ≡ t)
integer_typed at operand t e =
    let h = came operand (integer at) t e in
    let whole = integer_is at h.from t h.then_is in
    (whole.0, h.first_is ∙ ap (λ u. Ok u) (whole.2 ∙ whole.1), sym whole.1)

module _ (types : List DataDecl) (funs : List Fun) where
  pub typed-Num : (at n : ℕ) (wanted : Option Ty) (scope : List Binder) (t : Ty) → n < 2 ^ 64 → type_of types funs (X.Num at n) wanted scope ≡ Ok t
      → (bits : ℕ) × (t ≡ Int bits) × (n < 2 ^ bits) × (unwrap_or wanted (Int 64) ≡ t)
  typed-Num at n wanted scope t lt e = number_typed at n wanted t lt (sym (type-Num types funs at n wanted scope) ∙ e)

  pub typed-Var : (at x : ℕ) (wanted : Option Ty) (scope : List Binder) (t : Ty) → type_of types funs (X.Var at x) wanted scope ≡ Ok t → variable_type x scope ≡ t
  typed-Var at x wanted scope t e = fits_found at wanted (variable_type x scope) t (sym (type-Var types funs at x wanted scope) ∙ e)

  pub typed-Let : (at x : ℕ) (u : Ty) (a b : Expr) (wanted : Option Ty) (scope : List Binder) (t : Ty) → type_of types funs (X.Let at x u a b) wanted scope ≡ Ok t
      → (type_of types funs a (Some u) scope ≡ Ok u) × (type_of types funs b wanted (with_binder scope x u) ≡ Ok t)
  typed-Let at x u a b wanted scope t e =
      let h = came (type_of types funs a (Some u) scope) (λ _. type_of types funs b wanted (with_binder scope x u)) t (sym (type-Let types funs at x u a b wanted scope) ∙ e) in
      let same = wanted-is_found types funs a u scope h.from h.first_is in
      (subst (λ v. type_of types funs a (Some u) scope ≡ Ok v) (sym same) h.first_is, h.then_is)

  pub operands_int : (op : Op) (a b : Expr) (wanted : Option Ty) (scope : List Binder) (u : Ty) → operands_typing op (rule_of types funs a) (rule_of types funs b) wanted scope ≡ Ok u
      → (n : ℕ) × (u ≡ Int n) × (operands_type op wanted (inferred_type types funs a None scope) ≡ u)
      × (type_of types funs a (operand_wanted op wanted) scope ≡ Ok u) × (type_of types funs b (Some u) scope ≡ Ok u) × (unwrap_or (operand_wanted op wanted) u ≡ u)
  operands_int op a b wanted scope u e =
      let first = came (integer_operand (rule_of types funs a) (operand_wanted op wanted) scope) (λ v. type_of types funs b (Some v) scope) u e in
      let operand = integer_typed (rule_of types funs a).at (type_of types funs a (operand_wanted op wanted) scope) first.from first.first_is in
      let same = wanted-is_found types funs b first.from scope u first.then_is in
      let is : Int operand.0 ≡ u = operand.2 ∙ same in
      let typed = subst (λ v. type_of types funs a (operand_wanted op wanted) scope ≡ Ok v) is operand.1 in (
        operand.0,
        sym is,
        of_wanted (operand_wanted op wanted) u typed,
        typed,
        subst (λ w. type_of types funs b (Some w) scope ≡ Ok u) same first.then_is,
        wanted_is (operand_wanted op wanted) typed,
      )
    where
      of_wanted : (o : Option Ty) (v : Ty) → type_of types funs a o scope ≡ Ok v → unwrap_or o (inferred_type types funs a None scope) ≡ v
      of_wanted None v h = inferred-is_found types funs a None scope v h
      of_wanted (Some w) v h = wanted-is_found types funs a w scope v h

      wanted_is : (o : Option Ty) → type_of types funs a o scope ≡ Ok u → unwrap_or o u ≡ u
      wanted_is None h = refl
      wanted_is (Some w) h = wanted-is_found types funs a w scope u h

  -- an operator's parts: the operands' type, which both have, and the type of the whole
  pub typed-Binary : (at : ℕ) (op : Op) (a b : Expr) (wanted : Option Ty) (scope : List Binder) (t : Ty) → type_of types funs (X.Binary at op a b) wanted scope ≡ Ok t
      → (n : ℕ) × (operands_type op wanted (inferred_type types funs a None scope) ≡ Int n)
      × (type_of types funs a (operand_wanted op wanted) scope ≡ Ok (Int n)) × (type_of types funs b (Some (Int n)) scope ≡ Ok (Int n))
      × (unwrap_or (operand_wanted op wanted) (Int n) ≡ Int n) × (operator_type op (Int n) ≡ t)
  typed-Binary at op a b wanted scope t e =
      let h = came (operands_typing op (rule_of types funs a) (rule_of types funs b) wanted scope) (λ u. as_wanted at wanted (operator_type op u)) t (sym (type-Binary types funs at op a b wanted scope) ∙ e) in
      let p = operands_int op a b wanted scope h.from h.first_is in (
        p.0,
        p.2 ∙ p.1,
        subst (λ v. type_of types funs a (operand_wanted op wanted) scope ≡ Ok v) p.1 p.3,
        subst (λ v. type_of types funs b (Some v) scope ≡ Ok v) p.1 p.4,
        subst (λ v. unwrap_or (operand_wanted op wanted) v ≡ v) p.1 p.5,
        subst (λ v. operator_type op v ≡ t) p.1 (fits_found at wanted (operator_type op h.from) t h.then_is),
      )

  pub typed-Call : (at g : ℕ) (es : List Expr) (wanted : Option Ty) (scope : List Binder) (t : Ty) → type_of types funs (X.Call at g es) wanted scope ≡ Ok t
      → (length (map (rule_of types funs) es) ≡ length (param_types funs g)) × (each_argument (map (rule_of types funs) es) (param_types funs g) scope ≡ Ok tt) × (result_type funs g ≡ t)
  typed-Call at g es wanted scope t e =
      let h = came {A = Unit {0}} (arguments at (map (rule_of types funs) es) (param_types funs g) scope) (λ _. as_wanted at wanted (result_type funs g)) t (sym (type-Call types funs at g es wanted scope) ∙ e) in
      let args = constructed (length (map (rule_of types funs) es) == length (param_types funs g)) _ _ h.from h.first_is in
      (eqb-true _ _ args.0, args.1, fits_found at wanted (result_type funs g) t h.then_is)

  -- a construction's arguments, as many as it has fields
  pub typed-Build : (at : ℕ) (c : ConRef) (es : List Expr) (wanted : Option Ty) (scope : List Binder) (t : Ty) → type_of types funs (X.Build at c es) wanted scope ≡ Ok t
      → (length (map (rule_of types funs) es) ≡ length (field_types types c)) × (each_argument (map (rule_of types funs) es) (field_types types c) scope ≡ Ok tt) × (Named c.ty ≡ t)
  typed-Build at c es wanted scope t e =
      let h = came {A = Unit {0}} (arguments at (map (rule_of types funs) es) (field_types types c) scope) (λ _. as_wanted at wanted (Named c.ty)) t (sym (type-Build types funs at c es wanted scope) ∙ e) in
      let args = constructed (length (map (rule_of types funs) es) == length (field_types types c)) _ _ h.from h.first_is in
      (eqb-true _ _ args.0, args.1, fits_found at wanted (Named c.ty) t h.then_is)

  -- each argument has its wanted type
  pub typed_argument : (es : List Expr) (ts : List Ty) (scope : List Binder) → length es ≡ length ts → each_argument (map (rule_of types funs) es) ts scope ≡ Ok tt
      → (i : ℕ) (e : Expr) → slice_get es i ≡ Some e → (t : Ty) × (slice_get ts i ≡ Some t) × (type_of types funs e (Some t) scope ≡ Ok t)
  typed_argument [] ts scope len typed i e at = cc
  typed_argument (x ∷ es) [] scope len typed i e at = absurd (omega (arith, len))
  typed_argument (x ∷ es) (t ∷ ts) scope len typed zero e at =
      let first = came {B = Unit {0}} (type_of types funs x (Some t) scope) (λ _. each_argument (map (rule_of types funs) es) ts scope) tt typed in
      let is : x ≡ e = cc at in
      let found = wanted-is_found types funs x t scope first.from first.first_is in
      (t, refl, subst (λ (y : Expr). type_of types funs y (Some t) scope ≡ Ok t) is (subst (λ u. type_of types funs x (Some t) scope ≡ Ok u) (sym found) first.first_is))
  typed_argument (x ∷ es) (t ∷ ts) scope len typed (suc i) e at =
      let first = came {B = Unit {0}} (type_of types funs x (Some t) scope) (λ _. each_argument (map (rule_of types funs) es) ts scope) tt typed in
      typed_argument es ts scope (omega (arith, len)) first.then_is i e at

  pub typed-To : (at bits : ℕ) (a : Expr) (wanted : Option Ty) (scope : List Binder) (t : Ty) → type_of types funs (X.To at bits a) wanted scope ≡ Ok t
      → (n : ℕ) × (type_of types funs a None scope ≡ Ok (Int n)) × (Int bits ≡ t)
  typed-To at bits a wanted scope t e =
      let h = came (integer_operand (rule_of types funs a) None scope) (λ u. as_wanted at wanted (Int bits)) t (sym (type-To types funs at bits a wanted scope) ∙ e) in
      let operand = integer_typed (rule_of types funs a).at (type_of types funs a None scope) h.from h.first_is in
      (operand.0, operand.1, fits_found at wanted (Int bits) t h.then_is)

  -- Clauses

  -- each clause is typed, at the type of the whole
  clauses_typed : (cs : List Clause) (s : Ty) (wanted : Option Ty) (scope : List Binder) (t : Ty) → clauses_typing (map (clause_rule types funs) cs) s wanted scope ≡ Ok t → (k : ℕ) (c : Clause) → slice_get cs k ≡ Some c
      → type_of types funs c.body (wanted_of k wanted (Some t)) (scope ++ binders types c.pat s) ≡ Ok t
  clauses_typed [] s wanted scope t e k c at = cc
  clauses_typed (d ∷ cs) s wanted scope t e k c at = pick k at (λ j there. clauses_typed cs s (Some t) scope t rest j c there)
    where
      first : Came (clause_rule types funs d s wanted scope) (λ found. clauses_typing (map (clause_rule types funs) cs) s (Some found) scope) t
      first = came (clause_rule types funs d s wanted scope) (λ found. clauses_typing (map (clause_rule types funs) cs) s (Some found) scope) t e

      is : first.from ≡ t
      is = found_is types funs cs s first.from scope t first.then_is

      rest : clauses_typing (map (clause_rule types funs) cs) s (Some t) scope ≡ Ok t
      rest = subst (λ u. clauses_typing (map (clause_rule types funs) cs) s (Some u) scope ≡ Ok t) is first.then_is

      pick : (i : ℕ) → slice_get (d ∷ cs) i ≡ Some c → ((j : ℕ) → slice_get cs j ≡ Some c → type_of types funs c.body (wanted_of j (Some t) (Some t)) (scope ++ binders types c.pat s) ≡ Ok t)
          → type_of types funs c.body (wanted_of i wanted (Some t)) (scope ++ binders types c.pat s) ≡ Ok t
      pick zero there more =
          let same : d ≡ c = cc there in
          subst (λ (x : Clause). type_of types funs x.body wanted (scope ++ binders types x.pat s) ≡ Ok t) same
          (subst (λ u. type_of types funs d.body wanted (scope ++ binders types d.pat s) ≡ Ok u) is (clause_typed types funs d s wanted scope first.from first.first_is))
      pick (suc zero) there more = more zero there
      pick (suc (suc i)) there more = more (suc i) there

  -- a match's parts: the scrutinee's type, the type that the meaning reads off, and each clause's
  pub typed-Match : (at : ℕ) (e : Expr) (cs : List Clause) (wanted : Option Ty) (scope : List Binder) (t : Ty) → type_of types funs (X.Match at e cs) wanted scope ≡ Ok t
      → (s : Ty) × (type_of types funs e None scope ≡ Ok s) × (inferred_type types funs e None scope ≡ s)
      × (match_type types wanted (map (clause_inferred types funs) cs) (inferred_type types funs e None scope) scope ≡ t)
      × ((k : ℕ) (c : Clause) → slice_get cs k ≡ Some c → type_of types funs c.body (wanted_of k wanted (Some t)) (scope ++ binders types c.pat s) ≡ Ok t)
  typed-Match at e cs wanted scope t typed =
      let h = came (type_of types funs e None scope) (λ s. clauses_typing (map (clause_rule types funs) cs) s wanted scope) t (sym (type-Match types funs at e cs wanted scope) ∙ typed) in (
        h.from,
        h.first_is,
        inferred-is_found types funs e None scope h.from h.first_is,
        sym (inferred-Match types funs wanted scope at e cs) ∙ inferred-is_found types funs (X.Match at e cs) wanted scope t typed,
        clauses_typed cs h.from wanted scope t h.then_is,
      )

  -- each clause's pattern is typed, at the type of the scrutinee
  patterns_in : (cs : List Clause) (s : Ty) (wanted : Option Ty) (scope : List Binder) (t : Ty) → clauses_typing (map (clause_rule types funs) cs) s wanted scope ≡ Ok t → ((k : ℕ) (c : Clause) → slice_get cs k ≡ Some c → PatternIsTyped types s c.pat)
  patterns_in [] s wanted scope t e k c at = cc
  patterns_in (d ∷ cs) s wanted scope t e k c at = pick k at (λ u h j there. patterns_in cs s (Some u) scope t h j c there) (came (clause_rule types funs d s wanted scope) (λ found. clauses_typing (map (clause_rule types funs) cs) s (Some found) scope) t e)
    where
      pick : (k : ℕ) → slice_get (d ∷ cs) k ≡ Some c → ((u : Ty) → clauses_typing (map (clause_rule types funs) cs) s (Some u) scope ≡ Ok t → (j : ℕ) → slice_get cs j ≡ Some c → PatternIsTyped types s c.pat)
          → Came (clause_rule types funs d s wanted scope) (λ found. clauses_typing (map (clause_rule types funs) cs) s (Some found) scope) t → PatternIsTyped types s c.pat
      pick zero at more first =
          let is : d ≡ c = cc at in
          let within = came (pattern_binders types d.pat s) (λ bs. type_of types funs d.body wanted (scope ++ bs)) first.from (sym (type-Clause types funs d.pat d.body s wanted scope) ∙ first.first_is) in
          subst (λ (x : Clause). PatternIsTyped types s x.pat) is (within.from, within.first_is)
      pick (suc k) at more first = more first.from first.then_is k at

  pub patterns_typed : (at : ℕ) (e : Expr) (cs : List Clause) (wanted : Option Ty) (scope : List Binder) (t s : Ty) → type_of types funs (X.Match at e cs) wanted scope ≡ Ok t → type_of types funs e None scope ≡ Ok s → ((k : ℕ) (c : Clause) → slice_get cs k ≡ Some c → PatternIsTyped types s c.pat)
  patterns_typed at e cs wanted scope t s typed first =
      let h = came (type_of types funs e None scope) (λ s. clauses_typing (map (clause_rule types funs) cs) s wanted scope) t (sym (type-Match types funs at e cs wanted scope) ∙ typed) in
      let same : h.from ≡ s = ok-same (sym h.first_is ∙ first) in
      subst (λ u. (k : ℕ) (c : Clause) → slice_get cs k ≡ Some c → PatternIsTyped types u c.pat) same (patterns_in cs h.from wanted scope t h.then_is)
