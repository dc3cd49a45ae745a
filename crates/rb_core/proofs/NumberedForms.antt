-- What a well numbered and typed program knows of its functions and of each form.
use Rattle.std.proofs.Common.{◌≡◌, ℕ, zero, suc, List, [], ◌∷◌, ◌++◌, map, length, true, ◌&&◌, Option, Some, None, Ok, Err, refl, sym, ap, ◌∙◌, subst}
use Rattle.std.specs.Prelude.{nat_lt, nat_eq, slice_get}
use Rattle.std.specs.List.{list_any}
use Rattle.std.specs.Result.{result_err}
use Rattle.std.proofs.lemmas.Bool.{and_parts}
use Rattle.rb_core.specs.declared.types.Ty.{Ty}
use Rattle.rb_core.specs.declared.types.ConRef.{ConRef}
use Rattle.rb_core.specs.declared.types.DataDecl.{DataDecl}
use Rattle.rb_core.specs.declared.typing.Binder.{Binder}
use Rattle.rb_core.specs.declared.typing.TypeFault.{TypeFault}
use Rattle.rb_core.specs.declared.program.Param.{Param}
use Rattle.rb_core.specs.declared.program.Fun.{Fun}
use Rattle.rb_core.specs.declared.program.Program.{Program}
use Rattle.rb_core.specs.declared.expression.Op.{Op}
use Rattle.rb_core.specs.declared.expression.Clause.{Clause}
use Rattle.rb_core.specs.declared.expression.Expr.{Expr}
use Rattle.rb_core.specs.declared.expression.Expr as X
use Rattle.rb_core.specs.declared.expression.Expr.TheOpen as E
use Rattle.rb_core.specs.declared.expression.Expr.TheOpen.{Expr-F}
use Rattle.rb_core.specs.declared.expression.Expr.TheFolds.{fold-Clause, fold-roll-Expr, fold_out-Clause}
use Rattle.rb_core.specs.Typing.{Typing, and_then, binder_of, first_repeat, twice_at, distinct_binders, type_of}
use Rattle.rb_core.specs.TypedPrograms.{IsTyped, first_fault, layout_fault, function_fault}
use Rattle.rb_core.specs.WellNumbered.{Within, all_within, is_between, is_constructor, is_type, pattern_is_numbered, vars_of, expression_step, numbered_clause_step, expression_is_numbered, function_is_numbered}
use Rattle.rb_core.proofs.InferenceAgreement.{wanted-is_found}
use Rattle.rb_core.proofs.MatchingLemmas.{all_at}
use Rattle.rb_core.proofs.TypingAnswers.{ok-same, came}

module _ (types : List DataDecl) (funs : List Fun) where
  abbrev numbered : Expr → Within
  numbered = expression_is_numbered types funs

  -- whether a clause's pattern is numbered, and its body within the scope that has what the pattern binds
  abbrev pub clause_numbered : Clause → Within
  clause_numbered = fold-Clause Within Within (expression_step types funs) (numbered_clause_step types)

  -- an expression of any form, and a clause, by one step
  pub numbered-is : (e : Expr-F Expr Clause) (xs : List ℕ) → numbered (X.roll-Expr e) xs ≡ expression_step types funs (X.map-Expr Expr Clause Within Within numbered clause_numbered e) xs
  numbered-is e xs = ap (λ (w : Within). w xs) (fold-roll-Expr Within Within (expression_step types funs) (numbered_clause_step types) e)

  pub clause_numbered-is : (c : Clause) (xs : List ℕ) → clause_numbered c xs ≡ (pattern_is_numbered types c.pat && numbered c.body (vars_of c.pat ++ xs))
  clause_numbered-is c xs = ap (λ (w : Within). w xs) (fold_out-Clause Within Within (expression_step types funs) (numbered_clause_step types) c)

  pub numbered-Binary : (at : ℕ) (op : Op) (a b : Expr) (xs : List ℕ) → numbered (X.Binary at op a b) xs ≡ true → (numbered a xs ≡ true) × (numbered b xs ≡ true)
  unfolding X.roll-Expr denote.Hole.Carrier.roll
  numbered-Binary at op a b xs h = and_parts (numbered a xs) _ (sym (numbered-is (E.Binary at op a b) xs) ∙ h)

  pub numbered-Let : (at x : ℕ) (u : Ty) (a b : Expr) (xs : List ℕ) → numbered (X.Let at x u a b) xs ≡ true → (numbered a xs ≡ true) × (numbered b (x ∷ xs) ≡ true)
  unfolding X.roll-Expr denote.Hole.Carrier.roll
  numbered-Let at x u a b xs h = and_parts _ _ (and_parts (is_type types u) _ (sym (numbered-is (E.Let at x u a b) xs) ∙ h)).1

  pub numbered-Call : (at g : ℕ) (es : List Expr) (xs : List ℕ) → numbered (X.Call at g es) xs ≡ true → (nat_lt g (length funs) ≡ true) × (all_within (map numbered es) xs ≡ true)
  unfolding X.roll-Expr denote.Hole.Carrier.roll
  numbered-Call at g es xs h =
      let p = and_parts (nat_lt g (length funs)) _ (sym (numbered-is (E.Call at g es) xs) ∙ h) in
      (p.0, (and_parts _ _ p.1).1)

  pub numbered-Var : (at x : ℕ) (xs : List ℕ) → numbered (X.Var at x) xs ≡ true → list_any (nat_eq x) xs ≡ true
  unfolding X.roll-Expr denote.Hole.Carrier.roll
  numbered-Var at x xs h = sym (numbered-is (E.Var at x) xs) ∙ h

  pub numbered-To : (at bits : ℕ) (a : Expr) (xs : List ℕ) → numbered (X.To at bits a) xs ≡ true → (is_between 1 64 bits ≡ true) × (numbered a xs ≡ true)
  unfolding X.roll-Expr denote.Hole.Carrier.roll
  numbered-To at bits a xs h = and_parts (is_between 1 64 bits) _ (sym (numbered-is (E.To at bits a) xs) ∙ h)

  pub numbered-Build : (at : ℕ) (c : ConRef) (es : List Expr) (xs : List ℕ) → numbered (X.Build at c es) xs ≡ true → (is_constructor types c ≡ true) × (all_within (map numbered es) xs ≡ true)
  unfolding X.roll-Expr denote.Hole.Carrier.roll
  numbered-Build at c es xs h =
      let p = and_parts (is_constructor types c) _ (sym (numbered-is (E.Build at c es) xs) ∙ h) in
      (p.0, (and_parts _ _ p.1).1)

  -- each of a list of parts
  pub numbered_part : (es : List Expr) (xs : List ℕ) → all_within (map numbered es) xs ≡ true → (i : ℕ) (e : Expr) → slice_get es i ≡ Some e → numbered e xs ≡ true
  numbered_part [] xs h i e at = cc
  numbered_part (x ∷ es) xs h zero e at = let is : x ≡ e = cc at in ap (λ (y : Expr). numbered y xs) (sym is) ∙ (and_parts (numbered x xs) _ h).0
  numbered_part (x ∷ es) xs h (suc i) e at = numbered_part es xs (and_parts (numbered x xs) _ h).1 i e at

  -- a numbered clause's body
  pub body_numbered : (c : Clause) (xs : List ℕ) → clause_numbered c xs ≡ true → numbered c.body (vars_of c.pat ++ xs) ≡ true
  body_numbered c xs h = (and_parts (pattern_is_numbered types c.pat) _ (sym (clause_numbered-is c xs) ∙ h)).1

  pub each_numbered : (cs : List Clause) (xs : List ℕ) → all_within (map clause_numbered cs) xs ≡ true → (k : ℕ) (c : Clause) → slice_get cs k ≡ Some c → numbered c.body (vars_of c.pat ++ xs) ≡ true
  each_numbered [] xs h k c at = cc
  each_numbered (d ∷ cs) xs h zero c at =
      let is : d ≡ c = cc at in
      subst (λ (x : Clause). numbered x.body (vars_of x.pat ++ xs) ≡ true) is (body_numbered d xs (and_parts (clause_numbered d xs) _ h).0)
  each_numbered (d ∷ cs) xs h (suc k) c at = each_numbered cs xs (and_parts (clause_numbered d xs) _ h).1 k c at

  pub numbered-Match : (at : ℕ) (e : Expr) (cs : List Clause) (xs : List ℕ) → numbered (X.Match at e cs) xs ≡ true
      → (numbered e xs ≡ true) × ((k : ℕ) (c : Clause) → slice_get cs k ≡ Some c → numbered c.body (vars_of c.pat ++ xs) ≡ true)
  unfolding X.roll-Expr denote.Hole.Carrier.roll
  numbered-Match at e cs xs h =
      let p = and_parts (numbered e xs) _ (sym (numbered-is (E.Match at e cs) xs) ∙ h) in
      (p.0, each_numbered cs xs (and_parts _ _ (and_parts _ _ p.1).1).1)

-- Programs

no_fault-tail : (xs ys : List (Option TypeFault)) → first_fault (xs ++ ys) ≡ None → first_fault ys ≡ None
no_fault-tail [] ys e = e
no_fault-tail (None ∷ xs) ys e = no_fault-tail xs ys e
no_fault-tail (Some f ∷ xs) ys e = cc

no_fault-at : (g : Fun → Option TypeFault) (fs : List Fun) (n : ℕ) (f : Fun) → first_fault (map g fs) ≡ None → slice_get fs n ≡ Some f → g f ≡ None
no_fault-at g [] n f e at = cc
no_fault-at g (x ∷ fs) n f e at = go n (g x) refl at e (λ k h there. no_fault-at g fs k f h there)
  where
    go : (k : ℕ) (o : Option TypeFault) → g x ≡ o → slice_get (x ∷ fs) k ≡ Some f → first_fault (o ∷ map g fs) ≡ None
        → ((j : ℕ) → first_fault (map g fs) ≡ None → slice_get fs j ≡ Some f → g f ≡ None) → g f ≡ None
    go zero None same at' e' rest = let is : x ≡ f = cc at' in ap g (sym is) ∙ same
    go (suc k) None same at' e' rest = rest k e' at'
    go k (Some fault) same at' e' rest = cc

no_error : {A : Type 0} (r : Typing A) → result_err r ≡ None → (a : A) × (r ≡ Ok a)
no_error (Ok a) e = (a, refl)
no_error (Err f) e = cc

distinct_are : (ps : List Param) (bs : List Binder) (o : Option ℕ) → twice_at o ps ≡ Ok bs → map binder_of ps ≡ bs
distinct_are ps bs None e = ok-same e
distinct_are ps bs (Some at) e = cc

function_typed : (types : List DataDecl) (funs : List Fun) (f : Fun) → function_fault types funs f ≡ None → type_of types funs f.body (Some f.result) (map binder_of f.params) ≡ Ok f.result
function_typed types funs f e =
    let r = no_error (and_then (distinct_binders f.params) (type_of types funs f.body (Some f.result))) e in
    let c = came (distinct_binders f.params) (type_of types funs f.body (Some f.result)) r.0 r.1 in
    let scope = distinct_are f.params c.from (first_repeat f.params) c.first_is in
    let same = wanted-is_found types funs f.body f.result c.from r.0 c.then_is in
    subst (λ (s : List Binder). type_of types funs f.body (Some f.result) s ≡ Ok f.result) (sym scope) (subst (λ t. type_of types funs f.body (Some f.result) c.from ≡ Ok t) (sym same) c.then_is)

-- a typed program's function has a body of its result's type, within its parameters
pub body_typed : (p : Program) → IsTyped p → (g : ℕ) (f : Fun) → slice_get p.funs g ≡ Some f → type_of p.types p.funs f.body (Some f.result) (map binder_of f.params) ≡ Ok f.result
body_typed p typed g f at =
    function_typed p.types p.funs f
    (no_fault-at (function_fault p.types p.funs) p.funs g f (no_fault-tail (map (layout_fault p.types) p.layouts) (map (function_fault p.types p.funs) p.funs) typed.rules) at)

-- and is well numbered
pub function_numbered : (p : Program) → IsTyped p → (g : ℕ) (f : Fun) → slice_get p.funs g ≡ Some f → function_is_numbered p.types p.funs f ≡ true
function_numbered p typed g f at = all_at (function_is_numbered p.types p.funs) p.funs g f typed.numbered.functions at
