-- An expression has one type, one list of matches and one meaning within scopes and values that agree on its variables.
use Rattle.std.proofs.Common.{◌≡◌, ℕ, ◌==◌, Bool, true, false, List, [], ◌∷◌, ◌++◌, map, length, Option, Some, None, Ok, Err, refl, sym, subst, ap, ◌∙◌}
use Rattle.std.specs.Prelude.{Contains, if◌then◌else◌}
use Rattle.std.specs.List.{flat_map}
use Rattle.std.proofs.lemmas.List.Elements.{Contains-append_left, Contains-append_right, Contains-push}
use Rattle.rb_core.specs.declared.value.Value.{Value, Num}
use Rattle.rb_core.specs.declared.types.Ty.{Ty}
use Rattle.rb_core.specs.declared.types.Ty.TheVariants.{Int, Named}
use Rattle.rb_core.specs.declared.types.DataDecl.{DataDecl}
use Rattle.rb_core.specs.declared.types.ConRef.{ConRef}
use Rattle.rb_core.specs.declared.typing.Binder.{Binder}
use Rattle.rb_core.specs.declared.binding.Binding.{Binding}
use Rattle.rb_core.specs.declared.pattern.Pat.{Pat}
use Rattle.rb_core.specs.declared.outcome.Event.TheVariants.{Matched}
use Rattle.rb_core.specs.declared.outcome.SourceEnd.{SourceEnd}
use Rattle.rb_core.specs.declared.outcome.SourceEnd.TheVariants.{Done, Spent}
use Rattle.rb_core.specs.declared.outcome.Outcome.{Outcome}
use Rattle.rb_core.specs.declared.program.Fun.{Fun}
use Rattle.rb_core.specs.declared.program.Program.{Program}
use Rattle.rb_core.specs.declared.expression.Op.{Op}
use Rattle.rb_core.specs.declared.expression.Clause.{Clause}
use Rattle.rb_core.specs.declared.expression.Expr.{Expr}
use Rattle.rb_core.specs.declared.expression.Expr as X
use Rattle.rb_core.specs.declared.expression.Expr.TheOpen as E
use Rattle.rb_core.specs.declared.expression.Expr.TheFolds.{fold-roll-Expr, fold_out-Clause}
use Rattle.rb_core.specs.Matching.{bindings, matches_of}
use Rattle.rb_core.specs.declared.typing.TypeFault.TheVariants.{Arity}
use Rattle.rb_core.specs.Typing.{Typing, and_then, bound_type, clause_rule, clauses_typing, each_argument, field_types, as_wanted, integer, integer_operand, operand_wanted, operator_type, param_types, pattern_binders, result_type, rule_of, type_of}
use Rattle.rb_core.specs.Inference.{Inference, binders, clause_inferred, first_clause_type, inferred_type, match_type, operands_type, width_of, with_binder}
use Rattle.rb_core.specs.Coverage.{branch_sites, part_sites, site_of, sites}
use Rattle.rb_core.specs.Meaning.{Calls, Meaning, PartsOutcome, after, all_of, at_end, at_part, construction_outcome, clause_meaning, operation_outcome, cut_to, first_of, first_wanted, later_wanted, meaning_of, parts_after, value_outcome, then_do, then_with, value_or}
use Rattle.rb_core.proofs.ExpressionLaws.{Each, EachBody, induction}
use Rattle.rb_core.proofs.InferenceForms.{clause_inferred-is, inferred-Binary, inferred-Build, inferred-Call, inferred-Let, inferred-Match, inferred-Num, inferred-To, inferred-Var}
use Rattle.rb_core.proofs.TypingLemmas.{type-Binary, type-Build, type-Call, type-Clause, type-Let, type-Match, type-Num, type-To, type-Var}
use Rattle.rb_core.proofs.CoverageForms.{branch, part, sites-Binary, sites-Build, sites-Call, sites-Clause, sites-Let, sites-Match, sites-Num, sites-To, sites-Var}
use Rattle.rb_core.proofs.MeaningForms.{clause_meaning-is, meaning-Binary, meaning-Build, meaning-Call, meaning-Let, meaning-Match, meaning-Num, meaning-To, meaning-Var}
use Rattle.rb_compile.specs.inner.Used.{ScopesAgree, ValuesAgree, body_variables, variables_in, variables_of_clause, variables_step}

-- The variables of each form

pub variables-Var : (at x : ℕ) → variables_in (X.Var at x) ≡ x ∷ []
unfolding X.roll-Expr denote.Hole.Carrier.roll
variables-Var at x = fold-roll-Expr (List ℕ) (List ℕ) variables_step body_variables (E.Var at x)

pub variables-Call : (at g : ℕ) (es : List Expr) → variables_in (X.Call at g es) ≡ flat_map (λ xs. xs) (map variables_in es)
unfolding X.roll-Expr denote.Hole.Carrier.roll
variables-Call at g es = fold-roll-Expr (List ℕ) (List ℕ) variables_step body_variables (E.Call at g es)

pub variables-Build : (at : ℕ) (c : ConRef) (es : List Expr) → variables_in (X.Build at c es) ≡ flat_map (λ xs. xs) (map variables_in es)
unfolding X.roll-Expr denote.Hole.Carrier.roll
variables-Build at c es = fold-roll-Expr (List ℕ) (List ℕ) variables_step body_variables (E.Build at c es)

pub variables-Binary : (at : ℕ) (op : Op) (a b : Expr) → variables_in (X.Binary at op a b) ≡ variables_in a ++ variables_in b
unfolding X.roll-Expr denote.Hole.Carrier.roll
variables-Binary at op a b = fold-roll-Expr (List ℕ) (List ℕ) variables_step body_variables (E.Binary at op a b)

pub variables-To : (at bits : ℕ) (a : Expr) → variables_in (X.To at bits a) ≡ variables_in a
unfolding X.roll-Expr denote.Hole.Carrier.roll
variables-To at bits a = fold-roll-Expr (List ℕ) (List ℕ) variables_step body_variables (E.To at bits a)

pub variables-Let : (at x : ℕ) (t : Ty) (a b : Expr) → variables_in (X.Let at x t a b) ≡ variables_in a ++ variables_in b
unfolding X.roll-Expr denote.Hole.Carrier.roll
variables-Let at x t a b = fold-roll-Expr (List ℕ) (List ℕ) variables_step body_variables (E.Let at x t a b)

pub variables-Match : (at : ℕ) (e : Expr) (cs : List Clause) → variables_in (X.Match at e cs) ≡ variables_in e ++ flat_map (λ xs. xs) (map variables_of_clause cs)
unfolding X.roll-Expr denote.Hole.Carrier.roll
variables-Match at e cs = fold-roll-Expr (List ℕ) (List ℕ) variables_step body_variables (E.Match at e cs)

pub variables-Clause : (c : Clause) → variables_of_clause c ≡ variables_in c.body
variables-Clause c = fold_out-Clause (List ℕ) (List ℕ) variables_step body_variables c

-- Scopes and values behind one another

pub bound-append : (d : Ty) (x : ℕ) (s bs : List Binder) → bound_type d x (s ++ bs) ≡ bound_type (bound_type d x s) x bs
bound-append d x [] bs = refl
bound-append d x (b ∷ s) bs = bound-append (if b.var == x then b.ty else d) x s bs

pub value-append : (d : Value) (x : ℕ) (e bs : List Binding) → value_or d x (e ++ bs) ≡ value_or (value_or d x e) x bs
value-append d x [] bs = refl
value-append d x (b ∷ e) bs = value-append (if b.var == x then b.value else d) x e bs

pub scopes_more : (xs : List ℕ) (s s' bs : List Binder) → ScopesAgree xs s s' → ScopesAgree xs (s ++ bs) (s' ++ bs)
scopes_more xs s s' bs h = λ x i. bound-append (Int 64) x s bs ∙ ap (λ d. bound_type d x bs) (h x i) ∙ sym (bound-append (Int 64) x s' bs)

pub values_more : (xs : List ℕ) (e e' bs : List Binding) → ValuesAgree xs e e' → ValuesAgree xs (e ++ bs) (e' ++ bs)
values_more xs e e' bs h = λ x i. value-append (Num 0) x e bs ∙ ap (λ d. value_or d x bs) (h x i) ∙ sym (value-append (Num 0) x e' bs)

-- on fewer variables
abbrev Within : List ℕ → List ℕ → Type 0
Within xs ys = (x : ℕ) → Contains xs x → Contains ys x

fewer : (xs ys zs : List ℕ) → zs ≡ ys → Within xs ys → Within xs zs
fewer xs ys zs e h = λ x i. rw e (h x i)

left : (xs ys zs : List ℕ) → zs ≡ xs ++ ys → Within xs zs
left xs ys zs e = fewer xs (xs ++ ys) zs e (λ x i. Contains-append_left xs ys x i)

right : (xs ys zs : List ℕ) → zs ≡ xs ++ ys → Within ys zs
right xs ys zs e = fewer ys (xs ++ ys) zs e (λ x i. Contains-append_right xs ys x i)

module _ (types : List DataDecl) (funs : List Fun) where
  -- Types

  abbrev infer : Expr → Inference
  infer = inferred_type types funs

  abbrev SameType : Expr → Type 0
  SameType e = (wanted : Option Ty) (s s' : List Binder) → ScopesAgree (variables_in e) s s' → infer e wanted s ≡ infer e wanted s'

  first_same : (cs : List Clause) → EachBody SameType cs → (t : Ty) (s s' : List Binder) → ScopesAgree (flat_map (λ xs. xs) (map variables_of_clause cs)) s s'
      → first_clause_type types (map (clause_inferred types funs) cs) t s ≡ first_clause_type types (map (clause_inferred types funs) cs) t s'
  first_same [] each t s s' h = refl
  first_same (c ∷ cs) each t s s' h =
      let within = left (variables_in c.body) (flat_map (λ xs. xs) (map variables_of_clause cs)) _ (ap (λ l. l ++ flat_map (λ xs. xs) (map variables_of_clause cs)) (variables-Clause c)) in
      let at = λ (sc : List Binder). ap (λ (b : Pat × Inference). b.1 None (sc ++ binders types b.0 t)) (clause_inferred-is types funs c) in
      at s ∙ each.0 None (s ++ binders types c.pat t) (s' ++ binders types c.pat t) (scopes_more _ s s' (binders types c.pat t) (λ x i. h x (within x i))) ∙ sym (at s')

  match_same : (wanted : Option Ty) (cs : List Clause) → EachBody SameType cs → (t : Ty) (s s' : List Binder) → ScopesAgree (flat_map (λ xs. xs) (map variables_of_clause cs)) s s'
      → match_type types wanted (map (clause_inferred types funs) cs) t s ≡ match_type types wanted (map (clause_inferred types funs) cs) t s'
  match_same None cs each t s s' h = first_same cs each t s s' h
  match_same (Some w) cs each t s s' h = refl

  pub same_type : (e : Expr) → SameType e
  same_type = induction SameType (record {
    num = λ at n wanted s s' h. inferred-Num types funs wanted s at n ∙ sym (inferred-Num types funs wanted s' at n);
    var = λ at x wanted s s' h. inferred-Var types funs wanted s at x ∙ h x (subst (λ l. Contains l x) (sym (variables-Var at x)) (Contains-push [] x)) ∙ sym (inferred-Var types funs wanted s' at x);
    call = λ at g es each wanted s s' h. inferred-Call types funs wanted s at g es ∙ sym (inferred-Call types funs wanted s' at g es);
    build = λ at c es each wanted s s' h. inferred-Build types funs wanted s at c es ∙ sym (inferred-Build types funs wanted s' at c es);
    binary = λ at op a b ha hb wanted s s' h. inferred-Binary types funs wanted s at op a b
        ∙ ap (λ t. operator_type op (operands_type op wanted t)) (ha None s s' (λ x i. h x (left (variables_in a) (variables_in b) _ (variables-Binary at op a b) x i))) ∙ sym (inferred-Binary types funs wanted s' at op a b);
    to = λ at bits a ha wanted s s' h. inferred-To types funs wanted s at bits a ∙ sym (inferred-To types funs wanted s' at bits a);
    bound = λ at x t a b ha hb wanted s s' h. inferred-Let types funs wanted s at x t a b
        ∙ hb wanted _ _ (scopes_more _ s s' (record { var = x; ty = t } ∷ []) (λ y i. h y (right (variables_in a) (variables_in b) _ (variables-Let at x t a b) y i))) ∙ sym (inferred-Let types funs wanted s' at x t a b);
    choice = λ at e cs he hcs wanted s s' h.
        let zs = flat_map (λ xs. xs) (map variables_of_clause cs) in
        let here = he None s s' (λ x i. h x (left (variables_in e) zs _ (variables-Match at e cs) x i)) in
        inferred-Match types funs wanted s at e cs ∙ ap (λ t. match_type types wanted (map (clause_inferred types funs) cs) t s) here
        ∙ match_same wanted cs hcs (infer e None s') s s' (λ x i. h x (right (variables_in e) zs _ (variables-Match at e cs) x i)) ∙ sym (inferred-Match types funs wanted s' at e cs);
  })

  -- Typing

  abbrev SameTyping : Expr → Type 0
  SameTyping e = (wanted : Option Ty) (s s' : List Binder) → ScopesAgree (variables_in e) s s' → type_of types funs e wanted s ≡ type_of types funs e wanted s'

  then_same : {A B : Type 0} (x y : Typing A) (f g : A → Typing B) → x ≡ y → ((a : A) → f a ≡ g a) → and_then x f ≡ and_then y g
  then_same {A = A} {B = B} x y f g e h = ap (λ u. and_then u f) e ∙ go y
    where
      go : (u : Typing A) → and_then u f ≡ and_then u g
      go (Ok a) = h a
      go (Err fault) = refl

  abbrev part_variables : List Expr → List ℕ
  part_variables es = flat_map (λ xs. xs) (map variables_in es)

  abbrev clause_variables : List Clause → List ℕ
  clause_variables cs = flat_map (λ xs. xs) (map variables_of_clause cs)

  -- the first of several, and the others
  first_part : (e : Expr) (es : List Expr) → Within (variables_in e) (part_variables (e ∷ es))
  first_part e es = left (variables_in e) (part_variables es) _ refl

  later_parts : (e : Expr) (es : List Expr) → Within (part_variables es) (part_variables (e ∷ es))
  later_parts e es = right (variables_in e) (part_variables es) _ refl

  first_body : (c : Clause) (cs : List Clause) → Within (variables_in c.body) (clause_variables (c ∷ cs))
  first_body c cs = left (variables_in c.body) (clause_variables cs) _ (ap (λ l. l ++ clause_variables cs) (variables-Clause c))

  later_bodies : (c : Clause) (cs : List Clause) → Within (clause_variables cs) (clause_variables (c ∷ cs))
  later_bodies c cs = right (variables_of_clause c) (clause_variables cs) _ refl

  each_same : (es : List Expr) → Each SameTyping es → (ts : List Ty) (s s' : List Binder) → ScopesAgree (part_variables es) s s'
      → each_argument (map (rule_of types funs) es) ts s ≡ each_argument (map (rule_of types funs) es) ts s'
  each_same [] each ts s s' h = refl
  each_same (e ∷ es) each [] s s' h = refl
  each_same (e ∷ es) each (t ∷ ts) s s' h =
      then_same {B = Unit {0}} (type_of types funs e (Some t) s) (type_of types funs e (Some t) s') (λ found. each_argument (map (rule_of types funs) es) ts s) (λ found. each_argument (map (rule_of types funs) es) ts s')
      (each.0 (Some t) s s' (λ x i. h x (first_part e es x i))) (λ found. each_same es each.1 ts s s' (λ x i. h x (later_parts e es x i)))

  clauses_same : (cs : List Clause) → EachBody SameTyping cs → (t : Ty) (wanted : Option Ty) (s s' : List Binder) → ScopesAgree (clause_variables cs) s s'
      → clauses_typing (map (clause_rule types funs) cs) t wanted s ≡ clauses_typing (map (clause_rule types funs) cs) t wanted s'
  clauses_same [] each t wanted s s' h = refl
  clauses_same (c ∷ cs) each t wanted s s' h =
      let body = λ (bs : List Binder). each.0 wanted (s ++ bs) (s' ++ bs) (scopes_more _ s s' bs (λ x i. h x (first_body c cs x i))) in
      let here : clause_rule types funs c t wanted s ≡ clause_rule types funs c t wanted s' = type-Clause types funs c.pat c.body t wanted s
      ∙ then_same (pattern_binders types c.pat t) (pattern_binders types c.pat t) (λ bs. type_of types funs c.body wanted (s ++ bs)) (λ bs. type_of types funs c.body wanted (s' ++ bs)) refl body
      ∙ sym (type-Clause types funs c.pat c.body t wanted s') in
      then_same (clause_rule types funs c t wanted s) (clause_rule types funs c t wanted s') (λ found. clauses_typing (map (clause_rule types funs) cs) t (Some found) s) (λ found. clauses_typing (map (clause_rule types funs) cs) t (Some found) s')
      here (λ found. clauses_same cs each.1 t (Some found) s s' (λ x i. h x (later_bodies c cs x i)))

  pub same_typing : (e : Expr) → SameTyping e
  same_typing = induction SameTyping (record {
    num = λ at n wanted s s' h. type-Num types funs at n wanted s ∙ sym (type-Num types funs at n wanted s');
    var = λ at x wanted s s' h. type-Var types funs at x wanted s ∙ ap (as_wanted at wanted) (h x (subst (λ l. Contains l x) (sym (variables-Var at x)) (Contains-push [] x))) ∙ sym (type-Var types funs at x wanted s');
    call = λ at g es each wanted s s' h. type-Call types funs at g es wanted s
        ∙ ap (λ r. and_then (if length (map (rule_of types funs) es) == length (param_types funs g) then r else Err (Arity at (length (param_types funs g)) (length (map (rule_of types funs) es)))) (λ (typed : Unit {0}). as_wanted at wanted (result_type funs g)))
        (each_same es each (param_types funs g) s s' (λ x i. h x (fewer _ _ _ (variables-Call at g es) (λ y j. j) x i))) ∙ sym (type-Call types funs at g es wanted s');
    build = λ at c es each wanted s s' h. type-Build types funs at c es wanted s
        ∙ ap (λ r. and_then (if length (map (rule_of types funs) es) == length (field_types types c) then r else Err (Arity at (length (field_types types c)) (length (map (rule_of types funs) es)))) (λ (typed : Unit {0}). as_wanted at wanted (Named c.ty)))
        (each_same es each (field_types types c) s s' (λ x i. h x (fewer _ _ _ (variables-Build at c es) (λ y j. j) x i))) ∙ sym (type-Build types funs at c es wanted s');
    binary = λ at op a b ha hb wanted s s' h.
        let first = ap (λ r. and_then r (integer (rule_of types funs a).at)) (ha (operand_wanted op wanted) s s' (λ x i. h x (left (variables_in a) (variables_in b) _ (variables-Binary at op a b) x i))) in
        let both = then_same (integer_operand (rule_of types funs a) (operand_wanted op wanted) s) (integer_operand (rule_of types funs a) (operand_wanted op wanted) s') (λ t. type_of types funs b (Some t) s) (λ t. type_of types funs b (Some t) s')
        first (λ t. hb (Some t) s s' (λ x i. h x (right (variables_in a) (variables_in b) _ (variables-Binary at op a b) x i))) in
        type-Binary types funs at op a b wanted s ∙ ap (λ r. and_then r (λ t. as_wanted at wanted (operator_type op t))) both ∙ sym (type-Binary types funs at op a b wanted s');
    to = λ at bits a ha wanted s s' h. type-To types funs at bits a wanted s
        ∙ ap (λ r. and_then (and_then r (integer (rule_of types funs a).at)) (λ t. as_wanted at wanted (Int bits))) (ha None s s' (λ x i. h x (fewer _ _ _ (variables-To at bits a) (λ y j. j) x i))) ∙ sym (type-To types funs at bits a wanted s');
    bound = λ at x t a b ha hb wanted s s' h. type-Let types funs at x t a b wanted s
        ∙ then_same (type_of types funs a (Some t) s) (type_of types funs a (Some t) s') (λ u. type_of types funs b wanted (with_binder s x t)) (λ u. type_of types funs b wanted (with_binder s' x t))
        (ha (Some t) s s' (λ y i. h y (left (variables_in a) (variables_in b) _ (variables-Let at x t a b) y i)))
        (λ u. hb wanted _ _ (scopes_more _ s s' (record { var = x; ty = t } ∷ []) (λ y i. h y (right (variables_in a) (variables_in b) _ (variables-Let at x t a b) y i)))) ∙ sym (type-Let types funs at x t a b wanted s');
    choice = λ at e cs he hcs wanted s s' h. type-Match types funs at e cs wanted s
        ∙ then_same (type_of types funs e None s) (type_of types funs e None s') (λ t. clauses_typing (map (clause_rule types funs) cs) t wanted s) (λ t. clauses_typing (map (clause_rule types funs) cs) t wanted s')
        (he None s s' (λ x i. h x (left (variables_in e) (clause_variables cs) _ (variables-Match at e cs) x i)))
        (λ t. clauses_same cs hcs t wanted s s' (λ x i. h x (right (variables_in e) (clause_variables cs) _ (variables-Match at e cs) x i))) ∙ sym (type-Match types funs at e cs wanted s');
  })

  -- Matches

  abbrev SameSites : Expr → Type 0
  SameSites e = (s s' : List Binder) → ScopesAgree (variables_in e) s s' → sites types funs e s ≡ sites types funs e s'

  parts_sites : (es : List Expr) → Each SameSites es → (s s' : List Binder) → ScopesAgree (part_variables es) s s' → flat_map (part_sites s) (map (part types funs) es) ≡ flat_map (part_sites s') (map (part types funs) es)
  parts_sites [] each s s' h = refl
  parts_sites (e ∷ es) each s s' h =
      ap (λ l. l ++ flat_map (part_sites s) (map (part types funs) es)) (each.0 s s' (λ x i. h x (first_part e es x i)))
      ∙ ap (λ l. sites types funs e s' ++ l) (parts_sites es each.1 s s' (λ x i. h x (later_parts e es x i)))

  bodies_sites : (cs : List Clause) → EachBody SameSites cs → (t : Ty) (s s' : List Binder) → ScopesAgree (clause_variables cs) s s'
      → flat_map (branch_sites types t s) (map (branch types funs) cs) ≡ flat_map (branch_sites types t s') (map (branch types funs) cs)
  bodies_sites [] each t s s' h = refl
  bodies_sites (c ∷ cs) each t s s' h =
      let bs = binders types c.pat t in
      let here = sites-Clause types funs c (s ++ bs) ∙ each.0 (s ++ bs) (s' ++ bs) (scopes_more _ s s' bs (λ x i. h x (first_body c cs x i))) ∙ sym (sites-Clause types funs c (s' ++ bs)) in
      ap (λ l. l ++ flat_map (branch_sites types t s) (map (branch types funs) cs)) here
      ∙ ap (λ l. branch_sites types t s' (branch types funs c) ++ l) (bodies_sites cs each.1 t s s' (λ x i. h x (later_bodies c cs x i)))

  pub same_sites : (e : Expr) → SameSites e
  same_sites = induction SameSites (record {
    num = λ at n s s' h. sites-Num types funs at n s ∙ sym (sites-Num types funs at n s');
    var = λ at x s s' h. sites-Var types funs at x s ∙ sym (sites-Var types funs at x s');
    call = λ at g es each s s' h. sites-Call types funs at g es s ∙ parts_sites es each s s' (λ x i. h x (fewer _ _ _ (variables-Call at g es) (λ y j. j) x i)) ∙ sym (sites-Call types funs at g es s');
    build = λ at c es each s s' h. sites-Build types funs at c es s ∙ parts_sites es each s s' (λ x i. h x (fewer _ _ _ (variables-Build at c es) (λ y j. j) x i)) ∙ sym (sites-Build types funs at c es s');
    binary = λ at op a b ha hb s s' h. sites-Binary types funs at op a b s
        ∙ ap (λ l. l ++ sites types funs b s) (ha s s' (λ x i. h x (left (variables_in a) (variables_in b) _ (variables-Binary at op a b) x i)))
        ∙ ap (λ l. sites types funs a s' ++ l) (hb s s' (λ x i. h x (right (variables_in a) (variables_in b) _ (variables-Binary at op a b) x i))) ∙ sym (sites-Binary types funs at op a b s');
    to = λ at bits a ha s s' h. sites-To types funs at bits a s ∙ ha s s' (λ x i. h x (fewer _ _ _ (variables-To at bits a) (λ y j. j) x i)) ∙ sym (sites-To types funs at bits a s');
    bound = λ at x t a b ha hb s s' h. sites-Let types funs at x t a b s
        ∙ ap (λ l. l ++ sites types funs b (with_binder s x t)) (ha s s' (λ y i. h y (left (variables_in a) (variables_in b) _ (variables-Let at x t a b) y i)))
        ∙ ap (λ l. sites types funs a s' ++ l) (hb _ _ (scopes_more _ s s' (record { var = x; ty = t } ∷ []) (λ y i. h y (right (variables_in a) (variables_in b) _ (variables-Let at x t a b) y i)))) ∙ sym (sites-Let types funs at x t a b s');
    choice = λ at e cs he hcs s s' h.
        let in_e = λ (x : ℕ) (i : Contains (variables_in e) x). h x (left (variables_in e) (clause_variables cs) _ (variables-Match at e cs) x i) in
        let in_cs = λ (x : ℕ) (i : Contains (clause_variables cs) x). h x (right (variables_in e) (clause_variables cs) _ (variables-Match at e cs) x i) in
        let t = infer e None s' in
        sites-Match types funs at e cs s
        ∙ ap (λ u. site_of at u (map (branch types funs) cs) ∷ (sites types funs e s ++ flat_map (branch_sites types u s) (map (branch types funs) cs))) (same_type e None s s' in_e)
        ∙ ap (λ l. site_of at t (map (branch types funs) cs) ∷ (l ++ flat_map (branch_sites types t s) (map (branch types funs) cs))) (he s s' in_e)
        ∙ ap (λ l. site_of at t (map (branch types funs) cs) ∷ (sites types funs e s' ++ l)) (bodies_sites cs hcs t s s' in_cs) ∙ sym (sites-Match types funs at e cs s');
  })

-- Meaning

do_same : (o o' : Outcome) (go go' : Value → ℕ → Outcome) → o ≡ o' → ((v : Value) (left : ℕ) → go v left ≡ go' v left) → then_do o go ≡ then_do o' go'
unfolding then_do
do_same o o' go go' e h = ap (λ x. after x.log (at_end x.end go)) e ∙ ap (after o'.log) (ends o'.end)
  where
    ends : (e : SourceEnd) → at_end e go ≡ at_end e go'
    ends (Done v left) = h v left
    ends Spent = refl

part_same : (o o' : Outcome) (go go' : Value → ℕ → PartsOutcome) → o ≡ o' → ((v : Value) (left : ℕ) → go v left ≡ go' v left) → parts_after o.log (at_part o.end go) ≡ parts_after o'.log (at_part o'.end go')
part_same o o' go go' e h = ap (λ (x : Outcome). parts_after x.log (at_part x.end go)) e ∙ ap (parts_after o'.log) (ends o'.end)
  where
    ends : (e : SourceEnd) → at_part e go ≡ at_part e go'
    ends (Done v left) = h v left
    ends Spent = refl

cond_same : {A : Type 0} (b : Bool) (x x' y y' : A) → x ≡ x' → y ≡ y' → (if b then x else y) ≡ (if b then x' else y')
cond_same true x x' y y' e f = e
cond_same false x x' y y' e f = f

module _ (p : Program) (calls : Calls) (f : ℕ) where
  abbrev ev : Expr → Meaning
  ev = meaning_of p calls f

  abbrev SameMeaning : Expr → Type 0
  SameMeaning e = (wanted : Option Ty) (s s' : List Binder) (left : ℕ) (env env' : List Binding) → ScopesAgree (variables_in e) s s' → ValuesAgree (variables_in e) env env' → ev e wanted s left env ≡ ev e wanted s' left env'

  parts_meaning : (es : List Expr) → Each SameMeaning es → (ts : List Ty) (s s' : List Binder) (vs : List Value) (n : ℕ) (env env' : List Binding)
      → ScopesAgree (part_variables p.types p.funs es) s s' → ValuesAgree (part_variables p.types p.funs es) env env' → all_of (map ev es) ts s vs n env ≡ all_of (map ev es) ts s' vs n env'
  parts_meaning [] each ts s s' vs n env env' h k = refl
  parts_meaning (e ∷ es) each ts s s' vs n env env' h k =
      part_same (ev e (first_wanted ts) s n env) (ev e (first_wanted ts) s' n env') _ _ (each.0 (first_wanted ts) s s' n env env' (λ x i. h x (first_part p.types p.funs e es x i)) (λ x i. k x (first_part p.types p.funs e es x i)))
      (λ v rest. parts_meaning es each.1 (later_wanted ts) s s' (vs ++ v ∷ []) rest env env' (λ x i. h x (later_parts p.types p.funs e es x i)) (λ x i. k x (later_parts p.types p.funs e es x i)))

  first_meaning : (t : Ty) (cs : List Clause) → EachBody SameMeaning cs → (wanted others : Option Ty) (s s' : List Binder) (v : Value) (n : ℕ) (env env' : List Binding)
      → ScopesAgree (clause_variables p.types p.funs cs) s s' → ValuesAgree (clause_variables p.types p.funs cs) env env'
      → first_of p.types t (map (clause_meaning p calls f) cs) wanted others s v n env ≡ first_of p.types t (map (clause_meaning p calls f) cs) wanted others s' v n env'
  first_meaning t [] each wanted others s s' v n env env' h k = refl
  first_meaning t (c ∷ cs) each wanted others s s' v n env env' h k =
      let bs = binders p.types c.pat t in
      let us = bindings c.pat v in
      let opened = λ (sc : List Binder) (en : List Binding). ap (λ (b : Pat × Meaning). if matches_of b.0 v then b.1 wanted (sc ++ binders p.types b.0 t) n (en ++ bindings b.0 v) else first_of p.types t (map (clause_meaning p calls f) cs) others others sc v n en) (clause_meaning-is p calls f c) in
      opened s env ∙ cond_same (matches_of c.pat v) _ _ _ _
      (each.0 wanted (s ++ bs) (s' ++ bs) n (env ++ us) (env' ++ us) (scopes_more _ s s' bs (λ x i. h x (first_body p.types p.funs c cs x i))) (values_more _ env env' us (λ x i. k x (first_body p.types p.funs c cs x i))))
      (first_meaning t cs each.1 others others s s' v n env env' (λ x i. h x (later_bodies p.types p.funs c cs x i)) (λ x i. k x (later_bodies p.types p.funs c cs x i))) ∙ sym (opened s' env')

  pub same_meaning : (e : Expr) → SameMeaning e
  same_meaning = induction SameMeaning (record {
    num = λ at n wanted s s' l env env' h k. meaning-Num p calls f wanted s l env at n ∙ sym (meaning-Num p calls f wanted s' l env' at n);
    var = λ at x wanted s s' l env env' h k. meaning-Var p calls f wanted s l env at x ∙ ap (λ v. value_outcome v l) (k x (subst (λ xs. Contains xs x) (sym (variables-Var at x)) (Contains-push [] x))) ∙ sym (meaning-Var p calls f wanted s' l env' at x);
    call = λ at g es each wanted s s' l env env' h k.
        let inside = fewer (part_variables p.types p.funs es) _ _ (variables-Call at g es) (λ y j. j) in
        meaning-Call p calls f wanted s l env at g es ∙ ap (λ o. then_with o (λ vs rest. calls g rest vs)) (parts_meaning es each _ s s' [] l env env' (λ x i. h x (inside x i)) (λ x i. k x (inside x i))) ∙ sym (meaning-Call p calls f wanted s' l env' at g es);
    build = λ at c es each wanted s s' l env env' h k.
        let inside = fewer (part_variables p.types p.funs es) _ _ (variables-Build at c es) (λ y j. j) in
        meaning-Build p calls f wanted s l env at c es ∙ ap (λ o. then_with o (construction_outcome c)) (parts_meaning es each _ s s' [] l env env' (λ x i. h x (inside x i)) (λ x i. k x (inside x i))) ∙ sym (meaning-Build p calls f wanted s' l env' at c es);
    binary = λ at op a b ha hb wanted s s' l env env' h k.
        let in_a = left (variables_in a) (variables_in b) _ (variables-Binary at op a b) in
        let in_b = right (variables_in a) (variables_in b) _ (variables-Binary at op a b) in
        let t = operands_type op wanted (inferred_type p.types p.funs a None s') in
        meaning-Binary p calls f wanted s l env at op a b
        ∙ ap (λ u. then_do (ev a (operand_wanted op wanted) s l env) (λ v rest. then_do (ev b (Some (operands_type op wanted u)) s rest env) (operation_outcome op (width_of (operands_type op wanted u)) v))) (same_type p.types p.funs a None s s' (λ x i. h x (in_a x i)))
        ∙ do_same _ _ _ _ (ha (operand_wanted op wanted) s s' l env env' (λ x i. h x (in_a x i)) (λ x i. k x (in_a x i)))
        (λ v rest. ap (λ o. then_do o (operation_outcome op (width_of t) v)) (hb (Some t) s s' rest env env' (λ x i. h x (in_b x i)) (λ x i. k x (in_b x i)))) ∙ sym (meaning-Binary p calls f wanted s' l env' at op a b);
    to = λ at bits a ha wanted s s' l env env' h k.
        let inside = fewer (variables_in a) _ _ (variables-To at bits a) (λ y j. j) in
        meaning-To p calls f wanted s l env at bits a ∙ ap (λ o. then_do o (cut_to bits)) (ha None s s' l env env' (λ x i. h x (inside x i)) (λ x i. k x (inside x i))) ∙ sym (meaning-To p calls f wanted s' l env' at bits a);
    bound = λ at x t a b ha hb wanted s s' l env env' h k.
        let in_a = left (variables_in a) (variables_in b) _ (variables-Let at x t a b) in
        let in_b = right (variables_in a) (variables_in b) _ (variables-Let at x t a b) in
        meaning-Let p calls f wanted s l env at x t a b
        ∙ do_same _ _ _ _ (ha (Some t) s s' l env env' (λ y i. h y (in_a y i)) (λ y i. k y (in_a y i)))
        (λ v rest. hb wanted _ _ rest _ _ (scopes_more _ s s' (record { var = x; ty = t } ∷ []) (λ y i. h y (in_b y i))) (values_more _ env env' (record { var = x; value = v } ∷ []) (λ y i. k y (in_b y i)))) ∙ sym (meaning-Let p calls f wanted s' l env' at x t a b);
    choice = λ at e cs he hcs wanted s s' l env env' h k.
        let in_e = left (variables_in e) (clause_variables p.types p.funs cs) _ (variables-Match at e cs) in
        let in_cs = right (variables_in e) (clause_variables p.types p.funs cs) _ (variables-Match at e cs) in
        let ms = map (clause_meaning p calls f) cs in
        let is = map (clause_inferred p.types p.funs) cs in
        let first = inferred_type p.types p.funs e None s in
        let second = inferred_type p.types p.funs e None s' in
        let scrutinee : first ≡ second = same_type p.types p.funs e None s s' (λ x i. h x (in_e x i)) in
        let whole : match_type p.types wanted is first s ≡ match_type p.types wanted is second s' =
        sym (inferred-Match p.types p.funs wanted s at e cs) ∙ same_type p.types p.funs (X.Match at e cs) wanted s s' h ∙ inferred-Match p.types p.funs wanted s' at e cs in
        meaning-Match p calls f wanted s l env at e cs
        ∙ do_same _ _ _ _ (he None s s' l env env' (λ x i. h x (in_e x i)) (λ x i. k x (in_e x i)))
        (λ v rest. ap (after (Matched f at ∷ [])) (ap (λ t. first_of p.types t ms wanted (Some (match_type p.types wanted is first s)) s v rest env) scrutinee
        ∙ ap (λ t. first_of p.types second ms wanted (Some t) s v rest env) whole
        ∙ first_meaning second cs hcs wanted (Some (match_type p.types wanted is second s')) s s' v rest env env' (λ x i. h x (in_cs x i)) (λ x i. k x (in_cs x i)))) ∙ sym (meaning-Match p calls f wanted s' l env' at e cs);
  })
