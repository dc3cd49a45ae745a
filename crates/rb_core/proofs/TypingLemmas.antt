-- Typing, form by form: the rule of an expression or a pattern, from those of its parts.
use Rattle.std.proofs.Common.{◌≡◌, ℕ, List, map, Option, ap}
use Rattle.rb_core.specs.declared.types.Ty.{Ty}
use Rattle.rb_core.specs.declared.types.ConRef.{ConRef}
use Rattle.rb_core.specs.declared.types.DataDecl.{DataDecl}
use Rattle.rb_core.specs.declared.program.Fun.{Fun}
use Rattle.rb_core.specs.declared.typing.Binder.{Binder}
use Rattle.rb_core.specs.declared.pattern.Pat.{Pat}
use Rattle.rb_core.specs.declared.pattern.Pat as Q
use Rattle.rb_core.specs.declared.pattern.Pat.TheOpen as P
use Rattle.rb_core.specs.declared.pattern.Pat.TheFolds.{fold-roll-Pat}
use Rattle.rb_core.specs.declared.expression.Op.{Op}
use Rattle.rb_core.specs.declared.expression.Clause.{Clause}
use Rattle.rb_core.specs.declared.expression.Expr.{Expr}
use Rattle.rb_core.specs.declared.expression.Expr as X
use Rattle.rb_core.specs.declared.expression.Expr.TheOpen as E
use Rattle.rb_core.specs.declared.expression.Expr.TheFolds.{fold-roll-Expr, fold_out-Clause}
use Rattle.rb_core.specs.Typing.{Rule, ClauseRule, answer_step, type_of, rule_step, clause_step, rule_of, clause_rule, PatternRule, pattern_step, pattern_params}

module _ (types : List DataDecl) where
  pub pattern-Wild : (at : ℕ) (t : Ty) → pattern_params types (Q.Wild at) t ≡ pattern_step types (P.Wild at) t
  unfolding Q.roll-Pat denote.Hole.Carrier.roll
  pattern-Wild at t = ap (λ (r : PatternRule). r t) (fold-roll-Pat PatternRule (pattern_step types) (P.Wild at))

  pub pattern-Var : (at x : ℕ) (t : Ty) → pattern_params types (Q.Var at x) t ≡ pattern_step types (P.Var at x) t
  unfolding Q.roll-Pat denote.Hole.Carrier.roll
  pattern-Var at x t = ap (λ (r : PatternRule). r t) (fold-roll-Pat PatternRule (pattern_step types) (P.Var at x))

  pub pattern-Num : (at n : ℕ) (t : Ty) → pattern_params types (Q.Num at n) t ≡ pattern_step types (P.Num at n) t
  unfolding Q.roll-Pat denote.Hole.Carrier.roll
  pattern-Num at n t = ap (λ (r : PatternRule). r t) (fold-roll-Pat PatternRule (pattern_step types) (P.Num at n))

  pub pattern-Con : (at : ℕ) (c : ConRef) (ps : List Pat) (t : Ty) → pattern_params types (Q.Con at c ps) t ≡ pattern_step types (P.Con at c (map (pattern_params types) ps)) t
  unfolding Q.roll-Pat denote.Hole.Carrier.roll
  pattern-Con at c ps t = ap (λ (r : PatternRule). r t) (fold-roll-Pat PatternRule (pattern_step types) (P.Con at c ps))

module _ (types : List DataDecl) (funs : List Fun) where
  pub rule-Num : (at n : ℕ) → rule_of types funs (X.Num at n) ≡ rule_step types funs (E.Num at n)
  unfolding X.roll-Expr denote.Hole.Carrier.roll
  rule-Num at n = fold-roll-Expr Rule ClauseRule (rule_step types funs) (clause_step types) (E.Num at n)

  pub rule-Var : (at x : ℕ) → rule_of types funs (X.Var at x) ≡ rule_step types funs (E.Var at x)
  unfolding X.roll-Expr denote.Hole.Carrier.roll
  rule-Var at x = fold-roll-Expr Rule ClauseRule (rule_step types funs) (clause_step types) (E.Var at x)

  pub rule-Call : (at g : ℕ) (es : List Expr) → rule_of types funs (X.Call at g es) ≡ rule_step types funs (E.Call at g (map (rule_of types funs) es))
  unfolding X.roll-Expr denote.Hole.Carrier.roll
  rule-Call at g es = fold-roll-Expr Rule ClauseRule (rule_step types funs) (clause_step types) (E.Call at g es)

  pub rule-Build : (at : ℕ) (c : ConRef) (es : List Expr) → rule_of types funs (X.Build at c es) ≡ rule_step types funs (E.Build at c (map (rule_of types funs) es))
  unfolding X.roll-Expr denote.Hole.Carrier.roll
  rule-Build at c es = fold-roll-Expr Rule ClauseRule (rule_step types funs) (clause_step types) (E.Build at c es)

  pub rule-Binary : (at : ℕ) (op : Op) (a b : Expr) → rule_of types funs (X.Binary at op a b) ≡ rule_step types funs (E.Binary at op (rule_of types funs a) (rule_of types funs b))
  unfolding X.roll-Expr denote.Hole.Carrier.roll
  rule-Binary at op a b = fold-roll-Expr Rule ClauseRule (rule_step types funs) (clause_step types) (E.Binary at op a b)

  pub rule-To : (at bits : ℕ) (a : Expr) → rule_of types funs (X.To at bits a) ≡ rule_step types funs (E.To at bits (rule_of types funs a))
  unfolding X.roll-Expr denote.Hole.Carrier.roll
  rule-To at bits a = fold-roll-Expr Rule ClauseRule (rule_step types funs) (clause_step types) (E.To at bits a)

  pub rule-Let : (at x : ℕ) (ty : Ty) (a b : Expr) → rule_of types funs (X.Let at x ty a b) ≡ rule_step types funs (E.Let at x ty (rule_of types funs a) (rule_of types funs b))
  unfolding X.roll-Expr denote.Hole.Carrier.roll
  rule-Let at x ty a b = fold-roll-Expr Rule ClauseRule (rule_step types funs) (clause_step types) (E.Let at x ty a b)

  pub rule-Match : (at : ℕ) (e : Expr) (cs : List Clause) → rule_of types funs (X.Match at e cs) ≡ rule_step types funs (E.Match at (rule_of types funs e) (map (clause_rule types funs) cs))
  unfolding X.roll-Expr denote.Hole.Carrier.roll
  rule-Match at e cs = fold-roll-Expr Rule ClauseRule (rule_step types funs) (clause_step types) (E.Match at e cs)

  pub rule-Clause : (pat : Pat) (body : Expr) → clause_rule types funs (record { pat = pat; body = body }) ≡ clause_step types (record { pat = pat; body = rule_of types funs body })
  rule-Clause pat body = fold_out-Clause Rule ClauseRule (rule_step types funs) (clause_step types) (record { pat = pat; body = body })

  pub type-Num : (at n : ℕ) (wanted : Option Ty) (scope : List Binder) → type_of types funs (X.Num at n) wanted scope ≡ answer_step types funs (E.Num at n) wanted scope
  type-Num at n wanted scope = ap (λ (r : Rule). r.answer wanted scope) (rule-Num at n)

  pub token-Num : (at n : ℕ) → (rule_of types funs (X.Num at n)).at ≡ at
  token-Num at n = ap (λ (r : Rule). r.at) (rule-Num at n)

  pub type-Var : (at x : ℕ) (wanted : Option Ty) (scope : List Binder) → type_of types funs (X.Var at x) wanted scope ≡ answer_step types funs (E.Var at x) wanted scope
  type-Var at x wanted scope = ap (λ (r : Rule). r.answer wanted scope) (rule-Var at x)

  pub token-Var : (at x : ℕ) → (rule_of types funs (X.Var at x)).at ≡ at
  token-Var at x = ap (λ (r : Rule). r.at) (rule-Var at x)

  pub type-Call : (at g : ℕ) (es : List Expr) (wanted : Option Ty) (scope : List Binder) → type_of types funs (X.Call at g es) wanted scope ≡ answer_step types funs (E.Call at g (map (rule_of types funs) es)) wanted scope
  type-Call at g es wanted scope = ap (λ (r : Rule). r.answer wanted scope) (rule-Call at g es)

  pub token-Call : (at g : ℕ) (es : List Expr) → (rule_of types funs (X.Call at g es)).at ≡ at
  token-Call at g es = ap (λ (r : Rule). r.at) (rule-Call at g es)

  pub type-Build : (at : ℕ) (c : ConRef) (es : List Expr) (wanted : Option Ty) (scope : List Binder) → type_of types funs (X.Build at c es) wanted scope ≡ answer_step types funs (E.Build at c (map (rule_of types funs) es)) wanted scope
  type-Build at c es wanted scope = ap (λ (r : Rule). r.answer wanted scope) (rule-Build at c es)

  pub token-Build : (at : ℕ) (c : ConRef) (es : List Expr) → (rule_of types funs (X.Build at c es)).at ≡ at
  token-Build at c es = ap (λ (r : Rule). r.at) (rule-Build at c es)

  pub type-Binary : (at : ℕ) (op : Op) (a b : Expr) (wanted : Option Ty) (scope : List Binder) → type_of types funs (X.Binary at op a b) wanted scope ≡ answer_step types funs (E.Binary at op (rule_of types funs a) (rule_of types funs b)) wanted scope
  type-Binary at op a b wanted scope = ap (λ (r : Rule). r.answer wanted scope) (rule-Binary at op a b)

  pub token-Binary : (at : ℕ) (op : Op) (a b : Expr) → (rule_of types funs (X.Binary at op a b)).at ≡ at
  token-Binary at op a b = ap (λ (r : Rule). r.at) (rule-Binary at op a b)

  pub type-To : (at bits : ℕ) (a : Expr) (wanted : Option Ty) (scope : List Binder) → type_of types funs (X.To at bits a) wanted scope ≡ answer_step types funs (E.To at bits (rule_of types funs a)) wanted scope
  type-To at bits a wanted scope = ap (λ (r : Rule). r.answer wanted scope) (rule-To at bits a)

  pub token-To : (at bits : ℕ) (a : Expr) → (rule_of types funs (X.To at bits a)).at ≡ at
  token-To at bits a = ap (λ (r : Rule). r.at) (rule-To at bits a)

  pub type-Let : (at x : ℕ) (ty : Ty) (a b : Expr) (wanted : Option Ty) (scope : List Binder) → type_of types funs (X.Let at x ty a b) wanted scope ≡ answer_step types funs (E.Let at x ty (rule_of types funs a) (rule_of types funs b)) wanted scope
  type-Let at x ty a b wanted scope = ap (λ (r : Rule). r.answer wanted scope) (rule-Let at x ty a b)

  pub token-Let : (at x : ℕ) (ty : Ty) (a b : Expr) → (rule_of types funs (X.Let at x ty a b)).at ≡ at
  token-Let at x ty a b = ap (λ (r : Rule). r.at) (rule-Let at x ty a b)

  pub type-Match : (at : ℕ) (e : Expr) (cs : List Clause) (wanted : Option Ty) (scope : List Binder) → type_of types funs (X.Match at e cs) wanted scope ≡ answer_step types funs (E.Match at (rule_of types funs e) (map (clause_rule types funs) cs)) wanted scope
  type-Match at e cs wanted scope = ap (λ (r : Rule). r.answer wanted scope) (rule-Match at e cs)

  pub token-Match : (at : ℕ) (e : Expr) (cs : List Clause) → (rule_of types funs (X.Match at e cs)).at ≡ at
  token-Match at e cs = ap (λ (r : Rule). r.at) (rule-Match at e cs)

  pub type-Clause : (pat : Pat) (body : Expr) (t : Ty) (wanted : Option Ty) (scope : List Binder)
      → clause_rule types funs (record { pat = pat; body = body }) t wanted scope ≡ clause_step types (record { pat = pat; body = rule_of types funs body }) t wanted scope
  type-Clause pat body t wanted scope = ap (λ (r : ClauseRule). r t wanted scope) (rule-Clause pat body)

pub ruleset type_rules = (pattern-Wild, pattern-Var, pattern-Num, pattern-Con, type-Clause, type-Num, type-Var, type-Call, type-Build, type-Binary, type-To, type-Let, type-Match, token-Num, token-Var, token-Call, token-Build, token-Binary, token-To, token-Let, token-Match)
