-- Inferred types, form by form.
use Rattle.std.proofs.Common.{◌≡◌, ℕ, ◌<◌, List, [], ◌∷◌, ◌++◌, map, length, get_or, Option, None, ap, arith}
use Rattle.rb_core.specs.declared.types.Ty.{Ty}
use Rattle.rb_core.specs.declared.types.ConRef.{ConRef}
use Rattle.rb_core.specs.declared.types.DataDecl.{DataDecl}
use Rattle.rb_core.specs.declared.typing.Binder.{Binder}
use Rattle.rb_core.specs.declared.pattern.Pat.{Pat}
use Rattle.rb_core.specs.declared.program.Fun.{Fun}
use Rattle.rb_core.specs.declared.expression.Op.{Op}
use Rattle.rb_core.specs.declared.expression.Clause.{Clause}
use Rattle.rb_core.specs.declared.expression.Expr.{Expr}
use Rattle.rb_core.specs.declared.expression.Expr as X
use Rattle.rb_core.specs.declared.expression.Expr.TheOpen as E
use Rattle.rb_core.specs.declared.expression.Expr.TheFolds.{fold-roll-Expr, fold_out-Clause}
use Rattle.rb_core.specs.Inference.{Inference, inference_step, clause_inference, inferred_type, clause_inferred, first_clause_type, binders}

module _ (types : List DataDecl) (funs : List Fun) where
  pub clause_inferred-is : (c : Clause) → clause_inferred types funs c ≡ (c.pat, inferred_type types funs c.body)
  clause_inferred-is c = fold_out-Clause Inference (Pat × Inference) (inference_step types funs) clause_inference c

  module _ (wanted : Option Ty) (scope : List Binder) where
    abbrev at_here : Inference → Ty
    at_here i = i wanted scope

    pub inferred-Num : (at n : ℕ) → inferred_type types funs (X.Num at n) wanted scope ≡ inference_step types funs (E.Num at n) wanted scope
    unfolding X.roll-Expr denote.Hole.Carrier.roll
    inferred-Num at n = ap at_here (fold-roll-Expr Inference (Pat × Inference) (inference_step types funs) clause_inference (E.Num at n))

    pub inferred-Var : (at x : ℕ) → inferred_type types funs (X.Var at x) wanted scope ≡ inference_step types funs (E.Var at x) wanted scope
    unfolding X.roll-Expr denote.Hole.Carrier.roll
    inferred-Var at x = ap at_here (fold-roll-Expr Inference (Pat × Inference) (inference_step types funs) clause_inference (E.Var at x))

    pub inferred-Call : (at g : ℕ) (es : List Expr) → inferred_type types funs (X.Call at g es) wanted scope ≡ inference_step types funs (E.Call at g (map (inferred_type types funs) es)) wanted scope
    unfolding X.roll-Expr denote.Hole.Carrier.roll
    inferred-Call at g es = ap at_here (fold-roll-Expr Inference (Pat × Inference) (inference_step types funs) clause_inference (E.Call at g es))

    pub inferred-Build : (at : ℕ) (c : ConRef) (es : List Expr) → inferred_type types funs (X.Build at c es) wanted scope ≡ inference_step types funs (E.Build at c (map (inferred_type types funs) es)) wanted scope
    unfolding X.roll-Expr denote.Hole.Carrier.roll
    inferred-Build at c es = ap at_here (fold-roll-Expr Inference (Pat × Inference) (inference_step types funs) clause_inference (E.Build at c es))

    pub inferred-Binary : (at : ℕ) (op : Op) (a b : Expr) → inferred_type types funs (X.Binary at op a b) wanted scope ≡ inference_step types funs (E.Binary at op (inferred_type types funs a) (inferred_type types funs b)) wanted scope
    unfolding X.roll-Expr denote.Hole.Carrier.roll
    inferred-Binary at op a b = ap at_here (fold-roll-Expr Inference (Pat × Inference) (inference_step types funs) clause_inference (E.Binary at op a b))

    pub inferred-To : (at bits : ℕ) (a : Expr) → inferred_type types funs (X.To at bits a) wanted scope ≡ inference_step types funs (E.To at bits (inferred_type types funs a)) wanted scope
    unfolding X.roll-Expr denote.Hole.Carrier.roll
    inferred-To at bits a = ap at_here (fold-roll-Expr Inference (Pat × Inference) (inference_step types funs) clause_inference (E.To at bits a))

    pub inferred-Let : (at x : ℕ) (t : Ty) (a b : Expr) → inferred_type types funs (X.Let at x t a b) wanted scope ≡ inference_step types funs (E.Let at x t (inferred_type types funs a) (inferred_type types funs b)) wanted scope
    unfolding X.roll-Expr denote.Hole.Carrier.roll
    inferred-Let at x t a b = ap at_here (fold-roll-Expr Inference (Pat × Inference) (inference_step types funs) clause_inference (E.Let at x t a b))

    pub inferred-Match : (at : ℕ) (e : Expr) (cs : List Clause) → inferred_type types funs (X.Match at e cs) wanted scope ≡ inference_step types funs (E.Match at (inferred_type types funs e) (map (clause_inferred types funs) cs)) wanted scope
    unfolding X.roll-Expr denote.Hole.Carrier.roll
    inferred-Match at e cs = ap at_here (fold-roll-Expr Inference (Pat × Inference) (inference_step types funs) clause_inference (E.Match at e cs))

  pub first_clause-is : (cs : List Clause) (c : Clause) (t : Ty) (scope : List Binder) → 0 < length cs → c ≡ get_or cs 0 c
      → first_clause_type types (map (clause_inferred types funs) cs) t scope ≡ inferred_type types funs c.body None (scope ++ binders types c.pat t)
  first_clause-is [] c t scope lt e = absurd (omega arith)
  first_clause-is (d ∷ cs) c t scope lt e = let same : c ≡ d = e in rw same (ap (λ (b : Pat × Inference). b.1 None (scope ++ binders types b.0 t)) (clause_inferred-is d))
