-- The source meaning, form by form: what an expression does, from what its parts do.
use Rattle.std.proofs.Common.{◌≡◌, ℕ, List, [], ◌∷◌, map, Option, Some, None, refl, ap, ◌∙◌}
use Rattle.rb_core.specs.declared.value.Value.{Num}
use Rattle.rb_core.specs.declared.types.Ty.{Ty}
use Rattle.rb_core.specs.declared.types.ConRef.{ConRef}
use Rattle.rb_core.specs.declared.typing.Binder.{Binder}
use Rattle.rb_core.specs.declared.binding.Binding.{Binding}
use Rattle.rb_core.specs.declared.outcome.Event.TheVariants.{Matched}
use Rattle.rb_core.specs.declared.outcome.Outcome.{Outcome}
use Rattle.rb_core.specs.declared.pattern.Pat.{Pat}
use Rattle.rb_core.specs.declared.program.Program.{Program}
use Rattle.rb_core.specs.declared.expression.Op.{Op}
use Rattle.rb_core.specs.declared.expression.Clause.{Clause}
use Rattle.rb_core.specs.declared.expression.Expr.{Expr}
use Rattle.rb_core.specs.declared.expression.Expr as X
use Rattle.rb_core.specs.declared.expression.Expr.TheOpen as E
use Rattle.rb_core.specs.declared.expression.Expr.TheFolds.{para-roll-Expr, para-roll-Clause}
use Rattle.rb_core.specs.Typing.{field_types, param_types, operand_wanted}
use Rattle.rb_core.specs.Inference.{Inference, width_of, with_binder, operands_type, match_type, inferred_type, clause_inferred}
use Rattle.rb_core.specs.Meaning.{Meaning, Calls, Part, Branch, part_meaning, branch_meaning, branch_inferred, value_in, with_value, value_outcome, after, then_do, then_with, all_of, first_of, construction_outcome, operation_outcome, cut_to, meaning_step, branch_step, meaning_of, clause_meaning}

module _ (p : Program) (calls : Calls) (f : ℕ) where
  abbrev part : Expr → Part
  part e = (e, meaning_of p calls f e)

  abbrev branch : Clause → Branch
  branch c = (c, clause_meaning p calls f c)

  means_of_parts : (es : List Expr) → map part_meaning (map part es) ≡ map (meaning_of p calls f) es
  means_of_parts [] = refl
  means_of_parts (e ∷ es) = ap (λ (ms : List Meaning). meaning_of p calls f e ∷ ms) (means_of_parts es)

  means_of_branches : (cs : List Clause) → map branch_meaning (map branch cs) ≡ map (clause_meaning p calls f) cs
  means_of_branches [] = refl
  means_of_branches (c ∷ cs) = ap (λ (ms : List (Pat × Meaning)). clause_meaning p calls f c ∷ ms) (means_of_branches cs)

  inferred_of_branches : (cs : List Clause) → map (branch_inferred p) (map branch cs) ≡ map (clause_inferred p.types p.funs) cs
  inferred_of_branches [] = refl
  inferred_of_branches (c ∷ cs) = ap (λ (ms : List (Pat × Inference)). clause_inferred p.types p.funs c ∷ ms) (inferred_of_branches cs)

  pub clause_meaning-is : (c : Clause) → clause_meaning p calls f c ≡ (c.pat, meaning_of p calls f c.body)
  unfolding denote.Hole.Carrier.roll
  clause_meaning-is c = para-roll-Clause Meaning (Pat × Meaning) (meaning_step p calls f) branch_step (record { pat = c.pat; body = c.body })

  module _ (wanted : Option Ty) (scope : List Binder) (left : ℕ) (env : List Binding) where
    abbrev at_here : Meaning → Outcome
    at_here m = m wanted scope left env

    pub meaning-Num : (at n : ℕ) → meaning_of p calls f (X.Num at n) wanted scope left env ≡ value_outcome (Num n) left
    unfolding X.roll-Expr denote.Hole.Carrier.roll
    meaning-Num at n = ap at_here (para-roll-Expr Meaning (Pat × Meaning) (meaning_step p calls f) branch_step (E.Num at n))

    pub meaning-Var : (at x : ℕ) → meaning_of p calls f (X.Var at x) wanted scope left env ≡ value_outcome (value_in env x) left
    unfolding X.roll-Expr denote.Hole.Carrier.roll
    meaning-Var at x = ap at_here (para-roll-Expr Meaning (Pat × Meaning) (meaning_step p calls f) branch_step (E.Var at x))

    pub meaning-Call : (at g : ℕ) (es : List Expr) → meaning_of p calls f (X.Call at g es) wanted scope left env
        ≡ then_with (all_of (map (meaning_of p calls f) es) (param_types p.funs g) scope [] left env) (λ vs rest. calls g rest vs)
    unfolding X.roll-Expr denote.Hole.Carrier.roll
    meaning-Call at g es = ap at_here (para-roll-Expr Meaning (Pat × Meaning) (meaning_step p calls f) branch_step (E.Call at g es))
        ∙ ap (λ (ms : List Meaning). then_with (all_of ms (param_types p.funs g) scope [] left env) (λ vs rest. calls g rest vs)) (means_of_parts es)

    pub meaning-Build : (at : ℕ) (c : ConRef) (es : List Expr) → meaning_of p calls f (X.Build at c es) wanted scope left env
        ≡ then_with (all_of (map (meaning_of p calls f) es) (field_types p.types c) scope [] left env) (construction_outcome c)
    unfolding X.roll-Expr denote.Hole.Carrier.roll
    meaning-Build at c es = ap at_here (para-roll-Expr Meaning (Pat × Meaning) (meaning_step p calls f) branch_step (E.Build at c es))
        ∙ ap (λ (ms : List Meaning). then_with (all_of ms (field_types p.types c) scope [] left env) (construction_outcome c)) (means_of_parts es)

    pub meaning-Binary : (at : ℕ) (op : Op) (a b : Expr) → meaning_of p calls f (X.Binary at op a b) wanted scope left env
        ≡ then_do (meaning_of p calls f a (operand_wanted op wanted) scope left env) (λ v rest.
        then_do (meaning_of p calls f b (Some (operands_type op wanted (inferred_type p.types p.funs a None scope))) scope rest env)
        (operation_outcome op (width_of (operands_type op wanted (inferred_type p.types p.funs a None scope))) v))
    unfolding X.roll-Expr denote.Hole.Carrier.roll
    meaning-Binary at op a b = ap at_here (para-roll-Expr Meaning (Pat × Meaning) (meaning_step p calls f) branch_step (E.Binary at op a b))

    pub meaning-To : (at bits : ℕ) (a : Expr) → meaning_of p calls f (X.To at bits a) wanted scope left env
        ≡ then_do (meaning_of p calls f a None scope left env) (cut_to bits)
    unfolding X.roll-Expr denote.Hole.Carrier.roll
    meaning-To at bits a = ap at_here (para-roll-Expr Meaning (Pat × Meaning) (meaning_step p calls f) branch_step (E.To at bits a))

    pub meaning-Let : (at x : ℕ) (t : Ty) (a b : Expr) → meaning_of p calls f (X.Let at x t a b) wanted scope left env
        ≡ then_do (meaning_of p calls f a (Some t) scope left env) (λ v rest. meaning_of p calls f b wanted (with_binder scope x t) rest (with_value env x v))
    unfolding X.roll-Expr denote.Hole.Carrier.roll
    meaning-Let at x t a b = ap at_here (para-roll-Expr Meaning (Pat × Meaning) (meaning_step p calls f) branch_step (E.Let at x t a b))

    pub meaning-Match : (at : ℕ) (e : Expr) (cs : List Clause) → meaning_of p calls f (X.Match at e cs) wanted scope left env
        ≡ then_do (meaning_of p calls f e None scope left env) (λ v rest. after (Matched f at ∷ [])
        (first_of p.types (inferred_type p.types p.funs e None scope) (map (clause_meaning p calls f) cs) wanted
        (Some (match_type p.types wanted (map (clause_inferred p.types p.funs) cs) (inferred_type p.types p.funs e None scope) scope)) scope v rest env))
    unfolding X.roll-Expr denote.Hole.Carrier.roll
    meaning-Match at e cs = ap at_here (para-roll-Expr Meaning (Pat × Meaning) (meaning_step p calls f) branch_step (E.Match at e cs))
        ∙ ap (λ (ms : List (Pat × Meaning)). then_do (meaning_of p calls f e None scope left env) (λ v rest. after (Matched f at ∷ [])
        (first_of p.types (inferred_type p.types p.funs e None scope) ms wanted
        (Some (match_type p.types wanted (map (branch_inferred p) (map branch cs)) (inferred_type p.types p.funs e None scope) scope)) scope v rest env))) (means_of_branches cs)
        ∙ ap (λ (ts : List (Pat × Inference)). then_do (meaning_of p calls f e None scope left env) (λ v rest. after (Matched f at ∷ [])
        (first_of p.types (inferred_type p.types p.funs e None scope) (map (clause_meaning p calls f) cs) wanted
        (Some (match_type p.types wanted ts (inferred_type p.types p.funs e None scope) scope)) scope v rest env))) (inferred_of_branches cs)
