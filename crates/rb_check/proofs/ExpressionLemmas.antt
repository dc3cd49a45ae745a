-- The arguments of a call and the clauses of a match, one after another.
use Rattle.std.proofs.Common.{◌≡◌, ℕ, zero, suc, ◌+◌, ◌<◌, List, [], ◌∷◌, ◌++◌, map, drop, length, Option, Some, Ok, Err, get_or, refl, sym, ap, ◌∙◌, subst, arith, add-one}
use Rattle.std.specs.Prelude.{slice_get}
use Rattle.rb_core.specs.declared.types.Ty.{Ty}
use Rattle.rb_core.specs.declared.types.DataDecl.{DataDecl}
use Rattle.rb_core.specs.declared.program.Fun.{Fun}
use Rattle.rb_core.specs.declared.typing.Binder.{Binder}
use Rattle.rb_core.specs.declared.typing.TypeFault.{TypeFault}
use Rattle.rb_core.specs.declared.expression.Clause.{Clause}
use Rattle.rb_core.specs.declared.expression.Expr.{Expr}
use Rattle.rb_core.specs.Typing.{Typing, and_then, Rule, ClauseRule, each_argument, pattern_binders, type_of, clause_rule}
use Rattle.rb_core.proofs.TypingLemmas.{rule-Clause}
use Rattle.rb_check.specs.inner.Answers.{AnswersTyping, within}

pub Answers-at : (types : List DataDecl) (funs : List Fun) (r : Typing Ty) (e e' : Expr) (wanted : Option Ty) (scope : List Binder) (gives : Typing Ty)
    → e ≡ e' → type_of types funs e' wanted scope ≡ gives → AnswersTyping r gives → AnswersTyping r (type_of types funs e wanted scope)
Answers-at types funs r e e' wanted scope gives is same h =
    subst (AnswersTyping r) (sym (ap (λ (x : Expr). type_of types funs x wanted scope) is ∙ same)) h

module _ {A : Type 0} (rule : A → Rule) (scope : List Binder) where
  from_here : (es : List A) (ts : List Ty) (i : ℕ) (e : A) (t : Ty) → i < length es → length es ≡ length ts → e ≡ get_or es i e → slice_get ts i ≡ Some t
      → each_argument (map rule (drop i es)) (drop i ts) scope
      ≡ and_then ((rule e).answer (Some t) scope) (λ found. each_argument (map rule (drop (suc i) es)) (drop (suc i) ts) scope)
  from_here [] ts i e t lt same is get = absurd (omega arith)
  from_here (d ∷ es) [] i e t lt same is get = absurd (omega arith)
  from_here (d ∷ es) (u ∷ ts) zero e t lt same is get = let eq : u ≡ t = cc in rw (is, eq) refl
  from_here (d ∷ es) (u ∷ ts) (suc i) e t lt same is get = from_here es ts i e t (omega arith) (omega arith) is get

  pub argument-next : (es : List A) (ts : List Ty) (i : ℕ) (e : A) (t found : Ty) → i < length es → length es ≡ length ts → e ≡ get_or es i e → slice_get ts i ≡ Some t
      → (rule e).answer (Some t) scope ≡ Ok found
      → each_argument (map rule (drop i es)) (drop i ts) scope ≡ each_argument (map rule (drop (i + 1) es)) (drop (i + 1) ts) scope
  argument-next es ts i e t found lt same is get h =
      rw (add-one i) (from_here es ts i e t lt same is get ∙ ap (λ x. and_then x (λ found. each_argument (map rule (drop (suc i) es)) (drop (suc i) ts) scope)) h)

  pub argument-fails : (es : List A) (ts : List Ty) (i : ℕ) (e : A) (t : Ty) (f : TypeFault) → i < length es → length es ≡ length ts → e ≡ get_or es i e → slice_get ts i ≡ Some t
      → (rule e).answer (Some t) scope ≡ Err f
      → each_argument (map rule (drop i es)) (drop i ts) scope ≡ Err f
  argument-fails es ts i e t f lt same is get h =
      from_here es ts i e t lt same is get ∙ ap (λ x. and_then x (λ found. each_argument (map rule (drop (suc i) es)) (drop (suc i) ts) scope)) h

bound_within : (scope new : List Binder) (inner : Typing (List Binder)) (go : List Binder → Typing Ty)
    → within scope inner ≡ Ok new → and_then inner (λ more. go (scope ++ more)) ≡ go new
bound_within scope new (Ok more) go h = let same : scope ++ more ≡ new = cc in ap go same
bound_within scope new (Err f) go h = cc

bound_fails : (scope : List Binder) (inner : Typing (List Binder)) (go : List Binder → Typing Ty) (f : TypeFault)
    → within scope inner ≡ Err f → and_then inner (λ more. go (scope ++ more)) ≡ Err f
bound_fails scope (Ok more) go f h = cc
bound_fails scope (Err g) go f h = let same : g ≡ f = cc in ap Err same

module _ (types : List DataDecl) (funs : List Fun) (c : Clause) (t : Ty) (wanted : Option Ty) (scope : List Binder) where
  opened : clause_rule types funs c t wanted scope ≡ and_then (pattern_binders types c.pat t) (λ more. type_of types funs c.body wanted (scope ++ more))
  opened = ap (λ (r : ClauseRule). r t wanted scope) (rule-Clause types funs c.pat c.body)

  pub clause-binds : (new : List Binder) → within scope (pattern_binders types c.pat t) ≡ Ok new → clause_rule types funs c t wanted scope ≡ type_of types funs c.body wanted new
  clause-binds new h = opened ∙ bound_within scope new _ (type_of types funs c.body wanted) h

  pub clause-fails : (f : TypeFault) → within scope (pattern_binders types c.pat t) ≡ Err f → clause_rule types funs c t wanted scope ≡ Err f
  clause-fails f h = opened ∙ bound_fails scope _ (type_of types funs c.body wanted) f h
