-- Expressions in tail positions: a value that is returned, and a binding.
use Rattle.std.proofs.Common.{◌≡◌, ℕ, List, [], ◌∷◌, ◌++◌, Some, Ok, refl, sym, subst, ap, ◌∙◌}
use Rattle.std.proofs.lemmas.List.{map-append}
use Rattle.rb_core.specs.declared.types.Ty.{Ty}
use Rattle.rb_core.specs.declared.binding.Binding.{Binding}
use Rattle.rb_core.specs.declared.expression.Expr.{Expr}
use Rattle.rb_core.specs.declared.expression.Expr as X
use Rattle.rb_core.specs.declared.outcome.Outcome.{Outcome}
use Rattle.rb_core.specs.Coverage.{sites}
use Rattle.rb_core.specs.Inference.{with_binder}
use Rattle.rb_core.specs.Meaning.{Calls, meaning_of, then_do, with_value}
use Rattle.rb_core.specs.Typing.{type_of}
use Rattle.rb_core.proofs.MeaningForms.{meaning-Let}
use Rattle.rb_core.proofs.NumberedForms.{numbered-Let}
use Rattle.rb_core.proofs.TypedForms.{typed-Let}
use Rattle.rb_target.specs.declared.instr.Instr.TheVariants.{Return}
use Rattle.rb_target.specs.Sheet.{Sheet, with_more}
use Rattle.rb_fragment.specs.declared.held.Held.{Held}
use Rattle.rb_fragment.specs.declared.held.Local.{Local}
use Rattle.rb_fragment.specs.Fragments.{Emits}
use Rattle.rb_fragment.specs.Holding.{AreGiven, Holds, binder_in, scope_of}
use Rattle.rb_fragment.specs.Plan.{Plan}
use Rattle.rb_fragment.proofs.Holds.{AreGiven-append, AreGiven-more, Holds-append, Holds-kept}
use Rattle.rb_compile.specs.inner.Ready.{SitesAreReady}
use Rattle.rb_compile.specs.inner.Forms.{EmitsExpr, meaning_within}
use Rattle.rb_compile.specs.inner.Tails.{EmitsReturn, EmitsTail}
use Rattle.rb_compile.proofs.Sites.{ready-Let}
use Rattle.rb_compile.proofs.Returning.{is_tail_behind, same_tail, value_returns, value_then_tail}

-- a value, and its return
pub return_expr : (plan : Plan) (f : ℕ) (e : Expr) (t : Ty) (ls : List Local) (a b : Sheet) (held : Held) → EmitsExpr plan f e (Some t) ls a b held → EmitsReturn plan f e t ls a (with_more b (Return held.slots))
return_expr plan f e t ls a b held emits = λ ready. value_returns plan (meaning_within plan f e (Some t) ls) ls a b t held.slots (emits t ready).1

-- Bindings

module _ (plan : Plan) (ea eb : Calls → ℕ → List Binding → Outcome) (x : ℕ) (ls : List Local) (a b c : Sheet) (t u : Ty) (xs : List ℕ) where
  abbrev local : Local
  local = record { var = x; ty = t; slots = xs }

  let_tail : AreGiven plan a.slots ls → Emits plan ea ls a b t xs → EmitsTail plan eb (ls ++ local ∷ []) b c u
      → EmitsTail plan (λ calls left env. then_do (ea calls left env) (λ v rest. eb calls rest (with_value env x v))) ls a c u
  let_tail given first second = record {
    tail = is_tail_behind plan u a b c first.adds second.tail;
    does = λ calls clean env.
        value_then_tail plan clean calls a b c t u xs (λ s m. Holds plan clean s m ls env) (λ v s m. Holds plan clean s m (ls ++ local ∷ []) (with_value env x v))
        (λ left. ea calls left env) (λ v rest. eb calls rest (with_value env x v)) first.adds second.tail.adds (first.does calls clean env) (λ v. second.does calls clean (with_value env x v))
        (λ v s s' m m' ext keeps rep pre.
        Holds-append plan clean s' m' ls (local ∷ []) env (record { var = x; value = v } ∷ []) (Holds-kept plan clean m m' ext a.slots s s' keeps ls env given pre) (refl, rep, tt));
  }

module _ (plan : Plan) (f : ℕ) (at x : ℕ) (u : Ty) (ea eb : Expr) (t : Ty) (ls : List Local) (a b c : Sheet) (hx : Held) where
  abbrev inner : List Local
  inner = ls ++ record { var = x; ty = u; slots = hx.slots } ∷ []

  inner_scope : scope_of inner ≡ with_binder (scope_of ls) x u
  inner_scope = map-append binder_in ls (record { var = x; ty = u; slots = hx.slots } ∷ [])

  pub let_return : EmitsExpr plan f ea (Some u) ls a b hx → EmitsReturn plan f eb t inner b c → EmitsReturn plan f (X.Let at x u ea eb) t ls a c
  let_return first second = λ ready.
      let types = plan.program.types in let funs = plan.program.funs in
      let wanted = Some t in
      let wn = numbered-Let types funs at x u ea eb ready.within ready.numbered in
      let h = typed-Let types funs at x u ea eb wanted (scope_of ls) t ready.typed in
      let parts = ready-Let plan f at x u ea eb (scope_of ls) ready.ready_sites in
      let A = first u (record { sound = ready.sound; typed = h.0; within = ready.within; numbered = wn.0; given = ready.given; ready_sites = parts.0 }) in
      let typed1 : type_of types funs eb wanted (scope_of inner) ≡ Ok t = subst (λ k. type_of types funs eb wanted k ≡ Ok t) (sym inner_scope) h.1 in
      let given1 : AreGiven plan b.slots inner = AreGiven-append plan b.slots ls _ (AreGiven-more plan a.slots b.slots ls A.1.adds.more ready.given) (A.1.given, A.1.count, tt) in
      let B = second (record {
        sound = ready.sound;
        typed = typed1;
        within = x ∷ ready.within;
        numbered = wn.1;
        given = given1;
        ready_sites = subst (λ k. SitesAreReady plan f (sites types funs eb k)) (sym inner_scope) parts.1;
      }) in
      same_tail plan (meaning_within plan f (X.Let at x u ea eb) wanted ls) (λ calls left env. then_do (meaning_within plan f ea (Some u) ls calls left env) (λ v rest. meaning_within plan f eb wanted inner calls rest (with_value env x v))) ls a c t
      (λ calls left env. meaning-Let plan.program calls f wanted (scope_of ls) left env at x u ea eb
      ∙ ap (λ k. then_do (meaning_within plan f ea (Some u) ls calls left env) (λ v rest. meaning_of plan.program calls f eb wanted k rest (with_value env x v))) (sym inner_scope))
      (let_tail plan (meaning_within plan f ea (Some u) ls) (meaning_within plan f eb wanted inner) x ls a b c u t hx.slots ready.given A.1 B)
