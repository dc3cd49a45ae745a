-- Numbers, low bits and bindings.
use Rattle.std.proofs.Common.{◌≡◌, ℕ, ◌^◌, ◌<◌, ◌≤◌, ◌⊎◌, inl, inr, List, [], ◌∷◌, ◌++◌, length, Option, Some, Ok, refl, sym, subst, ap, ◌∙◌, arith}
use Rattle.std.proofs.lemmas.List.{map-append}
use Rattle.std.specs.Prelude.{unwrap_or}
use Rattle.rb_core.specs.declared.value.Value.{Num}
use Rattle.rb_core.specs.declared.types.Ty.{Ty}
use Rattle.rb_core.specs.declared.types.Ty.TheVariants.{Int}
use Rattle.rb_core.specs.declared.binding.Binding.{Binding}
use Rattle.rb_core.specs.declared.expression.Expr.{Expr}
use Rattle.rb_core.specs.declared.expression.Expr as X
use Rattle.rb_core.specs.declared.outcome.Outcome.{Outcome}
use Rattle.rb_core.specs.Typing.{type_of}
use Rattle.rb_core.specs.Inference.{with_binder}
use Rattle.rb_core.specs.Meaning.{Calls, with_value, value_outcome, then_do, meaning_of}
use Rattle.rb_core.proofs.MeaningForms.{meaning-Num, meaning-Let}
use Rattle.rb_core.proofs.NumberedForms.{numbered-Let}
use Rattle.rb_core.proofs.TypedForms.{typed-Num, typed-Let}
use Rattle.rb_target.specs.declared.instr.Instr.{Instr}
use Rattle.rb_target.specs.declared.instr.Instr.TheVariants.{Const}
use Rattle.rb_target.specs.Sheet.{Sheet, with_more, with_slot}
use Rattle.rb_target.specs.Growth.{Grows}
use Rattle.rb_target.proofs.Growing.{Grows-append}
use Rattle.rb_rel.specs.Relation.{number}
use Rattle.rb_fragment.specs.declared.held.Held.{Held}
use Rattle.rb_fragment.specs.declared.held.Local.{Local}
use Rattle.rb_fragment.specs.Plan.{Plan}
use Rattle.rb_fragment.specs.Owing.{Does}
use Rattle.rb_fragment.specs.Adding.{Adds}
use Rattle.rb_fragment.specs.Holding.{AreGiven, Holds, IsOfLocal, binder_in, scope_of}
use Rattle.rb_fragment.specs.Fragments.{Comes, Emits}
use Rattle.rb_fragment.proofs.Adding.{Adds-one, Adds-trans}
use Rattle.rb_fragment.proofs.Fragments.{one, seq}
use Rattle.rb_fragment.proofs.Holds.{AreGiven-append, AreGiven-more, Holds-append, Holds-kept, IsOfLocal-append}
use Rattle.rb_compile.specs.inner.Ready.{SitesAreReady}
use Rattle.rb_compile.specs.inner.Forms.{EmitsExpr, IsOne, meaning_within}
use Rattle.rb_compile.proofs.Sites.{ready-Let}

-- the same by another name of the meaning
pub same_emits : (plan : Plan) (ev ev' : Calls → ℕ → List Binding → Outcome) (ls : List Local) (a b : Sheet) (t : Ty) (xs : List ℕ)
    → ((calls : Calls) (left : ℕ) (env : List Binding) → ev calls left env ≡ ev' calls left env) → Emits plan ev' ls a b t xs → Emits plan ev ls a b t xs
same_emits plan ev ev' ls a b t xs eq e = record {
  adds = e.adds;
  given = e.given;
  count = e.count;
  origin = e.origin;
  does = λ calls clean env. record {
    runs = λ final callee next law rel agrees s w long good pre.
        subst (λ o. Does plan w.switches (next (length a.code) s w) w.memory o (Comes plan clean (next (length a.code) s w) next (length b.code) a.slots t xs s)) (sym (eq calls w.left env))
        ((e.does calls clean env).runs final callee next law rel agrees s w long good pre);
  };
}

-- one instruction more
pub one_grows : (old new : Sheet) (i : Instr) (t : Ty) (held : Held) → IsOne old i t new held → Grows old.code new.code
one_grows old new i t held is = subst (λ (b : Sheet). Grows old.code b.code) (sym is.0) (Grows-append old.code (i ∷ []))

-- what is promised of one instruction is promised of what is it
pub one_is : (plan : Plan) (f : ℕ) (e : Expr) (wanted : Option Ty) (ls : List Local) (old mid new : Sheet) (i : Instr) (t : Ty) (held : Held) → IsOne mid i t new held
    → EmitsExpr plan f e wanted ls old (with_more (with_slot mid) i) (record { ty = t; slots = mid.slots ∷ [] }) → EmitsExpr plan f e wanted ls old new held
one_is plan f e wanted ls old mid new i t held is h =
    subst (λ (b : Sheet). EmitsExpr plan f e wanted ls old b held) (sym is.0)
    (subst (λ (k : Held). EmitsExpr plan f e wanted ls old (with_more (with_slot mid) i) k) (sym is.1) h)

-- Numbers

module _ (plan : Plan) (a : Sheet) (n bits : ℕ) (small : n < 2 ^ 64) (fits : n < 2 ^ bits) where
  const_adds : Adds plan a (with_more (with_slot a) (Const a.slots n))
  const_adds = Adds-one plan a (Const a.slots n) (0, omega arith, refl) (record { bounded = small; slots_fit = omega arith; targets = tt; calls = tt })

  pub number_emits : (ls : List Local) → Emits plan (λ calls left env. value_outcome (Num n) left) ls a (with_more (with_slot a) (Const a.slots n)) (Int bits) (a.slots ∷ [])
  number_emits ls = record {
    adds = const_adds;
    given = (omega arith, tt);
    count = refl;
    origin = λ x h. elim h [ inl e ↦ inl (omega (arith, e)) | inr e ↦ absurd e ];
    does = λ calls clean env. one plan clean calls a (Const a.slots n) (λ s m. Holds plan clean s m ls env) (λ left. value_outcome (Num n) left) (Int bits)
        (λ next callee pc s w pre. (Num n, n, refl, refl, number bits n fits));
  }

pub number_expr : (plan : Plan) (f at n : ℕ) (wanted : Option Ty) (ls : List Local) (a b : Sheet) (held : Held) → n < 2 ^ 64
    → IsOne a (Const a.slots n) (unwrap_or wanted (Int 64)) b held → EmitsExpr plan f (X.Num at n) wanted ls a b held
number_expr plan f at n wanted ls a b held small is =
    one_is plan f (X.Num at n) wanted ls a a b (Const a.slots n) (unwrap_or wanted (Int 64)) held is (λ t ready.
    let h = typed-Num plan.program.types plan.program.funs at n wanted (scope_of ls) t small ready.typed in
    let e = number_emits plan a n h.0 small h.2 ls in (
      h.3,
      subst (λ u. Emits plan (meaning_within plan f (X.Num at n) wanted ls) ls a (with_more (with_slot a) (Const a.slots n)) u (a.slots ∷ [])) (sym h.1)
          (same_emits plan (meaning_within plan f (X.Num at n) wanted ls) (λ calls left env. value_outcome (Num n) left) ls a (with_more (with_slot a) (Const a.slots n)) (Int h.0) (a.slots ∷ [])
          (λ calls left env. meaning-Num plan.program calls f wanted (scope_of ls) left env at n) e),
    ))

-- Bindings

module _ (plan : Plan) (ea eb : Calls → ℕ → List Binding → Outcome) (x : ℕ) (ls : List Local) (a b c : Sheet) (t u : Ty) (xs ys : List ℕ) where
  abbrev local : Local
  local = record { var = x; ty = t; slots = xs }

  pub let_emits : AreGiven plan a.slots ls → Emits plan ea ls a b t xs → Emits plan eb (ls ++ local ∷ []) b c u ys
      → Emits plan (λ calls left env. then_do (ea calls left env) (λ v rest. eb calls rest (with_value env x v))) ls a c u ys
  let_emits given first second = record {
    adds = Adds-trans plan a b c first.adds second.adds;
    given = second.given;
    count = second.count;
    origin = λ y o. go y (second.origin y o);
    does = λ calls clean env.
        seq plan clean calls a b c t u xs ys (λ s m. Holds plan clean s m ls env) (λ v s m. Holds plan clean s m (ls ++ local ∷ []) (with_value env x v))
        (λ left. ea calls left env) (λ v rest. eb calls rest (with_value env x v)) first.adds second.adds (first.does calls clean env) (λ v. second.does calls clean (with_value env x v))
        (λ v s s' m m' ext keeps rep pre.
        Holds-append plan clean s' m' ls (local ∷ []) env (record { var = x; value = v } ∷ []) (Holds-kept plan clean m m' ext a.slots s s' keeps ls env given pre) (refl, rep, tt));
  }
    where
      of_local : (y : ℕ) → IsOfLocal y ls ⊎ IsOfLocal y (local ∷ []) → (a.slots ≤ y) ⊎ IsOfLocal y ls
      of_local y (inl o) = inr o
      of_local y (inr (inl o)) = first.origin y o
      of_local y (inr (inr o)) = absurd o

      go : (y : ℕ) → (b.slots ≤ y) ⊎ IsOfLocal y (ls ++ local ∷ []) → (a.slots ≤ y) ⊎ IsOfLocal y ls
      go y (inl le) = inl (omega (arith, le, first.adds.more))
      go y (inr o) = of_local y (IsOfLocal-append y ls (local ∷ []) o)

module _ (plan : Plan) (f : ℕ) (at x : ℕ) (u : Ty) (ea eb : Expr) (wanted : Option Ty) (ls : List Local) (a b c : Sheet) (hx hy : Held) where
  abbrev inner : List Local
  inner = ls ++ record { var = x; ty = u; slots = hx.slots } ∷ []

  inner_scope : scope_of inner ≡ with_binder (scope_of ls) x u
  inner_scope = map-append binder_in ls (record { var = x; ty = u; slots = hx.slots } ∷ [])

  pub let_expr : EmitsExpr plan f ea (Some u) ls a b hx → EmitsExpr plan f eb wanted inner b c hy → EmitsExpr plan f (X.Let at x u ea eb) wanted ls a c hy
  let_expr first second = λ t ready.
      let types = plan.program.types in let funs = plan.program.funs in
      let wn = numbered-Let types funs at x u ea eb ready.within ready.numbered in
      let h = typed-Let types funs at x u ea eb wanted (scope_of ls) t ready.typed in
      let sites = ready-Let plan f at x u ea eb (scope_of ls) ready.ready_sites in
      let A = first u (record { sound = ready.sound; typed = h.0; within = ready.within; numbered = wn.0; given = ready.given; ready_sites = sites.0 }) in
      let typed1 : type_of types funs eb wanted (scope_of inner) ≡ Ok t = subst (λ k. type_of types funs eb wanted k ≡ Ok t) (sym inner_scope) h.1 in
      let given1 : AreGiven plan b.slots inner = AreGiven-append plan b.slots ls _ (AreGiven-more plan a.slots b.slots ls A.1.adds.more ready.given) (A.1.given, A.1.count, tt) in
      let B = second t (record {
        sound = ready.sound;
        typed = typed1;
        within = x ∷ ready.within;
        numbered = wn.1;
        given = given1;
        ready_sites = subst (λ k. SitesAreReady plan f (Rattle.rb_core.specs.Coverage.sites types funs eb k)) (sym inner_scope) sites.1;
      }) in (
        B.0,
        same_emits plan (meaning_within plan f (X.Let at x u ea eb) wanted ls) (λ calls left env. then_do (meaning_within plan f ea (Some u) ls calls left env) (λ v rest. meaning_within plan f eb wanted inner calls rest (with_value env x v))) ls a c t hy.slots
            (λ calls left env. meaning-Let plan.program calls f wanted (scope_of ls) left env at x u ea eb
            ∙ ap (λ k. then_do (meaning_within plan f ea (Some u) ls calls left env) (λ v rest. meaning_of plan.program calls f eb wanted k rest (with_value env x v))) (sym inner_scope))
            (let_emits plan (meaning_within plan f ea (Some u) ls) (meaning_within plan f eb wanted inner) x ls a b c u t hx.slots hy.slots ready.given A.1 B.1),
      )
