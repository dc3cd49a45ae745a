-- Variables: the slots of the one that is bound last.
use Rattle.std.proofs.Common.{◌≡◌, ◌==◌, ℕ, ◌^◌, ◌<◌, inl, inr, Bool, true, false, List, [], ◌∷◌, map, length, Option, Some, None, refl, sym, subst, ap, ◌∙◌, arith}
use Rattle.std.specs.Prelude.{if◌then◌else◌}
use Rattle.rb_core.specs.declared.value.Value.{Value, Num}
use Rattle.rb_core.specs.declared.types.Ty.{Ty}
use Rattle.rb_core.specs.declared.types.Ty.TheVariants.{Int}
use Rattle.rb_core.specs.declared.binding.Binding.{Binding}
use Rattle.rb_core.specs.declared.expression.Expr as X
use Rattle.rb_core.specs.declared.outcome.Outcome.{Outcome}
use Rattle.rb_core.specs.Typing.{bound_type, variable_type}
use Rattle.rb_core.specs.Meaning.{Calls, value_or, value_in, value_outcome}
use Rattle.rb_core.proofs.MeaningForms.{meaning-Var}
use Rattle.rb_core.proofs.TypedForms.{typed-Var}
use Rattle.rb_bytes.specs.Memory.{Memory}
use Rattle.rb_target.specs.declared.instr.Instr.TheVariants.{Const}
use Rattle.rb_target.specs.Meaning.{slots_at}
use Rattle.rb_target.specs.Sheet.{Sheet, with_more, with_slot}
use Rattle.rb_rel.specs.Relation.{number}
use Rattle.rb_fragment.specs.declared.held.Held.{Held}
use Rattle.rb_fragment.specs.declared.held.Local.{Local}
use Rattle.rb_fragment.specs.Plan.{Plan, Rep, words_needed}
use Rattle.rb_fragment.specs.Slots.{AllBelow, IsOneOf}
use Rattle.rb_fragment.specs.Holding.{AreGiven, Holds, IsOfLocal, binder_in, scope_of}
use Rattle.rb_fragment.specs.Fragments.{Emits}
use Rattle.rb_fragment.proofs.Adding.{Adds-refl}
use Rattle.rb_fragment.proofs.Fragments.{nothing, one}
use Rattle.rb_compile.specs.inner.Forms.{EmitsExpr, VariableIs, held_or, meaning_within, IsHeldOrZero}
use Rattle.rb_compile.proofs.Forms.{number_emits, one_is, same_emits}

module _ (plan : Plan) (x : ℕ) where
  abbrev Found : ℕ → List Local → Option Held → Ty → Type 0
  Found n all None t = t ≡ Int 64
  Found n all (Some h) t = (h.ty ≡ t) × AllBelow n h.slots × (length h.slots ≡ words_needed plan h.ty) × ((y : ℕ) → IsOneOf y h.slots → IsOfLocal y all)

  abbrev here : Local → Held
  here l = record { ty = l.ty; slots = l.slots }

  found : (n : ℕ) (all ls : List Local) (d : Option Held) (t : Ty) → ((y : ℕ) → IsOfLocal y ls → IsOfLocal y all) → AreGiven plan n ls → Found n all d t
      → Found n all (held_or d x ls) (bound_type t x (map binder_in ls))
  found n all [] d t inc given h = h
  found n all (l ∷ ls) d t inc given h =
      found n all ls (if l.var == x then Some (here l) else d) (if l.var == x then l.ty else t) (λ y o. inc y (inr o)) given.2 (pick (l.var == x))
    where
      pick : (b : Bool) → Found n all (if b then Some (here l) else d) (if b then l.ty else t)
      pick true = (refl, given.0, given.1, λ y o. inc y (inl o))
      pick false = h

  module _ (clean : Bool) (s : List ℕ) (m : Memory) where
    abbrev HeldAt : Option Held → Ty → Value → Type 0
    HeldAt None t v = (t ≡ Int 64) × (v ≡ Num 0)
    HeldAt (Some h) t v = Rep plan m clean t v (slots_at s h.slots)

    looked : (ls : List Local) (bs : List Binding) (d : Option Held) (t : Ty) (v : Value) → Holds plan clean s m ls bs → HeldAt d t v
        → HeldAt (held_or d x ls) (bound_type t x (map binder_in ls)) (value_or v x bs)
    looked [] [] d t v holds h = h
    looked [] (b ∷ bs) d t v holds h = absurd holds
    looked (l ∷ ls) [] d t v holds h = absurd holds
    looked (l ∷ ls) (b ∷ bs) d t v holds h =
        looked ls bs (if l.var == x then Some (here l) else d) (if l.var == x then l.ty else t) (if b.var == x then b.value else v) holds.2
        (subst (λ y. HeldAt (if l.var == x then Some (here l) else d) (if l.var == x then l.ty else t) (if y == x then b.value else v)) holds.0 (pick (l.var == x)))
      where
        pick : (c : Bool) → HeldAt (if c then Some (here l) else d) (if c then l.ty else t) (if c then b.value else v)
        pick true = holds.1
        pick false = h

module _ (plan : Plan) (f : ℕ) (at x : ℕ) (wanted : Option Ty) (ls : List Local) (a : Sheet) where
  abbrev static : AreGiven plan a.slots ls → Found plan x a.slots ls (held_or None x ls) (variable_type x (scope_of ls))
  static given = found plan x a.slots ls ls None (Int 64) (λ y o. o) given refl

  abbrev valued : Calls → ℕ → List Binding → Outcome
  valued calls left env = value_outcome (value_in env x) left

  named : (calls : Calls) (left : ℕ) (env : List Binding) → meaning_within plan f (X.Var at x) wanted ls calls left env ≡ valued calls left env
  named calls left env = meaning-Var plan.program calls f wanted (scope_of ls) left env at x

  -- a bound variable takes no code
  bound_expr : (h : Held) → held_or None x ls ≡ Some h → EmitsExpr plan f (X.Var at x) wanted ls a a h
  bound_expr h is = λ t ready.
      let same = typed-Var plan.program.types plan.program.funs at x wanted (scope_of ls) t ready.typed in
      let st = subst (λ o. Found plan x a.slots ls o (variable_type x (scope_of ls))) is (static ready.given) in
      let ty : h.ty ≡ t = st.0 ∙ same in (
        ty,
        same_emits plan (meaning_within plan f (X.Var at x) wanted ls) valued ls a a t h.slots named (record {
          adds = Adds-refl plan a;
          given = st.1;
          count = st.2 ∙ ap (words_needed plan) ty;
          origin = λ y o. inr (st.3 y o);
          does = λ calls clean env. nothing plan clean calls a (λ s m. Holds plan clean s m ls env) (λ left. valued calls left env) t h.slots
              (λ s m left pre.
              let r = looked plan x clean s m ls env None (Int 64) (Num 0) pre (refl, refl) in
              let r1 = subst (λ o. HeldAt plan x clean s m o (variable_type x (scope_of ls)) (value_in env x)) is r in
              (value_in env x, refl, subst (λ u. Rep plan m clean u (value_in env x) (slots_at s h.slots)) same r1));
        }),
      )

  -- one that is not bound is 0, as in the meaning
  unbound_expr : held_or None x ls ≡ None → EmitsExpr plan f (X.Var at x) wanted ls a (with_more (with_slot a) (Const a.slots 0)) (record { ty = Int 64; slots = a.slots ∷ [] })
  unbound_expr is = λ t ready.
      let same = typed-Var plan.program.types plan.program.funs at x wanted (scope_of ls) t ready.typed in
      let st : variable_type x (scope_of ls) ≡ Int 64 = subst (λ o. Found plan x a.slots ls o (variable_type x (scope_of ls))) is (static ready.given) in
      let ty : Int 64 ≡ t = sym st ∙ same in
      let zero_small : 0 < 2 ^ 64 = omega arith in
      let base = number_emits plan a 0 64 zero_small zero_small ls in (
        ty,
        subst (λ u. Emits plan (meaning_within plan f (X.Var at x) wanted ls) ls a (with_more (with_slot a) (Const a.slots 0)) u (a.slots ∷ [])) ty
            (same_emits plan (meaning_within plan f (X.Var at x) wanted ls) valued ls a (with_more (with_slot a) (Const a.slots 0)) (Int 64) (a.slots ∷ []) named (record {
              adds = base.adds;
              given = base.given;
              count = refl;
              origin = base.origin;
              does = λ calls clean env. one plan clean calls a (Const a.slots 0) (λ s m. Holds plan clean s m ls env) (λ left. valued calls left env) (Int 64)
                  (λ next callee pc s w pre.
                  let r = looked plan x clean s w.memory ls env None (Int 64) (Num 0) pre (refl, refl) in
                  let r1 = subst (λ o. HeldAt plan x clean s w.memory o (variable_type x (scope_of ls)) (value_in env x)) is r in
                  (value_in env x, 0, refl, refl, subst (λ v. Rep plan w.memory clean (Int 64) v (0 ∷ [])) (sym r1.1) (number 64 0 zero_small)));
            })),
      )

-- a variable, bound or not
pub variable_expr : (plan : Plan) (f at x : ℕ) (wanted : Option Ty) (ls : List Local) (a b : Sheet) (held : Held) → VariableIs ls x a b held → EmitsExpr plan f (X.Var at x) wanted ls a b held
variable_expr plan f at x wanted ls a b held is = go (held_or None x ls) refl is
  where
    go : (o : Option Held) → held_or None x ls ≡ o → IsHeldOrZero o a b held → EmitsExpr plan f (X.Var at x) wanted ls a b held
    go None e h = one_is plan f (X.Var at x) wanted ls a a b (Const a.slots 0) (Int 64) held h (unbound_expr plan f at x wanted ls a e)
    go (Some k) e h =
        subst (λ (c : Sheet). EmitsExpr plan f (X.Var at x) wanted ls a c held) (sym h.0)
        (subst (λ (c : Held). EmitsExpr plan f (X.Var at x) wanted ls a a c) (sym h.1) (bound_expr plan f at x wanted ls a k e))
