-- Going on from an instruction is that instruction, and then going on from where it leads.
use Rattle.std.proofs.Common.{◌≡◌, ℕ, zero, suc, ◌+◌, ◌<◌, ◌≤◌, Bool, true, false, nat_eq, cond, List, [], ◌∷◌, length, Option, Some, None, refl, sym, ap, subst, ◌∙◌, arith}
use Rattle.std.specs.Prelude.{slice_get, IfSome}
use Rattle.std.proofs.lemmas.Option.{slice_get_past, same_Some}
use Rattle.std.proofs.lemmas.List.Elements.{All-head, All-tail}
use Rattle.rb_target.proofs.Results.{load_same, store_same, place_same, switch_same, call_same}
use Rattle.rb_target.specs.Meaning.{World, Next, Callee, act, act_at, steps, from, body_in, body_of, taken, target_of}
use Rattle.rb_target.specs.Validity.{IsTarget, AreArms, TargetsFit, IsValidFun, IsValid}
use Rattle.rb_target.specs.Laws.{Law}
use Rattle.rb_target.specs.declared.instr.SwitchArm.{SwitchArm}
use Rattle.rb_target.specs.declared.instr.Instr.{Instr}
use Rattle.rb_target.specs.declared.instr.Instr.TheVariants.{Const, Copy, Alu, Take, Put, Load, Store, Place, Jump, Switch, Call, Return}
use Rattle.rb_target.specs.declared.code.CodeFun.{CodeFun}

-- where a switch goes is a target
pub target_fits : (long pc : ℕ) (arms : List SwitchArm) (other : Option ℕ) (word t : ℕ) → AreArms long pc arms → IfSome other (λ t. IsTarget long pc t) → target_of arms other word ≡ Some t → IsTarget long pc t
target_fits long pc [] other word t a o e = subst (λ (x : Option ℕ). IfSome x (λ t. IsTarget long pc t)) e o
target_fits long pc (arm ∷ arms) other word t a o e =
    let P : Bool → Type 0 = λ b. cond b (Some arm.target) (target_of arms other word) ≡ Some t → IsTarget long pc t in
    (elim (nat_eq arm.number word) as P [
      | true ↦ λ h. subst (λ x. IsTarget long pc x) (same_Some arm.target t h) (All-head (λ (arm : SwitchArm). IsTarget long pc arm.target) arm arms a)
      | false ↦ λ h. target_fits long pc arms other word t (All-tail (λ (arm : SwitchArm). IsTarget long pc arm.target) arm arms a) o h
    ]) e

module _ (body : List Instr) (callee : Callee) (fits : (pc : ℕ) (i : Instr) → slice_get body pc ≡ Some i → TargetsFit (length body) pc i) where
  act_same : (pc : ℕ) (i : Instr) (g h : Next) (slots : List ℕ) (w : World) → TargetsFit (length body) pc i → ((t : ℕ) (s : List ℕ) (v : World) → pc < t → g t s v ≡ h t s v) → act i g callee pc slots w ≡ act i h callee pc slots w
  act_same pc (Const d c) g h slots w fit e = e (pc + 1) _ w (omega arith)
  act_same pc (Copy d a) g h slots w fit e = e (pc + 1) _ w (omega arith)
  act_same pc (Alu op n d a b) g h slots w fit e = e (pc + 1) _ w (omega arith)
  act_same pc (Take d a o l) g h slots w fit e = e (pc + 1) _ w (omega arith)
  act_same pc (Put d a o l) g h slots w fit e = e (pc + 1) _ w (omega arith)
  act_same pc (Load d a offset width) g h slots w fit e = load_same _ w _ _ (λ x. e (pc + 1) _ w (omega arith))
  act_same pc (Store a offset width v) g h slots w fit e = store_same _ _ _ _ (e (pc + 1) slots _ (omega arith))
  act_same pc (Place d size align) g h slots w fit e = place_same _ _ _ _ (λ x. e (pc + 1) _ _ (omega arith))
  act_same pc (Jump t) g h slots w fit e = e t slots w fit.0
  act_same pc (Switch a other arms) g h slots w fit e =
      switch_same _ _ _ _ _ (λ t is. e t slots _ (target_fits (length body) pc arms other _ t fit.1 fit.0 is).0)
  act_same pc (Call n ds froms) g h slots w fit e = call_same _ _ _ _ (λ x. e (pc + 1) _ _ (omega arith))
  act_same pc (Return froms) g h slots w fit e = refl

  at_same : (pc : ℕ) (o : Option Instr) → slice_get body pc ≡ o → (g h : Next) (slots : List ℕ) (w : World) → ((t : ℕ) (s : List ℕ) (v : World) → pc < t → g t s v ≡ h t s v) → act_at o g callee pc slots w ≡ act_at o h callee pc slots w
  at_same pc None is g h slots w e = refl
  at_same pc (Some i) is g h slots w e = act_same pc i g h slots (taken w) (fits pc i is) e

  -- a bound on the instructions that is large enough is as good as any other
  steps_same : (n m pc : ℕ) (slots : List ℕ) (w : World) → length body ≤ n + pc → length body ≤ m + pc → steps n body callee pc slots w ≡ steps m body callee pc slots w
  steps_same zero zero pc slots w a b = refl
  steps_same zero (suc m) pc slots w a b =
      ap (λ o. act_at o (steps m body callee) callee pc slots w) (sym (slice_get_past body pc (omega arith)))
  steps_same (suc n) zero pc slots w a b =
      ap (λ o. act_at o (steps n body callee) callee pc slots w) (slice_get_past body pc (omega arith))
  steps_same (suc n) (suc m) pc slots w a b =
      at_same pc (slice_get body pc) refl (steps n body callee) (steps m body callee) slots w (λ t s v lt. steps_same n m t s v (omega arith) (omega arith))

  from_step : (pc : ℕ) (i : Instr) (slots : List ℕ) (w : World) → slice_get body pc ≡ Some i → from body callee pc slots w ≡ act i (from body callee) callee pc slots (taken w)
  unfolding from
  from_step pc i slots w is =
      steps_same (length body) (suc (length body)) pc slots w (omega arith) (omega arith)
      ∙ ap (λ o. act_at o (steps (length body) body callee) callee pc slots w) is

fits_in : (funs : List CodeFun) (o : Option CodeFun) → ((f : CodeFun) → o ≡ Some f → IsValidFun funs f) → (pc : ℕ) (i : Instr) → slice_get (body_in o) pc ≡ Some i → TargetsFit (length (body_in o)) pc i
fits_in funs None valid pc i is = cc
fits_in funs (Some f) valid pc i is = ((valid f refl).each pc i is).targets

pub body_unrolls : (funs : List CodeFun) → IsValid funs → (f : ℕ) (callee : Callee) → Law (body_of funs f) callee (from (body_of funs f) callee)
body_unrolls funs valid f callee = record { step = from_step (body_of funs f) callee (fits_in funs (slice_get funs f) (valid.each f)) }
