-- Functions, and all their calls.
use Rattle.std.proofs.Common.{◌≡◌, ℕ, zero, suc, ◌+◌, ◌-◌, ◌≤◌, Bool, List, [], ◌∷◌, ◌++◌, map, length, replicate, Some, refl, sym, subst, ap, ◌∙◌, arith, append_assoc, length-append}
use Rattle.std.proofs.Math.Seq.{get_or-append_seam}
use Rattle.std.specs.Prelude.{slice_get, slice_index}
use Rattle.rb_core.specs.declared.value.Value.{Value}
use Rattle.rb_core.specs.declared.types.Ty.{Ty}
use Rattle.rb_core.specs.declared.typing.Binder.{Binder}
use Rattle.rb_core.specs.declared.program.Param.{Param}
use Rattle.rb_core.specs.declared.program.Fun.{Fun}
use Rattle.rb_core.specs.Typing.{binder_of}
use Rattle.rb_core.specs.Meaning.{argument_bindings, call_within}
use Rattle.rb_core.specs.Meaning as Source
use Rattle.rb_bytes.specs.Memory.{Memory, IsGood}
use Rattle.rb_target.specs.declared.instr.Instr.{Instr}
use Rattle.rb_target.specs.declared.instr.Instr.TheVariants.{Const, Copy, Alu, Take, Put, Load, Store, Place, Jump, Switch, Call, Return}
use Rattle.rb_target.specs.declared.code.CodeFun.{CodeFun}
use Rattle.rb_target.specs.declared.outcome.End.TheVariants.{Spent}
use Rattle.rb_target.specs.Laws.{Law, IsLawful}
use Rattle.rb_target.specs.Meaning as M
use Rattle.rb_target.specs.Meaning.{World, taken, over, slots_at, from, enter, after_one_call, with_left, first_slots, body_in, slots_in}
use Rattle.rb_target.specs.Validity.{FitsCall, CallsFit}
use Rattle.rb_fragment.proofs.Moves.{slots_from-below, slots_from-length}
use Rattle.rb_fragment.proofs.Represented.{Rep-count}
use Rattle.rb_fragment.specs.Adding.{CallsWell}
use Rattle.rb_fragment.specs.Functions.{AllCompile, HasShapes, RunsDo, param_locals}
use Rattle.rb_fragment.specs.Holding.{AreGiven, Holds, scope_of}
use Rattle.rb_fragment.specs.Owing.{Does, GivesValue, CallsAgree}
use Rattle.rb_fragment.specs.Plan.{Plan, Rep, Reps, types_of, words_needed_by, words_needed}
use Rattle.rb_fragment.specs.Slots.{slots_from}

-- Parameters

-- words that stand in a row
row_is : (ws pre zs : List ℕ) (a : ℕ) → length pre ≡ a → slots_at (pre ++ (ws ++ zs)) (slots_from a (length ws)) ≡ ws
row_is [] pre zs a e = refl
row_is (w ∷ ws) pre zs a e =
    let seam = get_or-append_seam pre w (ws ++ zs) 0 in
    let here : slice_index (pre ++ (w ∷ (ws ++ zs))) a ≡ w = ap (λ k. slice_index (pre ++ (w ∷ (ws ++ zs))) k) (sym e) ∙ seam in
    let len : length (pre ++ w ∷ []) ≡ a + 1 = omega (arith, e, length-append pre (w ∷ [])) in
    let rest = row_is ws (pre ++ w ∷ []) zs (a + 1) len in
    ap (λ u. u ∷ slots_at (pre ++ (w ∷ (ws ++ zs))) (slots_from (a + 1) (length ws))) here
    ∙ ap (λ us. w ∷ us) (ap (λ s. slots_at s (slots_from (a + 1) (length ws))) (sym (append_assoc pre (w ∷ []) (ws ++ zs))) ∙ rest)

module _ (plan : Plan) where
  pub params_hold : (clean : Bool) (m : Memory) (ps : List Param) (vs : List Value) (ws pre zs : List ℕ) (a : ℕ) → length pre ≡ a → Reps plan m clean (map (λ p. p.ty) ps) vs ws
      → Holds plan clean (pre ++ (ws ++ zs)) m (param_locals plan a ps) (argument_bindings ps vs)
  params_hold clean m [] [] ws pre zs a e r = tt
  params_hold clean m [] (v ∷ vs) ws pre zs a e r = absurd r
  params_hold clean m (p ∷ ps) [] ws pre zs a e r = absurd r
  params_hold clean m (p ∷ ps) (v ∷ vs) ws pre zs a e r =
      let first = r.0 in let rest = r.1 in
      let count : length first ≡ words_needed plan p.ty = Rep-count plan clean m r.3 in
      let s = pre ++ (first ++ (rest ++ zs)) in
      let whole : pre ++ (ws ++ zs) ≡ s = ap (λ l. pre ++ (l ++ zs)) r.2 ∙ ap (λ l. pre ++ l) (append_assoc first rest zs) in
      let words : slots_at s (slots_from a (words_needed plan p.ty)) ≡ first = ap (λ n. slots_at s (slots_from a n)) (sym count) ∙ row_is first pre (rest ++ zs) a e in
      let len : length (pre ++ first) ≡ a + words_needed plan p.ty = omega (arith, e, count, length-append pre first) in
      let others = params_hold clean m ps vs rest (pre ++ first) zs (a + words_needed plan p.ty) len r.4 in
      subst (λ l. Holds plan clean l m (param_locals plan a (p ∷ ps)) (argument_bindings (p ∷ ps) (v ∷ vs))) (sym whole) (
        refl,
        subst (λ us. Rep plan m clean p.ty v us) (sym words) r.3,
        subst (λ l. Holds plan clean l m (param_locals plan (a + words_needed plan p.ty) ps) (argument_bindings ps vs)) (append_assoc pre first (rest ++ zs)) others,
      )

  pub params_given : (a n : ℕ) (ps : List Param) → a + words_needed_by plan (map (λ p. p.ty) ps) ≤ n → AreGiven plan n (param_locals plan a ps)
  params_given a n [] le = tt
  params_given a n (p ∷ ps) le = (
    slots_from-below a (words_needed plan p.ty) n (omega (arith, le)),
    slots_from-length a (words_needed plan p.ty),
    params_given (a + words_needed plan p.ty) n ps (omega (arith, le)),
  )

  pub params_scope : (a : ℕ) (ps : List Param) → scope_of (param_locals plan a ps) ≡ map binder_of ps
  params_scope a [] = refl
  params_scope a (p ∷ ps) = ap (λ (l : List Binder). binder_of p ∷ l) (params_scope (a + words_needed plan p.ty) ps)

-- Calls by instructions

pub calls_fit : (plan : Plan) (funs : List CodeFun) (results : ℕ) → HasShapes plan funs → (i : Instr) → CallsWell plan i → CallsFit funs results i
calls_fit plan funs results shapes (Call g ds froms) h =
    let q = shapes g h.0 h.1 in
    subst (λ o. FitsCall o ds froms) (sym q.1) (h.2 ∙ sym q.2, h.3 ∙ sym q.3)
calls_fit plan funs results shapes (Return froms) h = absurd h
calls_fit plan funs results shapes (Const d c) h = tt
calls_fit plan funs results shapes (Copy d a) h = tt
calls_fit plan funs results shapes (Alu op n d a b) h = tt
calls_fit plan funs results shapes (Take d a o l) h = tt
calls_fit plan funs results shapes (Put d a o l) h = tt
calls_fit plan funs results shapes (Load d a offset width) h = tt
calls_fit plan funs results shapes (Store a offset width v) h = tt
calls_fit plan funs results shapes (Place d size align) h = tt
calls_fit plan funs results shapes (Jump t) h = tt
calls_fit plan funs results shapes (Switch a other arms) h = tt

-- All calls

module _ (plan : Plan) (funs : List CodeFun) (lawful : IsLawful funs) (all : AllCompile plan funs) where
  -- a call with one call less
  inside : (k : ℕ) → CallsAgree plan (call_within plan.program k) (enter funs k) → (clean : Bool) (g : ℕ) (f : Fun) (vs : List Value) (ws : List ℕ) (v : World) → slice_get plan.program.funs g ≡ Some f → IsGood v.memory
      → Reps plan v.memory clean (types_of f) vs ws
      → Does plan v.switches (from (M.body_of funs g) (enter funs k) 0 (first_slots funs g ws) v) v.memory (Source.body_outcome plan.program (call_within plan.program k) (slice_get plan.program.funs g) g v.left vs)
      (GivesValue plan clean f.result (from (M.body_of funs g) (enter funs k) 0 (first_slots funs g ws) v))
  inside k rel clean g f vs ws v is good reps =
      let c = all g f is in
      let body : M.body_of funs g ≡ c.0.body = ap body_in c.1 in
      let law : Law c.0.body (enter funs k) (from c.0.body (enter funs k)) = subst (λ (b : List Instr). Law b (enter funs k) (from b (enter funs k))) body (lawful.unrolls g (enter funs k)) in
      let out = λ (b : List Instr) (slots : ℕ). from b (enter funs k) 0 (ws ++ replicate (slots - length ws) 0) v in
      let same : out (M.body_of funs g) (slots_in (slice_get funs g)) ≡ out c.0.body c.0.slots = ap (λ (b : List Instr). out b (slots_in (slice_get funs g))) body ∙ ap (λ k'. out c.0.body k') (ap slots_in c.1) in
      let d = c.2.does (call_within plan.program k) (enter funs k) (from c.0.body (enter funs k)) law rel clean vs ws v good reps in
      subst (λ o. Does plan v.switches (out (M.body_of funs g) (slots_in (slice_get funs g))) v.memory (Source.body_outcome plan.program (call_within plan.program k) o g v.left vs) (GivesValue plan clean f.result (out (M.body_of funs g) (slots_in (slice_get funs g))))) (sym is)
      (subst (λ r. Does plan v.switches r v.memory (Source.body_outcome plan.program (call_within plan.program k) (Some f) g v.left vs) (GivesValue plan clean f.result r)) (sym same) d)

  at_depth : (k : ℕ) → CallsAgree plan (call_within plan.program k) (enter funs k) → (clean : Bool) (g : ℕ) (f : Fun) (vs : List Value) (ws : List ℕ) (w : World) → slice_get plan.program.funs g ≡ Some f → IsGood w.memory
      → Reps plan w.memory clean (types_of f) vs ws → (left : ℕ)
      → Does plan w.switches (after_one_call left w (λ v. from (M.body_of funs g) (enter funs k) 0 (first_slots funs g ws) v)) w.memory (call_within plan.program (suc k) g left vs)
      (GivesValue plan clean f.result (after_one_call left w (λ v. from (M.body_of funs g) (enter funs k) 0 (first_slots funs g ws) v)))
  at_depth k rel clean g f vs ws w is good reps zero = (w, refl, omega arith)
  at_depth k rel clean g f vs ws w is good reps (suc left) = inside k rel clean g f vs ws (with_left w left) is good reps

  at_zero : (g : ℕ) (t : Ty) (clean : Bool) (vs : List Value) (w : World) (left : ℕ) → Does plan w.switches (over Spent w) w.memory (call_within plan.program zero g left vs) (GivesValue plan clean t (over Spent w))
  at_zero g t clean vs w zero = (w, refl, omega arith)
  at_zero g t clean vs w (suc left) = (w, refl, omega arith)

  pub related : (k : ℕ) → CallsAgree plan (call_within plan.program k) (enter funs k)
  unfolding enter
  related zero = λ clean g f vs ws w is good reps. at_zero g f.result clean vs w w.left
  related (suc k) = λ clean g f vs ws w is good reps. at_depth k (related k) clean g f vs ws w is good reps w.left

  pub runs_do : RunsDo plan funs
  runs_do = λ clean g f vs ws n m is good reps. related n clean g f vs ws (record { left = n; memory = m; switches = 0; taken = 0 }) is good reps
