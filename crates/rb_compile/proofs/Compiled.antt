-- One function: its code is that of its body, which returns.
use Rattle.std.proofs.Common.{◌≡◌, ℕ, ◌+◌, ◌-◌, ◌^◌, ◌<◌, ◌≤◌, ◌⊎◌, inl, inr, List, [], ◌++◌, length, replicate, Some, refl, sym, subst, ap, ◌∙◌, arith, length-append}
use Rattle.std.proofs.lemmas.List.{length-replicate}
use Rattle.std.specs.Prelude.{slice_get}
use Rattle.rb_core.specs.declared.program.Fun.{Fun}
use Rattle.rb_core.specs.Meaning.{argument_bindings, meaning_of}
use Rattle.rb_target.specs.declared.instr.Instr.{Instr}
use Rattle.rb_target.specs.declared.code.CodeFun.{CodeFun}
use Rattle.rb_target.specs.Growth.{AgreesBut, Nowhere}
use Rattle.rb_target.specs.Sheet.{Sheet, AreWritten, most_instrs}
use Rattle.rb_target.specs.Validity.{CallsFit, IsFine, IsLower, IsValidFun, SlotsFit, TargetsFit, dest_count}
use Rattle.rb_fragment.specs.Adding.{CallsWell}
use Rattle.rb_fragment.specs.Functions.{Compiles, HasShapes, param_locals, param_words}
use Rattle.rb_fragment.specs.Holding.{Holds, scope_of}
use Rattle.rb_fragment.specs.Owing.{Does, GivesValue}
use Rattle.rb_fragment.specs.Plan.{Plan, words_needed}
use Rattle.rb_fragment.specs.declared.held.Local.{Local}
use Rattle.rb_fragment.proofs.Laying.{does_map}
use Rattle.rb_fragment.proofs.Functions.{calls_fit, params_hold, params_scope}
use Rattle.rb_compile.specs.inner.Forms.{meaning_within}
use Rattle.rb_compile.specs.inner.Tails.{EmitsTail, IsReturn}

-- a function's code before its first instruction
abbrev pub empty_sheet : Plan → Fun → Sheet
empty_sheet plan f = record { code = []; params = param_words plan f; slots = param_words plan f }

module _ (plan : Plan) (g : ℕ) (f : Fun) (b : Sheet) (named : IsLower f.name)
    (e : EmitsTail plan (meaning_within plan g f.body (Some f.result) (param_locals plan 0 f.params)) (param_locals plan 0 f.params) (empty_sheet plan f) b f.result) where
  abbrev ls : List Local
  ls = param_locals plan 0 f.params

  pub are_written : AreWritten b
  are_written s lo hi =
      let w = e.tail.adds.written s (omega (arith, lo, e.tail.adds.params)) hi in
      (w.0, w.1, w.3, w.4)

  module _ (results : ℕ) (q : CodeFun) (whole : q ≡ record { name = f.name; params = b.params; results = results; slots = b.slots; body = b.code }) (count : results ≡ words_needed plan f.result)
      (enough : q.slots ≤ q.params + dest_count q.body) (small : (q.slots < 2 ^ 64) × (length q.body ≤ most_instrs)) (room : results < 2 ^ 64) where
    body_is : q.body ≡ b.code
    body_is = ap (λ (c : CodeFun). c.body) whole

    slots_are : q.slots ≡ b.slots
    slots_are = ap (λ (c : CodeFun). c.slots) whole

    results_are : q.results ≡ results
    results_are = ap (λ (c : CodeFun). c.results) whole

    params_are : q.params ≡ b.params
    params_are = ap (λ (c : CodeFun). c.params) whole

    calls_are : (funs : List CodeFun) → HasShapes plan funs → (i : Instr) → CallsWell plan i ⊎ IsReturn plan f.result i → CallsFit funs q.results i
    calls_are funs shapes i (inl well) = calls_fit plan funs q.results shapes i well
    calls_are funs shapes i (inr ret) = subst (λ (j : Instr). CallsFit funs q.results j) (sym ret.1) (ret.2 ∙ sym (results_are ∙ count))

    each : (funs : List CodeFun) → HasShapes plan funs → (pc : ℕ) (i : Instr) → slice_get q.body pc ≡ Some i → IsFine funs q pc i
    each funs shapes pc i at =
        let fit = e.tail.adds.fine pc i (omega arith) (sym (ap (λ (c : List Instr). slice_get c pc) body_is) ∙ at) in
        record {
          bounded = fit.bounded;
          slots = subst (λ k. SlotsFit k i) (sym slots_are) fit.slots_fit;
          targets = subst (λ (c : List Instr). TargetsFit (length c) pc i) (sym body_is) fit.targets;
          calls = calls_are funs shapes i fit.calls;
        }

    valid : (funs : List CodeFun) → HasShapes plan funs → IsValidFun funs q
    valid funs shapes = record {
      named = subst (λ k. IsLower k) (sym (ap (λ (c : CodeFun). c.name) whole)) named;
      params = omega (arith, slots_are, params_are, e.tail.adds.params, e.tail.adds.more);
      written = enough;
      ends = (e.tail.ends.0, ap (λ (c : List Instr). slice_get c (length c - 1)) body_is ∙ e.tail.ends.1);
      each = each funs shapes;
      small = (small.0, omega (arith, results_are, room), omega (arith, small.1));
    }

    pub tail_compiles : Compiles plan g f q
    tail_compiles = record {
      name = ap (λ (c : CodeFun). c.name) whole;
      params = params_are ∙ e.tail.adds.params;
      results = results_are ∙ count;
      valid = valid;
      does = λ calls callee next law rel clean vs ws w good reps.
          let zs = replicate {A = ℕ} (q.slots - length ws) 0 in
          let s = ws ++ zs in
          let env = argument_bindings f.params vs in
          let out = next 0 s w in
          let holds : Holds plan clean s w.memory ls env = params_hold plan clean w.memory f.params vs ws [] zs 0 refl reps in
          let room_slots : b.slots ≤ length s = omega (arith, slots_are, length-append ws zs, length-replicate {A = ℕ} (q.slots - length ws) 0) in
          let agrees : AgreesBut q.body b.code 0 (length b.code) Nowhere = record { same = λ pc lo hi no. ap (λ (c : List Instr). slice_get c pc) body_is } in
          let Ok = GivesValue plan clean f.result out in
          subst (λ k. Does plan w.switches out w.memory (meaning_of plan.program calls g f.body (Some f.result) k w.left env) Ok) (params_scope plan 0 f.params)
          (does_map plan w.switches (w.switches + 0) out out Ok Ok w.memory (meaning_of plan.program calls g f.body (Some f.result) (scope_of ls) w.left env) (omega arith) refl (λ v w' x. x)
          ((e.does calls clean env).runs q.body callee next law rel agrees s w room_slots good holds));
    }
