-- One function, and all of a program.
use Rattle.std.proofs.Common.{◌≡◌, ℕ, zero, suc, ◌+◌, ◌<◌, ◌≤◌, ◌⊎◌, inl, inr, List, [], ◌∷◌, ◌++◌, length, Some, Ok, refl, sym, subst, ap, ◌∙◌, arith, length-append, get_or}
use Rattle.std.proofs.lemmas.Option.{slice_get_within, same_Some}
use Rattle.std.specs.Prelude.{slice_get}
use Rattle.rb_core.specs.declared.program.Fun.{Fun}
use Rattle.rb_core.specs.Coverage.{sites}
use Rattle.rb_core.specs.Typing.{type_of}
use Rattle.rb_target.specs.declared.code.CodeFun.{CodeFun}
use Rattle.rb_target.specs.Sheet.{Sheet}
use Rattle.rb_target.specs.Validity.{IsValid, IsValidFun}
use Rattle.rb_target.proofs.Growing.{below_or, get-append, get-seam}
use Rattle.rb_fragment.specs.Plan.{Plan}
use Rattle.rb_fragment.specs.Functions.{AllCompile, Compiles, HasShapes, param_locals, param_words}
use Rattle.rb_compile.proofs.Compiled.{empty_sheet}
use Rattle.rb_fragment.proofs.Functions.{params_given, params_scope}
use Rattle.rb_compile.specs.inner.Forms.{meaning_within}
use Rattle.rb_compile.specs.inner.Functions.{FirstCompile, FunIsReady, ProgramIsReady}
use Rattle.rb_compile.specs.inner.Ready.{SitesAreReady}
use Rattle.rb_compile.specs.inner.Tails.{EmitsReturn, EmitsTail}
use Rattle.rb_compile.proofs.Parts.{get_at}

-- a function's body is ready within its parameters
pub fun_returns : (plan : Plan) (g : ℕ) (f : Fun) (b : Sheet) → FunIsReady plan g f → EmitsReturn plan g f.body f.result (param_locals plan 0 f.params) (empty_sheet plan f) b
    → EmitsTail plan (meaning_within plan g f.body (Some f.result) (param_locals plan 0 f.params)) (param_locals plan 0 f.params) (empty_sheet plan f) b f.result
fun_returns plan g f b ready emits =
    let types = plan.program.types in let funs = plan.program.funs in
    let scope = params_scope plan 0 f.params in
    emits (record {
      sound = ready.sound;
      typed = subst (λ k. type_of types funs f.body (Some f.result) k ≡ Ok f.result) (sym scope) ready.typed;
      within = ready.within;
      numbered = ready.numbered;
      given = params_given plan 0 (param_words plan f) f.params (omega arith);
      ready_sites = subst (λ k. SitesAreReady plan g (sites types funs f.body k)) (sym scope) ready.ready_sites;
    })

-- one function more

pub none_compile : (plan : Plan) → FirstCompile plan 0 []
none_compile plan = record { count = refl; each = λ g f lt is. absurd (omega (arith, lt)) }

module _ (plan : Plan) (i : ℕ) (qs : List CodeFun) (fun : Fun) (q : CodeFun) (first : FirstCompile plan i qs) (is : slice_get plan.program.funs i ≡ Some fun) (new : Compiles plan i fun q) where
  pick : (g : ℕ) (f : Fun) → g < i + 1 → slice_get plan.program.funs g ≡ Some f → (g < i) ⊎ (i ≤ g) → (k : CodeFun) × (slice_get (qs ++ q ∷ []) g ≡ Some k) × Compiles plan g f k
  pick g f lt at (inl low) =
      let c = first.each g f low at in
      let inside : g < length qs = omega (arith, low, first.count) in
      (c.0, get-append qs (q ∷ []) g inside ∙ c.1, c.2)
  pick g f lt at (inr le) =
      let same : g ≡ i = omega (arith, lt, le) in
      let here : g ≡ length qs = same ∙ sym first.count in
      let f_is : fun ≡ f = same_Some fun f (sym is ∙ ap (λ k. slice_get plan.program.funs k) (sym same) ∙ at) in
      (q, ap (λ k. slice_get (qs ++ q ∷ []) k) here ∙ get-seam qs q [], subst (λ (k : Fun). Compiles plan g k q) f_is (subst (λ n. Compiles plan n fun q) (sym same) new))

  pub more_compile : FirstCompile plan (i + 1) (qs ++ q ∷ [])
  more_compile = record {
    count = length-append qs (q ∷ []) ∙ ap (λ n. n + 1) first.count;
    each = λ g f lt at. pick g f lt at (below_or g i);
  }

-- all functions

module _ (plan : Plan) (qs : List CodeFun) (ready : ProgramIsReady plan) (first : FirstCompile plan (length plan.program.funs) qs) where
  pub all_compile : AllCompile plan qs
  all_compile = λ g f at. first.each g f (slice_get_within plan.program.funs g f at) at

  shapes : HasShapes plan qs
  shapes = λ g f at. let c = all_compile g f at in (c.0, c.1, c.2.results, c.2.params)

  there : (fs : List Fun) (k : ℕ) → k < length fs → (f : Fun) × (slice_get fs k ≡ Some f)
  there [] k lt = absurd (omega (arith, lt))
  there (f ∷ fs) zero lt = (f, refl)
  there (f ∷ fs) (suc k) lt = there fs k (omega (arith, lt))

  each_valid : (n : ℕ) (q : CodeFun) → slice_get qs n ≡ Some q → IsValidFun qs q
  each_valid n q at =
      let lt = slice_get_within qs n q at in
      let f = there plan.program.funs n (omega (arith, lt, first.count)) in
      let c = all_compile n f.0 f.1 in
      let same : c.0 ≡ q = same_Some c.0 q (sym c.1 ∙ at) in
      subst (λ (k : CodeFun). IsValidFun qs k) same (c.2.valid qs shapes)

  pub valid : IsValid qs
  valid = record { few = omega (arith, first.count, ready.few_funs); each = each_valid }

pub item_is : (fs : List Fun) (i : ℕ) (fun : Fun) → i < length fs → fun ≡ get_or fs i fun → slice_get fs i ≡ Some fun
item_is fs i fun lt e = get_at fs i fun lt ∙ ap Some (sym e)
