-- What is known of each function of a program whose layouts agree.
use Rattle.std.proofs.Common.{◌≡◌, ℕ, zero, suc, ◌*◌, ◌≤◌, true, ◌&&◌, List, [], ◌∷◌, map, length, Option, Some, None, refl, sym, subst, ap, ◌∙◌, arith}
use Rattle.std.proofs.lemmas.Bool.Decides.{nat_tests}
use Rattle.std.proofs.lemmas.List.{length-map}
use Rattle.std.specs.Prelude.{slice_get, nat_eq, nat_le}
use Rattle.std.specs.List.{flat_map, list_all}
use Rattle.std.proofs.lemmas.Bool.{and_parts}
use Rattle.rb_core.specs.declared.types.Ty.{Ty}
use Rattle.rb_core.specs.declared.types.Ty.TheVariants.{Int, Named}
use Rattle.rb_core.specs.declared.types.DataDecl.{DataDecl}
use Rattle.rb_core.specs.declared.site.Site.{Site}
use Rattle.rb_core.specs.declared.layout_decl.LayoutDecl.{LayoutDecl}
use Rattle.rb_core.specs.declared.program.Fun.{Fun}
use Rattle.rb_core.specs.declared.program.Program.{Program}
use Rattle.rb_core.specs.Coverage.{AreExhaustive, function_sites, sites_of}
use Rattle.rb_core.specs.Layouts.{is_short_layout, provenances}
use Rattle.rb_core.specs.Limits.{most_parameters, most_words}
use Rattle.rb_core.specs.Typing.{binder_of}
use Rattle.rb_core.specs.TypedPrograms.{IsTyped}
use Rattle.rb_core.specs.WellNumbered.{is_between, is_distinct, is_lower, is_type, layout_is_numbered, param_is_numbered, provenance_is_numbered}
use Rattle.rb_core.proofs.NumberedForms.{body_typed, function_numbered}
use Rattle.rb_target.proofs.Names.{lower_name}
use Rattle.rb_layout.specs.declared.agreed.LaidOut.{LaidOut}
use Rattle.rb_layout.specs.declared.layout.Layout.{Layout}
use Rattle.rb_layout.specs.A1.{A1}
use Rattle.rb_layout.specs.Agreement.{AreAgreed}
use Rattle.rb_layout.specs.Flattening.{flat_layouts}
use Rattle.rb_layout.specs.Positions.{layout_of}
use Rattle.rb_rel.specs.Relation.{shape_length, word_count}
use Rattle.rb_rel.proofs.Declared.{decl_at, declared}
use Rattle.rb_fragment.specs.Plan.{Plan, types_of, words_needed_by, words_needed}
use Rattle.rb_fetch.specs.Fetching.{PlanIsSound}
use Rattle.rb_match.specs.Bounding.{bound_of}
use Rattle.rb_compile.specs.Plans.{bound_at, match_bound, plan_of, site_at, sites_in}
use Rattle.rb_compile.specs.inner.Functions.{FunIsReady, ProgramIsReady}
use Rattle.rb_compile.specs.inner.Ready.{IsAmong, SitesAreReady}
use Rattle.rb_compile.proofs.Sites.{among-left, among-right, exhaustive_at}
use Rattle.rb_compile.proofs.Tokens.{distinct_at, site_found, tokens_of}

-- Words

short_decl : (types : List DataDecl) (ds : List LayoutDecl) (k : ℕ) (d : LayoutDecl) → list_all (layout_is_numbered types) ds ≡ true → slice_get ds k ≡ Some d → length d.shape ≤ 8
short_decl types [] k d h at = cc
short_decl types (x ∷ ds) zero d h at =
    let is : x ≡ d = cc at in
    let here = (and_parts (layout_is_numbered types x) (list_all (layout_is_numbered types) ds) h).0 in
    let shape = (and_parts (is_between 1 most_words (length x.shape)) (list_all (provenance_is_numbered types) (provenances x.tree) && is_short_layout x.tree) (and_parts _ _ here).1).0 in
    let few = (and_parts (nat_le 1 (length x.shape)) (nat_le (length x.shape) most_words) shape).1 in
    subst (λ (y : LayoutDecl). length y.shape ≤ 8) is (let le : length x.shape ≤ 8 = grind (arith, nat_tests, few) in le)
short_decl types (x ∷ ds) (suc k) d h at = short_decl types ds k d (and_parts (layout_is_numbered types x) (list_all (layout_is_numbered types) ds) h).1 at

module _ (p : Program) (typed : IsTyped p) (a1 : A1 p) where
  few_at : (t : ℕ) (o : Option Layout) → layout_of (flat_layouts p) t ≡ o → shape_length o ≤ 8
  few_at t None is = omega arith
  few_at t (Some layout) is =
      let d = declared p a1 t layout is in
      let at = decl_at p.layouts t d.decl d.is_declared in
      let few = short_decl p.types p.layouts at.0 d.decl typed.numbered.layouts at.1 in
      subst (λ (l : Layout). length l.shape ≤ 8) (sym d.is_flat) few

  few_words : (t : Ty) → word_count (flat_layouts p) t ≤ 8
  few_words (Int bits) = omega arith
  few_words (Named t) = few_at t (layout_of (flat_layouts p) t) refl

words_few : (plan : Plan) → ((t : Ty) → words_needed plan t ≤ 8) → (ts : List Ty) → words_needed_by plan ts ≤ 8 * length ts
words_few plan few [] = omega arith
words_few plan few (t ∷ ts) = let h = words_few plan few ts in let f = few t in omega (arith, h, f)

-- Matches

among_at : (types : List DataDecl) (funs : List Fun) (fs : List Fun) (g : ℕ) (f : Fun) → slice_get fs g ≡ Some f → (s : Site) → IsAmong s (function_sites types funs f) → IsAmong s (flat_map (function_sites types funs) fs)
among_at types funs [] g f at s i = cc at
among_at types funs (x ∷ fs) zero f at s i =
    let is : x ≡ f = cc at in
    among-left (function_sites types funs x) (flat_map (function_sites types funs) fs) s (subst (λ (y : Fun). IsAmong s (function_sites types funs y)) (sym is) i)
among_at types funs (x ∷ fs) (suc g) f at s i = among-right (function_sites types funs x) (flat_map (function_sites types funs) fs) s (among_at types funs fs g f at s i)

module _ (agreed : LaidOut) (typed : IsTyped agreed.covered.program) (covered : AreExhaustive agreed.covered.program.types (sites_of agreed.covered.program)) (are : AreAgreed agreed.covered.program agreed.layouts) where
  abbrev p : Program
  p = agreed.covered.program

  abbrev plan : Plan
  plan = plan_of agreed

  sound : PlanIsSound plan
  sound = record { typed = typed; agreed = are }

  paid_at : (g : ℕ) (f : Fun) → slice_get p.funs g ≡ Some f → (s : Site) → IsAmong s (function_sites p.types p.funs f) → match_bound p agreed.layouts g s.at ≡ bound_of p.types agreed.layouts s.scrutinee s.patterns
  paid_at g f at s i =
      let distinct = subst (λ l. is_distinct nat_eq l ≡ true) (sym (tokens_of p.types p.funs f.body (map binder_of f.params))) (distinct_at p.funs g f typed.numbered.match_tokens at) in
      ap (λ o. bound_at p agreed.layouts (site_at s.at (sites_in p o))) at ∙ ap (bound_at p agreed.layouts) (site_found (function_sites p.types p.funs f) s distinct i)

  sites_ready : (g : ℕ) (f : Fun) → slice_get p.funs g ≡ Some f → SitesAreReady plan g (function_sites p.types p.funs f)
  sites_ready g f at s i =
      let same = paid_at g f at s i in
      record {
        exhaustive = exhaustive_at p.types (sites_of p) s covered (among_at p.types p.funs p.funs g f at s i);
        paid = omega (arith, same);
      }

  pub fun_ready : (g : ℕ) (f : Fun) → slice_get p.funs g ≡ Some f → FunIsReady plan g f
  fun_ready g f at =
      let well = function_numbered p typed g f at in
      let name = and_parts (is_lower f.name) _ well in
      let params = and_parts (nat_le (length f.params) most_parameters) _ name.1 in
      let rest = and_parts (list_all (param_is_numbered p.types) f.params) _ params.1 in
      let body = and_parts (is_type p.types f.result) _ rest.1 in
      let few : length f.params ≤ 32 = (let h = params.0 in grind (arith, nat_tests, h)) in
      let same = length-map f.params (λ p. p.ty) in
      let words = words_few plan (λ t. subst (λ l. word_count l t ≤ 8) (sym are.0) (few_words p typed are.1.a1 t)) (types_of f) in
      record {
        sound = sound;
        typed = body_typed p typed g f at;
        within = map (λ p. p.var) f.params;
        numbered = body.1;
        ready_sites = sites_ready g f at;
        few = omega (arith, words, few, same);
        named = lower_name f.name name.0;
      }

  pub program_ready : ProgramIsReady plan
  program_ready =
      let count : length p.funs ≤ 10000 = (let h = typed.numbered.function_count in grind (arith, nat_tests, h)) in
      record { few_funs = omega (arith, count); each_fun = fun_ready }
