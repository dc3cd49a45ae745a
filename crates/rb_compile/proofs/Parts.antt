-- Arguments from left to right, and what is made of them: a call, a construction.
use Rattle.std.proofs.Common.{◌≡◌, ℕ, zero, suc, ◌+◌, ◌<◌, true, List, [], ◌∷◌, ◌++◌, map, take, length, Option, Some, Ok, refl, sym, subst, ap, ◌∙◌, arith, get_or}
use Rattle.std.proofs.lemmas.List.{map-append, length-map, take_more, take_all}
use Rattle.std.proofs.lemmas.Option.{slice_get_within, same_Some}
use Rattle.std.specs.Prelude.{slice_get, unwrap_or}
use Rattle.rb_core.specs.declared.types.Ty.{Ty}
use Rattle.rb_core.specs.declared.types.Ty.TheVariants.{Named}
use Rattle.rb_core.specs.declared.types.ConRef.{ConRef}
use Rattle.rb_core.specs.declared.program.Fun.{Fun}
use Rattle.rb_core.specs.declared.expression.Expr.{Expr}
use Rattle.rb_core.specs.declared.expression.Expr as X
use Rattle.rb_core.specs.Typing.{each_argument, field_types, param_types, params_of, result_of, rule_of, type_of}
use Rattle.rb_core.specs.Values.{fields_of}
use Rattle.rb_core.specs.WellNumbered.{all_within, expression_is_numbered}
use Rattle.rb_core.specs.Meaning.{Calls, Meaning, all_of, construction_outcome, meaning_of, spent_outcome, then_with}
use Rattle.rb_core.proofs.MeaningForms.{meaning-Build, meaning-Call}
use Rattle.rb_core.proofs.NumberedForms.{numbered-Build, numbered-Call, numbered_part}
use Rattle.rb_core.proofs.TypedForms.{typed-Build, typed-Call, typed_argument}
use Rattle.rb_target.specs.Sheet.{Sheet}
use Rattle.rb_layout.specs.declared.agreed.LaidOut.{LaidOut}
use Rattle.rb_fragment.specs.declared.held.Held.{Held}
use Rattle.rb_fragment.specs.declared.held.Local.{Local}
use Rattle.rb_fragment.specs.Plan.{Plan, types_of, words_needed}
use Rattle.rb_fragment.specs.Slots.{slots_from}
use Rattle.rb_fragment.specs.Holding.{AreGiven, held_type, scope_of}
use Rattle.rb_fragment.specs.Fragments.{AnyValues, Emits, EmitsAll, with_call}
use Rattle.rb_fragment.proofs.Arguments.{applied}
use Rattle.rb_fragment.proofs.Calling.{call_applies}
use Rattle.rb_fragment.proofs.Holds.{AreGiven-more}
use Rattle.rb_fetch.specs.Constructing.{AreAsShown}
use Rattle.rb_fetch.specs.Finding.{IsPlanOf}
use Rattle.rb_build.specs.Building.{Builds}
use Rattle.rb_fetch.specs.Fetching.{PlanIsSound}
use Rattle.rb_compile.specs.inner.Ready.{AreReady, ExprIsReady}
use Rattle.rb_compile.specs.inner.Forms.{EmitsExpr, EmitsFirst, meaning_within}
use Rattle.rb_compile.proofs.Forms.{same_emits}
use Rattle.rb_compile.proofs.Showing.{emits_any, ends_shown, more_shown, none_shown}
use Rattle.rb_compile.specs.inner.Shown.{shown_of}
use Rattle.rb_compile.proofs.Sites.{Ready, ready-Build, ready-Call}

pub get_at : {A : Type 0} (xs : List A) (i : ℕ) (d : A) → i < length xs → slice_get xs i ≡ Some (get_or xs i d)
get_at [] i d lt = absurd (omega (arith, lt))
get_at (x ∷ xs) zero d lt = refl
get_at (x ∷ xs) (suc i) d lt = get_at xs i d (omega (arith, lt))

take_get : {A : Type 0} (xs : List A) (n : ℕ) (x : A) → slice_get xs n ≡ Some x → take (n + 1) xs ≡ take n xs ++ x ∷ []
take_get xs n x e =
    let lt = slice_get_within xs n x e in
    let same : get_or xs n x ≡ x = same_Some _ _ (sym (get_at xs n x lt) ∙ e) in
    take_more xs n x lt ∙ ap (λ y. take n xs ++ y ∷ []) same

module _ (plan : Plan) (f : ℕ) (es : List Expr) (ts : List Ty) (ls : List Local) where
  abbrev mf : Calls → Expr → Meaning
  mf calls e = meaning_of plan.program calls f e

  pub first_none : (a : Sheet) → EmitsFirst plan f 0 es ts ls a a []
  first_none a = λ ready given. none_shown plan ts ls (λ calls. map (mf calls) (take 0 es)) a (λ calls. refl)

  pub first_more : (i : ℕ) (e : Expr) (a b c : Sheet) (hs : List Held) (h : Held) → i < length es → e ≡ get_or es i e → length hs ≡ i
      → EmitsFirst plan f i es ts ls a b hs → EmitsExpr plan f e (slice_get ts i) ls b c h → EmitsFirst plan f (i + 1) es ts ls a c (hs ++ h ∷ [])
  first_more i e a b c hs h lt item long first second = λ ready given.
      let at : slice_get es i ≡ Some e = get_at es i e lt ∙ ap Some (sym item) in
      let r = ready i e at in
      let all = first ready given in
      let here : ExprIsReady plan f e (slice_get ts i) ls b.slots r.0 = record {
        sound = r.2.sound;
        typed = subst (λ w. type_of plan.program.types plan.program.funs e w (scope_of ls) ≡ Ok r.0) (sym r.1) r.2.typed;
        within = r.2.within;
        numbered = r.2.numbered;
        given = AreGiven-more plan a.slots b.slots ls all.adds.more given;
        ready_sites = r.2.ready_sites;
      } in
      let E = second r.0 here in
      let wanted : slice_get ts i ≡ Some h.ty = r.1 ∙ ap Some (sym E.0) in
      let e1 = subst (λ u. Emits plan (meaning_within plan f e (slice_get ts i) ls) ls b c u h.slots) (sym E.0) E.1 in
      let e2 = subst (λ w. Emits plan (λ calls left env. mf calls e w (scope_of ls) left env) ls b c h.ty h.slots) wanted e1 in
      let at_hs : slice_get ts (length hs) ≡ Some h.ty = ap (λ n. slice_get ts n) long ∙ wanted in
      let more = more_shown plan ts ls (λ calls. map (mf calls) (take i es)) (λ calls. map (mf calls) (take (i + 1) es)) (λ calls. mf calls e) (map shown_of (take i es)) (shown_of e) a b c hs h
      (λ calls. ap (λ l. map (mf calls) l) (take_get es i e at) ∙ map-append (mf calls) (take i es) (e ∷ []))
      given at_hs (take_get ts (length hs) h.ty at_hs) (λ calls left env v rest end. ends_shown plan.program e calls f (Some h.ty) (scope_of ls) left env v rest end) all e2 in
      let whole : map shown_of (take (i + 1) es) ≡ map shown_of (take i es) ++ shown_of e ∷ [] = ap (map shown_of) (take_get es i e at) ∙ map-append shown_of (take i es) (e ∷ []) in
      subst (λ ps. EmitsAll plan (AreAsShown ps) (λ calls. map (mf calls) (take (i + 1) es)) ts ls a c (hs ++ h ∷ [])) (sym whole) more

-- What is done with the values of all parts, whose types are ts
module _ (plan : Plan) (f : ℕ) (es : List Expr) (ts : List Ty) (ls : List Local) (a b : Sheet) (hs : List Held) (sound : PlanIsSound plan) (within : List ℕ) (given : AreGiven plan a.slots ls)
    (long : length (map (rule_of plan.program.types plan.program.funs) es) ≡ length ts) (typed : each_argument (map (rule_of plan.program.types plan.program.funs) es) ts (scope_of ls) ≡ Ok tt)
    (numbered : all_within (map (expression_is_numbered plan.program.types plan.program.funs) es) within ≡ true)
    (sites : (k : ℕ) (e : Expr) → slice_get es k ≡ Some e → Ready plan f e (scope_of ls)) (first : EmitsFirst plan f (length es) es ts ls a b hs) where
  many : length es ≡ length ts
  many = sym (length-map es (rule_of plan.program.types plan.program.funs)) ∙ long

  parts_ready : AreReady plan f es ts ls a.slots
  parts_ready = λ i e at.
      let t = typed_argument plan.program.types plan.program.funs es ts (scope_of ls) many typed i e at in
      (t.0, t.1, record { sound = sound; typed = t.2; within = within; numbered = numbered_part plan.program.types plan.program.funs es within numbered i e at; given = given; ready_sites = sites i e at })

  pub all_shown : EmitsAll plan (AreAsShown (map shown_of es)) (λ calls. map (meaning_of plan.program calls f) es) ts ls a b hs
  all_shown =
      let whole : take (length es) es ≡ es = take_all (length es) es (omega arith) in
      subst (λ l. EmitsAll plan (AreAsShown (map shown_of l)) (λ calls. map (meaning_of plan.program calls f) l) ts ls a b hs) whole (first parts_ready given)

  pub all_emits : EmitsAll plan AnyValues (λ calls. map (meaning_of plan.program calls f) es) ts ls a b hs
  all_emits = emits_any plan ts ls (λ calls. map (meaning_of plan.program calls f) es) (AreAsShown (map shown_of es)) a b hs all_shown

  pub kinds_are : map held_type hs ≡ ts
  kinds_are =
      let none : Calls = λ g l vs. spent_outcome in
      let count : length hs ≡ length ts = sym (all_emits.count none) ∙ length-map es (meaning_of plan.program none f) ∙ many in
      all_emits.kinds ∙ take_all (length hs) ts (omega (arith, count))

-- Calls

module _ (plan : Plan) (f at g : ℕ) (es : List Expr) (wanted : Option Ty) (ls : List Local) (fun : Fun) (is : slice_get plan.program.funs g ≡ Some fun) where
  params_are : param_types plan.program.funs g ≡ types_of fun
  params_are = ap (λ o. map (λ p. p.ty) (params_of o)) is

  pub call_expr : (a b c : Sheet) (hs : List Held) (held : Held) → EmitsFirst plan f (length es) es (types_of fun) ls a b hs
      → held ≡ record { ty = fun.result; slots = slots_from b.slots (words_needed plan fun.result) } → c ≡ with_call plan b g fun hs → EmitsExpr plan f (X.Call at g es) wanted ls a c held
  call_expr a b c hs held first held_is code_is =
      let ds = slots_from b.slots (words_needed plan fun.result) in
      subst (λ (k : Sheet). EmitsExpr plan f (X.Call at g es) wanted ls a k held) (sym code_is)
      (subst (λ (h : Held). EmitsExpr plan f (X.Call at g es) wanted ls a (with_call plan b g fun hs) h) (sym held_is) (λ t ready.
      let types = plan.program.types in let funs = plan.program.funs in
      let tc = typed-Call types funs at g es wanted (scope_of ls) t ready.typed in
      let nc = numbered-Call types funs at g es ready.within ready.numbered in
      let long : length (map (rule_of types funs) es) ≡ length (types_of fun) = tc.0 ∙ ap length params_are in
      let typed = subst (λ ts. each_argument (map (rule_of types funs) es) ts (scope_of ls) ≡ Ok tt) params_are tc.1 in
      let sites = ready-Call plan f at g es (scope_of ls) ready.ready_sites in
      let all = all_emits plan f es (types_of fun) ls a b hs ready.sound ready.within ready.given long typed nc.1 sites first in
      let kinds = kinds_are plan f es (types_of fun) ls a b hs ready.sound ready.within ready.given long typed nc.1 sites first in
      let result : fun.result ≡ t = sym (ap result_of is) ∙ tc.2 in
      let e = applied plan (types_of fun) ls AnyValues (λ calls. map (meaning_of plan.program calls f) es) (λ calls vs left. calls g left vs) a b (with_call plan b g fun hs) hs fun.result ds all (call_applies plan b g fun hs is kinds all.given) in (
        result,
        subst (λ u. Emits plan (meaning_within plan f (X.Call at g es) wanted ls) ls a (with_call plan b g fun hs) u ds) result
            (same_emits plan (meaning_within plan f (X.Call at g es) wanted ls) (λ calls left env. then_with (all_of (map (meaning_of plan.program calls f) es) (types_of fun) (scope_of ls) [] left env) (λ vs rest. calls g rest vs)) ls a (with_call plan b g fun hs) fun.result ds
            (λ calls left env. meaning-Call plan.program calls f wanted (scope_of ls) left env at g es
            ∙ ap (λ ts. then_with (all_of (map (meaning_of plan.program calls f) es) ts (scope_of ls) [] left env) (λ vs rest. calls g rest vs)) params_are) e),
      )))

-- Constructions

pub build_expr : (agreed : LaidOut) (plan : Plan) (f at : ℕ) (con : ConRef) (es : List Expr) (wanted : Option Ty) (ls : List Local) (fields : List Ty) (a b c : Sheet) (hs : List Held) (held : Held) → IsPlanOf agreed plan
    → fields_of plan.program.types con ≡ Some fields → EmitsFirst plan f (length es) es fields ls a b hs → Builds agreed con hs (map shown_of es) b c held → EmitsExpr plan f (X.Build at con es) wanted ls a c held
build_expr agreed plan f at con es wanted ls fields a b c hs held of_agreed is first builds = λ t ready.
    let types = plan.program.types in let funs = plan.program.funs in
    let tc = typed-Build types funs at con es wanted (scope_of ls) t ready.typed in
    let nc = numbered-Build types funs at con es ready.within ready.numbered in
    let fields_are : field_types types con ≡ fields = ap (λ o. unwrap_or o []) is in
    let long : length (map (rule_of types funs) es) ≡ length fields = tc.0 ∙ ap length fields_are in
    let typed = subst (λ ts. each_argument (map (rule_of types funs) es) ts (scope_of ls) ≡ Ok tt) fields_are tc.1 in
    let sites = ready-Build plan f at con es (scope_of ls) ready.ready_sites in
    let all = all_shown plan f es fields ls a b hs ready.sound ready.within ready.given long typed nc.1 sites first in
    let kinds = kinds_are plan f es fields ls a b hs ready.sound ready.within ready.given long typed nc.1 sites first in
    let done = builds plan of_agreed fields is kinds all.given in
    let e = applied plan fields ls (AreAsShown (map shown_of es)) (λ calls. map (meaning_of plan.program calls f) es) (λ calls. construction_outcome con) a b c hs (Named con.ty) held.slots all done.1 in (
      done.0 ∙ tc.2,
      subst (λ u. Emits plan (meaning_within plan f (X.Build at con es) wanted ls) ls a c u held.slots) tc.2
          (same_emits plan (meaning_within plan f (X.Build at con es) wanted ls) (λ calls left env. then_with (all_of (map (meaning_of plan.program calls f) es) fields (scope_of ls) [] left env) (construction_outcome con)) ls a c (Named con.ty) held.slots
          (λ calls left env. meaning-Build plan.program calls f wanted (scope_of ls) left env at con es
          ∙ ap (λ ts. then_with (all_of (map (meaning_of plan.program calls f) es) ts (scope_of ls) [] left env) (construction_outcome con)) fields_are) e),
    )
