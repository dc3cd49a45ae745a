-- Values of expressions match what the file shows of them, and so do those that code leaves in slots.
use Rattle.std.proofs.Common.{◌≡◌, ℕ, ◌+◌, ◌==◌, ◌≤◌, true, List, [], ◌∷◌, ◌++◌, map, take, length, Option, Some, None, refl, sym, subst, ap, ◌∙◌, arith, length-append}
use Rattle.std.proofs.lemmas.List.{append-nil, append_assoc, map-append}
use Rattle.std.specs.Prelude.{slice_get}
use Rattle.std.proofs.lemmas.Bool.{and_parts}
use Rattle.rb_core.specs.declared.value.Value.{Value, Con}
use Rattle.rb_core.specs.declared.value.Value.TheVariants.{outs-Con}
use Rattle.rb_core.specs.declared.types.Ty.{Ty}
use Rattle.rb_core.specs.declared.types.ConRef.{ConRef}
use Rattle.rb_core.specs.declared.typing.Binder.{Binder}
use Rattle.rb_core.specs.declared.binding.Binding.{Binding}
use Rattle.rb_core.specs.declared.outcome.Outcome.{Outcome}
use Rattle.rb_core.specs.declared.outcome.SourceEnd.{SourceEnd}
use Rattle.rb_core.specs.declared.outcome.SourceEnd.TheVariants.{Done, Spent as Stopped}
use Rattle.rb_core.specs.declared.outcome.PartsEnd.{PartsEnd}
use Rattle.rb_core.specs.declared.outcome.PartsEnd.TheVariants.{AllDone, Cut}
use Rattle.rb_core.specs.declared.pattern.Pat.{Pat, Wild, Con as ConPat}
use Rattle.rb_core.specs.declared.program.Program.{Program}
use Rattle.rb_core.specs.declared.expression.Expr.{Expr}
use Rattle.rb_core.specs.declared.expression.Expr as X
use Rattle.rb_core.specs.declared.expression.Expr.TheOpen as E
use Rattle.rb_core.specs.declared.expression.Expr.TheFolds.{fold-roll-Expr}
use Rattle.rb_core.specs.Matching.{all_pass, is_con, matches_of}
use Rattle.rb_core.specs.Typing.{field_types}
use Rattle.rb_core.specs.Meaning.{Calls, Meaning, PartsOutcome, all_of, at_part, at_parts_end, construction_outcome, first_wanted, later_wanted, meaning_of, then_do, then_with}
use Rattle.rb_core.proofs.ExpressionLaws.{Each, induction}
use Rattle.rb_core.proofs.MatchingForms.{matches-Con, matches-Wild}
use Rattle.rb_core.proofs.MeaningForms.{meaning-Build}
use Rattle.rb_core.proofs.PartForms.{all_of-append, all_of-none}
use Rattle.rb_bytes.specs.Memory.{Memory}
use Rattle.rb_bytes.proofs.GrowthLemmas.{Grown-extends, Grown-refl, Grown-trans}
use Rattle.rb_target.specs.Growth.{Keeps, Nowhere}
use Rattle.rb_target.specs.Meaning.{World, CallEnd as Run, slots_at}
use Rattle.rb_target.specs.Sheet.{Sheet}
use Rattle.rb_target.proofs.Growing.{Agrees-part, Grows-refl, Keeps-refl, Keeps-trans}
use Rattle.rb_rel.specs.Placing.{Fits, Laid, Over, lay, requests_of}
use Rattle.rb_rel.proofs.Lists.{and_true}
use Rattle.rb_fragment.proofs.Adding.{Adds-refl, Adds-trans}
use Rattle.rb_fragment.proofs.Holds.{AllGiven-append, AllGiven-more, AreHeld-append, AreHeld-kept, Holds-kept}
use Rattle.rb_fragment.proofs.Laying.{bind, does_map}
use Rattle.rb_fragment.specs.Fragments.{AnyValues, Comes, Emits, EmitsAll}
use Rattle.rb_fragment.specs.Holding.{AreGiven, held_type, scope_of}
use Rattle.rb_fragment.specs.Owing.{Does, Ends}
use Rattle.rb_fragment.specs.Plan.{Plan, Rep, cost_of}
use Rattle.rb_fragment.specs.declared.held.Held.{Held}
use Rattle.rb_fragment.specs.declared.held.Local.{Local}
use Rattle.rb_fetch.specs.Constructing.{AreAsShown}
use Rattle.rb_compile.specs.inner.Shown.{shown_body, shown_of, shown_step}

-- Values --------------------------------------------------------------------------------------------

values_of : PartsEnd → List Value
values_of (AllDone xs l) = xs
values_of Cut = []

values : (xs : List Value) (l : ℕ) (ys : List Value) (k : ℕ) → AllDone xs l ≡ AllDone ys k → xs ≡ ys
unfolding values_of
values xs l ys k h = ap values_of h

-- the value that an expression ends with matches what is shown of it
abbrev EndsShown : Program → Expr → Type 0
EndsShown p e = (calls : Calls) (f : ℕ) (wanted : Option Ty) (scope : List Binder) (left : ℕ) (env : List Binding) (v : Value) (rest : ℕ)
    → (meaning_of p calls f e wanted scope left env).end ≡ Done v rest → matches_of (shown_of e) v ≡ true

value_of : SourceEnd → Option Value
value_of (Done v l) = Some v
value_of Stopped = None

con_ends : (o : PartsOutcome) (c : ConRef) (v : Value) (rest : ℕ) → (then_with o (construction_outcome c)).end ≡ Done v rest → (vs : List Value) × (k : ℕ) × (o.end ≡ AllDone vs k) × (v ≡ Con c.con vs)
unfolding then_with value_of
con_ends o c v rest e = go o.end refl e
  where
    same : (a b : Value) → Some a ≡ Some b → a ≡ b
    same a b h = cc

    go : (x : PartsEnd) → o.end ≡ x → (at_parts_end x (construction_outcome c)).end ≡ Done v rest → (vs : List Value) × (k : ℕ) × (o.end ≡ AllDone vs k) × (v ≡ Con c.con vs)
    go (AllDone vs k) is h = (vs, k, is, sym (same (Con c.con vs) v (ap value_of h)))
    go Cut is h = absurd cc

nothing_shown : (e : Expr) (v : Value) → shown_of e ≡ Wild 0 → matches_of (shown_of e) v ≡ true
nothing_shown e v is = ap (λ q. matches_of q v) is ∙ matches-Wild v 0

pass-append : (ps : List Pat) (p : Pat) (vs : List Value) (v : Value) → AreAsShown ps vs → matches_of p v ≡ true → AreAsShown (ps ++ p ∷ []) (vs ++ v ∷ [])
pass-append [] p [] v all one = and_true (matches_of p v) true one refl
pass-append [] p (x ∷ vs) v all one = absurd cc
pass-append (q ∷ ps) p [] v all one = absurd cc
pass-append (q ∷ ps) p (x ∷ vs) v all one =
    let b = and_parts (matches_of q x) (all_pass (map matches_of ps) vs) all in
    and_true (matches_of q x) (all_pass (map matches_of (ps ++ p ∷ [])) (vs ++ v ∷ [])) b.0 (pass-append ps p vs v b.1 one)

-- values of parts, behind some that match other patterns
parts_shown : (p : Program) (calls : Calls) (f : ℕ) (es : List Expr) → Each (EndsShown p) es → (ts : List Ty) (scope : List Binder) (ps : List Pat) (us : List Value) (left : ℕ) (env : List Binding) (vs : List Value) (rest : ℕ)
    → AreAsShown ps us → (all_of (map (meaning_of p calls f) es) ts scope us left env).end ≡ AllDone vs rest → AreAsShown (ps ++ map shown_of es) vs
parts_shown p calls f [] each ts scope ps us left env vs rest all e =
    subst (λ qs. AreAsShown qs vs) (sym (append-nil ps)) (subst (AreAsShown ps) (values us left vs rest e) all)
parts_shown p calls f (x ∷ es) each ts scope ps us left env vs rest all e =
    go (λ v k more h. parts_shown p calls f es each.1 (later_wanted ts) scope (ps ++ shown_of x ∷ []) (us ++ v ∷ []) k env vs rest more h)
    (meaning_of p calls f x (first_wanted ts) scope left env).end refl e
  where
    go : ((v : Value) (k : ℕ) → AreAsShown (ps ++ shown_of x ∷ []) (us ++ v ∷ []) → (all_of (map (meaning_of p calls f) es) (later_wanted ts) scope (us ++ v ∷ []) k env).end ≡ AllDone vs rest
        → AreAsShown ((ps ++ shown_of x ∷ []) ++ map shown_of es) vs)
        → (end : SourceEnd) → (meaning_of p calls f x (first_wanted ts) scope left env).end ≡ end
        → (at_part end (λ v k. all_of (map (meaning_of p calls f) es) (later_wanted ts) scope (us ++ v ∷ []) k env)).end ≡ AllDone vs rest → AreAsShown (ps ++ map shown_of (x ∷ es)) vs
    go others (Done v k) is h =
        let more = pass-append ps (shown_of x) us v all (each.0 calls f (first_wanted ts) scope left env v k is) in
        subst (λ qs. AreAsShown qs vs) (append_assoc ps (shown_of x ∷ []) (map shown_of es)) (others v k more h)
    go others Stopped is h = absurd cc

pub shown-Build : (at : ℕ) (c : ConRef) (es : List Expr) → shown_of (X.Build at c es) ≡ ConPat at c (map shown_of es)
unfolding X.roll-Expr denote.Hole.Carrier.roll
shown-Build at c es = fold-roll-Expr Pat Pat shown_step shown_body (E.Build at c es)

pub ends_shown : (p : Program) (e : Expr) → EndsShown p e
unfolding X.roll-Expr denote.Hole.Carrier.roll
ends_shown p = induction (EndsShown p) (record {
  num = λ at n calls f wanted scope left env v rest h. nothing_shown (X.Num at n) v (fold-roll-Expr Pat Pat shown_step shown_body (E.Num at n));
  var = λ at x calls f wanted scope left env v rest h. nothing_shown (X.Var at x) v (fold-roll-Expr Pat Pat shown_step shown_body (E.Var at x));
  call = λ at g es each calls f wanted scope left env v rest h. nothing_shown (X.Call at g es) v (fold-roll-Expr Pat Pat shown_step shown_body (E.Call at g es));
  build = λ at c es each calls f wanted scope left env v rest h. con_shown at c es each calls f wanted scope left env v rest h;
  binary = λ at op a b x y calls f wanted scope left env v rest h. nothing_shown (X.Binary at op a b) v (fold-roll-Expr Pat Pat shown_step shown_body (E.Binary at op a b));
  to = λ at bits a x calls f wanted scope left env v rest h. nothing_shown (X.To at bits a) v (fold-roll-Expr Pat Pat shown_step shown_body (E.To at bits a));
  bound = λ at x t a b y z calls f wanted scope left env v rest h. nothing_shown (X.Let at x t a b) v (fold-roll-Expr Pat Pat shown_step shown_body (E.Let at x t a b));
  choice = λ at e cs x y calls f wanted scope left env v rest h. nothing_shown (X.Match at e cs) v (fold-roll-Expr Pat Pat shown_step shown_body (E.Match at e cs));
})
  where
    self : (n : ℕ) → (n == n) ≡ true
    self n = grind arith

    con_shown : (at : ℕ) (c : ConRef) (es : List Expr) → Each (EndsShown p) es → (calls : Calls) (f : ℕ) (wanted : Option Ty) (scope : List Binder) (left : ℕ) (env : List Binding) (v : Value) (rest : ℕ)
        → (meaning_of p calls f (X.Build at c es) wanted scope left env).end ≡ Done v rest → matches_of (shown_of (X.Build at c es)) v ≡ true
    con_shown at c es each calls f wanted scope left env v rest h =
        let ms = map (meaning_of p calls f) es in
        let o = all_of ms (field_types p.types c) scope [] left env in
        let r = con_ends o c v rest (sym (ap (λ (x : Outcome). x.end) (meaning-Build p calls f wanted scope left env at c es)) ∙ h) in
        let ps = map shown_of es in
        let pass : all_pass (map matches_of ps) r.0 ≡ true = parts_shown p calls f es each (field_types p.types c) scope [] [] left env r.0 r.1 refl r.2 in
        ap (λ q. matches_of q v) (shown-Build at c es) ∙ ap (matches_of (ConPat at c ps)) r.3
        ∙ matches-Con (Con c.con r.0) at c ps ∙ ap (is_con c.con (map matches_of ps)) (outs-Con c.con r.0)
        ∙ and_true (c.con == c.con) (all_pass (map matches_of ps) r.0) (self c.con) pass

-- Runs ----------------------------------------------------------------------------------------------

-- a run that ends with a value ends with that of the source
does_end : (plan : Plan) (base : ℕ) (out : Run) (Ok : Value → World → Type 0) (m : Memory) (o : Outcome) → Does plan base out m o Ok → Does plan base out m o (λ v w. ((rest : ℕ) × (o.end ≡ Done v rest)) × Ok v w)
does_end plan base out Ok m o d = go (lay m.limit m.next (requests_of plan.layouts o.log)) o.end d
  where
    go : (l : Laid) (e : SourceEnd) → Ends (base + cost_of plan o.log) out m l e Ok → Ends (base + cost_of plan o.log) out m l e (λ v w. ((rest : ℕ) × (e ≡ Done v rest)) × Ok v w)
    go (Over full) e h = h
    go (Fits bs p) Stopped h = h
    go (Fits bs p) (Done v left) h = (h.0, h.1, h.2, h.3, ((left, refl), h.4))

module _ (plan : Plan) (ts : List Ty) (ls : List Local) where
  pub none_shown : (ms : Calls → List Meaning) (a : Sheet) → ((calls : Calls) → ms calls ≡ []) → EmitsAll plan (AreAsShown []) ms ts ls a a []
  none_shown ms a none = record {
    adds = Adds-refl plan a;
    given = tt;
    kinds = refl;
    count = λ calls. ap length (none calls);
    does = λ calls clean env final callee next law rel agrees s w long good holds go b t slots then.
        subst (λ o. Does plan w.switches (next (length a.code) s w) w.memory o (Comes plan clean (next (length a.code) s w) next b a.slots t slots s))
        (sym (ap (λ l. then_with (all_of l ts (scope_of ls) [] w.left env) go) (none calls) ∙ all_of-none ts (scope_of ls) [] w.left env go))
        (then [] s w [] w.memory.next refl refl (Keeps-refl a.slots s) (Grown-refl w.memory good) tt);
  }

  -- one more expression
  pub more_shown : (ms ms' : Calls → List Meaning) (m : Calls → Meaning) (shown : List Pat) (q : Pat) (a b c : Sheet) (hs : List Held) (h : Held) → ((calls : Calls) → ms' calls ≡ ms calls ++ m calls ∷ []) → AreGiven plan a.slots ls
      → slice_get ts (length hs) ≡ Some h.ty → take (length hs + 1) ts ≡ take (length hs) ts ++ h.ty ∷ []
      → ((calls : Calls) (left : ℕ) (env : List Binding) (v : Value) (rest : ℕ) → (m calls (Some h.ty) (scope_of ls) left env).end ≡ Done v rest → matches_of q v ≡ true)
      → EmitsAll plan (AreAsShown shown) ms ts ls a b hs → Emits plan (λ calls left env. m calls (Some h.ty) (scope_of ls) left env) ls b c h.ty h.slots → EmitsAll plan (AreAsShown (shown ++ q ∷ [])) ms' ts ls a c (hs ++ h ∷ [])
  more_shown ms ms' m shown q a b c hs h same given wanted one_more shows all e = record {
    adds = Adds-trans plan a b c all.adds e.adds;
    given = AllGiven-append plan c.slots hs (h ∷ []) (AllGiven-more plan b.slots c.slots hs e.adds.more all.given) (e.given, e.count, tt);
    kinds = map-append held_type hs (h ∷ []) ∙ ap (λ l. l ++ h.ty ∷ []) all.kinds ∙ sym one_more ∙ ap (λ n. take n ts) (sym (length-append hs (h ∷ [])));
    count = λ calls. ap length (same calls) ∙ length-append (ms calls) (m calls ∷ []) ∙ ap (λ n. n + 1) (all.count calls) ∙ sym (length-append hs (h ∷ []));
    does = λ calls clean env final callee next law rel agrees s w long good holds go z t slots then.
        let out = next (length a.code) s w in
        let Ok = Comes plan clean out next z a.slots t slots s in
        let l1 = all.adds.grows.longer in let l2 = e.adds.grows.longer in
        let long1 : b.slots ≤ length s = omega (arith, e.adds.more, long) in
        let agrees1 = Agrees-part final c.code b.code (length a.code) (length c.code) (length a.code) (length b.code) Nowhere Nowhere e.adds.grows (omega arith) (omega (arith, l2)) (omega arith) (λ pc lo hi x. x) agrees in
        let agrees2 = Agrees-part final c.code c.code (length a.code) (length c.code) (length b.code) (length c.code) Nowhere Nowhere (Grows-refl c.code) (omega (arith, l1)) (omega arith) (omega arith) (λ pc lo hi x. x) agrees in
        let one = λ (l : ℕ). m calls (Some h.ty) (scope_of ls) l env in
        let go1 = λ (us : List Value) (l : ℕ). then_do (one l) (λ v k. go (us ++ v ∷ []) k) in
        let at : slice_get ts (length (ms calls)) ≡ Some h.ty = ap (λ n. slice_get ts n) (all.count calls) ∙ wanted in
        subst (λ o. Does plan w.switches out w.memory o Ok)
        (sym (ap (λ l. then_with (all_of l ts (scope_of ls) [] w.left env) go) (same calls) ∙ all_of-append (ms calls) (m calls) ts (scope_of ls) [] w.left env go
        ∙ ap (λ k. then_with (all_of (ms calls) ts (scope_of ls) [] w.left env) (λ us l. then_do (m calls k (scope_of ls) l env) (λ v j. go (us ++ v ∷ []) j))) at))
        (all.does calls clean env final callee next law rel agrees1 s w long1 good holds go1 z t slots
        (λ us s1 w1 bs p as_shown eq keeps g held.
        let ext = Grown-extends w.memory w1.memory bs p good g in
        let holds1 = Holds-kept plan clean w.memory w1.memory ext a.slots s s1 keeps ls env given holds in
        let long2 : c.slots ≤ length s1 = omega (arith, keeps.long, long) in
        let d0 = (e.does calls clean env).runs final callee next law rel agrees2 s1 w1 long2 g.good holds1 in
        let d1 = does_end plan w1.switches (next (length b.code) s1 w1) (Comes plan clean (next (length b.code) s1 w1) next (length c.code) b.slots h.ty h.slots s1) w1.memory (one w1.left) d0 in
        bind plan out Ok (λ v w2. ((rest : ℕ) × ((one w1.left).end ≡ Done v rest)) × ((s2 : List ℕ) × (out ≡ next (length c.code) s2 w2) × Keeps b.slots s1 s2 × Rep plan w2.memory clean h.ty v (slots_at s2 h.slots))) w1.switches w1.memory (one w1.left) (λ v k. go (us ++ v ∷ []) k)
        (does_map plan w1.switches w1.switches out (next (length b.code) s1 w1) _ (λ v w2. ((rest : ℕ) × ((one w1.left).end ≡ Done v rest)) × Comes plan clean (next (length b.code) s1 w1) next (length c.code) b.slots h.ty h.slots s1 v w2) w1.memory (one w1.left) (omega arith) eq
        (λ v w2 r. (r.0, (r.1.0, eq ∙ r.1.1, r.1.2, r.1.3))) d1)
        (λ v w2 bs2 p2 g2 mid.
        let ext2 = Grown-extends w1.memory w2.memory bs2 p2 g.good g2 in
        let shown1 = pass-append shown q us v as_shown (shows calls w1.left env v mid.0.0 mid.0.1) in
        then (us ++ v ∷ []) mid.1.0 w2 (bs ++ bs2) p2 shown1 mid.1.1 (Keeps-trans a.slots b.slots s s1 mid.1.0 all.adds.more keeps mid.1.2) (Grown-trans w.memory w1.memory w2.memory bs bs2 p p2 g g2)
        (AreHeld-append plan clean mid.1.0 w2.memory hs (h ∷ []) us (v ∷ []) (AreHeld-kept plan clean w1.memory w2.memory ext2 b.slots s1 mid.1.0 mid.1.2 hs us all.given held) (mid.1.3, tt)))));
  }

  -- what is said of the values may be left aside
  pub emits_any : (ms : Calls → List Meaning) (Such : List Value → Type 0) (a b : Sheet) (hs : List Held) → EmitsAll plan Such ms ts ls a b hs → EmitsAll plan AnyValues ms ts ls a b hs
  emits_any ms Such a b hs e = record {
    adds = e.adds;
    given = e.given;
    kinds = e.kinds;
    count = e.count;
    does = λ calls clean env final callee next law rel agrees s w long good holds go z t slots then.
        e.does calls clean env final callee next law rel agrees s w long good holds go z t slots (λ vs s1 w1 bs p such eq keeps g held. then vs s1 w1 bs p tt eq keeps g held);
  }
