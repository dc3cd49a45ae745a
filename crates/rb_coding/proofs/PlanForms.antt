-- Plans pattern by pattern: their equations, a constructor's fields from the last one on, and that the
-- plan of a value's leaf opens the words of the value.
use Rattle.std.proofs.Common.{◌≡◌, ℕ, zero, suc, ◌+◌, ◌*◌, ◌<◌, ◌≤◌, length, map, drop, List, [], ◌∷◌, ◌++◌, true, false, Some, None, refl, sym, subst, ap, ◌∙◌, arith, append_assoc, append-nil}
use Rattle.std.specs.Prelude.{slice_get}
use Rattle.std.proofs.lemmas.Bool.{and_parts}
use Rattle.std.proofs.lemmas.Option.{same_Some, slice_get_past}
use Rattle.rb_core.specs.declared.value.Value.{Value}
use Rattle.rb_core.specs.declared.types.Ty.{Ty}
use Rattle.rb_core.specs.declared.types.Ty.TheVariants.{Int, Named}
use Rattle.rb_core.specs.declared.types.ConRef.{ConRef}
use Rattle.rb_core.specs.declared.types.DataDecl.{DataDecl}
use Rattle.rb_core.specs.declared.pattern.Pat.{Pat, out-Pat, Wild, Var, Num as NumPat, Con as ConPat}
use Rattle.rb_core.specs.declared.pattern.Pat.TheVariants.{outs-Wild, outs-Var, outs-Num}
use Rattle.rb_core.specs.declared.program.Program.{Program}
use Rattle.rb_core.specs.TypedPrograms.{IsTyped}
use Rattle.rb_core.specs.Values.{all_of_types, are_of, fields_of}
use Rattle.rb_core.proofs.PatternLaws.{Each, induction, fold-Wild, fold-Var, fold-Num, fold-Con}
use Rattle.rb_bytes.specs.Memory.{Memory, IsGood}
use Rattle.rb_layout.specs.declared.layout.Leaf.{Leaf}
use Rattle.rb_layout.specs.declared.layout.Layout.{Layout}
use Rattle.rb_layout.specs.Agreement.{Agrees}
use Rattle.rb_layout.specs.Flattening.{flat_layouts}
use Rattle.rb_layout.specs.Positions.{Open, below, opens_below, opens_of, open_positions, root_type, types_or_none, layout_of, leaf_of}
use Rattle.rb_rel.specs.Relation.{LeafStands, Made}
use Rattle.rb_rel.specs.Reading.{walk}
use Rattle.rb_rel.proofs.Agreeing.{lawful}
use Rattle.rb_rel.specs.Provenances.{fits_type, is_named}
use Rattle.rb_rel.proofs.Leading.{leads}
use Rattle.rb_rel.proofs.Leaves.{leaf_matches}
use Rattle.rb_rel.proofs.Lists.{get-left, get-right, get-mapped}
use Rattle.rb_rel.proofs.Opens.{fits-Con, opens-Con, opens-Wild, opens-Var, fitting}
use Rattle.rb_rel.proofs.Represented.{opened}
use Rattle.rb_coding.specs.Decoding.{AreOf}
use Rattle.rb_coding.specs.inner.Planning.{Planned, fields_plan, plan_step, plan_of}
use Rattle.rb_coding.specs.inner.Todo.{weights, IsOpened}
use Rattle.rb_coding.specs.declared.todo.Step.{Step}
use Rattle.rb_coding.specs.declared.todo.Step.TheVariants.{Visit, Join}
use Rattle.rb_coding.proofs.PlanLemmas.{plans, con_weights}

-- Equations ------------------------------------------------------------------------------------

past : (ps : List Pat) (i : ℕ) → length ps ≤ i → drop i ps ≡ []
past [] zero le = refl
past [] (suc i) le = refl
past (q ∷ ps) zero le = absurd (omega (arith, le))
past (q ∷ ps) (suc i) le = past ps i (omega (arith, le))

module _ (types : List DataDecl) (ss : List ℕ → List ℕ) where
  pub plan-Wild : (at : ℕ) (ty : Ty) (path : List ℕ) → plan_of types ss (Wild at) ty path ≡ Visit ty (ss path) ∷ []
  plan-Wild at ty path = ap (λ (f : Planned). f ty path) (fold-Wild Planned (plan_step types ss) at)

  pub plan-Var : (at x : ℕ) (ty : Ty) (path : List ℕ) → plan_of types ss (Var at x) ty path ≡ Visit ty (ss path) ∷ []
  plan-Var at x ty path = ap (λ (f : Planned). f ty path) (fold-Var Planned (plan_step types ss) at x)

  pub plan-Num : (at n : ℕ) (ty : Ty) (path : List ℕ) → plan_of types ss (NumPat at n) ty path ≡ Visit ty (n ∷ []) ∷ []
  plan-Num at n ty path = ap (λ (f : Planned). f ty path) (fold-Num Planned (plan_step types ss) at n)

  -- the steps of the fields from field i on
  abbrev pub plan_from : List Pat → List Ty → List ℕ → ℕ → List Step
  plan_from ps ts path i = fields_plan (map (plan_of types ss) (drop i ps)) (drop i ts) path i

  length_plans : (ps : List Pat) → length (map (plan_of types ss) ps) ≡ length ps
  length_plans [] = refl
  length_plans (q ∷ ps) = ap suc (length_plans ps)

  pub plan-Con : (at : ℕ) (c : ConRef) (ps : List Pat) (ty : Ty) (path : List ℕ)
      → plan_of types ss (ConPat at c ps) ty path ≡ Join c.con (length ps) ∷ plan_from ps (types_or_none (fields_of types c)) path 0
  plan-Con at c ps ty path =
      ap (λ (f : Planned). f ty path) (fold-Con Planned (plan_step types ss) at c ps)
      ∙ ap (λ n. Join c.con n ∷ fields_plan (map (plan_of types ss) ps) (types_or_none (fields_of types c)) path 0) (length_plans ps)

  -- behind the last field there is none
  pub plan_end : (ps : List Pat) (ts : List Ty) (path : List ℕ) (i : ℕ) → length ps ≤ i → plan_from ps ts path i ≡ []
  plan_end ps ts path i le = ap (λ (xs : List Pat). fields_plan (map (plan_of types ss) xs) (drop i ts) path i) (past ps i le)

  none_typed : (fs : List Planned) (path : List ℕ) (k : ℕ) → fields_plan fs [] path k ≡ []
  none_typed [] path k = refl
  none_typed (f ∷ fs) path k = refl

  untyped : (ps : List Pat) (ts : List Ty) (path : List ℕ) (i k : ℕ) → slice_get ts i ≡ None → fields_plan (map (plan_of types ss) (drop i ps)) (drop i ts) path k ≡ []
  untyped ps [] path zero k e = none_typed (map (plan_of types ss) ps) path k
  untyped ps [] path (suc i) k e = none_typed (map (plan_of types ss) (drop (suc i) ps)) path k
  untyped ps (t ∷ ts) path zero k e = absurd cc
  untyped [] (t ∷ ts) path (suc i) k e = refl
  untyped (q ∷ ps) (t ∷ ts) path (suc i) k e = untyped ps ts path i k e

  untyped_next : (ts : List Ty) (i : ℕ) → slice_get ts i ≡ None → slice_get ts (suc i) ≡ None
  untyped_next [] i e = refl
  untyped_next (t ∷ ts) zero e = absurd cc
  untyped_next (t ∷ ts) (suc i) e = untyped_next ts i e

  -- and a subpattern without a field has no steps
  pub plan_no_field : (ps : List Pat) (ts : List Ty) (path : List ℕ) (i : ℕ) → slice_get ts i ≡ None → plan_from ps ts path i ≡ plan_from ps ts path (i + 1)
  plan_no_field ps ts path i e =
      let z : suc i ≡ i + 1 = omega arith in
      untyped ps ts path i i e ∙ sym (untyped ps ts path (i + 1) (i + 1) (ap (slice_get ts) (sym z) ∙ untyped_next ts i e))

  field_next : (ps : List Pat) (ts : List Ty) (i : ℕ) (q : Pat) (t : Ty) (path : List ℕ) (k : ℕ) → slice_get ps i ≡ Some q → slice_get ts i ≡ Some t
      → fields_plan (map (plan_of types ss) (drop i ps)) (drop i ts) path k
      ≡ fields_plan (map (plan_of types ss) (drop (suc i) ps)) (drop (suc i) ts) path (k + 1) ++ plan_of types ss q t (path ++ k ∷ [])
  field_next [] ts i q t path k a b = absurd cc
  field_next (x ∷ ps) [] i q t path k a b = absurd cc
  field_next (x ∷ ps) (y ∷ ts) zero q t path k a b =
      ap (λ (z : Pat). fields_plan (map (plan_of types ss) ps) ts path (k + 1) ++ plan_of types ss z y (path ++ k ∷ [])) (same_Some x q a)
      ∙ ap (λ (z : Ty). fields_plan (map (plan_of types ss) ps) ts path (k + 1) ++ plan_of types ss q z (path ++ k ∷ [])) (same_Some y t b)
  field_next (x ∷ ps) (y ∷ ts) (suc i) q t path k a b = field_next ps ts i q t path k a b

  -- a field's steps stand behind those of the fields after it
  pub plan_field : (ps : List Pat) (ts : List Ty) (path : List ℕ) (i : ℕ) (q : Pat) (t : Ty) → slice_get ps i ≡ Some q → slice_get ts i ≡ Some t
      → plan_from ps ts path i ≡ plan_from ps ts path (i + 1) ++ plan_of types ss q t (path ++ i ∷ [])
  plan_field ps ts path i q t a b =
      let z : suc i ≡ i + 1 = omega arith in
      field_next ps ts i q t path i a b
      ∙ ap (λ j. fields_plan (map (plan_of types ss) (drop j ps)) (drop j ts) path (i + 1) ++ plan_of types ss q t (path ++ i ∷ [])) z

  -- nor is there one behind the last type
  pub plan_past : (ps : List Pat) (ts : List Ty) (path : List ℕ) (i : ℕ) → length ts ≤ i → plan_from ps ts path i ≡ []
  plan_past ps ts path i le = untyped ps ts path i i (slice_get_past ts i le)

  -- steps that are added grow by a field, from the last one to the first
  pub plan_more : (ps : List Pat) (ts : List Ty) (path : List ℕ) (i k : ℕ) (q : Pat) (t : Ty) → k ≡ i + 1 → slice_get ps i ≡ Some q → slice_get ts i ≡ Some t
      → (old mid new : List Step) → mid ≡ old ++ plan_from ps ts path k → new ≡ mid ++ plan_of types ss q t (path ++ i ∷ []) → new ≡ old ++ plan_from ps ts path i
  plan_more ps ts path i k q t up a b old mid new is more =
      more ∙ ap (λ xs. xs ++ plan_of types ss q t (path ++ i ∷ [])) (is ∙ ap (λ j. old ++ plan_from ps ts path j) up)
      ∙ append_assoc old (plan_from ps ts path (i + 1)) (plan_of types ss q t (path ++ i ∷ []))
      ∙ ap (λ xs. old ++ xs) (sym (plan_field ps ts path i q t a b))

  -- so the things to do grow by a field, from the last one to the first
  pub plan_pushed : (ps : List Pat) (ts : List Ty) (path : List ℕ) (i : ℕ) (q : Pat) (t : Ty) → slice_get ps i ≡ Some q → slice_get ts i ≡ Some t
      → (old mid new : List Step) (s : Step) → mid ≡ old ++ s ∷ plan_from ps ts path (i + 1) → new ≡ mid ++ plan_of types ss q t (path ++ i ∷ []) → new ≡ old ++ s ∷ plan_from ps ts path i
  plan_pushed ps ts path i q t a b old mid new s is more =
      more ∙ ap (λ xs. xs ++ plan_of types ss q t (path ++ i ∷ [])) is
      ∙ append_assoc old (s ∷ plan_from ps ts path (i + 1)) (plan_of types ss q t (path ++ i ∷ []))
      ∙ ap (λ xs. old ++ s ∷ xs) (sym (plan_field ps ts path i q t a b))

  -- and are the constructor's once all fields are there
  pub plan_whole : (at : ℕ) (c : ConRef) (ps : List Pat) (ty : Ty) (path : List ℕ) (old new : List Step)
      → new ≡ old ++ Join c.con (length ps) ∷ plan_from ps (types_or_none (fields_of types c)) path 0 → new ≡ old ++ plan_of types ss (ConPat at c ps) ty path
  plan_whole at c ps ty path old new is = is ∙ ap (λ xs. old ++ xs) (sym (plan-Con at c ps ty path))

-- Open positions of fields ------------------------------------------------------------------------

-- at each open position below a path
abbrev pub AtOpens : (List ℕ → Ty → Type 0) → List Open → List ℕ → Type 0
AtOpens R opens path = (k : ℕ) (o : Open) → slice_get opens k ≡ Some o → R (path ++ o.path) o.ty

module _ (types : List DataDecl) where
  field_open : (ps : List Pat) (ts : List Ty) (i n : ℕ) (q : Pat) (t : Ty) → slice_get ps i ≡ Some q → slice_get ts i ≡ Some t → (k : ℕ) (o : Open) → slice_get (opens_of types q t) k ≡ Some o
      → (j : ℕ) × (slice_get (opens_below (map (opens_of types) ps) ts n) j ≡ Some (below (n + i) o))
  field_open [] ts i n q t a b k o e = absurd cc
  field_open (x ∷ ps) [] i n q t a b k o e = absurd cc
  field_open (x ∷ ps) (y ∷ ts) zero n q t a b k o e =
      let z : n ≡ n + 0 = omega arith in
      let here : slice_get (opens_of types x y) k ≡ Some o = ap (λ (w : Pat). slice_get (opens_of types w y) k) (same_Some x q a) ∙ ap (λ (w : Ty). slice_get (opens_of types q w) k) (same_Some y t b) ∙ e in
      (k, get-left (map (below n) (opens_of types x y)) (opens_below (map (opens_of types) ps) ts (n + 1)) k (below n o) (get-mapped (below n) (opens_of types x y) k o here) ∙ ap (λ j. Some (below j o)) z)
  field_open (x ∷ ps) (y ∷ ts) (suc i) n q t a b k o e =
      let z : n + 1 + i ≡ n + suc i = omega arith in
      let r = field_open ps ts i (n + 1) q t a b k o e in
      let g = get-right (map (below n) (opens_of types x y)) (opens_below (map (opens_of types) ps) ts (n + 1)) r.0 (below (n + 1 + i) o) r.1 in
      (g.0, g.1 ∙ ap (λ j. Some (below j o)) z)

  -- those of a field are the constructor's below it
  pub opens_field : (at : ℕ) (c : ConRef) (ps : List Pat) (ty : Ty) (i : ℕ) (q : Pat) (t : Ty) → slice_get ps i ≡ Some q → slice_get (types_or_none (fields_of types c)) i ≡ Some t
      → (k : ℕ) (o : Open) → slice_get (opens_of types q t) k ≡ Some o → (j : ℕ) × (slice_get (opens_of types (ConPat at c ps) ty) j ≡ Some (below i o))
  opens_field at c ps ty i q t a b k o e =
      let z : 0 + i ≡ i = omega arith in
      let r = field_open ps (types_or_none (fields_of types c)) i 0 q t a b k o e in
      (r.0, ap (λ (os : List Open). slice_get os r.0) (opens-Con types at c ps ty) ∙ r.1 ∙ ap (λ j. Some (below j o)) z)

  -- what is known at a constructor's open positions is known at a field's
  pub at_field : (R : List ℕ → Ty → Type 0) (at : ℕ) (c : ConRef) (ps : List Pat) (ty : Ty) (path : List ℕ) (i : ℕ) (q : Pat) (t : Ty)
      → slice_get ps i ≡ Some q → slice_get (types_or_none (fields_of types c)) i ≡ Some t → AtOpens R (opens_of types (ConPat at c ps) ty) path → AtOpens R (opens_of types q t) (path ++ i ∷ [])
  at_field R at c ps ty path i q t a b h =
      λ k o e. (let r = opens_field at c ps ty i q t a b k o e in subst (λ x. R x o.ty) (sym (append_assoc path (i ∷ []) o.path)) (h r.0 (below i o) r.1))

  at_alone : (R : List ℕ → Ty → Type 0) (opens : List Open) (ty : Ty) (path : List ℕ) → opens ≡ record { path = []; ty = ty } ∷ [] → AtOpens R opens path → R path ty
  at_alone R opens ty path is h = subst (λ x. R x ty) (append-nil path) (h 0 (record { path = []; ty = ty }) (ap (λ (os : List Open). slice_get os 0) is))

  -- a wildcard is one open position, and so is a variable
  pub at_wild : (R : List ℕ → Ty → Type 0) (at : ℕ) (ty : Ty) (path : List ℕ) → AtOpens R (opens_of types (Wild at) ty) path → R path ty
  at_wild R at ty path h = at_alone R (opens_of types (Wild at) ty) ty path (opens-Wild types at ty) h

  pub at_var : (R : List ℕ → Ty → Type 0) (at x : ℕ) (ty : Ty) (path : List ℕ) → AtOpens R (opens_of types (Var at x) ty) path → R path ty
  at_var R at x ty path h = at_alone R (opens_of types (Var at x) ty) ty path (opens-Var types at x ty) h

  field_fits : (ps : List Pat) (ts : List Ty) (i : ℕ) (q : Pat) → all_of_types (map (fits_type types) ps) ts ≡ true → slice_get ps i ≡ Some q → (t : Ty) × (slice_get ts i ≡ Some t) × (fits_type types q t ≡ true)
  field_fits [] ts i q f a = absurd cc
  field_fits (x ∷ ps) [] i q f a = absurd cc
  field_fits (x ∷ ps) (t ∷ ts) zero q f a = (t, refl, ap (λ (z : Pat). fits_type types z t) (sym (same_Some x q a)) ∙ (and_parts (fits_type types x t) (all_of_types (map (fits_type types) ps) ts) f).0)
  field_fits (x ∷ ps) (t ∷ ts) (suc i) q f a = field_fits ps ts i q (and_parts (fits_type types x t) (all_of_types (map (fits_type types) ps) ts) f).1 a

  -- each subpattern of one that fits has a field, and fits its type
  pub fits_field : (at : ℕ) (c : ConRef) (ps : List Pat) (ty : Ty) (i : ℕ) (q : Pat) → fits_type types (ConPat at c ps) ty ≡ true → slice_get ps i ≡ Some q
      → (t : Ty) × (slice_get (types_or_none (fields_of types c)) i ≡ Some t) × (fits_type types q t ≡ true)
  fits_field at c ps ty i q f a =
      let b = and_parts (is_named c.ty ty) (are_of (map (fits_type types) ps) (fields_of types c)) (sym (fits-Con types at c ps ty) ∙ f) in
      field_fits ps (types_or_none (fields_of types c)) i q (fitting types (map (fits_type types) ps) (fields_of types c) b.1) a

-- Plans over words that agree -----------------------------------------------------------------------
module _ (types : List DataDecl) (ss rs : List ℕ → List ℕ) where
  abbrev pub Agree : List ℕ → Ty → Type 0
  Agree path ty = ss path ≡ rs path

  abbrev Same : Pat → Type 0
  Same q = (ty : Ty) (path : List ℕ) → AtOpens Agree (opens_of types q ty) path → plan_of types ss q ty path ≡ plan_of types rs q ty path

  fields_same : (ps : List Pat) → Each Same ps → (ts : List Ty) (path : List ℕ) (i : ℕ) → AtOpens Agree (opens_below (map (opens_of types) ps) ts i) path
      → fields_plan (map (plan_of types ss) ps) ts path i ≡ fields_plan (map (plan_of types rs) ps) ts path i
  fields_same [] each ts path i h = refl
  fields_same (q ∷ ps) each [] path i h = refl
  fields_same (q ∷ ps) each (t ∷ ts) path i h =
      let first : plan_of types ss q t (path ++ i ∷ []) ≡ plan_of types rs q t (path ++ i ∷ []) = each.0 t (path ++ i ∷ []) (λ k o e.
      subst (λ x. Agree x o.ty) (sym (append_assoc path (i ∷ []) o.path)) (h k (below i o) (get-left _ _ k (below i o) (get-mapped (below i) (opens_of types q t) k o e)))) in
      let rest = fields_same ps each.1 ts path (i + 1) (λ k o e. let r = get-right (map (below i) (opens_of types q t)) (opens_below (map (opens_of types) ps) ts (i + 1)) k o e in h r.0 o r.1) in
      ap (λ xs. xs ++ plan_of types ss q t (path ++ i ∷ [])) rest ∙ ap (λ xs. fields_plan (map (plan_of types rs) ps) ts path (i + 1) ++ xs) first

  con_same : (at : ℕ) (c : ConRef) (ps : List Pat) → Each Same ps → Same (ConPat at c ps)
  con_same at c ps each ty path h =
      let ts = types_or_none (fields_of types c) in
      let fields = fields_same ps each ts path 0 (λ k o e. h k o (ap (λ (os : List Open). slice_get os k) (opens-Con types at c ps ty) ∙ e)) in
      plan-Con types ss at c ps ty path ∙ ap (λ xs. Join c.con (length ps) ∷ xs) fields ∙ sym (plan-Con types rs at c ps ty path)

  -- where the words at open positions are the same, so are the steps
  pub plan_same : (q : Pat) → Same q
  plan_same = induction Same (record {
    wild = λ at ty path h. plan-Wild types ss at ty path ∙ ap (λ ws. Visit ty ws ∷ []) (at_wild types Agree at ty path h) ∙ sym (plan-Wild types rs at ty path);
    var = λ at x ty path h. plan-Var types ss at x ty path ∙ ap (λ ws. Visit ty ws ∷ []) (at_var types Agree at x ty path h) ∙ sym (plan-Var types rs at x ty path);
    num = λ at n ty path h. plan-Num types ss at n ty path ∙ sym (plan-Num types rs at n ty path);
    con = con_same;
  })

-- The plan of a leaf ----------------------------------------------------------------------------------

-- a provenance has a constructor at its root
abbrev RootIsCon : ℕ → Pat → Type 0
RootIsCon t q = root_type (out-Pat q) ≡ Named t → (at : ℕ) × (c : ConRef) × (ps : List Pat) × (q ≡ ConPat at c ps)

root_is_con : (t : ℕ) (q : Pat) → RootIsCon t q
root_is_con t = induction (RootIsCon t) (record {
  wild = λ at e. absurd (let h : Int 64 ≡ Named t = sym (ap root_type (outs-Wild at)) ∙ e in cc);
  var = λ at x e. absurd (let h : Int 64 ≡ Named t = sym (ap root_type (outs-Var at x)) ∙ e in cc);
  num = λ at n e. absurd (let h : Int 64 ≡ Named t = sym (ap root_type (outs-Num at n)) ∙ e in cc);
  con = λ at c ps each e. (at, c, ps, refl);
})

module _ (p : Program) (typed : IsTyped p) (agrees : Agrees p) (m : Memory) (t : ℕ) (ws : List ℕ) where
  -- the words at each open position of a leaf represent some value there
  abbrev pub AreSubs : Leaf → (List ℕ → List ℕ) → Type 0
  AreSubs leaf subs = AtOpens (λ path ty. (u : Value) × AreOf p m ty (subs path) u) (open_positions p.types leaf.prov) []

  made_number : (v : Value) (b : Made p.types (flat_layouts p) m false t v ws) (layout : Layout) (n : ℕ) → layout_of (flat_layouts p) t ≡ Some layout → leaf_of layout v ≡ Some n → slice_get layout.leaves n ≡ Some b.leaf
  made_number v b layout n is_layout is_leaf =
      let e1 : b.layout ≡ layout = same_Some b.layout layout (sym b.is_layout ∙ is_layout) in
      let e2 : b.number ≡ n = same_Some b.number n (sym b.is_leaf ∙ ap (λ (y : Layout). leaf_of y v) e1 ∙ is_leaf) in
      ap (slice_get layout.leaves) (sym e2) ∙ ap (λ (y : Layout). slice_get y.leaves b.number) (sym e1) ∙ b.is_number

  -- the leaf to which the splits lead is the value's
  pub led : IsGood m → (layout : Layout) (n : ℕ) → layout_of (flat_layouts p) t ≡ Some layout → walk layout.tree ws m ≡ Some n → (v : Value) → AreOf p m (Named t) ws v → leaf_of layout v ≡ Some n
  led good layout n is_layout walks v rep =
      let l = leads p.types (flat_layouts p) m false good (lawful p agrees typed) t v ws layout is_layout rep in l.1 ∙ ap Some (same_Some l.0 n (sym l.2 ∙ walks))

  -- where a value is represented, its type has a layout, the splits lead somewhere, and there its leaf is
  pub no_layout : layout_of (flat_layouts p) t ≡ None → (v : Value) → AreOf p m (Named t) ws v → ⊥
  no_layout e v rep = let d = (opened p.types (flat_layouts p) m false rep).made in let h = sym d.is_layout ∙ e in cc

  pub no_way : IsGood m → (layout : Layout) → layout_of (flat_layouts p) t ≡ Some layout → walk layout.tree ws m ≡ None → (v : Value) → AreOf p m (Named t) ws v → ⊥
  no_way good layout is_layout e v rep =
      let l = leads p.types (flat_layouts p) m false good (lawful p agrees typed) t v ws layout is_layout rep in
      let h = sym l.2 ∙ e in cc

  pub no_leaf : (layout : Layout) (n : ℕ) → layout_of (flat_layouts p) t ≡ Some layout → slice_get layout.leaves n ≡ None → (v : Value) → AreOf p m (Named t) ws v → leaf_of layout v ≡ Some n → ⊥
  no_leaf layout n is_layout e v rep is_leaf =
      let d = (opened p.types (flat_layouts p) m false rep).made in
      let h = sym (made_number v d layout n is_layout is_leaf) ∙ e in cc

  module _ (layout : Layout) (n : ℕ) (leaf : Leaf) (is_layout : layout_of (flat_layouts p) t ≡ Some layout) (is_leaf : (v : Value) → AreOf p m (Named t) ws v → leaf_of layout v ≡ Some n)
      (is_number : slice_get layout.leaves n ≡ Some leaf) (old new : List Step) where
    -- steps are added that open the words, where they are the leaf's plan for any words at its open positions that these can have
    pub opens : ((subs : List ℕ → List ℕ) (ats : ℕ → ℕ) → LeafStands leaf ws m false subs ats → AreSubs leaf subs → new ≡ old ++ plan_of p.types subs leaf.prov (Named t) []) → IsOpened p m t ws old new
    opens planned = λ v rep.
        (let law = lawful p agrees typed in
        let o = opened p.types (flat_layouts p) m false rep in
        let d = o.made in
        let e : d.leaf ≡ leaf = same_Some d.leaf leaf (sym (made_number v d layout n is_layout (is_leaf v rep)) ∙ is_number) in
        let placed : LeafStands leaf ws m false d.subs d.ats = subst (λ (y : Leaf). LeafStands y ws m false d.subs d.ats) e d.placed in
        let at : (k : ℕ) (q : Open) → slice_get (open_positions p.types leaf.prov) k ≡ Some q → slice_get (open_positions p.types d.leaf.prov) k ≡ Some q =
        λ k q x. ap (λ (y : Leaf). slice_get (open_positions p.types y.prov) k) e ∙ x in
        let root = law.provenances.root t layout n leaf is_layout is_number in
        let from_root : (k : ℕ) (q : Open) → slice_get (opens_of p.types leaf.prov (Named t)) k ≡ Some q → slice_get (open_positions p.types leaf.prov) k ≡ Some q =
        λ k q x. ap (λ (ty : Ty). slice_get (opens_of p.types leaf.prov ty) k) root ∙ x in
        let z : 0 + n ≡ n = omega arith in
        let matches = leaf_matches layout.leaves v 0 n leaf (is_leaf v rep) n z is_number in
        let fits = law.provenances.fits t layout n leaf is_layout is_number in
        let runs = plans p m d.subs leaf.prov (Named t) v [] fits matches (λ k q x. (d.at q.path, d.is_at k q (at k q (from_root k q x)), o.below k q (at k q (from_root k q x)))) in
        let c = root_is_con t leaf.prov root in
        let light : weights (plan_of p.types d.subs leaf.prov (Named t) []) < 2 * length (plan_of p.types d.subs leaf.prov (Named t) []) =
        subst (λ (q : Pat). weights (plan_of p.types d.subs q (Named t) []) < 2 * length (plan_of p.types d.subs q (Named t) [])) (sym c.3) (con_weights p m d.subs c.0 c.1 c.2 (Named t) []) in
        (plan_of p.types d.subs leaf.prov (Named t) [], planned d.subs d.ats placed (λ k q x. (d.at q.path, o.below k q (at k q x))), runs, light))

    -- so they do where they are its plan for words that are read there
    pub opens_read : (ss : List ℕ → List ℕ)
        → ((subs : List ℕ → List ℕ) (ats : ℕ → ℕ) → LeafStands leaf ws m false subs ats → AreSubs leaf subs → AtOpens (Agree p.types subs ss) (open_positions p.types leaf.prov) [])
        → new ≡ old ++ plan_of p.types ss leaf.prov (Named t) [] → IsOpened p m t ws old new
    opens_read ss read is = opens (λ subs ats placed are.
        let root = (lawful p agrees typed).provenances.root t layout n leaf is_layout is_number in
        is ∙ ap (λ xs. old ++ xs) (sym (plan_same p.types subs ss leaf.prov (Named t) [] (λ k q x. read subs ats placed are k q (ap (λ (ty : Ty). slice_get (opens_of p.types leaf.prov ty) k) root ∙ x)))))
