-- The steps of a provenance put the value that it matches on the stack.
use Rattle.std.proofs.Common.{◌≡◌, ℕ, suc, ◌+◌, ◌-◌, ◌*◌, ◌^◌, ◌<◌, ◌≤◌, ◌==◌, ◌&&◌, ◌⊎◌, inl, inr, length, map, take, drop, List, [], ◌∷◌, ◌++◌, true, Some, refl, sym, subst, ap, ◌∙◌, arith, append_assoc, append-nil}
use Rattle.std.specs.Prelude.{slice_get}
use Rattle.std.proofs.lemmas.Bool.{and_parts}
use Rattle.std.proofs.lemmas.List.{length-append}
use Rattle.std.proofs.lemmas.Option.{same_Some}
use Rattle.rb_core.specs.declared.value.Value.{Value, Num, Con, out-Value}
use Rattle.rb_core.specs.declared.value.Value.TheVariants.{outs-Num, outs-Con}
use Rattle.rb_core.specs.declared.value.Value.TheOpen as V
use Rattle.rb_core.specs.declared.value.Value.TheOpen.{Value-F}
use Rattle.rb_core.specs.declared.types.Ty.{Ty}
use Rattle.rb_core.specs.declared.types.Ty.TheVariants.{Int, Named}
use Rattle.rb_core.specs.declared.types.ConRef.{ConRef}
use Rattle.rb_core.specs.declared.types.DataDecl.{DataDecl}
use Rattle.rb_core.specs.declared.pattern.Pat.{Pat, Wild, Var, Num as NumPat, Con as ConPat}
use Rattle.rb_core.specs.declared.program.Program.{Program}
use Rattle.rb_core.specs.Matching.{matches_of, all_pass, is_con, is_number}
use Rattle.rb_core.specs.Values.{all_of_types, are_of, fields_of, subs_in, sub_at, part_from}
use Rattle.rb_core.proofs.MatchingForms.{matches-Num, matches-Con}
use Rattle.rb_core.proofs.PatternLaws.{Each, induction, fold-Wild, fold-Var, fold-Num, fold-Con}
use Rattle.rb_core.proofs.ValueLaws as VL
use Rattle.rb_bytes.specs.Memory.{Memory}
use Rattle.rb_layout.specs.Positions.{Open, below, opens_below, opens_of, types_or_none}
use Rattle.rb_rel.specs.Relation.{number}
use Rattle.rb_rel.specs.Provenances.{fits_type, is_named}
use Rattle.rb_rel.proofs.Lists.{get-left, get-right, get-mapped}
use Rattle.rb_rel.proofs.Opens.{fits-Con, fits-Num, opens-Con, opens-Wild, opens-Var, fitting}
use Rattle.rb_rel.proofs.Reading.{same_nat}
use Rattle.rb_coding.specs.Decoding.{AreOf}
use Rattle.rb_coding.specs.inner.Planning.{Planned, fields_plan, plan_step, plan_of}
use Rattle.rb_coding.specs.inner.Todo.{Runs, weights}
use Rattle.rb_coding.specs.declared.todo.Step.{Step}
use Rattle.rb_coding.specs.declared.todo.Step.TheVariants.{Visit, Join}
use Rattle.rb_coding.proofs.PostLemmas.{below_lt}
use Rattle.rb_coding.proofs.TodoLemmas.{runs_more}

take_back : (done vs : List Value) → take (length (done ++ vs) - length vs) (done ++ vs) ≡ done
take_back done vs = let l = length-append done vs in let n : length (done ++ vs) - length vs ≡ length done = omega (arith, l) in ap (λ k. take k (done ++ vs)) n ∙ front done
  where
    front : (xs : List Value) → take (length xs) (xs ++ vs) ≡ xs
    front [] = refl
    front (x ∷ xs) = ap (λ ys. x ∷ ys) (front xs)

drop_back : (done vs : List Value) → drop (length (done ++ vs) - length vs) (done ++ vs) ≡ vs
drop_back done vs = let l = length-append done vs in let n : length (done ++ vs) - length vs ≡ length done = omega (arith, l) in ap (λ k. drop k (done ++ vs)) n ∙ back done
  where
    back : (xs : List Value) → drop (length xs) (xs ++ vs) ≡ vs
    back [] = refl
    back (x ∷ xs) = back xs

-- a value by its outermost level
view : (v : Value) → ((n : ℕ) × (v ≡ Num n)) ⊎ ((k : ℕ) × (vs : List Value) × (v ≡ Con k vs))
view = VL.induction (λ v. ((n : ℕ) × (v ≡ Num n)) ⊎ ((k : ℕ) × (vs : List Value) × (v ≡ Con k vs))) (λ n. inl (n, refl)) (λ k vs each. inr (k, vs, refl))

pub few_weights : (ss : List Step) → weights ss ≤ 2 * length ss
few_weights [] = omega arith
few_weights (Visit ty ws ∷ ss) = let r = few_weights ss in omega (arith, r)
few_weights (Join k count ∷ ss) = let r = few_weights ss in omega (arith, r)

module _ (p : Program) (m : Memory) (ss : List ℕ → List ℕ) where
  abbrev types : List DataDecl
  types = p.types

  abbrev Shown : List Open → Value → List ℕ → Type 0
  Shown opens v path = (k : ℕ) (o : Open) → slice_get opens k ≡ Some o → (u : Value) × (part_from (Some v) o.path ≡ Some u) × AreOf p m o.ty (ss (path ++ o.path)) u

  abbrev Plans : Pat → Type 0
  Plans q = (ty : Ty) (v : Value) (path : List ℕ) → fits_type types q ty ≡ true → matches_of q v ≡ true → Shown (opens_of types q ty) v path
      → (done : List Value) → Runs p m (plan_of types ss q ty path) done (done ++ v ∷ [])

  abbrev RunsTo : List Step → List Value → List Value → Type 0
  RunsTo steps done new = Runs p m steps done new

  open_plans : (opens : List Open) (ty : Ty) (v : Value) (path : List ℕ) → opens ≡ record { path = []; ty = ty } ∷ [] → Shown opens v path → (done : List Value) → RunsTo (Visit ty (ss path) ∷ []) done (done ++ v ∷ [])
  open_plans opens ty v path is shown done =
      let s = shown 0 (record { path = []; ty = ty }) (ap (λ (os : List Open). slice_get os 0) is) in
      let rep : AreOf p m ty (ss path) v = subst (λ x. AreOf p m ty (ss x) v) (append-nil path) (subst (λ u. AreOf p m ty (ss (path ++ [])) u) (sym (same_Some v s.0 s.1)) s.2) in
      (done, refl, (v, rep, refl))

  num_plans : (at n : ℕ) → Plans (NumPat at n)
  num_plans at n (Named t) v path fits hit shown done = absurd (let h = sym (fits-Num types at n (Named t)) ∙ fits in cc)
  num_plans at n (Int bits) v path fits hit shown done = elim (view v) [
    | inl a ↦
        let same : n ≡ a.0 = same_nat n a.0 (sym (ap (is_number n) (ap out-Value a.1 ∙ outs-Num a.0)) ∙ sym (matches-Num v at n) ∙ hit) in
        let lt : n < 2 ^ bits = below_lt n (2 ^ bits) (sym (fits-Num types at n (Int bits)) ∙ fits) in
        let rep : AreOf p m (Int bits) (n ∷ []) v = subst (λ u. AreOf p m (Int bits) (n ∷ []) u) (ap Num same ∙ sym a.1) (number bits n lt) in
        subst (λ (f : Planned). RunsTo (f (Int bits) path) done (done ++ v ∷ [])) (sym (fold-Num Planned (plan_step types ss) at n)) (done, refl, (v, rep, refl))
    | inr b ↦ absurd (let h = sym (ap (is_number n) (ap out-Value b.2 ∙ outs-Con b.0 b.1)) ∙ sym (matches-Num v at n) ∙ hit in cc)
  ]

  fields_run : (ps : List Pat) → Each Plans ps → (ts : List Ty) (vs : List Value) (i : ℕ) (v : Value) (path : List ℕ) → ((j : ℕ) → sub_at (Some v) (i + j) ≡ slice_get vs j)
      → all_of_types (map (fits_type types) ps) ts ≡ true → all_pass (map matches_of ps) vs ≡ true → Shown (opens_below (map (opens_of types) ps) ts i) v path
      → (done : List Value) → RunsTo (fields_plan (map (plan_of types ss) ps) ts path i) done (done ++ vs)
  fields_run [] each ts [] i v path av f pv shown done = sym (append-nil done)
  fields_run [] each ts (x ∷ vs) i v path av f pv shown done = absurd cc
  fields_run (q ∷ ps) each [] vs i v path av f pv shown done = absurd cc
  fields_run (q ∷ ps) each (t ∷ ts) [] i v path av f pv shown done = absurd cc
  fields_run (q ∷ ps) each (t ∷ ts) (x ∷ vs) i v path av f pv shown done =
      let bf = and_parts (fits_type types q t) (all_of_types (map (fits_type types) ps) ts) f in
      let bv = and_parts (matches_of q x) (all_pass (map matches_of ps) vs) pv in
      let z : i + 0 ≡ i = omega arith in
      let hv : sub_at (Some v) i ≡ Some x = ap (sub_at (Some v)) (sym z) ∙ av 0 in
      let shift : (j : ℕ) → i + 1 + j ≡ i + suc j = λ j. omega arith in
      let first_shown : Shown (opens_of types q t) x (path ++ i ∷ []) = λ k o e.
      (let s = shown k (below i o) (get-left _ _ k (below i o) (get-mapped (below i) (opens_of types q t) k o e)) in
      (s.0, ap (λ w. part_from w o.path) (sym hv) ∙ s.1, subst (λ y. AreOf p m o.ty (ss y) s.0) (sym (append_assoc path (i ∷ []) o.path)) s.2)) in
      let first = each.0 t x (path ++ i ∷ []) bf.0 bv.0 first_shown done in
      let rest = fields_run ps each.1 ts vs (i + 1) v path (λ j. ap (sub_at (Some v)) (shift j) ∙ av (suc j)) bf.1 bv.1
      (λ k o e. let r = get-right (map (below i) (opens_of types q t)) (opens_below (map (opens_of types) ps) ts (i + 1)) k o e in shown r.0 o r.1) (done ++ x ∷ []) in
      let rest' : RunsTo (fields_plan (map (plan_of types ss) ps) ts path (i + 1)) (done ++ x ∷ []) (done ++ x ∷ vs) = subst (λ ys. RunsTo (fields_plan (map (plan_of types ss) ps) ts path (i + 1)) (done ++ x ∷ []) ys) (append_assoc done (x ∷ []) vs) rest in
      runs_more p m (fields_plan (map (plan_of types ss) ps) ts path (i + 1)) (plan_of types ss q t (path ++ i ∷ [])) done (done ++ x ∷ []) (done ++ x ∷ vs) rest' first

  passed : (ps : List Pat) (vs : List Value) → all_pass (map matches_of ps) vs ≡ true → length (map (plan_of types ss) ps) ≡ length vs
  passed [] [] e = refl
  passed [] (v ∷ vs) e = absurd cc
  passed (q ∷ ps) [] e = absurd cc
  passed (q ∷ ps) (v ∷ vs) e = ap suc (passed ps vs (and_parts (matches_of q v) (all_pass (map matches_of ps) vs) e).1)

  con_plans : (at : ℕ) (c : ConRef) (ps : List Pat) → Each Plans ps → Plans (ConPat at c ps)
  con_plans at c ps each ty v path fits hit shown done = elim (view v) [
    | inl a ↦ absurd (let h = sym (ap (is_con c.con (map matches_of ps)) (ap out-Value a.1 ∙ outs-Num a.0)) ∙ sym (matches-Con v at c ps) ∙ hit in cc)
    | inr b ↦
        let vs = b.1 in
        let h : ((c.con == b.0) && all_pass (map matches_of ps) vs) ≡ true = sym (ap (is_con c.con (map matches_of ps)) (ap out-Value b.2 ∙ outs-Con b.0 vs)) ∙ sym (matches-Con v at c ps) ∙ hit in
        let t = and_parts (c.con == b.0) (all_pass (map matches_of ps) vs) h in
        let k = same_nat c.con b.0 t.0 in
        let bf = and_parts (is_named c.ty ty) (are_of (map (fits_type types) ps) (fields_of types c)) (sym (fits-Con types at c ps ty) ∙ fits) in
        let layer : out-Value v ≡ V.Con b.0 vs = ap out-Value b.2 ∙ outs-Con b.0 vs in
        let zs : (j : ℕ) → 0 + j ≡ j = λ j. omega arith in
        let run = fields_run ps each (types_or_none (fields_of types c)) vs 0 v path (λ j. ap (sub_at (Some v)) (zs j) ∙ ap (λ (l : Value-F Value). slice_get (subs_in l) j) layer)
        (fitting types (map (fits_type types) ps) (fields_of types c) bf.1) t.1 (λ i o e. shown i o (ap (λ (os : List Open). slice_get os i) (opens-Con types at c ps ty) ∙ e)) done in
        let n = passed ps vs t.1 in
        let l = length-append done vs in
        let joined : done ++ v ∷ [] ≡ take (length (done ++ vs) - length (map (plan_of types ss) ps)) (done ++ vs) ++ Con c.con (drop (length (done ++ vs) - length (map (plan_of types ss) ps)) (done ++ vs)) ∷ [] =
        ap (λ u. done ++ u ∷ []) (b.2 ∙ ap (λ i. Con i vs) (sym k)) ∙ ap (λ xs. xs ++ Con c.con vs ∷ []) (sym (take_back done vs)) ∙ ap (λ xs. take (length (done ++ vs) - length vs) (done ++ vs) ++ Con c.con xs ∷ []) (sym (drop_back done vs))
        ∙ ap (λ i. take (length (done ++ vs) - i) (done ++ vs) ++ Con c.con (drop (length (done ++ vs) - i) (done ++ vs)) ∷ []) (sym n) in
        subst (λ (f : Planned). RunsTo (f ty path) done (done ++ v ∷ [])) (sym (fold-Con Planned (plan_step types ss) at c ps)) (done ++ vs, run, (omega (arith, n, l), joined))
  ]

  -- the steps of a provenance put a value that it matches on the stack
  pub plans : (q : Pat) → Plans q
  plans = induction Plans (record {
    wild = λ at ty v path fits hit shown done. subst (λ (f : Planned). RunsTo (f ty path) done (done ++ v ∷ [])) (sym (fold-Wild Planned (plan_step types ss) at)) (open_plans (opens_of types (Wild at) ty) ty v path (opens-Wild types at ty) shown done);
    var = λ at x ty v path fits hit shown done. subst (λ (f : Planned). RunsTo (f ty path) done (done ++ v ∷ [])) (sym (fold-Var Planned (plan_step types ss) at x)) (open_plans (opens_of types (Var at x) ty) ty v path (opens-Var types at x ty) shown done);
    num = num_plans;
    con = con_plans;
  })

  -- and join at least once where it is a constructor
  pub con_weights : (at : ℕ) (c : ConRef) (ps : List Pat) (ty : Ty) (path : List ℕ) → weights (plan_of types ss (ConPat at c ps) ty path) < 2 * length (plan_of types ss (ConPat at c ps) ty path)
  con_weights at c ps ty path = subst (λ (f : Planned). weights (f ty path) < 2 * length (f ty path)) (sym (fold-Con Planned (plan_step types ss) at c ps))
      (let r = few_weights (fields_plan (map (plan_of types ss) ps) (types_or_none (fields_of types c)) path 0) in omega (arith, r))
