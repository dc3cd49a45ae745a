-- Things to do, one after the other, and how many nodes they make.
use Rattle.std.proofs.Common.{◌≡◌, ℕ, zero, suc, ◌+◌, ◌-◌, ◌*◌, ◌<◌, ◌≤◌, length, map, sum, take, drop, List, [], ◌∷◌, ◌++◌, refl, sym, subst, ap, ◌∙◌, arith}
use Rattle.std.specs.Prelude.{slice_index, false}
use Rattle.std.proofs.lemmas.List.{length-append}
use Rattle.rb_core.specs.declared.value.Value.{Value, Num, Con}
use Rattle.rb_core.specs.declared.types.Ty.{Ty}
use Rattle.rb_core.specs.declared.types.Ty.TheVariants.{Int, Named}
use Rattle.rb_core.specs.declared.program.Program.{Program}
use Rattle.rb_core.specs.Values.{node_count}
use Rattle.rb_core.proofs.ValueLaws.{induction, node_count-Num, node_count-Con}
use Rattle.rb_bytes.specs.Memory.{Memory}
use Rattle.rb_layout.specs.Flattening.{flat_layouts}
use Rattle.rb_rel.proofs.Represented.{Represents-int}
use Rattle.rb_values.proofs.PrintLemmas.{nodes-cons}
use Rattle.rb_coding.specs.Decoding.{AreOf}
use Rattle.rb_coding.specs.inner.Todo.{After, Runs, weight, weights, IsOpened}
use Rattle.rb_coding.specs.declared.todo.Step.{Step}
use Rattle.rb_coding.specs.declared.todo.Step.TheVariants.{Visit, Join}

abbrev total : List Value → ℕ
total [] = 0
total (v ∷ vs) = node_count v + total vs

total_is : (vs : List Value) → sum (map node_count vs) ≡ total vs
total_is [] = refl
total_is (v ∷ vs) = nodes-cons v vs ∙ ap (λ n. node_count v + n) (total_is vs)

total-append : (vs us : List Value) → total (vs ++ us) ≡ total vs + total us
total-append [] us = omega arith
total-append (v ∷ vs) us = let r = total-append vs us in omega (arith, r)

total-split : (n : ℕ) (vs : List Value) → total (take n vs) + total (drop n vs) ≡ total vs
total-split zero vs = omega arith
total-split (suc n) [] = refl
total-split (suc n) (v ∷ vs) = let r = total-split n vs in omega (arith, r)

pub some_node : (v : Value) → 0 < node_count v
some_node = induction (λ v. 0 < node_count v) (λ n. let e = node_count-Num n in omega (arith, e)) (λ k vs each. let e = node_count-Con k vs in omega (arith, e))

total_con : (n k : ℕ) (vs : List Value) → total (take n vs ++ Con k (drop n vs) ∷ []) ≡ total vs + 1
total_con n k vs =
    let a = total-append (take n vs) (Con k (drop n vs) ∷ []) in
    let e = node_count-Con k (drop n vs) in
    let t = total_is (drop n vs) in
    let s = total-split n vs in
    omega (arith, a, e, t, s)

weights-append : (ss rs : List Step) → weights (ss ++ rs) ≡ weights ss + weights rs
weights-append [] rs = omega arith
weights-append (s ∷ ss) rs = let r = weights-append ss rs in omega (arith, r)

module _ (p : Program) (m : Memory) where
  runs_pop : (rest : List Step) (s : Step) (old new : List Value) → Runs p m (rest ++ s ∷ []) old new → (mid : List Value) × After p m s old mid × Runs p m rest mid new
  runs_pop [] s old new (mid, same, after) = (new, subst (λ vs. After p m s vs new) (sym same) after, refl)
  runs_pop (r ∷ rest) s old new (mid, runs, after) = let h = runs_pop rest s old mid runs in (h.0, h.1, (mid, h.2, after))

  pub runs_more : (rest ss : List Step) (old mid new : List Value) → Runs p m rest mid new → Runs p m ss old mid → Runs p m (rest ++ ss) old new
  runs_more [] ss old mid new same runs = subst (λ vs. Runs p m ss old vs) same runs
  runs_more (r ∷ rest) ss old mid new (x, runs, after) first = (x, runs_more rest ss old mid x runs first, after)

  after_nodes : (s : Step) (old new : List Value) → After p m s old new → total old + 1 ≤ total new
  after_nodes (Visit ty ws) old new (v, rep, is) = let e = ap total is ∙ total-append old (v ∷ []) in let some = some_node v in omega (arith, e, some)
  after_nodes (Join k count) old new (le, is) = let e = ap total is ∙ total_con (length old - count) k old in omega (arith, e)

  nodes_run : (ss : List Step) (old new : List Value) → Runs p m ss old new → total old + length ss ≤ total new
  nodes_run [] old new same = let e = ap total same in omega (arith, e)
  nodes_run (s ∷ ss) old new (mid, runs, after) = let r = nodes_run ss old mid runs in let a = after_nodes s mid new after in omega (arith, r, a)

  -- one turn over the things to do -----------------------------------------------------------------
  module _ (ty : Ty) (ws : List ℕ) (todo rest : List Step) (s : Step) (is : todo ≡ rest ++ s ∷ []) (builder : List Value)
      (runs : (v : Value) → AreOf p m ty ws v → Runs p m todo builder (v ∷ [])) where
    next : (v : Value) → AreOf p m ty ws v → (mid : List Value) × After p m s builder mid × Runs p m rest mid (v ∷ [])
    next v rep = runs_pop rest s builder (v ∷ []) (subst (λ ss. Runs p m ss builder (v ∷ [])) is (runs v rep))

    abbrev work : ℕ → List Step → List Value → ℕ
    work limit steps values = 2 * (limit - (sum (map node_count values) + length steps)) + weights steps

    long : length todo ≡ length rest + 1
    long = ap length is ∙ length-append rest (s ∷ [])

    heavy : weights todo ≡ weights rest + weight s
    heavy = ap weights is ∙ weights-append rest (s ∷ []) ∙ (let z : weight s + 0 ≡ weight s = omega arith in ap (λ n. weights rest + n) z)

    module _ (k count : ℕ) (is_join : s ≡ Join k count) where
      pub join_some : (v : Value) → AreOf p m ty ws v → count ≤ length builder
      join_some v rep = let n = next v rep in (subst (λ x. After p m x builder n.0) is_join n.1).0

      module _ (new : List Value) (is_new : new ≡ take (length builder - count) builder ++ Con k (drop (length builder - count) builder) ∷ []) where
        pub join_runs : (v : Value) → AreOf p m ty ws v → Runs p m rest new (v ∷ [])
        join_runs v rep = let n = next v rep in subst (λ vs. Runs p m rest vs (v ∷ [])) ((subst (λ x. After p m x builder n.0) is_join n.1).1 ∙ sym is_new) n.2

        join_nodes : sum (map node_count new) ≡ sum (map node_count builder) + 1
        join_nodes = total_is new ∙ ap total is_new ∙ total_con (length builder - count) k builder ∙ ap (λ n. n + 1) (sym (total_is builder))

        pub join_within : (limit : ℕ) → sum (map node_count builder) + length todo ≤ limit → sum (map node_count new) + length rest ≤ limit
        join_within limit le = let n = join_nodes in let l = long in omega (arith, n, l, le)

        pub join_less : (limit : ℕ) → work limit rest new < work limit todo builder
        join_less limit =
            let n = join_nodes in
            let l = long in
            let w = heavy ∙ ap (λ x. weights rest + weight x) is_join in
            let same : sum (map node_count new) + length rest ≡ sum (map node_count builder) + length todo = omega (arith, n, l) in
            let e = ap (λ k. 2 * (limit - k)) same in
            omega (arith, e, w)

    module _ (bits : ℕ) (xs : List ℕ) (is_visit : s ≡ Visit (Int bits) xs) (new : List Value) (is_new : new ≡ builder ++ Num (slice_index xs 0) ∷ []) where
      pub number_runs : (v : Value) → AreOf p m ty ws v → Runs p m rest new (v ∷ [])
      number_runs v rep =
          let n = next v rep in
          let a = subst (λ x. After p m x builder n.0) is_visit n.1 in
          let i = Represents-int p.types (flat_layouts p) m false bits a.0 xs a.1 in
          let same : n.0 ≡ new = a.2 ∙ ap (λ u. builder ++ u ∷ []) (i.1 ∙ ap Num (sym (ap (λ ys. slice_index ys 0) i.2))) ∙ sym is_new in
          subst (λ vs. Runs p m rest vs (v ∷ [])) same n.2

      number_nodes : sum (map node_count new) ≡ sum (map node_count builder) + 1
      number_nodes =
          let a = total_is new ∙ ap total is_new ∙ total-append builder (Num (slice_index xs 0) ∷ []) in
          let b = total_is builder in
          let c = node_count-Num (slice_index xs 0) in
          omega (arith, a, b, c)

      pub number_within : (limit : ℕ) → sum (map node_count builder) + length todo ≤ limit → sum (map node_count new) + length rest ≤ limit
      number_within limit le = let n = number_nodes in let l = long in omega (arith, n, l, le)

      pub number_less : (limit : ℕ) → work limit rest new < work limit todo builder
      number_less limit =
          let n = number_nodes in
          let l = long in
          let w = heavy ∙ ap (λ x. weights rest + weight x) is_visit in
          let same : sum (map node_count new) + length rest ≡ sum (map node_count builder) + length todo = omega (arith, n, l) in
          let e = ap (λ k. 2 * (limit - k)) same in
          omega (arith, e, w)

    module _ (t : ℕ) (xs : List ℕ) (is_visit : s ≡ Visit (Named t) xs) where
      pub visit_some : (v : Value) → AreOf p m ty ws v → (u : Value) × AreOf p m (Named t) xs u
      visit_some v rep = let n = next v rep in let a = subst (λ x. After p m x builder n.0) is_visit n.1 in (a.0, a.1)

      module _ (new : List Step) (opened : IsOpened p m t xs rest new) where
        pub visit_runs : (v : Value) → AreOf p m ty ws v → Runs p m new builder (v ∷ [])
        visit_runs v rep =
            let n = next v rep in
            let a = subst (λ x. After p m x builder n.0) is_visit n.1 in
            let o = opened a.0 a.1 in
            subst (λ ss. Runs p m ss builder (v ∷ [])) (sym o.1) (runs_more rest o.0 builder n.0 (v ∷ []) n.2 (subst (λ vs. Runs p m o.0 builder vs) (sym a.2) (o.2 builder)))

        pub visit_over : (limit : ℕ) → sum (map node_count builder) ≤ limit → limit - sum (map node_count builder) < length new → (v : Value) → AreOf p m ty ws v → limit < node_count v
        visit_over limit le over v rep =
            let r = nodes_run new builder (v ∷ []) (visit_runs v rep) in
            let b = total_is builder in
            omega (arith, r, b, over, le)

        pub visit_less : (limit : ℕ) → (v : Value) → AreOf p m ty ws v → sum (map node_count builder) + length todo ≤ limit → sum (map node_count builder) + length new ≤ limit → work limit new builder < work limit todo builder
        visit_less limit v rep le le' =
            let n = next v rep in
            let a = subst (λ x. After p m x builder n.0) is_visit n.1 in
            let o = opened a.0 a.1 in
            let l = long in
            let w = heavy ∙ ap (λ x. weights rest + weight x) is_visit in
            let ln = ap length o.1 ∙ length-append rest o.0 in
            let wn = ap weights o.1 ∙ weights-append rest o.0 in
            let light = o.3 in
            omega (arith, l, w, ln, wn, light, le, le')
