-- Where the tests on the way to a leaf pass, the splits lead to it.
use Rattle.std.proofs.Common.{◌≡◌, ℕ, zero, suc, nat_eq, inl, inr, map, List, [], ◌∷◌, ◌++◌, Bool, true, false, Option, Some, None, refl, sym, subst, ap, ◌∙◌, arith}
use Rattle.std.specs.Prelude.{slice_get, if◌then◌else◌}
use Rattle.std.specs.List.{flat_map}
use Rattle.std.proofs.lemmas.Option.{same_Some}
use Rattle.std.proofs.lemmas.Grind.{common_steps}
use Rattle.rb_core.specs.declared.layout_decl.Loc.{Loc}
use Rattle.rb_bytes.specs.Memory.{Memory}
use Rattle.rb_layout.specs.declared.layout.FlatTree.{FlatTree, roll-FlatTree, map-FlatTree, ind-FlatTree, fold-roll-FlatTree}
use Rattle.rb_layout.specs.declared.layout.FlatTree.TheOpen as T
use Rattle.rb_layout.specs.declared.layout.FlatTree.TheOpen.{FlatTree-F}
use Rattle.rb_layout.specs.declared.layout.FlatTree.TheFolds.{fold-FlatArm, fold-roll-FlatArm, map-FlatArm}
use Rattle.rb_layout.specs.declared.layout.FlatArm.{FlatArm, FlatArm-F, roll-FlatArm}
use Rattle.rb_layout.specs.Splits.{Test, Is, IsNone, Route, under_test, Under, arm_routes, else_routes, literals_of, routes_step, routes_arm, routes_of, routes_under, SplitAt, splits_or_none, splits_step, splits_arm, splits_of, splits_under}
use Rattle.rb_layout.specs.A7.{IsLiteral}
use Rattle.rb_rel.specs.Reading.{AreDistinct, LiteralsDistinct, read_loc, Walk, walk_else, walk_arms, walk_at, walk_step, walk_arm, walk}
use Rattle.rb_rel.proofs.Lists.{get-append, get-map, get-left, get-right}

differ : (a b : ℕ) → (a ≡ b → ⊥) → nat_eq a b ≡ false
differ a b ne = grind (arith, common_steps, ne)

same : (a : ℕ) → nat_eq a a ≡ true
same a = grind (arith, common_steps)

-- an arm's literal, with the walk through the tree below it
abbrev pub walk_under : FlatArm → Under Walk
walk_under = fold-FlatArm Walk (Under Walk) walk_step walk_arm

module _ (ws : List ℕ) (m : Memory) where
  -- a test, done on words
  abbrev pub Passes : Test → Type 0
  Passes (Is loc c) = read_loc ws m loc ≡ Some c
  Passes (IsNone loc cs) = (n : ℕ) × (read_loc ws m loc ≡ Some n) × (IsLiteral cs n → ⊥)

  abbrev pub AllPass : List Test → Type 0
  AllPass ts = (k : ℕ) (t : Test) → slice_get ts k ≡ Some t → Passes t

  -- each route whose tests pass is the one that is walked
  abbrev Right : List Route → Walk → Type 0
  Right rs go = (k : ℕ) (r : Route) → slice_get rs k ≡ Some r → AllPass r.tests → go ws m ≡ Some r.leaf

  abbrev P : FlatTree → Type 0
  P t = LiteralsDistinct (splits_of t) → Right (routes_of t) (walk t)

  abbrev Q : FlatArm → Type 0
  Q a =
      ((routes_under a).literal ≡ (walk_under a).literal) × ((splits_under a).literal ≡ (walk_under a).literal)
      × (LiteralsDistinct (splits_under a).of → Right (routes_under a).of (walk_under a).of)

  behind_is : (t : Test) (r : Route) → AllPass (under_test t r).tests → Passes t × AllPass r.tests
  behind_is t r a = (a 0 t refl, λ k u e. a (suc k) u e)

  abbrev SuchT : Type 0
  SuchT = (t : FlatTree) × P t

  abbrev SuchA : Type 0
  SuchA = (a : FlatArm) × Q a

  abbrev the_arms : List SuchA → List FlatArm
  the_arms = map (λ (a : SuchA). a.0)

  abbrev arms_routes : Loc → List SuchA → List Route
  arms_routes loc arms = flat_map (arm_routes loc) (map routes_under (the_arms arms))

  abbrev arms_splits : List SuchA → List SplitAt
  arms_splits arms = flat_map (λ arm. arm.of) (map splits_under (the_arms arms))

  abbrev arms_literals : List SuchA → List ℕ
  arms_literals arms = literals_of (map splits_under (the_arms arms))

  abbrev walks : List SuchA → List (Under Walk)
  walks arms = map walk_under (the_arms arms)

  behind_arm : (loc : Loc) (x : SuchA) (n : ℕ) (k : ℕ) (r : Route) → read_loc ws m loc ≡ Some n → LiteralsDistinct (splits_under x.0).of
      → slice_get (arm_routes loc (routes_under x.0)) k ≡ Some r → AllPass r.tests
      → ((walk_under x.0).literal ≡ n) × ((walk_under x.0).of ws m ≡ Some r.leaf)
  behind_arm loc x n k r is d e a =
      let t = Is loc (routes_under x.0).literal in
      let g = get-map (under_test t) (routes_under x.0).of k r e in
      let b = behind_is t g.0 (subst (λ (q : Route). AllPass q.tests) g.2 a) in
      let here : (routes_under x.0).literal ≡ n = same_Some _ _ (sym b.0 ∙ is) in
      (sym x.1.0 ∙ here, x.1.2 d k g.0 g.1 b.1 ∙ ap (λ (q : Route). Some q.leaf) (sym g.2))

  rest_distinct : (c : ℕ) (cs : List ℕ) → AreDistinct (c ∷ cs) → AreDistinct cs
  rest_distinct c cs d i j x lt a b = d (suc i) (suc j) x (omega (arith, lt)) a b

  first_distinct : (c : ℕ) (cs : List ℕ) → AreDistinct (c ∷ cs) → IsLiteral cs c → ⊥
  first_distinct c cs d h = d 0 (suc h.0) c (omega arith) refl h.1

  first_splits : (x : SuchA) (arms : List SuchA) → LiteralsDistinct (arms_splits (x ∷ arms)) → LiteralsDistinct (splits_under x.0).of
  first_splits x arms d k s e = d k s (get-left (splits_under x.0).of (arms_splits arms) k s e)

  rest_splits : (x : SuchA) (arms : List SuchA) → LiteralsDistinct (arms_splits (x ∷ arms)) → LiteralsDistinct (arms_splits arms)
  rest_splits x arms d k s e = let r = get-right (splits_under x.0).of (arms_splits arms) k s e in d r.0 s r.1

  -- a route below the arms reads one of their literals
  arm_is : (loc : Loc) (arms : List SuchA) (n : ℕ) (k : ℕ) (r : Route) → read_loc ws m loc ≡ Some n → LiteralsDistinct (arms_splits arms)
      → slice_get (arms_routes loc arms) k ≡ Some r → AllPass r.tests → IsLiteral (arms_literals arms) n
  arm_is loc [] n k r is d e a = absurd cc
  arm_is loc (x ∷ arms) n k r is d e a =
      elim (get-append (arm_routes loc (routes_under x.0)) (arms_routes loc arms) k r e) [
        | inl h ↦ (0, ap Some (x.1.1 ∙ (behind_arm loc x n k r is (first_splits x arms d) h a).0))
        | inr h ↦ let l = arm_is loc arms n h.0 r is (rest_splits x arms d) h.1 a in (suc l.0, l.1)
      ]

  arms_right : (loc : Loc) (arms : List SuchA) (other : Option Walk) (n : ℕ) (k : ℕ) (r : Route) → read_loc ws m loc ≡ Some n
      → AreDistinct (arms_literals arms) → LiteralsDistinct (arms_splits arms)
      → slice_get (arms_routes loc arms) k ≡ Some r → AllPass r.tests → walk_arms (walks arms) other n ws m ≡ Some r.leaf
  arms_right loc [] other n k r is ld d e a = absurd cc
  arms_right loc (x ∷ arms) other n k r is ld d e a =
      elim (get-append (arm_routes loc (routes_under x.0)) (arms_routes loc arms) k r e) [
        | inl h ↦ let b = behind_arm loc x n k r is (first_splits x arms d) h a in
            let t : nat_eq (walk_under x.0).literal n ≡ true = ap (λ i. nat_eq i n) b.0 ∙ same n in
            ap (λ (i : Bool). if i then (walk_under x.0).of ws m else walk_arms (walks arms) other n ws m) t ∙ b.1
        | inr h ↦
            let later = arm_is loc arms n h.0 r is (rest_splits x arms d) h.1 a in
            let ne : (walk_under x.0).literal ≡ n → ⊥ = λ e0. first_distinct (splits_under x.0).literal (arms_literals arms) ld (subst (λ c. IsLiteral (arms_literals arms) c) (sym (x.1.1 ∙ e0)) later) in
            ap (λ (i : Bool). if i then (walk_under x.0).of ws m else walk_arms (walks arms) other n ws m) (differ (walk_under x.0).literal n ne)
            ∙ arms_right loc arms other n h.0 r is (rest_distinct (splits_under x.0).literal (arms_literals arms) ld) (rest_splits x arms d) h.1 a
      ]

  -- past all arms
  past_arms : (arms : List SuchA) (other : Option Walk) (n : ℕ) → (IsLiteral (literals_of (map routes_under (the_arms arms))) n → ⊥)
      → walk_arms (walks arms) other n ws m ≡ walk_else other ws m
  past_arms [] other n ne = refl
  past_arms (x ∷ arms) other n ne =
      let ne' : (walk_under x.0).literal ≡ n → ⊥ = λ e. ne (0, ap Some (x.1.0 ∙ e)) in
      ap (λ (i : Bool). if i then (walk_under x.0).of ws m else walk_arms (walks arms) other n ws m) (differ (walk_under x.0).literal n ne')
      ∙ past_arms arms other n (λ h. ne (suc h.0, h.1))

  -- a route by an arm reads a literal
  reads_one : (loc : Loc) (arms : List SuchA) (k : ℕ) (r : Route) → slice_get (arms_routes loc arms) k ≡ Some r → AllPass r.tests → (n : ℕ) × (read_loc ws m loc ≡ Some n)
  reads_one loc [] k r e a = absurd cc
  reads_one loc (x ∷ arms) k r e a =
      elim (get-append (arm_routes loc (routes_under x.0)) (arms_routes loc arms) k r e) [
        | inl h ↦ let t = Is loc (routes_under x.0).literal in
            let g = get-map (under_test t) (routes_under x.0).of k r h in
            let b = behind_is t g.0 (subst (λ (q : Route). AllPass q.tests) g.2 a) in
            ((routes_under x.0).literal, b.0)
        | inr h ↦ reads_one loc arms h.0 r h.1 a
      ]

  routes-roll : (x : FlatTree-F FlatTree FlatArm) → routes_of (roll-FlatTree x) ≡ routes_step (map-FlatTree FlatTree FlatArm (List Route) (Under (List Route)) routes_of routes_under x)
  routes-roll x = fold-roll-FlatTree (List Route) (Under (List Route)) routes_step routes_arm x

  splits-roll : (x : FlatTree-F FlatTree FlatArm) → splits_of (roll-FlatTree x) ≡ splits_step (map-FlatTree FlatTree FlatArm (List SplitAt) (Under (List SplitAt)) splits_of splits_under x)
  splits-roll x = fold-roll-FlatTree (List SplitAt) (Under (List SplitAt)) splits_step splits_arm x

  walk-roll : (x : FlatTree-F FlatTree FlatArm) → walk (roll-FlatTree x) ≡ walk_step (map-FlatTree FlatTree FlatArm Walk (Under Walk) walk walk_under x)
  walk-roll x = fold-roll-FlatTree Walk (Under Walk) walk_step walk_arm x

  only : (n k : ℕ) (r : Route) → slice_get (routes_step (T.Leaf n)) k ≡ Some r → Some n ≡ Some r.leaf
  only n zero r e = ap (λ (q : Route). Some q.leaf) (same_Some _ _ e)
  only n (suc k) r e = absurd cc

  abbrev other_routes : Option SuchT → Option (List Route)
  other_routes None = None
  other_routes (Some t) = Some (routes_of t.0)

  abbrev other_splits : Option SuchT → Option (List SplitAt)
  other_splits None = None
  other_splits (Some t) = Some (splits_of t.0)

  abbrev other_walk : Option SuchT → Option Walk
  other_walk None = None
  other_walk (Some t) = Some (walk t.0)

  else_right : (loc : Loc) (arms : List SuchA) (other : Option SuchT) (k : ℕ) (r : Route) → LiteralsDistinct (splits_or_none (other_splits other))
      → slice_get (else_routes loc (literals_of (map routes_under (the_arms arms))) (other_routes other)) k ≡ Some r → AllPass r.tests
      → walk_at (read_loc ws m loc) (walks arms) (other_walk other) ws m ≡ Some r.leaf
  else_right loc arms None k r d e a = absurd cc
  else_right loc arms (Some t) k r d e a =
      let cs = literals_of (map routes_under (the_arms arms)) in
      let g = get-map (under_test (IsNone loc cs)) (routes_of t.0) k r e in
      let b = behind_is (IsNone loc cs) g.0 (subst (λ (q : Route). AllPass q.tests) g.2 a) in
      ap (λ (i : Option ℕ). walk_at i (walks arms) (Some (walk t.0)) ws m) b.0.1
      ∙ past_arms arms (Some (walk t.0)) b.0.0 b.0.2 ∙ t.1 d k g.0 g.1 b.1 ∙ ap (λ (q : Route). Some q.leaf) (sym g.2)

  split_right : (loc : Loc) (arms : List SuchA) (other : Option SuchT) (k : ℕ) (r : Route)
      → AreDistinct (arms_literals arms) → LiteralsDistinct (arms_splits arms) → LiteralsDistinct (splits_or_none (other_splits other))
      → slice_get (arms_routes loc arms ++ else_routes loc (literals_of (map routes_under (the_arms arms))) (other_routes other)) k ≡ Some r
      → AllPass r.tests → walk_at (read_loc ws m loc) (walks arms) (other_walk other) ws m ≡ Some r.leaf
  split_right loc arms other k r ld d rest e a =
      elim (get-append (arms_routes loc arms) (else_routes loc (literals_of (map routes_under (the_arms arms))) (other_routes other)) k r e) [
        | inl h ↦ let n = reads_one loc arms k r h a in
            ap (λ (i : Option ℕ). walk_at i (walks arms) (other_walk other) ws m) n.1 ∙ arms_right loc arms (other_walk other) n.0 k r n.1 ld d h a
        | inr h ↦ else_right loc arms other h.0 r rest h.1 a
      ]

  split_tree : (loc : Loc) (arms : List SuchA) (other : Option SuchT) (rs : List Route) (ss : List SplitAt) (go : Walk)
      → rs ≡ arms_routes loc arms ++ else_routes loc (literals_of (map routes_under (the_arms arms))) (other_routes other)
      → (o : Bool) → ss ≡ record { loc = loc; literals = arms_literals arms; other = o } ∷ (arms_splits arms ++ splits_or_none (other_splits other))
      → ((xs : List ℕ) (n : Memory) → go xs n ≡ walk_at (read_loc xs n loc) (walks arms) (other_walk other) xs n) → LiteralsDistinct ss → Right rs go
  split_tree loc arms other rs ss go er o es eg d k r e a =
      let s : SplitAt = record { loc = loc; literals = arms_literals arms; other = o } in
      let all : LiteralsDistinct (s ∷ (arms_splits arms ++ splits_or_none (other_splits other))) = subst LiteralsDistinct es d in
      eg ws m
      ∙ split_right loc arms other k r (all 0 s refl)
      (λ i x at. all (suc i) x (get-left (arms_splits arms) (splits_or_none (other_splits other)) i x at))
      (λ i x at. let h = get-right (arms_splits arms) (splits_or_none (other_splits other)) i x at in all (suc h.0) x h.1)
      (ap (λ (xs : List Route). slice_get xs k) (sym er) ∙ e) a

  tree_step : (y : FlatTree-F SuchT SuchA) → P (roll-FlatTree (map-FlatTree SuchT SuchA FlatTree FlatArm (λ e. e.0) (λ e. e.0) y))
  tree_step (T.Leaf n) d k r e a =
      ap (λ (go : Walk). go ws m) (walk-roll (T.Leaf n)) ∙ only n k r (ap (λ (rs : List Route). slice_get rs k) (sym (routes-roll (T.Leaf n))) ∙ e)
  tree_step (T.Split loc arms None) d k r e a =
      let x : FlatTree-F FlatTree FlatArm = T.Split loc (the_arms arms) None in
      split_tree loc arms None (routes_of (roll-FlatTree x)) (splits_of (roll-FlatTree x)) (walk (roll-FlatTree x)) (routes-roll x) false (splits-roll x)
      (λ xs n. ap (λ (go : Walk). go xs n) (walk-roll x)) d k r e a
  tree_step (T.Split loc arms (Some other)) d k r e a =
      let x : FlatTree-F FlatTree FlatArm = T.Split loc (the_arms arms) (Some other.0) in
      split_tree loc arms (Some other) (routes_of (roll-FlatTree x)) (splits_of (roll-FlatTree x)) (walk (roll-FlatTree x)) (routes-roll x) true (splits-roll x)
      (λ xs n. ap (λ (go : Walk). go xs n) (walk-roll x)) d k r e a

  arm_step : (y : FlatArm-F SuchT SuchA) → Q (roll-FlatArm (map-FlatArm SuchT SuchA FlatTree FlatArm (λ e. e.0) (λ e. e.0) y))
  arm_step y =
      let x : FlatArm-F FlatTree FlatArm = record { literal = y.literal; under = y.under.0 } in
      let er = fold-roll-FlatArm (List Route) (Under (List Route)) routes_step routes_arm x in
      let es = fold-roll-FlatArm (List SplitAt) (Under (List SplitAt)) splits_step splits_arm x in
      let ew = fold-roll-FlatArm Walk (Under Walk) walk_step walk_arm x in (
        ap (λ (z : Under (List Route)). z.literal) er ∙ sym (ap (λ (z : Under Walk). z.literal) ew),
        ap (λ (z : Under (List SplitAt)). z.literal) es ∙ sym (ap (λ (z : Under Walk). z.literal) ew),
        λ d k r e a. ap (λ (z : Under Walk). z.of ws m) ew
            ∙ y.under.1 (subst LiteralsDistinct (ap (λ (z : Under (List SplitAt)). z.of) es) d) k r (ap (λ (z : Under (List Route)). slice_get z.of k) (sym er) ∙ e) a,
      )

  pub tree_right : (t : FlatTree) → P t
  tree_right = ind-FlatTree P Q (λ x y e. subst (λ (z : FlatTree-F FlatTree FlatArm). P (roll-FlatTree z)) e (tree_step y))
      (λ x y e. subst (λ (z : FlatArm-F FlatTree FlatArm). Q (roll-FlatArm z)) e (arm_step y))
