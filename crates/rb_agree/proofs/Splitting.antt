-- The splits of a tree, form by form, and their literals.
use Rattle.std.proofs.Common.{◌≡◌, ℕ, zero, suc, ◌⊎◌, inl, inr, ◌+◌, ◌<◌, ◌≤◌, List, [], ◌∷◌, ◌++◌, map, length, take, drop, get_or, add-one, drop-cons, Bool, true, false, cond, Option, Some, None, Result, Ok, Err, IfOk, refl, sym, ap, subst, ◌∙◌, arith}
use Rattle.std.specs.Prelude.{slice_get, is_some, MatchOption, not, ◌||◌, ◌==◌}
use Rattle.std.specs.List.{flat_map, list_any}
use Rattle.std.specs.Ordering.{nat_cmp}
use Rattle.std.specs.BTreeMap.{is_at}
use Rattle.std.specs.BTreeSet as tree
use Rattle.std.specs.BTreeSet.{BTreeSet}
use Rattle.std.proofs.lemmas.Grind.{common_steps}
use Rattle.std.proofs.lemmas.Option.{same_Some, slice_get_within, slice_get-get_or}
use Rattle.std.proofs.lemmas.List.{drop_all}
use Rattle.std.proofs.lemmas.List.Folds.{list_any_more}
use Rattle.std.proofs.lemmas.Bool.{cases_lt, eqb-true, eq-eqb, not-false, not-true}
use Rattle.rb_core.specs.declared.layout_decl.Loc.{Loc}
use Rattle.rb_core.specs.declared.layout_decl.Step.{Step}
use Rattle.rb_layout.specs.declared.layout.FlatTree as F
use Rattle.rb_layout.specs.declared.layout.FlatTree.{FlatTree}
use Rattle.rb_layout.specs.declared.layout.FlatTree.TheFolds.{fold_out-FlatArm}
use Rattle.rb_layout.specs.declared.layout.FlatArm.{FlatArm}
use Rattle.rb_layout.specs.declared.layout.Layout.{Layout}
use Rattle.rb_layout.specs.declared.evidence.Why.{Why}
use Rattle.rb_layout.specs.declared.evidence.Why.TheVariants.{LiteralWide, LiteralTwice, NoArm}
use Rattle.rb_layout.specs.Splits.{SplitAt, Under, literals_of, splits_step, splits_arm, splits_of, splits_under}
use Rattle.rb_layout.specs.A8.{AllSplitWell, FailsSplits, HasArm, SplitsWell, last_length, length_of}
use Rattle.rb_layout.proofs.FlatForms.{fold-Leaf, fold-Split, fold-Split-else}
use Rattle.rb_agree.specs.inner.Lists.{EachOf, FindsIn}
use Rattle.rb_agree.specs.inner.Splits.{AreDistinct, AreFit, FailsSplit, IsTwice, arm_splits, literals_in, split_of}
use Rattle.rb_agree.proofs.Lists.{finds-left, finds-right, finds-first, finds-rest, flat-next, flat-end, PassesIn}

pub splits-Leaf : (n : ℕ) → splits_of (F.Leaf n) ≡ []
splits-Leaf n = fold-Leaf (List SplitAt) (Under (List SplitAt)) splits_step splits_arm n

pub under-splits : (a : FlatArm) → splits_under a ≡ record { literal = a.literal; of = splits_of a.under }
under-splits a = fold_out-FlatArm (List SplitAt) (Under (List SplitAt)) splits_step splits_arm a

joined-splits : (arms : List FlatArm) → flat_map (λ (u : Under (List SplitAt)). u.of) (map splits_under arms) ≡ arm_splits arms
joined-splits [] = refl
joined-splits (a ∷ arms) = ap (λ (ss : List SplitAt). (splits_under a).of ++ ss) (joined-splits arms)

literals-are : (arms : List FlatArm) → literals_of (map splits_under arms) ≡ literals_in arms
literals-are [] = refl
literals-are (a ∷ arms) =
    let here : (splits_under a).literal ≡ a.literal = ap (λ (u : Under (List SplitAt)). u.literal) (under-splits a) in
    ap (λ n. n ∷ literals_of (map splits_under arms)) here ∙ ap (λ (ns : List ℕ). a.literal ∷ ns) (literals-are arms)

abbrev pub other_splits : Option FlatTree → List SplitAt
other_splits None = []
other_splits (Some tree) = splits_of tree

with-parts : (loc : Loc) (arms : List FlatArm) (b : Bool) (rest : List SplitAt)
    → record { loc = loc; literals = literals_of (map splits_under arms); other = b } ∷ (flat_map (λ (u : Under (List SplitAt)). u.of) (map splits_under arms) ++ rest)
    ≡ split_of loc arms b ∷ (arm_splits arms ++ rest)
with-parts loc arms b rest =
    ap (λ (ls : List ℕ). record { loc = loc; literals = ls; other = b } ∷ (flat_map (λ (u : Under (List SplitAt)). u.of) (map splits_under arms) ++ rest)) (literals-are arms)
    ∙ ap (λ (ss : List SplitAt). split_of loc arms b ∷ (ss ++ rest)) (joined-splits arms)

pub splits-Split : (loc : Loc) (arms : List FlatArm) (other : Option FlatTree)
    → splits_of (F.Split loc arms other) ≡ split_of loc arms (is_some other) ∷ (arm_splits arms ++ other_splits other)
splits-Split loc arms None = fold-Split (List SplitAt) (Under (List SplitAt)) splits_step splits_arm loc arms ∙ with-parts loc arms false []
splits-Split loc arms (Some tree) =
    fold-Split-else (List SplitAt) (Under (List SplitAt)) splits_step splits_arm loc arms tree ∙ with-parts loc arms true (splits_of tree)

abbrev pub Finds : List SplitAt → Option Why → Type 0
Finds ss r = FindsIn SplitsWell FailsSplit ss r

module _ (tree : FlatTree) (loc : Loc) (arms : List FlatArm) (other : Option FlatTree) (is : tree ≡ F.Split loc arms other) where
  whole : splits_of tree ≡ split_of loc arms (is_some other) ∷ (arm_splits arms ++ other_splits other)
  whole = ap (λ (t : FlatTree). splits_of t) is ∙ splits-Split loc arms other

  split-bad : (why : Why) → FailsSplit (split_of loc arms (is_some other)) why → Finds (splits_of tree) (Some why)
  split-bad why bad = subst (λ (ss : List SplitAt). Finds ss (Some why)) (sym whole)
      (finds-first SplitsWell FailsSplit (split_of loc arms (is_some other)) (arm_splits arms ++ other_splits other) why bad)

  arms-bad : (why : Why) → SplitsWell (split_of loc arms (is_some other)) → Finds (arm_splits arms) (Some why) → Finds (splits_of tree) (Some why)
  arms-bad why good bad = subst (λ (ss : List SplitAt). Finds ss (Some why)) (sym whole)
      (finds-rest SplitsWell FailsSplit (split_of loc arms (is_some other)) (arm_splits arms ++ other_splits other) (Some why) good
      (finds-left SplitsWell FailsSplit (arm_splits arms) (other_splits other) why bad))

  rest-found : (r : Option Why) → SplitsWell (split_of loc arms (is_some other)) → EachOf SplitsWell (arm_splits arms) → Finds (other_splits other) r → Finds (splits_of tree) r
  rest-found r good all rest = subst (λ (ss : List SplitAt). Finds ss r) (sym whole)
      (finds-rest SplitsWell FailsSplit (split_of loc arms (is_some other)) (arm_splits arms ++ other_splits other) r good
      (finds-right SplitsWell FailsSplit (arm_splits arms) (other_splits other) r all rest))

  -- by what was found of slices of the arms
  abbrev OfSplit : List FlatArm → Bool → Option Why → Type 0
  OfSplit ws b r = MatchOption r (SplitsWell (split_of loc ws b)) (FailsSplit (split_of loc ws b))

  here : (ws : List FlatArm) (b : Bool) (r s : Option Why) → ws ≡ arms → b ≡ is_some other → r ≡ s → OfSplit ws b r → OfSplit arms (is_some other) s
  here ws b r s is_ws is_b is_r h =
      subst (λ (x : Option Why). OfSplit arms (is_some other) x) is_r (subst (λ x. OfSplit arms x r) is_b (subst (λ (xs : List FlatArm). OfSplit xs b r) is_ws h))

  there : (ws : List FlatArm) (r s : Option Why) → ws ≡ arms → r ≡ s → Finds (arm_splits ws) r → Finds (arm_splits arms) s
  there ws r s is_ws is_r h = subst (λ (x : Option Why). Finds (arm_splits arms) x) is_r (subst (λ (xs : List FlatArm). Finds (arm_splits xs) r) is_ws h)

  pub split-found : (ws : List FlatArm) (b : Bool) (r : Option Why) (why : Why) → ws ≡ arms → b ≡ is_some other → r ≡ Some why → OfSplit ws b r → Finds (splits_of tree) (Some why)
  split-found ws b r why is_ws is_b is_r h = split-bad why (here ws b r (Some why) is_ws is_b is_r h)

  pub arms-found : (ws xs : List FlatArm) (b : Bool) (r s : Option Why) (why : Why) → ws ≡ arms → b ≡ is_some other → r ≡ None → OfSplit ws b r
      → xs ≡ arms → s ≡ Some why → Finds (arm_splits xs) s → Finds (splits_of tree) (Some why)
  arms-found ws xs b r s why is_ws is_b is_r h is_xs is_s g = arms-bad why (here ws b r None is_ws is_b is_r h) (there xs s (Some why) is_xs is_s g)

  pub other-found : (ws xs : List FlatArm) (b : Bool) (r s x : Option Why) → ws ≡ arms → b ≡ is_some other → r ≡ None → OfSplit ws b r
      → xs ≡ arms → s ≡ None → Finds (arm_splits xs) s → Finds (other_splits other) x → Finds (splits_of tree) x
  other-found ws xs b r s x is_ws is_b is_r h is_xs is_s g rest = rest-found x (here ws b r None is_ws is_b is_r h) (there xs s None is_xs is_s g) rest

-- Arms one after the other
arm-next : (arms : List FlatArm) (i : ℕ) (a : FlatArm) → i < length arms → a ≡ get_or arms i a → arm_splits (drop i arms) ≡ splits_of a.under ++ arm_splits (drop (i + 1) arms)
arm-next arms i a lt is =
    flat-next (λ (x : FlatArm). (splits_under x).of) arms i a lt is
    ∙ ap (λ (u : Under (List SplitAt)). u.of ++ arm_splits (drop (i + 1) arms)) (under-splits a)

module _ (arms : List FlatArm) (i : ℕ) where
  abbrev RestPasses : ℕ → Type 0
  RestPasses k = PassesIn SplitsWell FailsSplit (arm_splits (drop k arms)) (arm_splits arms)

  pub arm-found : (a : FlatArm) (r : Option Why) (why : Why) → i < length arms → a ≡ get_or arms i a → Finds (splits_of a.under) r → r ≡ Some why → RestPasses i
      → Finds (arm_splits arms) (Some why)
  arm-found a r why lt is h some pass =
      pass (Some why) (subst (λ (ss : List SplitAt). Finds ss (Some why)) (sym (arm-next arms i a lt is))
      (finds-left SplitsWell FailsSplit (splits_of a.under) (arm_splits (drop (i + 1) arms)) why (subst (λ (x : Option Why). Finds (splits_of a.under) x) some h)))

  pub arm-passed : (a : FlatArm) (r : Option Why) → i < length arms → a ≡ get_or arms i a → Finds (splits_of a.under) r → r ≡ None → RestPasses i → RestPasses (i + 1)
  arm-passed a r lt is h none pass = λ x rest.
      pass x (subst (λ (ss : List SplitAt). Finds ss x) (sym (arm-next arms i a lt is))
      (finds-right SplitsWell FailsSplit (splits_of a.under) (arm_splits (drop (i + 1) arms)) x (subst (λ (y : Option Why). Finds (splits_of a.under) y) none h) rest))

  pub arms-end : length arms ≤ i → RestPasses i → Finds (arm_splits arms) None
  arms-end le pass =
      pass None (subst (λ (ss : List SplitAt). Finds ss None) (sym (flat-end (λ (x : FlatArm). (splits_under x).of) arms i le)) (λ k x e. absurd cc))

pub nothing-in-leaf : (tree : FlatTree) (n : ℕ) → tree ≡ F.Leaf n → Finds (splits_of tree) None
nothing-in-leaf tree n is = subst (λ (ss : List SplitAt). Finds ss None) (sym (ap (λ (t : FlatTree). splits_of t) is ∙ splits-Leaf n)) (λ k x e. absurd cc)

-- what is found in a layout
pub in-layout : (layout : Layout) (r : Option Why) → Finds (splits_of layout.tree) r → MatchOption r (AllSplitWell layout) (FailsSplits layout)
in-layout layout None all = all
in-layout layout (Some (LiteralWide loc c)) h = (record { number = h.0; split = h.1; is_split = h.2; is_loc = h.3.0 }, h.3.1, h.3.2)
in-layout layout (Some (LiteralTwice loc c)) h =
    (record { number = h.0; split = h.1; is_split = h.2; is_loc = h.3.0 }, h.3.1.0, h.3.1.1, h.3.1.2, h.3.1.3, h.3.1.4)
in-layout layout (Some (NoArm loc)) h = (record { number = h.0; split = h.1; is_split = h.2; is_loc = h.3.0 }, h.3.1)
in-layout layout (Some why) h = absurd h.3

-- Literals --------------------------------------------------------------------------------------------

pub length-next : (l : ℕ) (steps : List Step) (i : ℕ) (s : Step) → i < length steps → s ≡ get_or steps i s → last_length l (drop i steps) ≡ last_length s.l (drop (i + 1) steps)
length-next l steps i s lt is =
    ap (λ (ss : List Step). last_length l ss) (drop-cons steps i s lt ∙ ap (λ (x : Step). x ∷ drop (suc i) steps) (sym is)) ∙ ap (λ m. last_length s.l (drop m steps)) (sym (add-one i))

pub length-end : (l : ℕ) (steps : List Step) (i : ℕ) → length steps ≤ i → last_length l (drop i steps) ≡ l
length-end l steps i le = ap (λ (ss : List Step). last_length l ss) (drop_all i steps le)

or_case : (a b : Bool) → (a || b) ≡ true → (a ≡ true) ⊎ (b ≡ true)
or_case true b e = inl refl
or_case false b e = inr e

-- among the first k
pub any-before : (cs : List ℕ) (k c : ℕ) → list_any (λ y. y == c) (take k cs) ≡ true → (j : ℕ) × (j < k) × (slice_get cs j ≡ Some c)
any-before [] zero c e = absurd cc
any-before [] (suc k) c e = absurd cc
any-before (x ∷ cs) zero c e = absurd cc
any-before (x ∷ cs) (suc k) c e =
    elim (or_case (x == c) (list_any (λ y. y == c) (take k cs)) e) [
      | inl here ↦ (0, omega arith, ap Some (eqb-true x c here))
      | inr rest ↦ let r = any-before cs k c rest in (suc r.0, omega (arith, r.1), r.2)
    ]

or_none : (a b : Bool) → (a || b) ≡ false → (a ≡ false) × (b ≡ false)
or_none true b e = absurd cc
or_none false b e = (refl, e)

pub none-before : (cs : List ℕ) (k c : ℕ) → list_any (λ y. y == c) (take k cs) ≡ false → (j : ℕ) → j < k → slice_get cs j ≡ Some c → ⊥
none-before [] k c e j lt is = absurd cc
none-before (x ∷ cs) zero c e j lt is = absurd (omega (arith, lt))
none-before (x ∷ cs) (suc k) c e zero lt is =
    let h = or_none (x == c) (list_any (λ y. y == c) (take k cs)) e in
    let same : x ≡ c = same_Some x c is in absurd (cc (eq-eqb x c same, h.0))
none-before (x ∷ cs) (suc k) c e (suc j) lt is =
    let h = or_none (x == c) (list_any (λ y. y == c) (take k cs)) e in none-before cs k c h.1 j (omega (arith, lt)) is

abbrev pub DistinctBefore : List ℕ → ℕ → Type 0
DistinctBefore cs n = (j k c : ℕ) → j < k → k < n → slice_get cs j ≡ Some c → slice_get cs k ≡ Some c → ⊥

-- a set has the first n of these literals, and no other number
abbrev pub HasFirst : BTreeSet ℕ → List ℕ → ℕ → Type 0
HasFirst s cs n = (c : ℕ) → tree.contains nat_cmp s c ≡ list_any (λ y. y == c) (take n cs)

module _ (s : BTreeSet ℕ) (cs : List ℕ) (k : ℕ) (new : Bool) (within : k < length cs) (has : HasFirst s cs k) (is : new ≡ not (tree.contains nat_cmp s (get_or cs k 0))) where
  pub held-twice : new ≡ false → IsTwice cs (get_or cs k 0)
  held-twice old =
      let r = any-before cs k (get_or cs k 0) (sym (has (get_or cs k 0)) ∙ not-false (tree.contains nat_cmp s (get_or cs k 0)) (sym is ∙ old)) in
      (r.0, k, r.1, r.2, slice_get-get_or cs k 0 within)

  pub distinct-more : new ≡ true → DistinctBefore cs k → DistinctBefore cs (k + 1)
  distinct-more fresh before = λ i j c lt below at-i at-j. elim (cases_lt j k) [
    | inl less ↦ before i j c lt less at-i at-j
    | inr most ↦
        let here : j ≡ k = omega (arith, most, below) in
        let same : get_or cs k 0 ≡ c = same_Some (get_or cs k 0) c (sym (slice_get-get_or cs k 0 within) ∙ subst (λ n. slice_get cs n ≡ Some c) here at-j) in
        none-before cs k c (subst (λ n. list_any (λ y. y == n) (take k cs) ≡ false) same
        (sym (has (get_or cs k 0)) ∙ not-true (tree.contains nat_cmp s (get_or cs k 0)) (sym is ∙ fresh))) i (omega (arith, lt, here)) at-i
  ]

same-number : (x c : ℕ) → is_at (nat_cmp x) c ≡ (x == c)
same-number x c = grind (arith, common_steps)

either-holds : (p b : Bool) → cond p true b ≡ (b || p)
either-holds true true = refl
either-holds true false = refl
either-holds false true = refl
either-holds false false = refl

pub has-more : (s t : BTreeSet ℕ) (cs : List ℕ) (k : ℕ) → k < length cs → HasFirst s cs k → tree.Updates nat_cmp s t (get_or cs k 0) true → HasFirst t cs (k + 1)
has-more s t cs k within has updates = λ c.
    updates.0 c ∙ ap (λ b. cond b true (tree.contains nat_cmp s c)) (same-number (get_or cs k 0) c) ∙ either-holds (get_or cs k 0 == c) (tree.contains nat_cmp s c)
    ∙ ap (λ b. b || get_or cs k 0 == c) (has c) ∙ sym (list_any_more (λ y. y == c) cs k 0 within)

pub distinct-all : (cs : List ℕ) (n : ℕ) → length cs ≤ n → DistinctBefore cs n → AreDistinct cs
distinct-all cs n all before = λ j k c lt at-j at-k. before j k c lt (omega (arith, all, slice_get_within cs k c at-k)) at-j at-k

-- What is found of a split ------------------------------------------------------------------------------

module _ (loc : Loc) (arms : List FlatArm) (other : Bool) where
  pub splits-well : AreFit (length_of loc) (literals_in arms) → AreDistinct (literals_in arms) → HasArm (split_of loc arms other) → SplitsWell (split_of loc arms other)
  splits-well fit distinct arm = record { distinct = distinct; fit = λ k c e. fit k c e; arm = arm }

pub in-layout-ok : {E : Type 0} (layout : Layout) (r : Result (Option Why) E) → IfOk r (FindsIn SplitsWell FailsSplit (splits_of layout.tree))
    → IfOk r (λ found. MatchOption found (AllSplitWell layout) (FailsSplits layout))
in-layout-ok layout (Ok found) h = in-layout layout found h
in-layout-ok layout (Err e) h = tt
