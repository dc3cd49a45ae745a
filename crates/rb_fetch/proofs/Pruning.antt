-- Pruned trees: where words lead in them, what is nested in them, and what fits.
use Rattle.std.proofs.Common.{◌≡◌, inl, inr, ℕ, zero, suc, ◌+◌, ◌<◌, ◌≤◌, ◌^◌, Bool, true, false, List, [], ◌∷◌, ◌++◌, map, Option, Some, None, refl, sym, subst, ap, ◌∙◌, arith, is_some}
use Rattle.std.specs.Prelude.{slice_get, nat_eq, ◌&&◌, if◌then◌else◌}
use Rattle.std.specs.List.{flat_map}
use Rattle.std.proofs.lemmas.Bool.{false≢true, and_parts}
use Rattle.std.proofs.lemmas.Bool.Decides.{nat_tests}
use Rattle.std.proofs.lemmas.Option.{same_Some}
use Rattle.rb_core.specs.declared.layout_decl.Loc.{Loc}
use Rattle.rb_bytes.specs.Memory.{Memory}
use Rattle.rb_layout.specs.declared.layout.FlatTree.{FlatTree, Split, Leaf}
use Rattle.rb_layout.specs.declared.layout.FlatTree.TheFolds.{fold_out-FlatArm}
use Rattle.rb_layout.specs.declared.layout.FlatArm.{FlatArm}
use Rattle.rb_layout.specs.Splits.{Under, SplitAt, literals_of, splits_or_none, splits_step, splits_arm, splits_of, splits_under}
use Rattle.rb_layout.proofs.FlatForms.{Each, tree-induction}
use Rattle.rb_layout.proofs.FlatForms as F
use Rattle.rb_rel.specs.Reading.{walk, walk_at}
use Rattle.rb_rel.proofs.Trees.{walk_under}
use Rattle.rb_rel.specs.Switches.{greatest, nesting}
use Rattle.rb_rel.proofs.Counting as N
use Rattle.rb_rel.proofs.Lists.{get-append}
use Rattle.rb_target.proofs.Shapes.{next_arm, pick}
use Rattle.rb_fetch.specs.Fetching.{LocFits}
use Rattle.rb_fetch.specs.Pruning.{group_at, GroupsBelow, group_step, group_arm, group_of, is_group, lead_all, leads_else, agreed_group, shared_group, pruned_split, joined_or_pruned, joined_split, keep_arm, live_arms, leaf_for, prune_step, prune_arm, pruned_of, walk_in, nesting_in, Prunes}
use Rattle.rb_fetch.specs.inner.Pruning.{pruned_under}
use Rattle.rb_fetch.specs.inner.Looking.{SplitFits, TreeFits, LeavesBelow, under_arm, under_at}
use Rattle.rb_fetch.proofs.LeafNumbers.{leaf_is_below, split_below}
use Rattle.rb_fetch.proofs.Trees.{map_opt, literals, walk-Leaf, walk-Split, depth_under, nesting-is, nesting-arm, splits-Split, splits-arm, walk_opt, later, arms-is, Walked, walked, nested, fit-under, AllSmall, fit-split}

-- Groups ----------------------------------------------------------------------------------------

pub group-Leaf : (g : ℕ) → group_of (Leaf g) ≡ Some g
group-Leaf g = F.fold-Leaf (Option ℕ) (Option ℕ) group_step group_arm g

pub group-Split : (loc : Loc) (arms : List FlatArm) (other : Option FlatTree) → group_of (Split loc arms other) ≡ None
group-Split loc arms None = F.fold-Split (Option ℕ) (Option ℕ) group_step group_arm loc arms
group-Split loc arms (Some t) = F.fold-Split-else (Option ℕ) (Option ℕ) group_step group_arm loc arms t

abbrev StandsAlone : FlatTree → Type 0
StandsAlone t = (g : ℕ) → group_of t ≡ Some g → t ≡ Leaf g

alone : (t : FlatTree) → StandsAlone t
alone = tree-induction StandsAlone (record {
  split = λ loc arms each g e. absurd (let z = sym (group-Split loc arms None) ∙ e in cc);
  split_else = λ loc arms other each below g e. absurd (let z = sym (group-Split loc arms (Some other)) ∙ e in cc);
  leaf = λ n g e. ap (λ k. Leaf k) (same_Some n g (sym (group-Leaf n) ∙ e));
})

is_group-true : (o : Option ℕ) (g : ℕ) → is_group o g ≡ true → o ≡ Some g
is_group-true None g e = absurd (false≢true e)
is_group-true (Some h) g e = let same : h ≡ g = grind (arith, nat_tests) in ap Some same

-- Children --------------------------------------------------------------------------------------

abbrev pub IsChild : FlatTree → List FlatArm → Option FlatTree → Type 0
IsChild t arms other = (p : Option ℕ) × (under_at arms other p ≡ Some t)

lead_each : (g : ℕ) (arms : List FlatArm) → lead_all g arms ≡ true → (k : ℕ) (t : FlatTree) → under_arm (slice_get arms k) ≡ Some t → group_of t ≡ Some g
lead_each g [] all k t e = absurd cc
lead_each g (a ∷ arms) all zero t e =
    let b = and_parts (is_group (group_of a.under) g) (lead_all g arms) all in
    ap group_of (sym (same_Some a.under t e)) ∙ is_group-true (group_of a.under) g b.0
lead_each g (a ∷ arms) all (suc k) t e = let b = and_parts (is_group (group_of a.under) g) (lead_all g arms) all in lead_each g arms b.1 k t e

lead_else : (g : ℕ) (other : Option FlatTree) → leads_else g other ≡ true → (t : FlatTree) → other ≡ Some t → group_of t ≡ Some g
lead_else g None all t e = absurd cc
lead_else g (Some u) all t e = ap group_of (sym (same_Some u t e)) ∙ is_group-true (group_of u) g all

agreed : (o : Option ℕ) (arms : List FlatArm) (other : Option FlatTree) (g : ℕ) → agreed_group o arms other ≡ Some g → (o ≡ Some g) × (lead_all g arms ≡ true) × (leads_else g other ≡ true)
agreed None arms other g e = absurd cc
agreed (Some h) arms other g e = go (lead_all h arms && leads_else h other) refl e
  where
    go : (u : Bool) → (lead_all h arms && leads_else h other) ≡ u → ◌≡◌ {A = Option ℕ} (if u then Some h else None) (Some g) → (Some h ≡ Some g) × (lead_all g arms ≡ true) × (leads_else g other ≡ true)
    go true all is =
        let same : h ≡ g = same_Some h g is in
        let b = and_parts (lead_all h arms) (leads_else h other) all in
        (ap Some same, ap (λ k. lead_all k arms) (sym same) ∙ b.0, ap (λ k. leads_else k other) (sym same) ∙ b.1)
    go false all is = absurd cc

-- all ways lead to the group
shared : (arms : List FlatArm) (other : Option FlatTree) (g : ℕ) → shared_group arms other ≡ Some g → (t : FlatTree) → IsChild t arms other → t ≡ Leaf g
shared [] other g e t child = absurd cc
shared (a ∷ arms) other g e t (None, at) = let h = agreed (group_of a.under) arms other g e in alone t g (lead_else g other h.2 t at)
shared (a ∷ arms) other g e t (Some zero, at) = let h = agreed (group_of a.under) arms other g e in alone t g (ap group_of (sym (same_Some a.under t at)) ∙ h.0)
shared (a ∷ arms) other g e t (Some (suc k), at) = let h = agreed (group_of a.under) arms other g e in alone t g (lead_each g arms h.1 k t at)

-- where all lead to a group there is a child
has_child : (arms : List FlatArm) (other : Option FlatTree) (g : ℕ) → shared_group arms other ≡ Some g → (t : FlatTree) × IsChild t arms other
has_child [] other g e = absurd cc
has_child (a ∷ arms) other g e = (a.under, (Some 0, refl))

-- What is left of a split is nothing where it has no child, its one child, or a split with its children.
module _ (P : Option FlatTree → Type 0) (loc : Loc) (arms : List FlatArm) (other : Option FlatTree) where
  abbrev Alone : FlatTree → Type 0
  Alone t = (u : FlatTree) → IsChild u arms other → u ≡ t

  pub joined_cases : (((t : FlatTree) → IsChild t arms other → ⊥) → P None) → ((t : FlatTree) → IsChild t arms other → Alone t → P (Some t)) → P (Some (Split loc arms other)) → P (joined_split loc arms other)
  joined_cases none one split = go (shared_group arms other) refl
    where
      kept : (xs : List FlatArm) (o : Option FlatTree) → xs ≡ arms → o ≡ other → P (pruned_split loc xs o)
      kept [] None is at = none (λ t child. absent t (subst (λ ys. IsChild t ys None) (sym is) (subst (λ p. IsChild t arms p) (sym at) child)))
        where
          absent : (t : FlatTree) → IsChild t [] None → ⊥
          absent t (None, e) = absurd cc
          absent t (Some k, e) = absurd cc
      kept (a ∷ []) None is at =
          one a.under (subst (λ ys. IsChild a.under ys other) is (subst (λ p. IsChild a.under (a ∷ []) p) at (Some 0, refl)))
          (λ u child. first u (subst (λ ys. IsChild u ys None) (sym is) (subst (λ p. IsChild u arms p) (sym at) child)))
        where
          first : (u : FlatTree) → IsChild u (a ∷ []) None → u ≡ a.under
          first u (None, e) = absurd cc
          first u (Some zero, e) = sym (same_Some a.under u e)
          first u (Some (suc k), e) = absurd cc
      kept (a ∷ b ∷ xs) None is at = subst (λ ys. P (Some (Split loc ys None))) (sym is) (subst (λ p. P (Some (Split loc arms p))) (sym at) split)
      kept [] (Some t) is at =
          one t (subst (λ ys. IsChild t ys other) is (subst (λ p. IsChild t [] p) at (None, refl)))
          (λ u child. first u (subst (λ ys. IsChild u ys (Some t)) (sym is) (subst (λ p. IsChild u arms p) (sym at) child)))
        where
          first : (u : FlatTree) → IsChild u [] (Some t) → u ≡ t
          first u (None, e) = sym (same_Some t u e)
          first u (Some k, e) = absurd cc
      kept (a ∷ xs) (Some t) is at = subst (λ ys. P (Some (Split loc ys (Some t)))) (sym is) (subst (λ p. P (Some (Split loc arms p))) (sym at) split)

      go : (o : Option ℕ) → shared_group arms other ≡ o → P (joined_or_pruned o loc arms other)
      go None e = kept arms other refl refl
      go (Some g) e =
          let c = has_child arms other g e in
          let is : c.0 ≡ Leaf g = shared arms other g e c.0 c.1 in
          subst (λ (t : FlatTree). P (Some t)) is (one c.0 c.1 (λ u child. shared arms other g e u child ∙ sym is))

-- Folds of pruned trees -------------------------------------------------------------------------

module _ (groups : List (Option ℕ)) where
  abbrev pub pruned_else : Option FlatTree → Option FlatTree
  pruned_else None = None
  pruned_else (Some t) = pruned_of groups t

  abbrev pub live : List FlatArm → List FlatArm
  live arms = live_arms (map (pruned_under groups) arms)

  pub pruned-Leaf : (n : ℕ) → pruned_of groups (Leaf n) ≡ leaf_for (group_at groups n)
  pruned-Leaf n = F.fold-Leaf (Option FlatTree) (Under (Option FlatTree)) (prune_step groups) prune_arm n

  pub pruned-Split : (loc : Loc) (arms : List FlatArm) (other : Option FlatTree) → pruned_of groups (Split loc arms other) ≡ joined_split loc (live arms) (pruned_else other)
  pruned-Split loc arms None = F.fold-Split (Option FlatTree) (Under (Option FlatTree)) (prune_step groups) prune_arm loc arms
  pruned-Split loc arms (Some t) = F.fold-Split-else (Option FlatTree) (Under (Option FlatTree)) (prune_step groups) prune_arm loc arms t

  pub pruned-arm : (a : FlatArm) → pruned_under groups a ≡ record { literal = a.literal; of = pruned_of groups a.under }
  pruned-arm a = fold_out-FlatArm (Option FlatTree) (Under (Option FlatTree)) (prune_step groups) prune_arm a

  -- arm by arm
  pub live-arm : (a : FlatArm) (arms : List FlatArm) → live (a ∷ arms) ≡ keep_arm a.literal (pruned_of groups a.under) (live arms)
  live-arm a arms = ap (λ (u : Under (Option FlatTree)). keep_arm u.literal u.of (live arms)) (pruned-arm a)

  -- the child to which a number leads
  live_pick : (arms : List FlatArm) (other : Option FlatTree) (x : ℕ) (t t' : FlatTree) → under_at arms other (pick (literals arms) x) ≡ Some t → pruned_of groups t ≡ Some t'
      → under_at (live arms) (pruned_else other) (pick (literals (live arms)) x) ≡ Some t'
  live_pick [] other x t t' e is = ap pruned_else e ∙ is
  live_pick (a ∷ arms) other x t t' e is =
      subst (λ xs. under_at xs (pruned_else other) (pick (literals xs) x) ≡ Some t') (sym (live-arm a arms))
      (go (λ h. live_pick arms other x t t' h is) (pruned_of groups a.under) refl)
    where
      none : (under_at arms other (pick (literals arms) x) ≡ Some t → under_at (live arms) (pruned_else other) (pick (literals (live arms)) x) ≡ Some t') → pruned_of groups a.under ≡ None → (u : Bool) → under_at (a ∷ arms) other (if u then Some 0 else next_arm (pick (literals arms) x)) ≡ Some t
          → under_at (live arms) (pruned_else other) (pick (literals (live arms)) x) ≡ Some t'
      none rest at true h = absurd (let z = sym at ∙ ap (pruned_of groups) (same_Some a.under t h) ∙ is in cc)
      none rest at false h = rest (sym (later a arms other (pick (literals arms) x)) ∙ h)

      some : (under_at arms other (pick (literals arms) x) ≡ Some t → under_at (live arms) (pruned_else other) (pick (literals (live arms)) x) ≡ Some t') → (t0 : FlatTree) → pruned_of groups a.under ≡ Some t0 → (u : Bool) → under_at (a ∷ arms) other (if u then Some 0 else next_arm (pick (literals arms) x)) ≡ Some t
          → let b : FlatArm = record { literal = a.literal; under = t0 } in under_at (b ∷ live arms) (pruned_else other) (if u then Some 0 else next_arm (pick (literals (live arms)) x)) ≡ Some t'
      some rest t0 at true h = sym at ∙ ap (pruned_of groups) (same_Some a.under t h) ∙ is
      some rest t0 at false h =
          let b : FlatArm = record { literal = a.literal; under = t0 } in
          later b (live arms) (pruned_else other) (pick (literals (live arms)) x) ∙ rest (sym (later a arms other (pick (literals arms) x)) ∙ h)

      go : (under_at arms other (pick (literals arms) x) ≡ Some t → under_at (live arms) (pruned_else other) (pick (literals (live arms)) x) ≡ Some t') → (o : Option FlatTree) → pruned_of groups a.under ≡ o → let xs = keep_arm a.literal o (live arms) in under_at xs (pruned_else other) (pick (literals xs) x) ≡ Some t'
      go rest None at = none rest at (nat_eq a.literal x) e
      go rest (Some t0) at = some rest t0 at (nat_eq a.literal x) e

  -- each child is what is left of one
  live_arm : (arms : List FlatArm) (k : ℕ) (t' : FlatTree) → under_arm (slice_get (live arms) k) ≡ Some t' → (j : ℕ) × (t : FlatTree) × (under_arm (slice_get arms j) ≡ Some t) × (pruned_of groups t ≡ Some t')
  live_arm [] k t' e = absurd cc
  live_arm (a ∷ arms) k t' e = go (λ j h. live_arm arms j t' h) (pruned_of groups a.under) refl k (ap (λ xs. under_arm (slice_get xs k)) (sym (live-arm a arms)) ∙ e)
    where
      more : (j : ℕ) × (t : FlatTree) × (under_arm (slice_get arms j) ≡ Some t) × (pruned_of groups t ≡ Some t') → (j : ℕ) × (t : FlatTree) × (under_arm (slice_get (a ∷ arms) j) ≡ Some t) × (pruned_of groups t ≡ Some t')
      more r = (suc r.0, r.1, r.2, r.3)

      go : ((k : ℕ) → under_arm (slice_get (live arms) k) ≡ Some t' → (j : ℕ) × (t : FlatTree) × (under_arm (slice_get arms j) ≡ Some t) × (pruned_of groups t ≡ Some t')) → (o : Option FlatTree) → pruned_of groups a.under ≡ o
          → (k : ℕ) → under_arm (slice_get (keep_arm a.literal o (live arms)) k) ≡ Some t' → (j : ℕ) × (t : FlatTree) × (under_arm (slice_get (a ∷ arms) j) ≡ Some t) × (pruned_of groups t ≡ Some t')
      go rest None at k h = more (rest k h)
      go rest (Some u) at zero h = (0, a.under, refl, at ∙ h)
      go rest (Some u) at (suc k) h = more (rest k h)

  live_child : (arms : List FlatArm) (other : Option FlatTree) (t' : FlatTree) → IsChild t' (live arms) (pruned_else other) → (t : FlatTree) × IsChild t arms other × (pruned_of groups t ≡ Some t')
  live_child arms None t' (None, e) = absurd cc
  live_child arms (Some t) t' (None, e) = (t, (None, refl), e)
  live_child arms other t' (Some k, e) = let r = live_arm arms k t' e in (r.1, (Some r.0, r.2), r.3)

  live_small : (arms : List FlatArm) → AllSmall (literals arms) → AllSmall (literals (live arms))
  live_small [] h = tt
  live_small (a ∷ arms) h = subst (λ xs. AllSmall (literals xs)) (sym (live-arm a arms)) (go (live_small arms h.1) (pruned_of groups a.under))
    where
      go : AllSmall (literals (live arms)) → (o : Option FlatTree) → AllSmall (literals (keep_arm a.literal o (live arms)))
      go rest None = rest
      go rest (Some t) = (h.0, rest)

-- Splits from what stands below them ------------------------------------------------------------

arms_nest : (d : ℕ) (arms : List FlatArm) → ((k : ℕ) (t : FlatTree) → under_arm (slice_get arms k) ≡ Some t → nesting t ≤ d) → greatest (map depth_under arms) ≤ d
arms_nest d [] h = omega arith
arms_nest d (a ∷ arms) h = let x = h 0 a.under refl in let y = arms_nest d arms (λ k t e. h (suc k) t e) in let z = nesting-arm a in omega (arith, x, y, z)

split_nests : (d : ℕ) (loc : Loc) (arms : List FlatArm) (other : Option FlatTree) → ((t : FlatTree) → IsChild t arms other → nesting t ≤ d) → nesting (Split loc arms other) ≤ 1 + d
split_nests d loc arms None h = let x = arms_nest d arms (λ k t e. h t (Some k, e)) in let y = nesting-is loc arms None in omega (arith, x, y)
split_nests d loc arms (Some u) h = let x = arms_nest d arms (λ k t e. h t (Some k, e)) in let y = nesting-is loc arms (Some u) in let z = h u (None, refl) in omega (arith, x, y, z)

abbrev AllFit : ℕ → List SplitAt → Type 0
AllFit n ss = (k : ℕ) (s : SplitAt) → slice_get ss k ≡ Some s → SplitFits n s

both_fit : (n : ℕ) (rs ss : List SplitAt) → AllFit n rs → AllFit n ss → AllFit n (rs ++ ss)
both_fit n rs ss a b k s e = elim (get-append rs ss k s e) [ inl h ↦ a k s h | inr h ↦ b h.0 s h.1 ]

none_fit : (n : ℕ) → AllFit n []
none_fit n k s e = absurd cc

arms_fit : (n : ℕ) (arms : List FlatArm) → ((k : ℕ) (t : FlatTree) → under_arm (slice_get arms k) ≡ Some t → TreeFits n t) → AllFit n (flat_map (λ arm. arm.of) (map splits_under arms))
arms_fit n [] h = none_fit n
arms_fit n (a ∷ arms) h =
    let of = ap (λ (u : Under (List SplitAt)). u.of) (splits-arm a) in
    both_fit n (splits_under a).of (flat_map (λ (arm : Under (List SplitAt)). arm.of) (map splits_under arms)) (subst (λ ss. AllFit n ss) (sym of) (h 0 a.under refl)) (arms_fit n arms (λ k t e. h (suc k) t e))

else_fits : (n : ℕ) (other : Option FlatTree) → ((t : FlatTree) → other ≡ Some t → TreeFits n t) → AllFit n (splits_or_none (map_opt splits_of other))
else_fits n None h = none_fit n
else_fits n (Some t) h = h t refl

small_each : (arms : List FlatArm) → AllSmall (literals arms) → (k c : ℕ) → slice_get (literals_of (map splits_under arms)) k ≡ Some c → c < 2 ^ 64
small_each [] h k c e = absurd cc
small_each (a ∷ arms) h zero c e = let is : a.literal ≡ c = sym (ap (λ (u : Under (List SplitAt)). u.literal) (splits-arm a)) ∙ same_Some _ c e in subst (λ x. x < 2 ^ 64) is h.0
small_each (a ∷ arms) h (suc k) c e = small_each arms h.1 k c e

split_fits : (n : ℕ) (loc : Loc) (arms : List FlatArm) (other : Option FlatTree) → LocFits loc → loc.word < n → AllSmall (literals arms) → ((t : FlatTree) → IsChild t arms other → TreeFits n t) → TreeFits n (Split loc arms other)
split_fits n loc arms other fits word small h k s e = go k (sym (ap (λ ss. slice_get ss k) (splits-Split loc arms other)) ∙ e)
  where
    below : List SplitAt
    below = flat_map (λ (arm : Under (List SplitAt)). arm.of) (map splits_under arms) ++ splits_or_none (map_opt splits_of other)

    here : SplitAt
    here = record { loc = loc; literals = literals_of (map splits_under arms); other = is_some other }

    go : (j : ℕ) → slice_get (here ∷ below) j ≡ Some s → SplitFits n s
    go zero at = subst (λ (x : SplitAt). SplitFits n x) (same_Some here s at) (record { loc = fits; word = word; small = small_each arms small })
    go (suc j) at =
        both_fit n (flat_map (λ (arm : Under (List SplitAt)). arm.of) (map splits_under arms)) (splits_or_none (map_opt splits_of other))
        (arms_fit n arms (λ i t is. h t (Some i, is))) (else_fits n other (λ t is. h t (None, is))) j s at

-- What pruning does -----------------------------------------------------------------------------

abbrev pub FitsIn : ℕ → Option FlatTree → Type 0
FitsIn n None = Unit {0}
FitsIn n (Some t) = TreeFits n t

abbrev pub BelowIn : ℕ → Option FlatTree → Type 0
BelowIn count None = Unit {0}
BelowIn count (Some t) = LeavesBelow count t

-- what code needs beside it
pub record IsPruned (groups : List (Option ℕ)) (tree : FlatTree) (o : Option FlatTree) : Type 0 where
  pub prunes : Prunes groups tree o
  pub fits : (n : ℕ) → TreeFits n tree → FitsIn n o
  pub below : (count : ℕ) → GroupsBelow count groups → BelowIn count o

module _ (groups : List (Option ℕ)) where
  abbrev Good : FlatTree → Type 0
  Good tree = IsPruned groups tree (pruned_of groups tree)

  leaf_good : (n : ℕ) → Good (Leaf n)
  leaf_good n = subst (IsPruned groups (Leaf n)) (sym (pruned-Leaf groups n)) (go (group_at groups n) refl)
    where
      go : (o : Option ℕ) → group_at groups n ≡ o → IsPruned groups (Leaf n) (leaf_for o)
      go None e = record {
        prunes = record {
          walks = λ ws m leaf g w is. absurd (let same : n ≡ leaf = same_Some n leaf (sym (walk-Leaf n ws m) ∙ w) in let z = sym e ∙ ap (group_at groups) same ∙ is in cc);
          nests = omega arith;
        };
        fits = λ k h. tt;
        below = λ count h. tt;
      }
      go (Some h) e = record {
        prunes = record {
          walks = λ ws m leaf g w is. (let same : n ≡ leaf = same_Some n leaf (sym (walk-Leaf n ws m) ∙ w) in walk-Leaf h ws m ∙ sym e ∙ ap (group_at groups) same ∙ is);
          nests = (let a = N.nesting-Leaf h in omega (arith, a));
        };
        fits = λ k f j s at. absurd (let z = sym (ap (λ ss. slice_get ss j) (F.fold-Leaf (List SplitAt) (Under (List SplitAt)) splits_step splits_arm h)) ∙ at in cc);
        below = λ count lt. leaf_is_below count h (lt n h e);
      }

  module _ (loc : Loc) (arms : List FlatArm) (other : Option FlatTree) (each : (t : FlatTree) → IsChild t arms other → Good t) where
    abbrev Tree : FlatTree
    Tree = Split loc arms other

    abbrev lives : List FlatArm
    lives = live groups arms

    abbrev left : Option FlatTree
    left = pruned_else groups other

    -- what is left of a child is good
    child_good : (t' : FlatTree) → IsChild t' lives left → (t : FlatTree) × IsChild t arms other × IsPruned groups t (Some t')
    child_good t' child = let c = live_child groups arms other t' child in (c.0, c.1, subst (IsPruned groups c.0) c.2 (each c.0 c.1))

    split_walks : (ws : List ℕ) (m : Memory) (leaf g : ℕ) → walk Tree ws m ≡ Some leaf → group_at groups leaf ≡ Some g → walk_in (joined_split loc lives left) ws m ≡ Some g
    split_walks ws m leaf g w is =
        let wk = walked loc arms other ws m leaf w in
        let goes = (each wk.tree (pick (literals arms) wk.value, wk.is_tree)).prunes.walks ws m leaf g wk.walks is in
        go wk (pruned_of groups wk.tree) refl goes
      where
        go : (wk : Walked loc arms other ws m leaf) (o : Option FlatTree) → pruned_of groups wk.tree ≡ o → walk_in o ws m ≡ Some g → walk_in (joined_split loc lives left) ws m ≡ Some g
        go wk None at h = absurd cc
        go wk (Some t') at h =
            let picked = live_pick groups arms other wk.value wk.tree t' wk.is_tree at in
            let child : IsChild t' lives left = (pick (literals lives) wk.value, picked) in
            joined_cases (λ o. walk_in o ws m ≡ Some g) loc lives left
            (λ no. absurd (no t' child))
            (λ t c same. ap (λ (u : FlatTree). walk u ws m) (sym (same t' child)) ∙ h)
            (walk-Split loc lives left ws m ∙ ap (λ r. walk_at r (map walk_under lives) (map_opt walk left) ws m) wk.is_read ∙ arms-is lives left wk.value ws m ∙ ap (λ o. walk_opt o ws m) picked ∙ h)

    split_nested : nesting_in (joined_split loc lives left) ≤ nesting Tree
    split_nested =
        joined_cases (λ o. nesting_in o ≤ nesting Tree) loc lives left
        (λ no. omega arith)
        (λ t child same. let c = child_good t child in let a = c.2.prunes.nests in let b = nested loc arms other c.1.0 c.0 c.1.1 in omega (arith, a, b))
        (below (nesting Tree) refl)
      where
        below : (d : ℕ) → nesting Tree ≡ d → nesting (Split loc lives left) ≤ nesting Tree
        below zero e = absurd (let z = nesting-is loc arms other in omega (arith, e, z))
        below (suc d) e =
            let all = split_nests d loc lives left (λ t child. let c = child_good t child in let a = c.2.prunes.nests in let b = nested loc arms other c.1.0 c.0 c.1.1 in omega (arith, a, b, e)) in
            omega (arith, all, e)

    split_good : IsPruned groups Tree (joined_split loc lives left)
    split_good = record {
      prunes = record { walks = split_walks; nests = split_nested };
      fits = λ n f.
          joined_cases (FitsIn n) loc lives left (λ no. tt)
          (λ t child same. let c = child_good t child in c.2.fits n (fit-under n loc arms other c.1.0 c.0 c.1.1 f))
          (let s = fit-split n loc arms other f in
          split_fits n loc lives left s.0 s.1 (live_small groups arms s.2) (λ t child. let c = child_good t child in c.2.fits n (fit-under n loc arms other c.1.0 c.0 c.1.1 f)));
      below = λ count h.
          joined_cases (BelowIn count) loc lives left (λ no. tt)
          (λ t child same. let c = child_good t child in c.2.below count h)
          (split_below count loc lives left (λ p t at. let c = child_good t (p, at) in c.2.below count h));
    }

    pub good : Good Tree
    good = subst (IsPruned groups Tree) (sym (pruned-Split groups loc arms other)) split_good

  each_child : (arms : List FlatArm) (other : Option FlatTree) → Each (λ (a : FlatArm). Good a.under) arms → ((t : FlatTree) → other ≡ Some t → Good t) → (t : FlatTree) → IsChild t arms other → Good t
  each_child arms other each rest t (None, e) = rest t e
  each_child [] other each rest t (Some k, e) = absurd cc
  each_child (a ∷ arms) other each rest t (Some zero, e) = subst (λ (u : FlatTree). Good u) (same_Some a.under t e) each.0
  each_child (a ∷ arms) other each rest t (Some (suc k), e) = each_child arms other each.1 rest t (Some k, e)

  all_good : (tree : FlatTree) → Good tree
  all_good = tree-induction Good (record {
    split = λ loc arms each. good loc arms None (each_child arms None each (λ t e. absurd cc));
    split_else = λ loc arms other each below. good loc arms (Some other) (each_child arms (Some other) each (λ t e. subst (λ (u : FlatTree). Good u) (same_Some other t e) below));
    leaf = leaf_good;
  })

  pub pruned_prunes : (tree : FlatTree) → Prunes groups tree (pruned_of groups tree)
  pruned_prunes tree = (all_good tree).prunes

  pub pruned_fits : (tree t : FlatTree) → pruned_of groups tree ≡ Some t → (n : ℕ) → TreeFits n tree → TreeFits n t
  pruned_fits tree t e n f = subst (FitsIn n) e ((all_good tree).fits n f)

  pub pruned_below : (tree t : FlatTree) → pruned_of groups tree ≡ Some t → (count : ℕ) → GroupsBelow count groups → LeavesBelow count t
  pruned_below tree t e count h = subst (BelowIn count) e ((all_good tree).below count h)
