-- Leaves of flat trees have the numbers of leaves, and each split stands above some leaf.
use Rattle.std.proofs.Common.{◌≡◌, ℕ, zero, suc, ◌+◌, ◌<◌, ◌≤◌, inl, inr, length, map, List, [], ◌∷◌, ◌++◌, true, false, Some, None, refl, sym, subst, ap, ◌∙◌, arith}
use Rattle.std.specs.Prelude.{slice_get}
use Rattle.std.specs.List.{flat_map}
use Rattle.std.proofs.lemmas.List.Sums.{sum_by-cons}
use Rattle.std.proofs.lemmas.Option.{same_Some}
use Rattle.rb_core.specs.declared.pattern.Pat.{Pat}
use Rattle.rb_core.specs.declared.layout_decl.Loc.{Loc}
use Rattle.rb_core.specs.declared.layout_decl.LayItem.{LayItem}
use Rattle.rb_core.specs.declared.layout_decl.Arm.{Arm}
use Rattle.rb_core.specs.declared.layout_decl.LayTree.{LayTree, Split, Leaf}
use Rattle.rb_core.specs.declared.layout_decl.LayTree.TheFolds.{fold_out-Arm}
use Rattle.rb_core.proofs.LayoutInduction.{tree-induction}
use Rattle.rb_layout.specs.declared.layout.FlatTree.{FlatTree}
use Rattle.rb_layout.specs.declared.layout.FlatTree as X
use Rattle.rb_layout.specs.declared.layout.FlatTree.TheFolds.{fold_out-FlatArm}
use Rattle.rb_layout.specs.declared.layout.FlatArm.{FlatArm}
use Rattle.rb_layout.specs.A8.{HasArm}
use Rattle.rb_layout.specs.Flattening.{LeafNumbering, arms_count, arms_from, tree_step, arm_step, numbering, arm_numbering}
use Rattle.rb_layout.specs.Splits.{Test, Is, IsNone, Route, under_test, Under, arm_routes, literals_of, routes_step, routes_arm, routes_of, routes_under, SplitAt, splits_step, splits_arm, splits_of, splits_under}
use Rattle.rb_layout.proofs.FlatForms.{Each}
use Rattle.rb_layout.proofs.FlatForms as F
use Rattle.rb_layout.proofs.WrittenForms as D
use Rattle.rb_rel.proofs.Lists.{get-append, get-map, get-left, get-right, get-mapped}

routes-arm : (a : FlatArm) → routes_under a ≡ record { literal = a.literal; of = routes_of a.under }
routes-arm a = fold_out-FlatArm (List Route) (Under (List Route)) routes_step routes_arm a

splits-arm : (a : FlatArm) → splits_under a ≡ record { literal = a.literal; of = splits_of a.under }
splits-arm a = fold_out-FlatArm (List SplitAt) (Under (List SplitAt)) splits_step splits_arm a

-- Numbers of leaves

-- each route leads to a leaf from lo up to hi
abbrev Within : List Route → ℕ → ℕ → Type 0
Within rs lo hi = (k : ℕ) (r : Route) → slice_get rs k ≡ Some r → (lo ≤ r.leaf) × (r.leaf < hi)

within-append : (rs ss : List Route) (lo hi : ℕ) → Within rs lo hi → Within ss lo hi → Within (rs ++ ss) lo hi
within-append rs ss lo hi f g k r e = elim (get-append rs ss k r e) [ inl h ↦ f k r h | inr h ↦ g h.0 r h.1 ]

within-behind : (t : Test) (rs : List Route) (lo hi : ℕ) → Within rs lo hi → Within (map (under_test t) rs) lo hi
within-behind t rs lo hi f k r e =
    let g = get-map (under_test t) rs k r e in
    let h = f k g.0 g.1 in
    let same : r.leaf ≡ g.0.leaf = ap (λ (q : Route). q.leaf) g.2 in
    (omega (arith, h.0, same), omega (arith, h.1, same))

within-more : (rs : List Route) (lo hi lo1 hi1 : ℕ) → lo1 ≤ lo → hi ≤ hi1 → Within rs lo hi → Within rs lo1 hi1
within-more rs lo hi lo1 hi1 a b f k r e = let h = f k r e in (omega (arith, a, h.0), omega (arith, b, h.1))

abbrev Counted : LayTree → Type 0
Counted tree = (n : ℕ) → Within (routes_of ((numbering tree).from n)) n (n + (numbering tree).count)

numbered-arm : (a : Arm) → arm_numbering a ≡ record { literal = a.literal; of = numbering a.under }
numbered-arm a = fold_out-Arm LeafNumbering (Under LeafNumbering) tree_step arm_step a

abbrev arms_routes : Loc → List FlatArm → List Route
arms_routes loc arms = flat_map (arm_routes loc) (map routes_under arms)

arms_within : (loc : Loc) (arms : List Arm) → Each (λ (a : Arm). Counted a.under) arms → (n : ℕ)
    → Within (arms_routes loc (arms_from (map arm_numbering arms) n)) n (n + arms_count (map arm_numbering arms))
arms_within loc [] each n = λ k r e. absurd cc
arms_within loc (a ∷ arms) each n =
    let u = arm_numbering a in
    let us = map arm_numbering arms in
    let x : FlatArm = record { literal = u.literal; under = u.of.from n } in
    let more : arms_count (u ∷ us) ≡ u.of.count + arms_count us = sum_by-cons (λ (arm : Under LeafNumbering). arm.of.count) u us in
    let e : (routes_under x).of ≡ routes_of ((numbering a.under).from n) = ap (λ (q : Under (List Route)). q.of) (routes-arm x) ∙ ap (λ (q : Under LeafNumbering). routes_of (q.of.from n)) (numbered-arm a) in
    let c : (numbering a.under).count ≡ u.of.count = ap (λ (q : Under LeafNumbering). q.of.count) (sym (numbered-arm a)) in
    let h : Within (routes_under x).of n (n + u.of.count) = subst (λ rs. Within rs n (n + u.of.count)) (sym e) (subst (λ i. Within (routes_of ((numbering a.under).from n)) n (n + i)) c (each.0 n)) in
    let rest = arms_within loc arms each.1 (n + u.of.count) in
    within-append (arm_routes loc (routes_under x)) (arms_routes loc (arms_from us (n + u.of.count))) n (n + arms_count (u ∷ us))
    (within-more (arm_routes loc (routes_under x)) n (n + u.of.count) n (n + arms_count (u ∷ us)) (omega arith) (omega (arith, more)) (within-behind (Is loc (routes_under x).literal) (routes_under x).of n (n + u.of.count) h))
    (within-more (arms_routes loc (arms_from us (n + u.of.count))) (n + u.of.count) (n + u.of.count + arms_count us) n (n + arms_count (u ∷ us)) (omega arith) (omega (arith, more)) rest)

leaf_counted : (at : ℕ) (prov : Pat) (items : List LayItem) → Counted (Leaf at prov items)
leaf_counted at prov items n =
    let e = D.fold-Leaf LeafNumbering (Under LeafNumbering) tree_step arm_step at prov items in
    let r : routes_of ((numbering (Leaf at prov items)).from n) ≡ record { leaf = n; tests = [] } ∷ [] = ap (λ (q : LeafNumbering). routes_of (q.from n)) e ∙ F.fold-Leaf (List Route) (Under (List Route)) routes_step routes_arm n in
    let c : 1 ≡ (numbering (Leaf at prov items)).count = ap (λ (q : LeafNumbering). q.count) (sym e) in
    subst (λ i. Within (routes_of ((numbering (Leaf at prov items)).from n)) n (n + i)) c (subst (λ rs. Within rs n (n + 1)) (sym r) one)
  where
    one : Within (record { leaf = n; tests = [] } ∷ []) n (n + 1)
    one zero q h = let same : n ≡ q.leaf = ap (λ (z : Route). z.leaf) (same_Some (record { leaf = n; tests = [] }) q h) in (omega (arith, same), omega (arith, same))
    one (suc k) q h = absurd cc

split_counted : (loc : Loc) (arms : List Arm) → Each (λ (a : Arm). Counted a.under) arms → Counted (Split loc arms None)
split_counted loc arms each n =
    let e = D.fold-Split LeafNumbering (Under LeafNumbering) tree_step arm_step loc arms in
    let us = map arm_numbering arms in
    let fs = arms_from us n in
    let r : routes_of ((numbering (Split loc arms None)).from n) ≡ arms_routes loc fs ++ [] = ap (λ (q : LeafNumbering). routes_of (q.from n)) e ∙ F.fold-Split (List Route) (Under (List Route)) routes_step routes_arm loc fs in
    let c : arms_count us + 0 ≡ (numbering (Split loc arms None)).count = ap (λ (q : LeafNumbering). q.count) (sym e) in
    subst (λ i. Within (routes_of ((numbering (Split loc arms None)).from n)) n (n + i)) c (subst (λ rs. Within rs n (n + (arms_count us + 0))) (sym r)
    (within-append (arms_routes loc fs) [] n (n + (arms_count us + 0)) (within-more (arms_routes loc fs) n (n + arms_count us) n (n + (arms_count us + 0)) (omega arith) (omega arith) (arms_within loc arms each n)) (λ k q h. absurd cc)))

else_counted : (loc : Loc) (arms : List Arm) (other : LayTree) → Each (λ (a : Arm). Counted a.under) arms → Counted other → Counted (Split loc arms (Some other))
else_counted loc arms other each o n =
    let e = D.fold-Split-else LeafNumbering (Under LeafNumbering) tree_step arm_step loc arms other in
    let us = map arm_numbering arms in
    let fs = arms_from us n in
    let m = n + arms_count us in
    let below = (numbering other).from m in
    let t = IsNone loc (literals_of (map routes_under fs)) in
    let total = arms_count us + (numbering other).count in
    let r : routes_of ((numbering (Split loc arms (Some other))).from n) ≡ arms_routes loc fs ++ map (under_test t) (routes_of below)
    = ap (λ (q : LeafNumbering). routes_of (q.from n)) e ∙ F.fold-Split-else (List Route) (Under (List Route)) routes_step routes_arm loc fs below in
    let c : total ≡ (numbering (Split loc arms (Some other))).count = ap (λ (q : LeafNumbering). q.count) (sym e) in
    subst (λ i. Within (routes_of ((numbering (Split loc arms (Some other))).from n)) n (n + i)) c (subst (λ rs. Within rs n (n + total)) (sym r)
    (within-append (arms_routes loc fs) (map (under_test t) (routes_of below)) n (n + total)
    (within-more (arms_routes loc fs) n (n + arms_count us) n (n + total) (omega arith) (omega arith) (arms_within loc arms each n))
    (within-more (map (under_test t) (routes_of below)) m (m + (numbering other).count) n (n + total) (omega arith) (omega arith) (within-behind t (routes_of below) m (m + (numbering other).count) (o m)))))

-- leaves are numbered from n on, as many as there are
pub counted : (tree : LayTree) → Counted tree
counted = tree-induction Counted (record { split = split_counted; split_else = else_counted; leaf = leaf_counted })

-- Splits above leaves

abbrev pub loc_of : Test → Loc
loc_of (Is loc c) = loc
loc_of (IsNone loc cs) = loc

-- a route by a test at this location
pub record Tested (rs : List Route) (loc : Loc) : Type 0 where
  pub number : ℕ
  pub route : Route
  pub is_route : slice_get rs number ≡ Some route
  pub at : ℕ
  pub test : Test
  pub is_test : slice_get route.tests at ≡ Some test
  pub is_loc : loc_of test ≡ loc

tested-left : (rs ss : List Route) (loc : Loc) → Tested rs loc → Tested (rs ++ ss) loc
tested-left rs ss loc t = record { number = t.number; route = t.route; is_route = get-left rs ss t.number t.route t.is_route; at = t.at; test = t.test; is_test = t.is_test; is_loc = t.is_loc }

tested-right : (rs ss : List Route) (loc : Loc) → Tested ss loc → Tested (rs ++ ss) loc
tested-right rs ss loc t = let g = get-right rs ss t.number t.route t.is_route in record { number = g.0; route = t.route; is_route = g.1; at = t.at; test = t.test; is_test = t.is_test; is_loc = t.is_loc }

tested-behind : (u : Test) (rs : List Route) (loc : Loc) → Tested rs loc → Tested (map (under_test u) rs) loc
tested-behind u rs loc t = record {
  number = t.number;
  route = under_test u t.route;
  is_route = get-mapped (under_test u) rs t.number t.route t.is_route;
  at = suc t.at;
  test = t.test;
  is_test = t.is_test;
  is_loc = t.is_loc;
}

abbrev IsSome : List Route → Type 0
IsSome rs = (k : ℕ) × (r : Route) × (slice_get rs k ≡ Some r)

tested-first : (u : Test) (rs : List Route) → IsSome rs → Tested (map (under_test u) rs) (loc_of u)
tested-first u rs h = record { number = h.0; route = under_test u h.1; is_route = get-mapped (under_test u) rs h.0 h.1 h.2; at = 0; test = u; is_test = refl; is_loc = refl }

abbrev AllArmed : List SplitAt → Type 0
AllArmed ss = (k : ℕ) (s : SplitAt) → slice_get ss k ≡ Some s → HasArm s

abbrev AllTested : List SplitAt → List Route → Type 0
AllTested ss rs = (k : ℕ) (s : SplitAt) → slice_get ss k ≡ Some s → Tested rs s.loc

abbrev Stands : FlatTree → Type 0
Stands tree = AllArmed (splits_of tree) → IsSome (routes_of tree) × AllTested (splits_of tree) (routes_of tree)

abbrev below_arms : List FlatArm → List SplitAt
below_arms arms = flat_map (λ arm. arm.of) (map splits_under arms)

module _ (loc : Loc) where
  abbrev the_routes : List FlatArm → List Route
  the_routes arms = flat_map (arm_routes loc) (map routes_under arms)

  arm_stands : (a : FlatArm) → Stands a.under → AllArmed (splits_under a).of → IsSome (routes_under a).of × AllTested (splits_under a).of (routes_under a).of
  arm_stands a h armed =
      let er : (routes_under a).of ≡ routes_of a.under = ap (λ (q : Under (List Route)). q.of) (routes-arm a) in
      let es : (splits_under a).of ≡ splits_of a.under = ap (λ (q : Under (List SplitAt)). q.of) (splits-arm a) in
      let g = h (subst AllArmed es armed) in (
        subst IsSome (sym er) g.0,
        subst (λ rs. AllTested (splits_under a).of rs) (sym er) (subst (λ ss. AllTested ss (routes_of a.under)) (sym es) g.1),
      )

  first_armed : (a : FlatArm) (arms : List FlatArm) → AllArmed (below_arms (a ∷ arms)) → AllArmed (splits_under a).of
  first_armed a arms armed k s e = armed k s (get-left (splits_under a).of (below_arms arms) k s e)

  rest_armed : (a : FlatArm) (arms : List FlatArm) → AllArmed (below_arms (a ∷ arms)) → AllArmed (below_arms arms)
  rest_armed a arms armed k s e = let r = get-right (splits_under a).of (below_arms arms) k s e in armed r.0 s r.1

  arms_first : (arms : List FlatArm) → Each (λ (a : FlatArm). Stands a.under) arms → AllArmed (below_arms arms) → 0 < length (literals_of (map splits_under arms)) → Tested (the_routes arms) loc
  arms_first [] each armed some = absurd (omega (arith, some))
  arms_first (a ∷ arms) each armed some =
      tested-left (arm_routes loc (routes_under a)) (the_routes arms) loc
      (tested-first (Is loc (routes_under a).literal) (routes_under a).of (arm_stands a each.0 (first_armed a arms armed)).0)

  arms_tested : (arms : List FlatArm) → Each (λ (a : FlatArm). Stands a.under) arms → AllArmed (below_arms arms) → AllTested (below_arms arms) (the_routes arms)
  arms_tested [] each armed k s e = absurd cc
  arms_tested (a ∷ arms) each armed k s e =
      elim (get-append (splits_under a).of (below_arms arms) k s e) [
        | inl h ↦ tested-left (arm_routes loc (routes_under a)) (the_routes arms) s.loc
            (tested-behind (Is loc (routes_under a).literal) (routes_under a).of s.loc ((arm_stands a each.0 (first_armed a arms armed)).1 k s h))
        | inr h ↦ tested-right (arm_routes loc (routes_under a)) (the_routes arms) s.loc (arms_tested arms each.1 (rest_armed a arms armed) h.0 s h.1)
      ]

  -- a split whose splits below are tested is tested itself
  all_tested : (s0 : SplitAt) (below : List SplitAt) (rs : List Route) → s0.loc ≡ loc → Tested rs loc → AllTested below rs → IsSome rs × AllTested (s0 ∷ below) rs
  all_tested s0 below rs is first rest = ((first.number, first.route, first.is_route), at)
    where
      at : AllTested (s0 ∷ below) rs
      at zero s e = subst (λ l. Tested rs l) (sym is ∙ ap (λ (q : SplitAt). q.loc) (same_Some s0 s e)) first
      at (suc k) s e = rest k s e

  split_stands : (arms : List FlatArm) → Each (λ (a : FlatArm). Stands a.under) arms → Stands (X.Split loc arms None)
  split_stands arms each armed =
      let er = F.fold-Split (List Route) (Under (List Route)) routes_step routes_arm loc arms in
      let es = F.fold-Split (List SplitAt) (Under (List SplitAt)) splits_step splits_arm loc arms in
      let s0 : SplitAt = record { loc = loc; literals = literals_of (map splits_under arms); other = false } in
      let below = below_arms arms ++ [] in
      let armed1 : AllArmed (s0 ∷ below) = subst AllArmed es armed in
      let armed2 : AllArmed (below_arms arms) = (λ k s e. armed1 (suc k) s (get-left (below_arms arms) [] k s e)) in
      let some : 0 < length s0.literals = elim (armed1 0 s0 refl) [ inl h ↦ h | inr h ↦ absurd cc ] in
      let rs = the_routes arms ++ [] in
      let first = tested-left (the_routes arms) [] loc (arms_first arms each armed2 some) in
      let rest : AllTested below rs = (λ k s e. elim (get-append (below_arms arms) [] k s e) [ inl h ↦ tested-left (the_routes arms) [] s.loc (arms_tested arms each armed2 k s h) | inr h ↦ absurd cc ]) in
      let g = all_tested s0 below rs refl first rest in
      (subst IsSome (sym er) g.0, subst (λ q. AllTested (splits_of (X.Split loc arms None)) q) (sym er) (subst (λ ss. AllTested ss rs) (sym es) g.1))

  else_stands : (arms : List FlatArm) (other : FlatTree) → Each (λ (a : FlatArm). Stands a.under) arms → Stands other → Stands (X.Split loc arms (Some other))
  else_stands arms other each o armed =
      let er = F.fold-Split-else (List Route) (Under (List Route)) routes_step routes_arm loc arms other in
      let es = F.fold-Split-else (List SplitAt) (Under (List SplitAt)) splits_step splits_arm loc arms other in
      let s0 : SplitAt = record { loc = loc; literals = literals_of (map splits_under arms); other = true } in
      let below = below_arms arms ++ splits_of other in
      let armed1 : AllArmed (s0 ∷ below) = subst AllArmed es armed in
      let armed2 : AllArmed (below_arms arms) = (λ k s e. armed1 (suc k) s (get-left (below_arms arms) (splits_of other) k s e)) in
      let armed3 : AllArmed (splits_of other) = (λ k s e. let q = get-right (below_arms arms) (splits_of other) k s e in armed1 (suc q.0) s q.1) in
      let u = IsNone loc (literals_of (map routes_under arms)) in
      let ot = o armed3 in
      let es1 = map (under_test u) (routes_of other) in
      let rs = the_routes arms ++ es1 in
      let first = tested-right (the_routes arms) es1 loc (tested-first u (routes_of other) ot.0) in
      let rest : AllTested below rs = (λ k s e. elim (get-append (below_arms arms) (splits_of other) k s e) [
        | inl h ↦ tested-left (the_routes arms) es1 s.loc (arms_tested arms each armed2 k s h)
        | inr h ↦ tested-right (the_routes arms) es1 s.loc (tested-behind u (routes_of other) s.loc (ot.1 h.0 s h.1))
      ]) in
      let g = all_tested s0 below rs refl first rest in
      (subst IsSome (sym er) g.0, subst (λ q. AllTested (splits_of (X.Split loc arms (Some other))) q) (sym er) (subst (λ ss. AllTested ss rs) (sym es) g.1))

leaf_stands : (n : ℕ) → Stands (X.Leaf n)
leaf_stands n armed =
    let er = F.fold-Leaf (List Route) (Under (List Route)) routes_step routes_arm n in
    let es = F.fold-Leaf (List SplitAt) (Under (List SplitAt)) splits_step splits_arm n in
    (subst IsSome (sym er) (0, record { leaf = n; tests = [] }, refl), λ k s e. absurd (let z = ap (λ ss. slice_get ss k) (sym es) ∙ e in cc))

-- each split of a tree in which none is empty stands above some leaf
pub stands : (tree : FlatTree) → AllArmed (splits_of tree) → AllTested (splits_of tree) (routes_of tree)
stands tree armed = (F.tree-induction Stands (record { split = split_stands; split_else = else_stands; leaf = leaf_stands }) tree armed).1
