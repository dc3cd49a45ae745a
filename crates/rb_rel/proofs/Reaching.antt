-- Each leaf of a layout stands below its tree of splits.
use Rattle.std.proofs.Common.{◌≡◌, ℕ, ◌+◌, ◌-◌, ◌<◌, inl, inr, length, map, List, [], ◌∷◌, ◌++◌, Some, None, refl, sym, subst, ap, ◌∙◌, arith}
use Rattle.std.specs.Prelude.{slice_get}
use Rattle.std.specs.List.{flat_map}
use Rattle.std.proofs.lemmas.Bool.{cases_lt}
use Rattle.std.proofs.lemmas.List.{length-append}
use Rattle.std.proofs.lemmas.List.Sums.{sum_by-cons}
use Rattle.rb_core.specs.declared.pattern.Pat.{Pat}
use Rattle.rb_core.specs.declared.layout_decl.Loc.{Loc}
use Rattle.rb_core.specs.declared.layout_decl.LayItem.{LayItem}
use Rattle.rb_core.specs.declared.layout_decl.Arm.{Arm, Arm-F}
use Rattle.rb_core.specs.declared.layout_decl.LayTree.{LayTree, Split, Leaf}
use Rattle.rb_core.specs.declared.layout_decl.LayTree.TheFolds.{fold-Arm, fold-LayTree, fold-roll-Arm}
use Rattle.rb_core.specs.declared.layout_decl.LayTree.TheOpen.{LayTree-F}
use Rattle.rb_core.specs.Layouts.{WrittenLeaf, leaves_step, arm_leaves, leaves, leaves_under}
use Rattle.rb_core.proofs.LayoutInduction.{tree-induction}
use Rattle.rb_layout.specs.declared.layout.FlatTree.TheFolds.{fold-roll-FlatArm}
use Rattle.rb_layout.specs.declared.layout.FlatArm.{FlatArm}
use Rattle.rb_layout.specs.Splits.{Test, Is, IsNone, Route, under_test, Under, arm_routes, else_routes, literals_of, routes_step, routes_arm, routes_of, routes_under}
use Rattle.rb_layout.specs.Flattening.{LeafNumbering, arms_count, arms_from, tree_step, arm_step, numbering, flat_tree}
use Rattle.rb_layout.proofs.FlatForms.{Each}
use Rattle.rb_layout.proofs.FlatForms as F
use Rattle.rb_layout.proofs.WrittenForms as D
use Rattle.rb_rel.proofs.Lists.{get-left, get-right, get-mapped}

-- what a fold makes of an arm
arm_fold : (A B : Type 0) (step : LayTree-F A B → A) (under : Arm-F A B → B) (a : Arm) → fold-Arm A B step under a ≡ under (record { literal = a.literal; under = fold-LayTree A B step under a.under })
unfolding denote.Hole.Carrier.roll
arm_fold A B step under a = fold-roll-Arm A B step under (record { literal = a.literal; under = a.under })

flat_arm_fold : (a : FlatArm) → routes_under a ≡ record { literal = a.literal; of = routes_of a.under }
unfolding denote.Hole.Carrier.roll
flat_arm_fold a = fold-roll-FlatArm (List Route) (Under (List Route)) routes_step routes_arm (record { literal = a.literal; under = a.under })

abbrev under_number : Arm → Under LeafNumbering
under_number = fold-Arm LeafNumbering (Under LeafNumbering) tree_step arm_step

-- a route to a leaf
abbrev IsReached : List Route → ℕ → Type 0
IsReached rs n = (k : ℕ) × (r : Route) × (slice_get rs k ≡ Some r) × (r.leaf ≡ n)

reached-left : (rs ss : List Route) (n : ℕ) → IsReached rs n → IsReached (rs ++ ss) n
reached-left rs ss n h = (h.0, h.1, get-left rs ss h.0 h.1 h.2, h.3)

reached-right : (rs ss : List Route) (n : ℕ) → IsReached ss n → IsReached (rs ++ ss) n
reached-right rs ss n h = let g = get-right rs ss h.0 h.1 h.2 in (g.0, h.1, g.1, h.3)

reached-behind : (t : Test) (rs : List Route) (n : ℕ) → IsReached rs n → IsReached (map (under_test t) rs) n
reached-behind t rs n h = (h.0, under_test t h.1, get-mapped (under_test t) rs h.0 h.1 h.2, h.3)

-- as many leaves as are counted, and each is reached
pub record Counts (tree : LayTree) : Type 0 where
  pub count : (numbering tree).count ≡ length (leaves tree)
  pub reached : (n k : ℕ) → k < (numbering tree).count → IsReached (routes_of ((numbering tree).from n)) (n + k)

abbrev arm_numbers : List Arm → List (Under LeafNumbering)
arm_numbers = map under_number

abbrev arms_leaves : List Arm → List WrittenLeaf
arms_leaves arms = flat_map (λ ls. ls) (map leaves_under arms)

under_is : (a : Arm) → under_number a ≡ record { literal = a.literal; of = numbering a.under }
under_is a = arm_fold LeafNumbering (Under LeafNumbering) tree_step arm_step a

leaves_is : (a : Arm) → leaves_under a ≡ leaves a.under
leaves_is a = arm_fold (List WrittenLeaf) (List WrittenLeaf) leaves_step arm_leaves a

arms_more : (u : Under LeafNumbering) (us : List (Under LeafNumbering)) → arms_count (u ∷ us) ≡ u.of.count + arms_count us
arms_more u us = sum_by-cons (λ (arm : Under LeafNumbering). arm.of.count) u us

arms_counted : (arms : List Arm) → Each (λ (a : Arm). Counts a.under) arms → arms_count (arm_numbers arms) ≡ length (arms_leaves arms)
arms_counted [] each = refl
arms_counted (a ∷ arms) each =
    let here : (under_number a).of.count ≡ length (leaves_under a) = ap (λ (u : Under LeafNumbering). u.of.count) (under_is a) ∙ each.0.count ∙ ap length (sym (leaves_is a)) in
    let rest = arms_counted arms each.1 in
    arms_more (under_number a) (arm_numbers arms) ∙ ap (λ x. x + arms_count (arm_numbers arms)) here ∙ ap (λ x. length (leaves_under a) + x) rest ∙ sym (length-append (leaves_under a) (arms_leaves arms))

abbrev arms_routes : Loc → List Arm → ℕ → List Route
arms_routes loc arms n = flat_map (arm_routes loc) (map routes_under (arms_from (arm_numbers arms) n))

arm_reached : (loc : Loc) (a : Arm) → Counts a.under → (n k : ℕ) → k < (under_number a).of.count
    → IsReached (arm_routes loc (routes_under (record { literal = (under_number a).literal; under = (under_number a).of.from n }))) (n + k)
arm_reached loc a c n k lt =
    let x : FlatArm = record { literal = (under_number a).literal; under = (under_number a).of.from n } in
    let e : (routes_under x).of ≡ routes_of ((numbering a.under).from n) = ap (λ (u : Under (List Route)). u.of) (flat_arm_fold x) ∙ ap (λ (u : Under LeafNumbering). routes_of (u.of.from n)) (under_is a) in
    let r = c.reached n k (subst (λ (u : Under LeafNumbering). k < u.of.count) (under_is a) lt) in
    reached-behind (Is loc (routes_under x).literal) (routes_under x).of (n + k) (subst (λ rs. IsReached rs (n + k)) (sym e) r)

arms_reached : (loc : Loc) (arms : List Arm) → Each (λ (a : Arm). Counts a.under) arms → (n k : ℕ) → k < arms_count (arm_numbers arms) → IsReached (arms_routes loc arms n) (n + k)
arms_reached loc [] each n k lt = absurd (omega (arith, lt))
arms_reached loc (a ∷ arms) each n k lt =
    let u = under_number a in
    let x : FlatArm = record { literal = u.literal; under = u.of.from n } in
    let more = arms_more u (arm_numbers arms) in
    elim (cases_lt k u.of.count) [
      | inl low ↦ reached-left (arm_routes loc (routes_under x)) (arms_routes loc arms (n + u.of.count)) (n + k) (arm_reached loc a each.0 n k low)
      | inr high ↦
          let r = arms_reached loc arms each.1 (n + u.of.count) (k - u.of.count) (omega (arith, lt, more, high)) in
          let e : n + u.of.count + (k - u.of.count) ≡ n + k = omega (arith, high) in
          reached-right (arm_routes loc (routes_under x)) (arms_routes loc arms (n + u.of.count)) (n + k) (subst (λ i. IsReached (arms_routes loc arms (n + u.of.count)) i) e r)
    ]

leaf_counts : (at : ℕ) (prov : Pat) (items : List LayItem) → Counts (Leaf at prov items)
leaf_counts at prov items =
    let e = D.fold-Leaf LeafNumbering (Under LeafNumbering) tree_step arm_step at prov items in
    let l = D.fold-Leaf (List WrittenLeaf) (List WrittenLeaf) leaves_step arm_leaves at prov items in
    record {
      count = ap (λ (x : LeafNumbering). x.count) e ∙ ap length (sym l);
      reached = λ n k lt.
          let one : k < 1 = subst (λ (x : LeafNumbering). k < x.count) e lt in
          let z : n ≡ n + k = omega (arith, one) in
          let r : routes_of ((numbering (Leaf at prov items)).from n) ≡ record { leaf = n; tests = [] } ∷ [] = ap (λ (x : LeafNumbering). routes_of (x.from n)) e ∙ F.fold-Leaf (List Route) (Under (List Route)) routes_step routes_arm n in
          subst (λ rs. IsReached rs (n + k)) (sym r) (0, record { leaf = n; tests = [] }, refl, z);
    }

split_counts : (loc : Loc) (arms : List Arm) → Each (λ (a : Arm). Counts a.under) arms → Counts (Split loc arms None)
split_counts loc arms each =
    let e = D.fold-Split LeafNumbering (Under LeafNumbering) tree_step arm_step loc arms in
    let l = D.fold-Split (List WrittenLeaf) (List WrittenLeaf) leaves_step arm_leaves loc arms in
    let c = arms_counted arms each in
    let none : (xs : List WrittenLeaf) → length xs + 0 ≡ length (xs ++ []) = λ xs. sym (length-append xs []) in
    record {
      count = ap (λ (x : LeafNumbering). x.count) e ∙ ap (λ x. x + 0) c ∙ none (arms_leaves arms) ∙ ap length (sym l);
      reached = λ n k lt.
          let all : k < arms_count (arm_numbers arms) + 0 = subst (λ (x : LeafNumbering). k < x.count) e lt in
          let fs = arms_from (arm_numbers arms) n in
          let r : routes_of ((numbering (Split loc arms None)).from n) ≡ arms_routes loc arms n ++ [] = ap (λ (x : LeafNumbering). routes_of (x.from n)) e ∙ F.fold-Split (List Route) (Under (List Route)) routes_step routes_arm loc fs in
          subst (λ rs. IsReached rs (n + k)) (sym r) (reached-left (arms_routes loc arms n) [] (n + k) (arms_reached loc arms each n k (omega (arith, all))));
    }

else_counts : (loc : Loc) (arms : List Arm) (other : LayTree) → Each (λ (a : Arm). Counts a.under) arms → Counts other → Counts (Split loc arms (Some other))
else_counts loc arms other each o =
    let e = D.fold-Split-else LeafNumbering (Under LeafNumbering) tree_step arm_step loc arms other in
    let l = D.fold-Split-else (List WrittenLeaf) (List WrittenLeaf) leaves_step arm_leaves loc arms other in
    let c = arms_counted arms each in
    record {
      count = ap (λ (x : LeafNumbering). x.count) e ∙ ap (λ x. x + (numbering other).count) c ∙ ap (λ x. length (arms_leaves arms) + x) o.count
          ∙ sym (length-append (arms_leaves arms) (leaves other)) ∙ ap length (sym l);
      reached = λ n k lt.
          let all : k < arms_count (arm_numbers arms) + (numbering other).count = subst (λ (x : LeafNumbering). k < x.count) e lt in
          let fs = arms_from (arm_numbers arms) n in
          let m = n + arms_count (arm_numbers arms) in
          let below = (numbering other).from m in
          let es = else_routes loc (literals_of (map routes_under fs)) (Some (routes_of below)) in
          let r : routes_of ((numbering (Split loc arms (Some other))).from n) ≡ arms_routes loc arms n ++ es
          = ap (λ (x : LeafNumbering). routes_of (x.from n)) e ∙ F.fold-Split-else (List Route) (Under (List Route)) routes_step routes_arm loc fs below in
          subst (λ rs. IsReached rs (n + k)) (sym r) (elim (cases_lt k (arms_count (arm_numbers arms))) [
            | inl low ↦ reached-left (arms_routes loc arms n) es (n + k) (arms_reached loc arms each n k low)
            | inr high ↦
                let q = o.reached m (k - arms_count (arm_numbers arms)) (omega (arith, all, high)) in
                let z : m + (k - arms_count (arm_numbers arms)) ≡ n + k = omega (arith, high) in
                reached-right (arms_routes loc arms n) es (n + k)
                (reached-behind (IsNone loc (literals_of (map routes_under fs))) (routes_of below) (n + k) (subst (λ i. IsReached (routes_of below) i) z q))
          ]);
    }

counts : (tree : LayTree) → Counts tree
counts = tree-induction Counts (record { split = split_counts; split_else = else_counts; leaf = leaf_counts })

-- each leaf is below the flat tree
pub all_reached : (tree : LayTree) (n : ℕ) → n < length (leaves tree) → (k : ℕ) × (r : Route) × (slice_get (routes_of (flat_tree tree)) k ≡ Some r) × (r.leaf ≡ n)
all_reached tree n lt =
    let c = counts tree in
    let e = c.count in
    let r = c.reached 0 n (omega (arith, e, lt)) in
    let z : 0 + n ≡ n = omega arith in
    (r.0, r.1, r.2, r.3 ∙ z)
