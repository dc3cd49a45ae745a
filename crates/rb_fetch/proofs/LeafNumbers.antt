-- Trees whose leaves are numbered below a number, form by form.
use Rattle.std.proofs.Common.{◌≡◌, inl, inr, ℕ, zero, suc, ◌<◌, List, [], ◌∷◌, ◌++◌, map, Option, Some, None, refl, sym, subst, ap, ◌∙◌}
use Rattle.std.specs.Prelude.{slice_get}
use Rattle.std.specs.List.{flat_map}
use Rattle.std.proofs.lemmas.Option.{same_Some}
use Rattle.rb_core.specs.declared.layout_decl.Loc.{Loc}
use Rattle.rb_layout.specs.declared.layout.FlatTree.{FlatTree, Split, Leaf}
use Rattle.rb_layout.specs.declared.layout.FlatTree.TheFolds.{fold_out-FlatArm}
use Rattle.rb_layout.specs.declared.layout.FlatArm.{FlatArm}
use Rattle.rb_layout.specs.Splits.{Test, Is, IsNone, Route, under_test, Under, arm_routes, literals_of, routes_step, routes_arm, routes_of, routes_under}
use Rattle.rb_layout.proofs.FlatForms as F
use Rattle.rb_rel.proofs.Lists.{get-append, get-left, get-right, get-map, get-mapped}
use Rattle.rb_fetch.specs.inner.Looking.{LeavesBelow, under_arm, under_at}

abbrev pub AllBelow : ℕ → List Route → Type 0
AllBelow count rs = (k : ℕ) (r : Route) → slice_get rs k ≡ Some r → r.leaf < count

pub leaf_below : (count n : ℕ) → LeavesBelow count (Leaf n) → n < count
leaf_below count n below = below 0 (record { leaf = n; tests = [] }) (ap (λ rs. slice_get rs 0) (F.fold-Leaf (List Route) (Under (List Route)) routes_step routes_arm n))

left_below : (count : ℕ) (rs ss : List Route) → AllBelow count (rs ++ ss) → AllBelow count rs
left_below count rs ss h k r e = h k r (get-left rs ss k r e)

right_below : (count : ℕ) (rs ss : List Route) → AllBelow count (rs ++ ss) → AllBelow count ss
right_below count rs ss h k r e = let g = get-right rs ss k r e in h g.0 r g.1

behind_below : (count : ℕ) (t : Test) (rs : List Route) → AllBelow count (map (under_test t) rs) → AllBelow count rs
behind_below count t rs h k r e = h k (under_test t r) (get-mapped (under_test t) rs k r e)

routes-arm : (a : FlatArm) → routes_under a ≡ record { literal = a.literal; of = routes_of a.under }
routes-arm a = fold_out-FlatArm (List Route) (Under (List Route)) routes_step routes_arm a

abbrev below_arms : Loc → List FlatArm → List Route
below_arms loc arms = flat_map (arm_routes loc) (map routes_under arms)

arm_below : (count : ℕ) (loc : Loc) (arms : List FlatArm) (k : ℕ) (t : FlatTree) → under_arm (slice_get arms k) ≡ Some t → AllBelow count (below_arms loc arms) → LeavesBelow count t
arm_below count loc [] k t e h = absurd cc
arm_below count loc (a ∷ arms) zero t e h =
    let is : a.under ≡ t = same_Some a.under t e in
    let here = behind_below count (Is loc (routes_under a).literal) (routes_under a).of (left_below count (arm_routes loc (routes_under a)) (below_arms loc arms) h) in
    subst (λ (u : FlatTree). LeavesBelow count u) is (subst (λ rs. AllBelow count rs) (ap (λ (u : Under (List Route)). u.of) (routes-arm a)) here)
arm_below count loc (a ∷ arms) (suc k) t e h = arm_below count loc arms k t e (right_below count (arm_routes loc (routes_under a)) (below_arms loc arms) h)

-- what stands below a split is numbered so too
pub under_below : (count : ℕ) (loc : Loc) (arms : List FlatArm) (other : Option FlatTree) (x : Option ℕ) (t : FlatTree) → under_at arms other x ≡ Some t → LeavesBelow count (Split loc arms other) → LeavesBelow count t
under_below count loc arms None None t e h = absurd cc
under_below count loc arms (Some u) None t e h =
    let is : u ≡ t = same_Some u t e in
    let all = subst (λ rs. AllBelow count rs) (F.fold-Split-else (List Route) (Under (List Route)) routes_step routes_arm loc arms u) h in
    let test = IsNone loc (literals_of (map routes_under arms)) in
    subst (λ (v : FlatTree). LeavesBelow count v) is (behind_below count test (routes_of u) (right_below count (below_arms loc arms) (map (under_test test) (routes_of u)) all))
under_below count loc arms None (Some k) t e h =
    let all = subst (λ rs. AllBelow count rs) (F.fold-Split (List Route) (Under (List Route)) routes_step routes_arm loc arms) h in
    arm_below count loc arms k t e (left_below count (below_arms loc arms) [] all)
under_below count loc arms (Some u) (Some k) t e h =
    let all = subst (λ rs. AllBelow count rs) (F.fold-Split-else (List Route) (Under (List Route)) routes_step routes_arm loc arms u) h in
    let test = IsNone loc (literals_of (map routes_under arms)) in
    arm_below count loc arms k t e (left_below count (below_arms loc arms) (map (under_test test) (routes_of u)) all)

-- And so is a split where all that stands below it is.

pub leaf_is_below : (count n : ℕ) → n < count → LeavesBelow count (Leaf n)
leaf_is_below count n lt k r e = go k (sym (ap (λ rs. slice_get rs k) (F.fold-Leaf (List Route) (Under (List Route)) routes_step routes_arm n)) ∙ e)
  where
    go : (j : ℕ) → slice_get ((let first : Route = record { leaf = n; tests = [] } in first) ∷ []) j ≡ Some r → r.leaf < count
    go zero at = subst (λ m. m < count) (ap (λ (x : Route). x.leaf) (same_Some _ r at)) lt
    go (suc j) at = absurd cc

both_below : (count : ℕ) (rs ss : List Route) → AllBelow count rs → AllBelow count ss → AllBelow count (rs ++ ss)
both_below count rs ss a b k r e = elim (get-append rs ss k r e) [ inl h ↦ a k r h | inr h ↦ b h.0 r h.1 ]

below_behind : (count : ℕ) (t : Test) (rs : List Route) → AllBelow count rs → AllBelow count (map (under_test t) rs)
below_behind count t rs h k r e = let g = get-map (under_test t) rs k r e in subst (λ (x : Route). x.leaf < count) (sym g.2) (h k g.0 g.1)

none_below : (count : ℕ) → AllBelow count []
none_below count k r e = absurd cc

arms_below : (count : ℕ) (loc : Loc) (arms : List FlatArm) → ((k : ℕ) (t : FlatTree) → under_arm (slice_get arms k) ≡ Some t → LeavesBelow count t) → AllBelow count (below_arms loc arms)
arms_below count loc [] h = none_below count
arms_below count loc (a ∷ arms) h =
    let of = ap (λ (u : Under (List Route)). u.of) (routes-arm a) in
    let here = below_behind count (Is loc (routes_under a).literal) (routes_under a).of (subst (λ rs. AllBelow count rs) (sym of) (h 0 a.under refl)) in
    both_below count (arm_routes loc (routes_under a)) (below_arms loc arms) here (arms_below count loc arms (λ k t e. h (suc k) t e))

pub split_below : (count : ℕ) (loc : Loc) (arms : List FlatArm) (other : Option FlatTree) → ((x : Option ℕ) (t : FlatTree) → under_at arms other x ≡ Some t → LeavesBelow count t) → LeavesBelow count (Split loc arms other)
split_below count loc arms None h =
    subst (λ rs. AllBelow count rs) (sym (F.fold-Split (List Route) (Under (List Route)) routes_step routes_arm loc arms))
    (both_below count (below_arms loc arms) [] (arms_below count loc arms (λ k t e. h (Some k) t e)) (none_below count))
split_below count loc arms (Some u) h =
    let test = IsNone loc (literals_of (map routes_under arms)) in
    subst (λ rs. AllBelow count rs) (sym (F.fold-Split-else (List Route) (Under (List Route)) routes_step routes_arm loc arms u))
    (both_below count (below_arms loc arms) (map (under_test test) (routes_of u)) (arms_below count loc arms (λ k t e. h (Some k) t e)) (below_behind count test (routes_of u) (h None u refl)))
