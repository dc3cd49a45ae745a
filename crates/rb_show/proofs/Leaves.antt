-- Each leaf of a layout is shown once, from left to right.
use Rattle.std.proofs.Common.{◌≡◌, ℕ, zero, suc, ◌+◌, length, map, List, [], ◌∷◌, ◌++◌, Some, None, refl, sym, ap, ◌∙◌, arith}
use Rattle.std.specs.List.{range_with_len}
use Rattle.std.proofs.lemmas.List.{map-append, length-map}
use Rattle.std.proofs.lemmas.List.Sums.{sum_by-cons}
use Rattle.rb_core.specs.declared.pattern.Pat.{Pat}
use Rattle.rb_core.specs.declared.program.Program.{Program}
use Rattle.rb_core.specs.declared.layout_decl.Loc.{Loc}
use Rattle.rb_core.specs.declared.layout_decl.LayItem.{LayItem}
use Rattle.rb_core.specs.declared.layout_decl.LayoutDecl.{LayoutDecl}
use Rattle.rb_core.specs.declared.layout_decl.Arm.{Arm}
use Rattle.rb_core.specs.declared.layout_decl.LayTree.{LayTree, Split, Leaf}
use Rattle.rb_core.specs.Layouts.{leaves}
use Rattle.rb_core.proofs.LayoutInduction.{tree-induction}
use Rattle.rb_layout.specs.declared.layout.FlatArm.{FlatArm}
use Rattle.rb_layout.specs.declared.layout.Layout.{Layout}
use Rattle.rb_layout.specs.Flattening.{LeafNumbering, arms_count, arms_from, tree_step, arm_step, numbering, arm_numbering, flat_leaf, flat_layout}
use Rattle.rb_layout.specs.Splits.{Test, Is, IsNone, Route, under_test, Under, arm_routes, routes_of, routes_under}
use Rattle.rb_layout.proofs.FlatForms.{Each}
use Rattle.rb_layout.proofs.FlatLaws.{layout_is_form}
use Rattle.rb_layout.proofs.TreeLemmas.{arm_numbering-is, count-is}
use Rattle.rb_layout.proofs.WrittenForms as D
use Rattle.rb_show.specs.Laws.{LeavesAreShown}
use Rattle.rb_show.specs.inner.Ways.{literals_in}
use Rattle.rb_show.proofs.Leading.{routes-arm, routes-Leaf, routes-Split, routes-Split-else, arms_routes}

abbrev numbers : List Route → List ℕ
numbers rs = map (λ (r : Route). r.leaf) rs

abbrev leaf_of : Route → ℕ
leaf_of r = r.leaf

numbers-append : (rs ss : List Route) → numbers (rs ++ ss) ≡ numbers rs ++ numbers ss
numbers-append rs ss = map-append leaf_of rs ss

-- a test in front changes no number
numbers-behind : (t : Test) (rs : List Route) → numbers (map (under_test t) rs) ≡ numbers rs
numbers-behind t [] = refl
numbers-behind t (r ∷ rs) = ap (λ ns. r.leaf ∷ ns) (numbers-behind t rs)

range-append : (a m n : ℕ) → range_with_len a m ++ range_with_len (a + m) n ≡ range_with_len a (m + n)
range-append a zero n = let z : a + 0 ≡ a = omega arith in let y : n ≡ 0 + n = omega arith in ap (λ b. range_with_len b n) z ∙ ap (λ k. range_with_len a k) y
range-append a (suc m) n =
    let shift : a + suc m ≡ a + 1 + m = omega arith in
    let count : suc (m + n) ≡ suc m + n = omega arith in
    ap (λ b. a ∷ range_with_len (a + 1) m ++ range_with_len b n) shift ∙ ap (λ ns. a ∷ ns) (range-append (a + 1) m n) ∙ ap (λ k. range_with_len a k) count

-- the ways to the leaves lead to those from number n on, one after the other
abbrev AreCounted : LayTree → Type 0
AreCounted tree = (n : ℕ) → numbers (routes_of ((numbering tree).from n)) ≡ range_with_len n (numbering tree).count

arms_counted : (loc : Loc) (arms : List Arm) → Each (λ (a : Arm). AreCounted a.under) arms → (n : ℕ)
    → numbers (arms_routes loc (arms_from (map arm_numbering arms) n)) ≡ range_with_len n (arms_count (map arm_numbering arms))
arms_counted loc [] each n = refl
arms_counted loc (a ∷ arms) each n =
    let u = arm_numbering a in
    let us = map arm_numbering arms in
    let x : FlatArm = record { literal = u.literal; under = u.of.from n } in
    let rest = arms_routes loc (arms_from us (n + u.of.count)) in
    let more : u.of.count + arms_count us ≡ arms_count (u ∷ us) = sym (sum_by-cons (λ (arm : Under LeafNumbering). arm.of.count) u us) in
    let here : numbers (routes_under x).of ≡ range_with_len n u.of.count
    = ap (λ (q : Under (List Route)). numbers q.of) (routes-arm x) ∙ ap (λ (q : Under LeafNumbering). numbers (routes_of (q.of.from n))) (arm_numbering-is a)
    ∙ each.0 n ∙ ap (λ (q : Under LeafNumbering). range_with_len n q.of.count) (sym (arm_numbering-is a)) in
    numbers-append (arm_routes loc (routes_under x)) rest
    ∙ ap (λ ns. ns ++ numbers rest) (numbers-behind (Is loc (routes_under x).literal) (routes_under x).of ∙ here)
    ∙ ap (λ ns. range_with_len n u.of.count ++ ns) (arms_counted loc arms each.1 (n + u.of.count))
    ∙ range-append n u.of.count (arms_count us)
    ∙ ap (λ k. range_with_len n k) more

leaf_counted : (at : ℕ) (prov : Pat) (items : List LayItem) → AreCounted (Leaf at prov items)
leaf_counted at prov items n =
    let e = D.fold-Leaf LeafNumbering (Under LeafNumbering) tree_step arm_step at prov items in
    ap (λ (q : LeafNumbering). numbers (routes_of (q.from n))) e ∙ ap numbers (routes-Leaf n) ∙ ap (λ (q : LeafNumbering). range_with_len n q.count) (sym e)

split_counted : (loc : Loc) (arms : List Arm) → Each (λ (a : Arm). AreCounted a.under) arms → AreCounted (Split loc arms None)
split_counted loc arms each n =
    let e = D.fold-Split LeafNumbering (Under LeafNumbering) tree_step arm_step loc arms in
    let us = map arm_numbering arms in
    let z : arms_count us ≡ arms_count us + 0 = omega arith in
    ap (λ (q : LeafNumbering). numbers (routes_of (q.from n))) e ∙ ap numbers (routes-Split loc (arms_from us n)) ∙ arms_counted loc arms each n
    ∙ ap (λ k. range_with_len n k) z ∙ ap (λ (q : LeafNumbering). range_with_len n q.count) (sym e)

else_counted : (loc : Loc) (arms : List Arm) (other : LayTree) → Each (λ (a : Arm). AreCounted a.under) arms → AreCounted other → AreCounted (Split loc arms (Some other))
else_counted loc arms other each o n =
    let e = D.fold-Split-else LeafNumbering (Under LeafNumbering) tree_step arm_step loc arms other in
    let us = map arm_numbering arms in
    let fs = arms_from us n in
    let below = routes_of ((numbering other).from (n + arms_count us)) in
    let t = IsNone loc (literals_in fs) in
    ap (λ (q : LeafNumbering). numbers (routes_of (q.from n))) e ∙ ap numbers (routes-Split-else loc fs ((numbering other).from (n + arms_count us)))
    ∙ numbers-append (arms_routes loc fs) (map (under_test t) below)
    ∙ ap (λ ns. ns ++ numbers (map (under_test t) below)) (arms_counted loc arms each n)
    ∙ ap (λ ns. range_with_len n (arms_count us) ++ ns) (numbers-behind t below ∙ o (n + arms_count us))
    ∙ range-append n (arms_count us) (numbering other).count
    ∙ ap (λ (q : LeafNumbering). range_with_len n q.count) (sym e)

counted : (tree : LayTree) → AreCounted tree
counted = tree-induction AreCounted (record { split = split_counted; split_else = else_counted; leaf = leaf_counted })

shown : (p : Program) (d : LayoutDecl) → numbers (routes_of (flat_layout p d).tree) ≡ range_with_len 0 (length (flat_layout p d).leaves)
shown p d = counted d.tree 0 ∙ ap (λ k. range_with_len 0 k) (count-is d.tree ∙ sym (length-map (leaves d.tree) (flat_leaf p.types p.layouts)))

pub leaves_are_shown : LeavesAreShown
leaves_are_shown p t layout e =
    let form = layout_is_form p t layout e in
    ap (λ (l : Layout). numbers (routes_of l.tree)) (sym form.1) ∙ shown p form.0 ∙ ap (λ (l : Layout). range_with_len 0 (length l.leaves)) form.1
