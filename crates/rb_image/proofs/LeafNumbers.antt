-- The splits of a layout lead to one of its leaves.
use Rattle.std.proofs.Common.{◌≡◌, ℕ, ◌+◌, ◌<◌, ◌≤◌, nat_eq, length, map, List, [], ◌∷◌, Bool, true, false, Option, Some, None, Result, Ok, refl, sym, ap, ◌∙◌, arith}
use Rattle.std.specs.Prelude.{slice_get, if◌then◌else◌}
use Rattle.std.proofs.lemmas.List.{length-map}
use Rattle.std.proofs.lemmas.List.Sums.{sum_by-cons}
use Rattle.rb_core.specs.declared.layout_decl.Arm.{Arm}
use Rattle.rb_core.specs.declared.layout_decl.LayItem.{LayItem}
use Rattle.rb_core.specs.declared.layout_decl.LayTree.{LayTree}
use Rattle.rb_core.specs.declared.layout_decl.LayTree as S
use Rattle.rb_core.specs.declared.layout_decl.Loc.{Loc}
use Rattle.rb_core.specs.declared.pattern.Pat.{Pat}
use Rattle.rb_core.specs.declared.program.Program.{Program}
use Rattle.rb_core.specs.Layouts.{leaves}
use Rattle.rb_core.proofs.LayoutInduction.{tree-induction}
use Rattle.rb_layout.specs.Agreement.{Agrees}
use Rattle.rb_layout.specs.Flattening.{LeafNumbering, arm_numbering, arms_count, arms_from, flat_layouts, flat_leaf, numbering}
use Rattle.rb_layout.specs.Positions.{layout_of}
use Rattle.rb_layout.specs.Splits.{Under}
use Rattle.rb_layout.specs.declared.layout.FlatTree.{FlatTree}
use Rattle.rb_layout.specs.declared.layout.FlatTree as Flat
use Rattle.rb_layout.specs.declared.layout.Layout.{Layout}
use Rattle.rb_layout.specs.declared.layout.Leaf.{Leaf}
use Rattle.rb_layout.proofs.Computing.{from-Leaf, from-Split, from-Split-else, count-Leaf, numbering-Split, numbering-Split-else}
use Rattle.rb_layout.proofs.FlatForms.{Each}
use Rattle.rb_layout.proofs.TreeLemmas.{arm_numbering-is, count-is}
use Rattle.rb_coding.specs.Arms.{under_number}
use Rattle.rb_rel.proofs.Declared.{declared}
use Rattle.rb_rel.proofs.Lists.{got}
use Rattle.rb_image_text.specs.declared.fault.ImageFault.{ImageFault}
use Rattle.rb_image_text.specs.declared.image.ImageBlock.{ImageBlock}
use Rattle.rb_image.specs.declared.kept.Kept.{Kept}
use Rattle.rb_image.specs.Splits.{leaf_at, range_at, walk_arms}
use Rattle.rb_image.proofs.ExaminedParts.{then_ok}
use Rattle.rb_image.proofs.FallLemmas.{same_Ok}
use Rattle.rb_image.proofs.WalkLemmas.{other_walk, go_on, arms_walk, leaf_walk, split_walk, walk_under}

module _ (m : List ImageBlock) (ws : List Kept) where
  abbrev LeadsTo : Result ℕ ImageFault → ℕ → Type 0
  LeadsTo r n = ◌≡◌ {A = Result ℕ ImageFault} r (Ok n)

  -- a tree's leaves are numbered on from the number at which it begins
  abbrev IsNumbered : LayTree → Type 0
  IsNumbered tree = (k n : ℕ) → LeadsTo (leaf_at ((numbering tree).from k) m ws) n → (k ≤ n) × (n < k + (numbering tree).count)

  module _ (range : Kept) (low high : ℕ) (other : Option FlatTree) (behind : (n : ℕ) → LeadsTo (go_on range other m ws) n → (low ≤ n) × (n < high)) where
    arms_numbered : (arms : List Arm) → Each (λ (a : Arm). IsNumbered a.under) arms → (k : ℕ) → low ≤ k → k + arms_count (map arm_numbering arms) ≤ high
        → (n : ℕ) → LeadsTo (go_on range (under_number (arms_from (map arm_numbering arms) k) other range.number) m ws) n → (low ≤ n) × (n < high)
    arms_numbered [] each k lo hi n e = behind n e
    arms_numbered (a ∷ arms) each k lo hi n e = go (λ l h f. arms_numbered arms each.1 (k + u.of.count) l h n f) (nat_eq u.literal range.number) e
      where
        u : Under LeafNumbering
        u = arm_numbering a

        counted : arms_count (map arm_numbering (a ∷ arms)) ≡ u.of.count + arms_count (map arm_numbering arms)
        counted = sum_by-cons (λ (x : Under LeafNumbering). x.of.count) u (map arm_numbering arms)

        go : (low ≤ k + u.of.count → k + u.of.count + arms_count (map arm_numbering arms) ≤ high
            → LeadsTo (go_on range (under_number (arms_from (map arm_numbering arms) (k + u.of.count)) other range.number) m ws) n → (low ≤ n) × (n < high))
            → (b : Bool) → LeadsTo (go_on range (if b then Some (u.of.from k) else under_number (arms_from (map arm_numbering arms) (k + u.of.count)) other range.number) m ws) n → (low ≤ n) × (n < high)
        go rest true f =
            let is : u.of ≡ numbering a.under = ap (λ (x : Under LeafNumbering). x.of) (arm_numbering-is a) in
            let r = each.0 k n (ap (λ (x : LeafNumbering). leaf_at (x.from k) m ws) (sym is) ∙ f) in
            let c = ap (λ (x : LeafNumbering). x.count) is in
            let all = counted in
            (omega (arith, r, lo), omega (arith, r, c, all, hi))
        go rest false f = let all = counted in rest (omega (arith, lo)) (omega (arith, all, hi)) f

  split_numbered : (loc : Loc) (arms : List Arm) → Each (λ (a : Arm). IsNumbered a.under) arms → IsNumbered (S.Split loc arms None)
  split_numbered loc arms each k n e =
      let flat : FlatTree = Flat.Split loc (arms_from (map arm_numbering arms) k) None in
      let is : (numbering (S.Split loc arms None)).from k ≡ flat = from-Split loc arms k in
      let h : LeadsTo (leaf_at flat m ws) n = ap (λ (t : FlatTree). leaf_at t m ws) (sym is) ∙ e in
      let r = then_ok (range_at m ws loc) (λ range. walk_arms range (map walk_under (arms_from (map arm_numbering arms) k)) (other_walk None) m ws) n
      (sym (split_walk flat loc (arms_from (map arm_numbering arms) k) None m ws refl) ∙ h) in
      let g = sym (arms_walk r.0 (arms_from (map arm_numbering arms) k) None m ws) ∙ r.2 in
      let count : (numbering (S.Split loc arms None)).count ≡ arms_count (map arm_numbering arms) + 0 = ap (λ (x : LeafNumbering). x.count) (numbering-Split loc arms) in
      arms_numbered r.0 k (k + (numbering (S.Split loc arms None)).count) None (λ i f. absurd cc) arms each k (omega arith) (omega (arith, count)) n g

  else_numbered : (loc : Loc) (arms : List Arm) (other : LayTree) → Each (λ (a : Arm). IsNumbered a.under) arms → IsNumbered other → IsNumbered (S.Split loc arms (Some other))
  else_numbered loc arms other each last k n e =
      let from = k + arms_count (map arm_numbering arms) in
      let under : FlatTree = (numbering other).from from in
      let flat : FlatTree = Flat.Split loc (arms_from (map arm_numbering arms) k) (Some under) in
      let is : (numbering (S.Split loc arms (Some other))).from k ≡ flat = from-Split-else loc arms other k in
      let h : LeadsTo (leaf_at flat m ws) n = ap (λ (t : FlatTree). leaf_at t m ws) (sym is) ∙ e in
      let r = then_ok (range_at m ws loc) (λ range. walk_arms range (map walk_under (arms_from (map arm_numbering arms) k)) (other_walk (Some under)) m ws) n
      (sym (split_walk flat loc (arms_from (map arm_numbering arms) k) (Some under) m ws refl) ∙ h) in
      let g = sym (arms_walk r.0 (arms_from (map arm_numbering arms) k) (Some under) m ws) ∙ r.2 in
      let count : (numbering (S.Split loc arms (Some other))).count ≡ arms_count (map arm_numbering arms) + (numbering other).count = ap (λ (x : LeafNumbering). x.count) (numbering-Split-else loc arms other) in
      arms_numbered r.0 k (k + (numbering (S.Split loc arms (Some other))).count) (Some under)
      (λ i f. let x = last from i f in (omega (arith, x), omega (arith, x, count)))
      arms each k (omega arith) (omega (arith, count)) n g

  leaf_numbered : (at : ℕ) (prov : Pat) (items : List LayItem) → IsNumbered (S.Leaf at prov items)
  leaf_numbered at prov items k n e =
      let is = from-Leaf at prov items k in
      let same : k ≡ n = same_Ok k n (sym (leaf_walk ((numbering (S.Leaf at prov items)).from k) k m ws is) ∙ e) in
      let count = count-Leaf at prov items in
      (omega (arith, same), omega (arith, same, count))

  tree_numbered : (tree : LayTree) → IsNumbered tree
  tree_numbered tree = tree-induction IsNumbered (record { split = split_numbered; split_else = else_numbered; leaf = leaf_numbered }) tree

  pub leaf_there : (p : Program) → Agrees p → (t : ℕ) (layout : Layout) → layout_of (flat_layouts p) t ≡ Some layout → (n : ℕ) → LeadsTo (leaf_at layout.tree m ws) n
      → (leaf : Leaf) × (slice_get layout.leaves n ≡ Some leaf)
  leaf_there p agrees t layout is n e =
      let d = declared p agrees.a1 t layout is in
      let r = tree_numbered d.decl.tree 0 n (ap (λ (l : Layout). leaf_at l.tree m ws) (sym d.is_flat) ∙ e) in
      let count = count-is d.decl.tree in
      let long : length layout.leaves ≡ length (leaves d.decl.tree) = ap (λ (l : Layout). length l.leaves) d.is_flat ∙ length-map (leaves d.decl.tree) (flat_leaf p.types p.layouts) in
      got layout.leaves n (omega (arith, r, count, long))
