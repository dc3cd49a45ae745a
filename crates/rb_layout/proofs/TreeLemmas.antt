-- Written trees: their leaves and their numbering, form by form.
use Rattle.std.proofs.Common.{◌≡◌, ℕ, ◌+◌, List, [], ◌∷◌, ◌++◌, map, length, refl, sym, ap, ◌∙◌, arith}
use Rattle.std.specs.Prelude.{Some, None, slice_get, drop}
use Rattle.std.specs.List.{flat_map}
use Rattle.std.proofs.lemmas.List.Sums.{sum_by-cons}
use Rattle.std.proofs.lemmas.List.{append_assoc, length-append, append-nil, length-map, map-append}
use Rattle.rb_core.specs.declared.pattern.Pat.{Pat}
use Rattle.rb_core.specs.declared.layout_decl.Loc.{Loc}
use Rattle.rb_core.specs.declared.layout_decl.LayItem.{LayItem}
use Rattle.rb_core.specs.declared.layout_decl.Arm.{Arm}
use Rattle.rb_core.specs.declared.layout_decl.LayTree.{LayTree}
use Rattle.rb_core.specs.declared.layout_decl.LayTree as S
use Rattle.rb_core.specs.declared.layout_decl.LayTree.TheFolds.{fold_out-Arm}
use Rattle.rb_core.specs.Layouts.{WrittenLeaf, leaves, leaves_under, leaves_step, arm_leaves}
use Rattle.rb_core.proofs.LayoutInduction.{tree-induction}
use Rattle.rb_layout.specs.declared.layout.FlatTree as Flat
use Rattle.rb_layout.specs.declared.layout.FlatTree.{FlatTree}
use Rattle.rb_layout.specs.declared.layout.FlatArm.{FlatArm}
use Rattle.rb_layout.specs.declared.layout.Leaf.{Leaf}
use Rattle.rb_layout.specs.Splits.{Under}
use Rattle.rb_layout.specs.Flattening.{LeafNumbering, numbering, arm_numbering, tree_step, arm_step, arms_count, arms_from}
use Rattle.rb_layout.proofs.FlatForms.{Each}
use Rattle.rb_layout.proofs.WrittenForms.{fold-Leaf, fold-Split, fold-Split-else}
use Rattle.rb_layout.proofs.LayingLemmas.{one_more}
use Rattle.rb_layout.proofs.Walks.{drop_from}

joined : (arms : List Arm) → flat_map (λ (ls : List WrittenLeaf). ls) (map leaves_under arms) ≡ flat_map leaves_under arms
joined [] = refl
joined (a ∷ arms) = ap (λ (ls : List WrittenLeaf). leaves_under a ++ ls) (joined arms)

pub leaves-Leaf : (at : ℕ) (prov : Pat) (items : List LayItem) → leaves (S.Leaf at prov items) ≡ record { provenance = prov; items = items } ∷ []
leaves-Leaf at prov items = fold-Leaf (List WrittenLeaf) (List WrittenLeaf) leaves_step arm_leaves at prov items

pub leaves-Split : (loc : Loc) (arms : List Arm) → leaves (S.Split loc arms None) ≡ flat_map leaves_under arms
leaves-Split loc arms =
    fold-Split (List WrittenLeaf) (List WrittenLeaf) leaves_step arm_leaves loc arms ∙ ap (λ (ls : List WrittenLeaf). ls ++ []) (joined arms) ∙ append-nil (flat_map leaves_under arms)

pub leaves-Split-else : (loc : Loc) (arms : List Arm) (other : LayTree) → leaves (S.Split loc arms (Some other)) ≡ flat_map leaves_under arms ++ leaves other
leaves-Split-else loc arms other =
    fold-Split-else (List WrittenLeaf) (List WrittenLeaf) leaves_step arm_leaves loc arms other ∙ ap (λ (ls : List WrittenLeaf). ls ++ leaves other) (joined arms)

pub arm_leaves-is : (a : Arm) → leaves_under a ≡ leaves a.under
arm_leaves-is a = fold_out-Arm (List WrittenLeaf) (List WrittenLeaf) leaves_step arm_leaves a

pub arm_numbering-is : (a : Arm) → arm_numbering a ≡ record { literal = a.literal; of = numbering a.under }
arm_numbering-is a = fold_out-Arm LeafNumbering (Under LeafNumbering) tree_step arm_step a

-- How many leaves ---------------------------------------------------------------------------------

abbrev Counts : LayTree → Type 0
Counts tree = (numbering tree).count ≡ length (leaves tree)

arm_counts : (a : Arm) → Counts a.under → (arm_numbering a).of.count ≡ length (leaves_under a)
arm_counts a h = ap (λ (u : Under LeafNumbering). u.of.count) (arm_numbering-is a) ∙ h ∙ ap (λ (ls : List WrittenLeaf). length ls) (sym (arm_leaves-is a))

arms_count-is : (arms : List Arm) → Each (λ (a : Arm). Counts a.under) arms → arms_count (map arm_numbering arms) ≡ length (flat_map leaves_under arms)
arms_count-is [] each = refl
arms_count-is (a ∷ arms) each =
    sum_by-cons (λ (u : Under LeafNumbering). u.of.count) (arm_numbering a) (map arm_numbering arms) ∙ ap (λ n. n + arms_count (map arm_numbering arms)) (arm_counts a each.0)
    ∙ ap (λ n. length (leaves_under a) + n) (arms_count-is arms each.1) ∙ sym (length-append (leaves_under a) (flat_map leaves_under arms))

split_counts : (loc : Loc) (arms : List Arm) → Each (λ (a : Arm). Counts a.under) arms → Counts (S.Split loc arms None)
split_counts loc arms each =
    ap (λ (n : LeafNumbering). n.count) (fold-Split LeafNumbering (Under LeafNumbering) tree_step arm_step loc arms)
    ∙ plus_none (arms_count (map arm_numbering arms)) ∙ arms_count-is arms each ∙ ap (λ (ls : List WrittenLeaf). length ls) (sym (leaves-Split loc arms))
  where
    plus_none : (n : ℕ) → n + 0 ≡ n
    plus_none n = omega arith

else_counts : (loc : Loc) (arms : List Arm) (other : LayTree) → Each (λ (a : Arm). Counts a.under) arms → Counts other → Counts (S.Split loc arms (Some other))
else_counts loc arms other each h =
    ap (λ (n : LeafNumbering). n.count) (fold-Split-else LeafNumbering (Under LeafNumbering) tree_step arm_step loc arms other)
    ∙ ap (λ n. n + (numbering other).count) (arms_count-is arms each) ∙ ap (λ n. length (flat_map leaves_under arms) + n) h
    ∙ sym (length-append (flat_map leaves_under arms) (leaves other)) ∙ ap (λ (ls : List WrittenLeaf). length ls) (sym (leaves-Split-else loc arms other))

leaf_counts : (at : ℕ) (prov : Pat) (items : List LayItem) → Counts (S.Leaf at prov items)
leaf_counts at prov items =
    ap (λ (n : LeafNumbering). n.count) (fold-Leaf LeafNumbering (Under LeafNumbering) tree_step arm_step at prov items) ∙ ap (λ (ls : List WrittenLeaf). length ls) (sym (leaves-Leaf at prov items))

-- as many as there are
pub count-is : (tree : LayTree) → Counts tree
count-is tree = tree-induction Counts (record { split = split_counts; split_else = else_counts; leaf = leaf_counts }) tree

each_counts : (arms : List Arm) → Each (λ (a : Arm). Counts a.under) arms
each_counts [] = tt
each_counts (a ∷ arms) = (count-is a.under, each_counts arms)

pub arms_count-leaves : (arms : List Arm) → arms_count (map arm_numbering arms) ≡ length (flat_map leaves_under arms)
arms_count-leaves arms = arms_count-is arms (each_counts arms)

-- Flat trees --------------------------------------------------------------------------------------

module _ (f : WrittenLeaf → Leaf) where
  -- a leaf
  pub one_leaf : (tree : LayTree) (at : ℕ) (prov : Pat) (items : List LayItem) → tree ≡ S.Leaf at prov items → map f (leaves tree) ≡ f (record { provenance = prov; items = items }) ∷ []
  one_leaf tree at prov items is = ap (λ (t : LayTree). map f (leaves t)) is ∙ ap (λ (ls : List WrittenLeaf). map f ls) (leaves-Leaf at prov items)

  pub split_leaves : (tree : LayTree) (loc : Loc) (arms : List Arm) → tree ≡ S.Split loc arms None → map f (leaves tree) ≡ map f (flat_map leaves_under arms)
  split_leaves tree loc arms is = ap (λ (t : LayTree). map f (leaves t)) is ∙ ap (λ (ls : List WrittenLeaf). map f ls) (leaves-Split loc arms)

  pub else_leaves : (tree : LayTree) (loc : Loc) (arms : List Arm) (other : LayTree) (old mid new : List Leaf) → tree ≡ S.Split loc arms (Some other)
      → mid ≡ old ++ map f (flat_map leaves_under arms) → new ≡ mid ++ map f (leaves other) → new ≡ old ++ map f (leaves tree)
  else_leaves tree loc arms other old mid new is first rest =
      rest ∙ ap (λ (ls : List Leaf). ls ++ map f (leaves other)) first ∙ append_assoc old (map f (flat_map leaves_under arms)) (map f (leaves other))
      ∙ ap (λ (ls : List Leaf). old ++ ls) (sym (map-append f (flat_map leaves_under arms) (leaves other)) ∙ sym (ap (λ (t : LayTree). map f (leaves t)) is ∙ ap (λ (ls : List WrittenLeaf). map f ls) (leaves-Split-else loc arms other)))

  -- the `else` stands behind the leaves of the arms
  pub else_tree : (tree : LayTree) (loc : Loc) (arms : List Arm) (other : LayTree) (old mid : List Leaf) (at : Loc) (flat : List FlatArm) (under : FlatTree) → at ≡ loc → tree ≡ S.Split loc arms (Some other)
      → mid ≡ old ++ map f (flat_map leaves_under arms) → flat ≡ arms_from (map arm_numbering arms) (length old) → under ≡ (numbering other).from (length mid)
      → Flat.Split at flat (Some under) ≡ (numbering tree).from (length old)
  else_tree tree loc arms other old mid at flat under is_at is is_mid is_arms is_under =
      let count : length mid ≡ length old + arms_count (map arm_numbering arms) =
      ap (λ (ls : List Leaf). length ls) is_mid ∙ length-append old (map f (flat_map leaves_under arms)) ∙ ap (λ n. length old + n) (length-map (flat_map leaves_under arms) f ∙ sym (arms_count-leaves arms)) in
      ap (λ (l : Loc). Flat.Split l flat (Some under)) is_at
      ∙ ap (λ (fs : List FlatArm). Flat.Split loc fs (Some under)) is_arms
      ∙ ap (λ (u : FlatTree). Flat.Split loc (arms_from (map arm_numbering arms) (length old)) (Some u)) (is_under ∙ ap (λ n. (numbering other).from n) count)
      ∙ sym (ap (λ (t : LayTree). (numbering t).from (length old)) is
      ∙ ap (λ (n : LeafNumbering). n.from (length old)) (fold-Split-else LeafNumbering (Under LeafNumbering) tree_step arm_step loc arms other))

  -- one more arm
  pub arms_on : (all : List Arm) (i : ℕ) (a : Arm) (flat : FlatArm) (whole : List FlatArm) (leaves_whole : List Leaf) (flats more : List FlatArm) (old new : List Leaf) → slice_get all i ≡ Some a
      → flat ≡ record { literal = a.literal; under = (arm_numbering a).of.from (length old) } → new ≡ old ++ map f (leaves_under a) → more ≡ flats ++ flat ∷ []
      → (flats ++ arms_from (map arm_numbering (drop i all)) (length old) ≡ whole) × (old ++ map f (flat_map leaves_under (drop i all)) ≡ leaves_whole)
      → (more ++ arms_from (map arm_numbering (drop (i + 1) all)) (length new) ≡ whole) × (new ++ map f (flat_map leaves_under (drop (i + 1) all)) ≡ leaves_whole)
  arms_on all i a flat whole leaves_whole flats more old new is is_flat is_new is_more invariant =
      let rest = drop (i + 1) all in
      let here : drop i all ≡ a ∷ rest = drop_from all i a is ∙ ap (λ k. a ∷ drop k all) (sym (one_more i)) in
      let count : length new ≡ length old + (arm_numbering a).of.count =
      ap (λ (ls : List Leaf). length ls) is_new ∙ length-append old (map f (leaves_under a)) ∙ ap (λ n. length old + n) (length-map (leaves_under a) f ∙ sym (arm_counts a (count-is a.under))) in (
        ap (λ (fs : List FlatArm). fs ++ arms_from (map arm_numbering rest) (length new)) is_more
            ∙ append_assoc flats (flat ∷ []) (arms_from (map arm_numbering rest) (length new))
            ∙ ap (λ n. flats ++ (flat ∷ arms_from (map arm_numbering rest) n)) count
            ∙ ap (λ (x : FlatArm). flats ++ (x ∷ arms_from (map arm_numbering rest) (length old + (arm_numbering a).of.count)))
            (is_flat ∙ ap (λ n. record { literal = n; under = (arm_numbering a).of.from (length old) }) (sym (ap (λ (u : Under LeafNumbering). u.literal) (arm_numbering-is a))))
            ∙ ap (λ (xs : List Arm). flats ++ arms_from (map arm_numbering xs) (length old)) (sym here)
            ∙ invariant.0,
        ap (λ (ls : List Leaf). ls ++ map f (flat_map leaves_under rest)) is_new
            ∙ append_assoc old (map f (leaves_under a)) (map f (flat_map leaves_under rest))
            ∙ ap (λ (ls : List Leaf). old ++ ls) (sym (map-append f (leaves_under a) (flat_map leaves_under rest)))
            ∙ ap (λ (xs : List Arm). old ++ map f (flat_map leaves_under xs)) (sym here)
            ∙ invariant.1,
      )
