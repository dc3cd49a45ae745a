-- The rules hold at all places exactly where the ten of them hold.
use Rattle.std.proofs.Common.{◌≡◌, ℕ, zero, suc, ◌+◌, ◌<◌, List, [], ◌∷◌, ◌++◌, length, refl, sym, subst, arith}
use Rattle.std.specs.Prelude.{Some, None, slice_get}
use Rattle.std.proofs.lemmas.Option.{same_Some}
use Rattle.rb_core.specs.declared.types.DataDecl.{DataDecl}
use Rattle.rb_core.specs.declared.program.Program.{Program}
use Rattle.rb_layout.specs.declared.layout.Layout.{Layout}
use Rattle.rb_layout.specs.declared.layout.Leaf.{Leaf}
use Rattle.rb_layout.specs.Positions.{open_positions}
use Rattle.rb_layout.specs.Flattening.{decl_of}
use Rattle.rb_layout.specs.Items.{Item, items_of}
use Rattle.rb_layout.specs.Each.{EachLayout, EachLeaf}
use Rattle.rb_layout.specs.A1.{HasShape}
use Rattle.rb_layout.specs.A3.{ItemFits}
use Rattle.rb_layout.specs.Agreement.{Obeys}
use Rattle.rb_layout.specs.Spots.{Spot, Root, Apart, Held, Tests, Splits, NoPointer, Holding, SpotHolds, Checked, HoldAtAll, PlacesAreAll, by_leaves, by_types, shape_spots, part_spots, leaf_spots, a3_spots, a5_spots, a9_spots}
use Rattle.rb_layout.specs.Spots as spot

from_none : (k : ℕ) → 0 + k ≡ k
from_none k = omega arith

none_more : (n : ℕ) → n + 0 ≡ n
none_more n = omega arith

one_on : (n k : ℕ) → n + suc k ≡ n + 1 + k
one_on n k = omega arith

module _ (p : Program) (layouts : List Layout) where
  abbrev All : List Spot → Type 0
  All ss = Checked p layouts ss None

  apart : (xs ys : List Spot) → All (xs ++ ys) → All xs × All ys
  apart [] ys h = (tt, h)
  apart (x ∷ xs) ys h =
      let rest = apart xs ys h.1 in
      ((h.0, rest.0), rest.1)

  together : (xs ys : List Spot) → All xs → All ys → All (xs ++ ys)
  together [] ys a b = b
  together (x ∷ xs) ys a b = (a.0, together xs ys a.1 b)

  -- Leaves ----------------------------------------------------------------------------------------

  at_leaf : (spots : ℕ → Leaf → List Spot) (n : ℕ) (ls : List Leaf) → All (by_leaves spots n ls) → (k : ℕ) (leaf : Leaf) → slice_get ls k ≡ Some leaf → All (spots (n + k) leaf)
  at_leaf spots n [] h k leaf e = absurd cc
  at_leaf spots n (l ∷ ls) h zero leaf e =
      subst (λ m. All (spots m leaf)) (sym (none_more n)) (subst (λ x. All (spots n x)) (same_Some l leaf e) (apart (spots n l) (by_leaves spots (n + 1) ls) h).0)
  at_leaf spots n (l ∷ ls) h (suc k) leaf e =
      subst (λ m. All (spots m leaf)) (sym (one_on n k)) (at_leaf spots (n + 1) ls (apart (spots n l) (by_leaves spots (n + 1) ls) h).1 k leaf e)

  at_leaves : (spots : ℕ → Leaf → List Spot) (n : ℕ) (ls : List Leaf) → ((k : ℕ) (leaf : Leaf) → slice_get ls k ≡ Some leaf → All (spots (n + k) leaf)) → All (by_leaves spots n ls)
  at_leaves spots n [] h = tt
  at_leaves spots n (l ∷ ls) h =
      together (spots n l) (by_leaves spots (n + 1) ls) (subst (λ m. All (spots m l)) (none_more n) (h 0 l refl))
      (at_leaves spots (n + 1) ls (λ k leaf e. subst (λ m. All (spots m leaf)) (one_on n k) (h (suc k) leaf e)))

  -- Layouts ---------------------------------------------------------------------------------------

  at_type : (spots : ℕ → Layout → List Spot) (t : ℕ) (ls : List Layout) → All (by_types spots t ls) → (k : ℕ) (layout : Layout) → slice_get ls k ≡ Some layout → All (spots (t + k) layout)
  at_type spots t [] h k layout e = absurd cc
  at_type spots t (l ∷ ls) h zero layout e =
      subst (λ m. All (spots m layout)) (sym (none_more t)) (subst (λ x. All (spots t x)) (same_Some l layout e) (apart (spots t l) (by_types spots (t + 1) ls) h).0)
  at_type spots t (l ∷ ls) h (suc k) layout e =
      subst (λ m. All (spots m layout)) (sym (one_on t k)) (at_type spots (t + 1) ls (apart (spots t l) (by_types spots (t + 1) ls) h).1 k layout e)

  at_types : (spots : ℕ → Layout → List Spot) (t : ℕ) (ls : List Layout) → ((k : ℕ) (layout : Layout) → slice_get ls k ≡ Some layout → All (spots (t + k) layout)) → All (by_types spots t ls)
  at_types spots t [] h = tt
  at_types spots t (l ∷ ls) h =
      together (spots t l) (by_types spots (t + 1) ls) (subst (λ m. All (spots m l)) (none_more t) (h 0 l refl))
      (at_types spots (t + 1) ls (λ k layout e. subst (λ m. All (spots m layout)) (one_on t k) (h (suc k) layout e)))

  each_type : (spots : ℕ → Layout → List Spot) → All (by_types spots 0 layouts) → EachLayout layouts (λ t layout. All (spots t layout))
  each_type spots h t layout e = subst (λ m. All (spots m layout)) (from_none t) (at_type spots 0 layouts h t layout e)

  all_types : (spots : ℕ → Layout → List Spot) → EachLayout layouts (λ t layout. All (spots t layout)) → All (by_types spots 0 layouts)
  all_types spots h = at_types spots 0 layouts (λ t layout e. subst (λ m. All (spots m layout)) (sym (from_none t)) (h t layout e))

  each_leaf : (spot : ℕ → ℕ → Layout → Leaf → Spot) (t : ℕ) (layout : Layout) → All (leaf_spots spot t layout) → (n : ℕ) (leaf : Leaf) → slice_get layout.leaves n ≡ Some leaf → SpotHolds p layouts (spot t n layout leaf)
  each_leaf spot t layout h n leaf e = subst (λ m. SpotHolds p layouts (spot t m layout leaf)) (from_none n) (at_leaf (λ n leaf. spot t n layout leaf ∷ []) 0 layout.leaves h n leaf e).0

  all_leaf : (spot : ℕ → ℕ → Layout → Leaf → Spot) (t : ℕ) (layout : Layout) → ((n : ℕ) (leaf : Leaf) → slice_get layout.leaves n ≡ Some leaf → SpotHolds p layouts (spot t n layout leaf)) → All (leaf_spots spot t layout)
  all_leaf spot t layout h = at_leaves (λ n leaf. spot t n layout leaf ∷ []) 0 layout.leaves (λ n leaf e. (subst (λ m. SpotHolds p layouts (spot t m layout leaf)) (sym (from_none n)) (h n leaf e), tt))

  -- a rule that goes by leaves
  by_leaf : (spot : ℕ → ℕ → Layout → Leaf → Spot) → All (by_types (leaf_spots spot) 0 layouts) → EachLeaf layouts (λ t layout n leaf. SpotHolds p layouts (spot t n layout leaf))
  by_leaf spot h t layout n leaf is_layout is_leaf = each_leaf spot t layout (each_type (leaf_spots spot) h t layout is_layout) n leaf is_leaf

  from_leaf : (spot : ℕ → ℕ → Layout → Leaf → Spot) → EachLeaf layouts (λ t layout n leaf. SpotHolds p layouts (spot t n layout leaf)) → All (by_types (leaf_spots spot) 0 layouts)
  from_leaf spot h = all_types (leaf_spots spot) (λ t layout is_layout. all_leaf spot t layout (λ n leaf is_leaf. h t layout n leaf is_layout is_leaf))

  -- Items and types ---------------------------------------------------------------------------------

  at_item : (t n : ℕ) (leaf : Leaf) (i : ℕ) (items : List Item) → All (part_spots t n leaf i items) → (k : ℕ) (item : Item) → slice_get items k ≡ Some item
      → ItemFits p.layouts (open_positions p.types leaf.prov) item
  at_item t n leaf i [] h k item e = absurd cc
  at_item t n leaf i (x ∷ items) h zero item e = subst (λ y. ItemFits p.layouts (open_positions p.types leaf.prov) y) (same_Some x item e) h.0
  at_item t n leaf i (x ∷ items) h (suc k) item e = at_item t n leaf (i + 1) items h.1 k item e

  at_items : (t n : ℕ) (leaf : Leaf) (i : ℕ) (items : List Item) → ((k : ℕ) (item : Item) → slice_get items k ≡ Some item → ItemFits p.layouts (open_positions p.types leaf.prov) item)
      → All (part_spots t n leaf i items)
  at_items t n leaf i [] h = tt
  at_items t n leaf i (x ∷ items) h = (h 0 x refl, at_items t n leaf (i + 1) items (λ k item e. h (suc k) item e))

  at_shape : (t : ℕ) (ds : List DataDecl) → All (shape_spots p.layouts t ds) → (k : ℕ) → k < length ds → HasShape (decl_of p.layouts (t + k))
  at_shape t [] h k lt = absurd (omega (arith, lt))
  at_shape t (d ∷ ds) h zero lt = subst (λ m. HasShape (decl_of p.layouts m)) (sym (none_more t)) h.0
  at_shape t (d ∷ ds) h (suc k) lt = subst (λ m. HasShape (decl_of p.layouts m)) (sym (one_on t k)) (at_shape (t + 1) ds h.1 k (omega (arith, lt)))

  at_shapes : (t : ℕ) (ds : List DataDecl) → ((k : ℕ) → k < length ds → HasShape (decl_of p.layouts (t + k))) → All (shape_spots p.layouts t ds)
  at_shapes t [] h = tt
  at_shapes t (d ∷ ds) h = (
    subst (λ m. HasShape (decl_of p.layouts m)) (none_more t) (h 0 (omega arith)),
    at_shapes (t + 1) ds (λ k lt. subst (λ m. HasShape (decl_of p.layouts m)) (one_on t k) (h (suc k) (omega (arith, lt)))),
  )

  -- The ten rules -----------------------------------------------------------------------------------

  abbrev blocks_spot : ℕ → ℕ → Layout → Leaf → Spot
  blocks_spot t n l leaf = spot.Blocks t n leaf

  abbrev held_spot : ℕ → ℕ → Layout → Leaf → Spot
  held_spot t n l leaf = Held t n leaf

  abbrev pointer_spot : ℕ → ℕ → Layout → Leaf → Spot
  pointer_spot t n l leaf = NoPointer t n leaf

  abbrev items_spots : ℕ → ℕ → Leaf → List Spot
  items_spots t n leaf = part_spots t n leaf 0 (items_of p.layouts t n)

  abbrev a3_at : ℕ → Layout → List Spot
  a3_at = a3_spots p.layouts

  obeys : HoldAtAll p layouts → Obeys p layouts
  obeys h =
      let r10 = apart _ (by_types (λ t layout. Holding t ∷ []) 0 layouts) h in
      let r9 = apart _ (by_types a9_spots 0 layouts) r10.0 in
      let r8 = apart _ (by_types (λ t layout. Splits t layout ∷ []) 0 layouts) r9.0 in
      let r7 = apart _ (by_types (leaf_spots Tests) 0 layouts) r8.0 in
      let r6 = apart _ (by_types (leaf_spots held_spot) 0 layouts) r7.0 in
      let r5 = apart _ (by_types a5_spots 0 layouts) r6.0 in
      let r4 = apart _ (by_types (leaf_spots blocks_spot) 0 layouts) r5.0 in
      let r3 = apart _ (by_types a3_at 0 layouts) r4.0 in
      let r2 = apart (shape_spots p.layouts 0 p.types) (by_types (leaf_spots Root) 0 layouts) r3.0 in
      record {
        a1 = λ t lt. subst (λ m. HasShape (decl_of p.layouts m)) (from_none t) (at_shape 0 p.types r2.0 t lt);
        a2 = by_leaf Root r2.1;
        a3 = λ t layout n leaf is_layout is_leaf i item is_item.
            at_item t n leaf 0 (items_of p.layouts t n)
            (subst (λ m. All (items_spots t m leaf)) (from_none n) (at_leaf (items_spots t) 0 layout.leaves (each_type a3_at r3.1 t layout is_layout) n leaf is_leaf)) i item is_item;
        a4 = by_leaf blocks_spot r4.1;
        a5 = record {
          apart = λ t layout n leaf is_layout is_leaf. each_leaf Apart t layout (each_type a5_spots r5.1 t layout is_layout).1 n leaf is_leaf;
          complete = λ t layout is_layout. (each_type a5_spots r5.1 t layout is_layout).0;
        };
        a6 = by_leaf held_spot r6.1;
        a7 = by_leaf Tests r7.1;
        a8 = λ t layout is_layout. (each_type (λ u l. Splits u l ∷ []) r8.1 t layout is_layout).0;
        a9 = record {
          no_pointer = λ t layout n leaf is_layout is_leaf. each_leaf pointer_spot t layout (each_type a9_spots r9.1 t layout is_layout).1 n leaf is_leaf;
          no_cycle = λ t layout is_layout. (each_type a9_spots r9.1 t layout is_layout).0;
        };
        a10 = λ t layout is_layout. (each_type (λ u l. Holding u ∷ []) r10.1 t layout is_layout).0;
      }

  holds : Obeys p layouts → HoldAtAll p layouts
  holds o =
      let h1 = at_shapes 0 p.types (λ t lt. subst (λ m. HasShape (decl_of p.layouts m)) (sym (from_none t)) (o.a1 t lt)) in
      let h2 = together (shape_spots p.layouts 0 p.types) (by_types (leaf_spots Root) 0 layouts) h1 (from_leaf Root o.a2) in
      let h3 = together _ (by_types a3_at 0 layouts) h2 (all_types a3_at (λ t layout is_layout. at_leaves (items_spots t) 0 layout.leaves (λ n leaf is_leaf.
      subst (λ m. All (items_spots t m leaf)) (sym (from_none n)) (at_items t n leaf 0 (items_of p.layouts t n) (o.a3 t layout n leaf is_layout is_leaf))))) in
      let h4 = together _ (by_types (leaf_spots blocks_spot) 0 layouts) h3 (from_leaf blocks_spot o.a4) in
      let h5 = together _ (by_types a5_spots 0 layouts) h4 (all_types a5_spots (λ t layout is_layout.
      (o.a5.complete t layout is_layout, all_leaf Apart t layout (λ n leaf is_leaf. o.a5.apart t layout n leaf is_layout is_leaf)))) in
      let h6 = together _ (by_types (leaf_spots held_spot) 0 layouts) h5 (from_leaf held_spot o.a6) in
      let h7 = together _ (by_types (leaf_spots Tests) 0 layouts) h6 (from_leaf Tests o.a7) in
      let h8 = together _ (by_types (λ t layout. Splits t layout ∷ []) 0 layouts) h7 (all_types (λ u l. Splits u l ∷ []) (λ t layout is_layout. (o.a8 t layout is_layout, tt))) in
      let h9 = together _ (by_types a9_spots 0 layouts) h8 (all_types a9_spots (λ t layout is_layout.
      (o.a9.no_cycle t layout is_layout, all_leaf pointer_spot t layout (λ n leaf is_leaf. o.a9.no_pointer t layout n leaf is_layout is_leaf)))) in
      together _ (by_types (λ t layout. Holding t ∷ []) 0 layouts) h9 (all_types (λ u l. Holding u ∷ []) (λ t layout is_layout. (o.a10 t layout is_layout, tt)))

pub places_are_all : PlacesAreAll
places_are_all p layouts = (obeys p layouts, holds p layouts)
