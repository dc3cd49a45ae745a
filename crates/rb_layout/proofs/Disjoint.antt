-- Evidence that fails a rule at a place never stands beside the rule holding there.
use Rattle.std.proofs.Common.{◌≡◌, ℕ, ◌<◌, inl, inr, List, [], ◌∷◌, Option, Some, None, sym, ap, subst, ◌∙◌, arith}
use Rattle.std.specs.Prelude.{◌^◌, ◌⊎◌, slice_get, length}
use Rattle.std.proofs.lemmas.Bool.{cases_order}
use Rattle.std.proofs.lemmas.List.{length-map}
use Rattle.std.proofs.lemmas.Option.{same_Some}
use Rattle.rb_core.specs.declared.types.DataDecl.{DataDecl}
use Rattle.rb_core.specs.declared.program.Program.{Program}
use Rattle.rb_core.specs.declared.layout_decl.LayoutDecl.{LayoutDecl}
use Rattle.rb_bits.specs.Words.{AreDisjoint}
use Rattle.rb_layout.specs.declared.layout.Layout.{Layout}
use Rattle.rb_layout.specs.declared.layout.Leaf.{Leaf}
use Rattle.rb_layout.specs.declared.layout.FlatTree.{FlatTree}
use Rattle.rb_layout.specs.declared.layout.FlatWord.{FlatWord}
use Rattle.rb_layout.specs.declared.evidence.Why.{Why}
use Rattle.rb_layout.specs.declared.evidence.Why.TheVariants.{NoLayout, ShapeWidth, WordCount, WordWidth, Outside, Overlap, ConstWide, Misfit, BlockWord, BlockWords, Blocks, Align, ShortPointer, Common, NoLeaf, NotHeld, HeldTwice, NotOpen, Unresolved, NotKnown, NotExcluded, LiteralWide, LiteralTwice, NoArm, HasPointer, FlatCycle, HoldCycle}
use Rattle.rb_layout.specs.Positions.{Open}
use Rattle.rb_layout.specs.Items.{Content, WrittenPart, Item, AWord, AField}
use Rattle.rb_layout.specs.Splits.{Test, Is, IsNone}
use Rattle.rb_layout.specs.Cycles.{HasNoCycle, IsCycle, IsCycleFrom}
use Rattle.rb_layout.specs.A1.{HasShape, FailsShape}
use Rattle.rb_layout.specs.A2.{HasRoot, FailsRoot}
use Rattle.rb_layout.specs.A3.{ItemFits, FailsItem, PartsFit, FailsParts, Fits, LiesIn, PartAt, Overlaps, IsIn}
use Rattle.rb_layout.specs.A4.{HasBlocks, FailsBlocks, IsBlockLength, IsBlockWidth}
use Rattle.rb_layout.specs.A5.{IsComplete, FailsComplete, IsApart, FailsApart}
use Rattle.rb_layout.specs.A6.{HoldsOnce, FailsHeld, times_held}
use Rattle.rb_layout.specs.A7.{MeetsTest, FailsTest, MeetsAll, FailsTests}
use Rattle.rb_layout.specs.A8.{AllSplitWell, FailsSplits, length_of}
use Rattle.rb_layout.specs.A9.{FlattensNoPointer, FailsNoPointer, FailsFlattening, Flattens}
use Rattle.rb_layout.specs.A10.{HoldsField, FailsHolding}
use Rattle.rb_layout.specs.Spots.{Spot, Shape, Root, Parts, Complete, Apart, Held, Tests, Splits, Flattening, NoPointer, Holding, SpotHolds, SpotFails}
use Rattle.rb_layout.specs.Spots as spot

not_shape : (d : Option LayoutDecl) (why : Why) → HasShape d → FailsShape d why → ⊥
not_shape None NoLayout h f = h
not_shape (Some d) (ShapeWidth i w) h f = f.1 (h i w f.0)
not_shape d why h f = f

not_root : (shape : List ℕ) (leaf : Leaf) (why : Why) → HasRoot shape leaf → FailsRoot shape leaf why → ⊥
not_root shape leaf (WordCount wanted found) h f =
    f.2 (f.0 ∙ ap (λ (ws : List ℕ). length ws) (sym h) ∙ length-map leaf.root (λ (g : FlatWord). g.width) ∙ sym f.1)
not_root shape leaf (WordWidth i width wanted) h f =
    f.2 (same_Some width wanted (sym f.0 ∙ ap (λ (ws : List ℕ). slice_get ws i) h ∙ f.1))
not_root shape leaf why h f = f

apart_bits : (o l b m i : ℕ) → AreDisjoint o l b m → IsIn o l i → IsIn b m i → ⊥
apart_bits o l b m i (inl le) p q = omega arith
apart_bits o l b m i (inr le) p q = omega arith

begins_apart : {o b j k : ℕ} → o ≡ b → j ≡ k → ((o < b) ⊎ ((o ≡ b) × (j < k))) → ⊥
begins_apart e f (inl lt) = omega (arith, e, lt)
begins_apart e f (inr both) = omega (arith, f, both.1)

-- what is said of a part's range
at_range : (P : ℕ → ℕ → Type 0) {opens : List Open} {parts : List WrittenPart} {o l : ℕ} (p : PartAt opens parts o l) → P p.part.o p.part.l → P o l
at_range P {opens} {parts} {o} {l} p h = subst (λ k. P o k) p.length (subst (λ k. P k p.part.l) p.from h)

module _ (decls : List LayoutDecl) (opens : List Open) where
  -- the two parts stand at different numbers, in either order
  not_either : (width : ℕ) (parts : List WrittenPart) → PartsFit decls opens width parts → (o l b m : ℕ) (x : Overlaps opens parts o l b m)
      → ((x.first.number ≡ x.second.number) ⊎ ((x.first.number < x.second.number) ⊎ (x.second.number < x.first.number))) → ⊥
  not_either width parts h o l b m x (inl same) =
      let one = same_Some x.first.part x.second.part (sym x.first.is_part ∙ ap (λ k. slice_get parts k) same ∙ x.second.is_part) in
      begins_apart (sym x.first.from ∙ ap (λ (p : WrittenPart). p.o) one ∙ x.second.from) same x.order
  not_either width parts h o l b m x (inr (inl lt)) =
      let apart = h.disjoint x.first.number x.second.number x.first.part x.second.part lt x.first.is_part x.second.is_part x.first.placed x.second.placed in
      apart_bits o l b m x.bit
      (at_range (λ b m. AreDisjoint o l b m) x.second (at_range (λ o l. AreDisjoint o l x.second.part.o x.second.part.l) x.first apart)) x.in_first x.in_second
  not_either width parts h o l b m x (inr (inr lt)) =
      let apart = h.disjoint x.second.number x.first.number x.second.part x.first.part lt x.second.is_part x.first.is_part x.second.placed x.first.placed in
      apart_bits b m o l x.bit
      (at_range (λ o l. AreDisjoint b m o l) x.first (at_range (λ b m. AreDisjoint b m x.first.part.o x.first.part.l) x.second apart)) x.in_second x.in_first

  not_overlap : (width : ℕ) (parts : List WrittenPart) → PartsFit decls opens width parts → (o l b m : ℕ) → Overlaps opens parts o l b m → ⊥
  not_overlap width parts h o l b m x = not_either width parts h o l b m x (cases_order x.first.number x.second.number)

  not_parts : (width : ℕ) (parts : List WrittenPart) (why : Why) → PartsFit decls opens width parts → FailsParts decls opens width parts why → ⊥
  not_parts width parts (Outside i o l) h f = f.1 (at_range (λ (o l : ℕ). LiesIn width o l) f.0 (h.inside f.0.number f.0.part f.0.is_part f.0.placed))
  not_parts width parts (Overlap i o l b m) h f = not_overlap width parts h o l b m f
  not_parts width parts (ConstWide i c l) h f =
      let fit = subst (λ (x : Content). Fits decls opens f.1.part.l x) f.2 (h.fit f.1.number f.1.part f.1.is_part) in
      f.3 (subst (λ k. c < 2 ^ k) f.1.length fit)
  not_parts width parts (Misfit i o l path) h f = f.2 (subst (λ k. Fits decls opens k f.0.part.content) f.0.length (h.fit f.0.number f.0.part f.0.is_part))
  not_parts width parts why h f = f

  not_item : (i : ℕ) (item : Item) (why : Why) → ItemFits decls opens item → FailsItem decls opens i item why → ⊥
  not_item i (AWord width parts) why h f = not_parts width parts why h f.1
  not_item i (AField path) why h f = f

not_blocks : (leaf : Leaf) (why : Why) → HasBlocks leaf → FailsBlocks leaf why → ⊥
not_blocks leaf (BlockWord w) h (b, block, j, f, is_block, is_word, is_width, bad) = bad (subst IsBlockWidth is_width (h.widths b block j f is_block is_word))
not_blocks leaf (BlockWords n) h (b, block, is_block, is_length, bad) = bad (subst IsBlockLength is_length (h.lengths b block is_block))
not_blocks leaf (Blocks n) h f = omega (arith, h.count, f.0, f.1)
not_blocks leaf (Align align) h (r, l, b, points, bad) = bad (h.alignments r l align b points)
not_blocks leaf (ShortPointer n) h (r, l, align, b, points, power, short) = omega (arith, h.wide r l align b points power.0 power.1, power.2, short)
not_blocks leaf why h f = f

module _ (types : List DataDecl) (layouts : List Layout) where
  not_complete : (t : ℕ) (layout : Layout) (why : Why) → IsComplete types t layout → FailsComplete types t layout why → ⊥
  not_complete t layout (NoLeaf q) h f = f.none f.value f.typed f.matched (h f.value f.typed)
  not_complete t layout why h f = f

  not_apart : (t : ℕ) (layout : Layout) (n : ℕ) (leaf : Leaf) (why : Why) → IsApart types t layout n leaf → FailsApart types t layout n leaf why → ⊥
  not_apart t layout n leaf (Common m) h f = h m f.1 f.0 f.2 f.3
  not_apart t layout n leaf why h f = f

  not_test : (leaf : Leaf) (test : Test) (why : Why) → MeetsTest types layouts leaf test → FailsTest types layouts leaf test why → ⊥
  not_test leaf (Is at c) (Unresolved loc) h f = let e = sym f.1 ∙ h.0.1 in cc
  not_test leaf (Is at c) (NotKnown loc d) h f = f.2 h.1
  not_test leaf (IsNone at literals) (Unresolved loc) h f = let e = sym f.1 ∙ h.0.1 in cc
  not_test leaf (IsNone at literals) (NotExcluded loc c) h f = f.2 (h.1 c f.1)
  not_test leaf test why h f = f

  not_tests : (tree : FlatTree) (n : ℕ) (leaf : Leaf) (why : Why) → MeetsAll types layouts tree n leaf → FailsTests types layouts tree n leaf why → ⊥
  not_tests tree n leaf why h f = not_test leaf f.0 why (h f.0 f.1) f.2

  not_no_pointer : (leaf : Leaf) (why : Why) → FlattensNoPointer layouts leaf → FailsNoPointer layouts leaf why → ⊥
  not_no_pointer leaf (HasPointer s) h f = h s f.0 f.1
  not_no_pointer leaf why h f = f

no_cycle : (R : ℕ → ℕ → Type 0) (t : ℕ) (ts : List ℕ) → HasNoCycle R t → IsCycleFrom R t ts → ⊥
no_cycle R t [] h f = f
no_cycle R t (s ∷ ts) h f = h ts (subst (λ k. IsCycle R (k ∷ ts)) f.0 f.1)

not_held : (p : Program) (leaf : Leaf) (items : List Item) (why : Why) → HoldsOnce p leaf items → FailsHeld p leaf items why → ⊥
not_held p leaf items (NotHeld path i) h f =
    let once = h.each f.0.number f.0.place i f.0.is_open f.0.is_unit in
    let none = ap (λ (q : List ℕ). times_held leaf f.0.place.ty q i) f.0.is_path ∙ f.1 in
    omega (arith, once, none)
not_held p leaf items (HeldTwice path i) h f =
    let once = sym (ap (λ (q : List ℕ). times_held leaf f.0.place.ty q i) f.0.is_path) ∙ h.each f.0.number f.0.place i f.0.is_open f.0.is_unit in
    omega (arith, once, f.1)
not_held p leaf items (NotOpen path) h f = f.1 (h.no_other f.0.0 path f.0.1)
not_held p leaf items why h f = f

not_splits : (layout : Layout) (why : Why) → AllSplitWell layout → FailsSplits layout why → ⊥
not_splits layout (LiteralWide loc c) h f = f.2 (subst (λ at. c < 2 ^ length_of at) f.0.is_loc ((h f.0.number f.0.split f.0.is_split).fit f.1.0 c f.1.1))
not_splits layout (LiteralTwice loc c) h (s, j, k, lt, at_j, at_k) = (h s.number s.split s.is_split).distinct j k c lt at_j at_k
not_splits layout (NoArm loc) h f = f.1 (h f.0.number f.0.split f.0.is_split).arm
not_splits layout why h f = f

module _ (p : Program) (layouts : List Layout) where
  not_flattening : (t : ℕ) (why : Why) → HasNoCycle (Flattens layouts) t → FailsFlattening layouts t why → ⊥
  not_flattening t (FlatCycle ts) h f = no_cycle (Flattens layouts) t ts h f
  not_flattening t why h f = f

  not_holding : (t : ℕ) (why : Why) → HasNoCycle (HoldsField p.types layouts) t → FailsHolding p.types layouts t why → ⊥
  not_holding t (HoldCycle ts) h f = no_cycle (HoldsField p.types layouts) t ts h f
  not_holding t why h f = f

  -- at one place
  pub not_beside : (s : Spot) (why : Why) → SpotHolds p layouts s → SpotFails p layouts s why → ⊥
  not_beside (Shape t decl) why h f = not_shape decl why h f
  not_beside (Root t n layout leaf) why h f = not_root layout.shape leaf why h f
  not_beside (Parts t n i leaf item) why h f = not_item p.layouts _ i item why h f
  not_beside (spot.Blocks t n leaf) why h f = not_blocks leaf why h f
  not_beside (Complete t layout) why h f = not_complete p.types layouts t layout why h f
  not_beside (Apart t n layout leaf) why h f = not_apart p.types layouts t layout n leaf why h f
  not_beside (Held t n leaf) why h f = not_held p leaf _ why h f
  not_beside (Tests t n layout leaf) why h f = not_tests p.types layouts layout.tree n leaf why h f
  not_beside (Splits t layout) why h f = not_splits layout why h f
  not_beside (Flattening t) why h f = not_flattening t why h f
  not_beside (NoPointer t n leaf) why h f = not_no_pointer p.types layouts leaf why h f
  not_beside (Holding t) why h f = not_holding t why h f
