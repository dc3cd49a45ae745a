-- The places that are checked, in their order: by rule, type, leaf and item, those without a leaf before those with
-- one. A place is where one rule, or one half of a rule, is asked of one type, leaf or item. Types, leaves and items
-- are named by their numbers, from 0. Evidence says what fails a rule at a place; a refusal names the rule, the type,
-- the leaf if the place has one, and the evidence.
use Rattle.std.specs.Prelude.{◌≡◌, ℕ, ◌+◌, ◌⊎◌, ◌↔◌, List, [], ◌∷◌, ◌++◌, Option, Some, None}
use Rattle.rb_core.specs.declared.types.DataDecl.{DataDecl}
use Rattle.rb_core.specs.declared.program.Program.{Program}
use Rattle.rb_core.specs.declared.layout_decl.LayoutDecl.{LayoutDecl}
use Rattle.rb_layout.specs.declared.layout.Layout.{Layout}
use Rattle.rb_layout.specs.declared.layout.Leaf.{Leaf}
use Rattle.rb_layout.specs.declared.evidence.Why.{Why}
use Rattle.rb_layout.specs.declared.evidence.Refused.{Refused}
use Rattle.rb_layout.specs.Positions.{open_positions}
use Rattle.rb_layout.specs.Flattening.{decl_of}
use Rattle.rb_layout.specs.Items.{Item, items_of}
use Rattle.rb_layout.specs.Agreement.{Obeys}
use Rattle.rb_layout.specs.Cycles.{HasNoCycle, HasListed}
use Rattle.rb_layout.specs.A1.{HasShape, FailsShape}
use Rattle.rb_layout.specs.A2.{HasRoot, FailsRoot}
use Rattle.rb_layout.specs.A3.{ItemFits, FailsItem}
use Rattle.rb_layout.specs.A4.{HasBlocks, FailsBlocks}
use Rattle.rb_layout.specs.A5.{IsComplete, FailsComplete, IsApart, FailsApart}
use Rattle.rb_layout.specs.A6.{HoldsOnce, FailsHeld}
use Rattle.rb_layout.specs.A7.{MeetsAll, FailsTests}
use Rattle.rb_layout.specs.A8.{AllSplitWell, FailsSplits}
use Rattle.rb_layout.specs.A9.{Flattens, FlattensNoPointer, FailsNoPointer, FailsFlattening}
use Rattle.rb_layout.specs.A10.{HoldsField, FailsHolding}

-- A place at which a rule is checked, with what is checked there: t is the type's number, n the leaf's, i the item's.
-- `Shape` asks for a declared layout and its widths, `Root` for a leaf's root words, `Parts` for the parts of an
-- item, `Blocks` for a leaf's blocks and pointers. `Complete` asks that each value has a leaf, `Apart` that a leaf
-- has no value in common with a later one. `Held` asks for what a leaf holds, `Tests` for what the splits above a
-- leaf demand of it, `Splits` for the splits of a layout. `Flattening` asks that no cycle of types that flatten each
-- other goes through a type, `NoPointer` that the types that a leaf flattens have no pointer, and `Holding` that no
-- cycle of types that hold each other in root words goes through a type.
pub data Spot : Type 0 where
  Shape : (t : ℕ) (decl : Option LayoutDecl) → Spot  -- A1
  Root : (t n : ℕ) (layout : Layout) (leaf : Leaf) → Spot  -- A2
  Parts : (t n i : ℕ) (leaf : Leaf) (item : Item) → Spot  -- A3
  Blocks : (t n : ℕ) (leaf : Leaf) → Spot  -- A4
  Complete : (t : ℕ) (layout : Layout) → Spot  -- A5
  Apart : (t n : ℕ) (layout : Layout) (leaf : Leaf) → Spot  -- A5
  Held : (t n : ℕ) (leaf : Leaf) → Spot  -- A6
  Tests : (t n : ℕ) (layout : Layout) (leaf : Leaf) → Spot  -- A7
  Splits : (t : ℕ) (layout : Layout) → Spot  -- A8
  Flattening : (t : ℕ) → Spot  -- A9
  NoPointer : (t n : ℕ) (leaf : Leaf) → Spot  -- A9
  Holding : (t : ℕ) → Spot  -- A10

-- what a refusal says of a place: the rule's number from 1 to 10, the type's number, and the leaf's where the place
-- has a leaf
pub record RefusalPlace : Type 0 where
  pub rule : ℕ
  pub ty : ℕ
  pub leaf : Option ℕ

-- a place of this rule at type t as a whole, without a leaf
abbrev pub of_type : ℕ → ℕ → RefusalPlace
of_type rule t = record { rule = rule; ty = t; leaf = None }

-- a place of this rule at leaf n of type t
abbrev pub of_leaf : ℕ → ℕ → ℕ → RefusalPlace
of_leaf rule t n = record { rule = rule; ty = t; leaf = Some n }

-- what a refusal says of a place: its rule, its type and its leaf; an item's number is said by the evidence
abbrev pub place_of_spot : Spot → RefusalPlace
place_of_spot (Shape t decl) = of_type 1 t
place_of_spot (Root t n layout leaf) = of_leaf 2 t n
place_of_spot (Parts t n i leaf item) = of_leaf 3 t n
place_of_spot (Blocks t n leaf) = of_leaf 4 t n
place_of_spot (Complete t layout) = of_type 5 t
place_of_spot (Apart t n layout leaf) = of_leaf 5 t n
place_of_spot (Held t n leaf) = of_leaf 6 t n
place_of_spot (Tests t n layout leaf) = of_leaf 7 t n
place_of_spot (Splits t layout) = of_type 8 t
place_of_spot (Flattening t) = of_type 9 t
place_of_spot (NoPointer t n leaf) = of_leaf 9 t n
place_of_spot (Holding t) = of_type 10 t

module _ (p : Program) (layouts : List Layout) where
  -- the rule holds at this place, given the program and its flat layouts
  abbrev pub SpotHolds : Spot → Type 0
  SpotHolds (Shape t decl) = HasShape decl
  SpotHolds (Root t n layout leaf) = HasRoot layout.shape leaf
  SpotHolds (Parts t n i leaf item) = ItemFits p.layouts (open_positions p.types leaf.prov) item
  SpotHolds (Blocks t n leaf) = HasBlocks leaf
  SpotHolds (Complete t layout) = IsComplete p.types t layout
  SpotHolds (Apart t n layout leaf) = IsApart p.types t layout n leaf
  SpotHolds (Held t n leaf) = HoldsOnce p leaf (items_of p.layouts t n)
  SpotHolds (Tests t n layout leaf) = MeetsAll p.types layouts layout.tree n leaf
  SpotHolds (Splits t layout) = AllSplitWell layout
  SpotHolds (Flattening t) = HasNoCycle (Flattens layouts) t
  SpotHolds (NoPointer t n leaf) = FlattensNoPointer layouts leaf
  SpotHolds (Holding t) = HasNoCycle (HoldsField p.types layouts) t

  -- the evidence shows that the rule fails at this place, given the program and its flat layouts
  abbrev pub SpotFails : Spot → Why → Type 0
  SpotFails (Shape t decl) why = FailsShape decl why
  SpotFails (Root t n layout leaf) why = FailsRoot layout.shape leaf why
  SpotFails (Parts t n i leaf item) why = FailsItem p.layouts (open_positions p.types leaf.prov) i item why
  SpotFails (Blocks t n leaf) why = FailsBlocks leaf why
  SpotFails (Complete t layout) why = FailsComplete p.types t layout why
  SpotFails (Apart t n layout leaf) why = FailsApart p.types t layout n leaf why
  SpotFails (Held t n leaf) why = FailsHeld p leaf (items_of p.layouts t n) why
  SpotFails (Tests t n layout leaf) why = FailsTests p.types layouts layout.tree n leaf why
  SpotFails (Splits t layout) why = FailsSplits layout why
  SpotFails (Flattening t) why = FailsFlattening layouts t why
  SpotFails (NoPointer t n leaf) why = FailsNoPointer layouts leaf why
  SpotFails (Holding t) why = FailsHolding p.types layouts t why

-- one after another ---------------------------------------------------------------------------

-- the places that `spots` gives for each of these leaves, leaf by leaf; it is given the leaf's number, which is n for
-- the first in the list
abbrev pub by_leaves : (ℕ → Leaf → List Spot) → ℕ → List Leaf → List Spot
by_leaves spots n [] = []
by_leaves spots n (leaf ∷ leaves) = spots n leaf ++ by_leaves spots (n + 1) leaves

-- the places that `spots` gives for each of these layouts, type by type; it is given the type's number, which is t
-- for the first in the list
abbrev pub by_types : (ℕ → Layout → List Spot) → ℕ → List Layout → List Spot
by_types spots t [] = []
by_types spots t (layout ∷ layouts) = spots t layout ++ by_types spots (t + 1) layouts

-- one place for each of these types, in their order, the first of which is type t: there its declared layout is asked
-- for its widths, and where none is declared the place fails
abbrev pub shape_spots : List LayoutDecl → ℕ → List DataDecl → List Spot
shape_spots decls t [] = []
shape_spots decls t (d ∷ ds) = Shape t (decl_of decls t) ∷ shape_spots decls (t + 1) ds

-- the places at which the parts of each of these items of leaf n of type t are checked, item by item; the first in
-- the list is item i
abbrev pub part_spots : ℕ → ℕ → Leaf → ℕ → List Item → List Spot
part_spots t n leaf i [] = []
part_spots t n leaf i (item ∷ items) = Parts t n i leaf item ∷ part_spots t n leaf (i + 1) items

-- one place for each leaf of type t's layout, in the leaves' order: `spot` makes it of the type's and the leaf's
-- number, the layout and the leaf
abbrev pub leaf_spots : (ℕ → ℕ → Layout → Leaf → Spot) → ℕ → Layout → List Spot
leaf_spots spot t layout = by_leaves (λ n leaf. spot t n layout leaf ∷ []) 0 layout.leaves

-- the places at which it is checked that the parts of type t's written words lie in their word, are disjoint and fit
-- what they hold: one for each item of each leaf, by the layouts that are declared
abbrev pub a3_spots : List LayoutDecl → ℕ → Layout → List Spot
a3_spots decls t layout = by_leaves (λ n leaf. part_spots t n leaf 0 (items_of decls t n)) 0 layout.leaves

-- the places at which it is checked that each value of type t has just one leaf: first that each has one, then leaf
-- by leaf that none has a later one as well
abbrev pub a5_spots : ℕ → Layout → List Spot
a5_spots t layout = Complete t layout ∷ leaf_spots Apart t layout

-- the places at which the types that type t takes apart in its provenances are checked: first that type t is on no
-- cycle of types that flatten each other, then leaf by leaf that the types that it flattens have no pointer
abbrev pub a9_spots : ℕ → Layout → List Spot
a9_spots t layout = Flattening t ∷ leaf_spots (λ u n l leaf. NoPointer u n leaf) t layout

-- all places of a program with these flat layouts, in the order in which they are checked: rule by rule, in each rule
-- type by type, and in each type what has no leaf first
abbrev pub all_spots : Program → List Layout → List Spot
all_spots p layouts =
    shape_spots p.layouts 0 p.types
    ++ by_types (leaf_spots Root) 0 layouts
    ++ by_types (a3_spots p.layouts) 0 layouts
    ++ by_types (leaf_spots (λ t n l leaf. Blocks t n leaf)) 0 layouts
    ++ by_types a5_spots 0 layouts
    ++ by_types (leaf_spots (λ t n l leaf. Held t n leaf)) 0 layouts
    ++ by_types (leaf_spots Tests) 0 layouts
    ++ by_types (λ t layout. Splits t layout ∷ []) 0 layouts
    ++ by_types a9_spots 0 layouts
    ++ by_types (λ t layout. Holding t ∷ []) 0 layouts

-- What checking places in their order comes to. None: the rules hold at all of them, as at no places at all. A place
-- with its evidence: it is the first at which the rule fails, by this evidence, and the rules hold at those before
-- it; nothing is said of those behind it.
abbrev pub Checked : Program → List Layout → List Spot → Option (Spot × Why) → Type 0
Checked p layouts [] None = Unit {0}
Checked p layouts [] (Some found) = ⊥
Checked p layouts (s ∷ ss) None = SpotHolds p layouts s × Checked p layouts ss None
Checked p layouts (s ∷ ss) (Some found) =
    ((found.0 ≡ s) × SpotFails p layouts s found.1) ⊎ (SpotHolds p layouts s × Checked p layouts ss (Some found))

-- the rules hold at all places of a program with these flat layouts
abbrev pub HoldAtAll : Program → List Layout → Type 0
HoldAtAll p layouts = Checked p layouts (all_spots p layouts) None

-- a refusal names this place, by its rule, type and leaf, and gives this evidence
abbrev pub IsRefusalAt : Refused → Spot → Why → Type 0
IsRefusalAt r spot why = (record { rule = r.rule; ty = r.ty; leaf = r.leaf } ≡ place_of_spot spot) × (r.why ≡ why)

-- a program with these flat layouts is refused: the refusal names the first place at which a rule fails, with
-- evidence that shows it
abbrev pub IsRefusedBy : Program → List Layout → Refused → Type 0
IsRefusedBy p layouts r =
    (spot : Spot) × Checked p layouts (all_spots p layouts) (Some (spot, r.why)) × IsRefusalAt r spot r.why

-- the law: at no place does a rule hold while some evidence shows that it fails there
abbrev pub NeverBeside : Type 0
NeverBeside = (p : Program) (layouts : List Layout) (spot : Spot) (why : Why) → SpotHolds p layouts spot
    → SpotFails p layouts spot why → ⊥

-- the law: where types flatten each other in a cycle, or hold each other in root words, there is a cycle to list from
-- each of its types on, with each type once
abbrev pub CyclesAreListed : Type 0
CyclesAreListed = (types : List DataDecl) (layouts : List Layout) → HasListed (Flattens layouts)
    × HasListed (HoldsField types layouts)

-- the law: the rules hold at all places exactly where the layouts obey all ten of them
abbrev pub PlacesAreAll : Type 0
PlacesAreAll = (p : Program) (layouts : List Layout) → HoldAtAll p layouts ↔ Obeys p layouts
