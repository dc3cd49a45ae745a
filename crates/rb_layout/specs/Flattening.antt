-- The flat form of layouts as they are written. `decls` are the layouts that a program declares, `opens` the open
-- positions of a leaf's provenance: wildcards and variables, each with its path of field numbers and its type. Blocks
-- of a leaf are numbered as they are placed, those inside a block before it; leaves are numbered from left to right.
-- A step goes over one layer of what is written, where the results for what is inside it are given.
use Rattle.std.specs.Prelude.{◌≡◌, ℕ, ◌<◌, ◌+◌, ◌==◌, ◌&&◌, List, [], ◌∷◌, ◌++◌, map, length, slice_get, sum_by, Bool, true, false, Option, Some, None, if◌then◌else◌}
use Rattle.rb_core.specs.declared.types.Ty.{Ty}
use Rattle.rb_core.specs.declared.types.Ty.TheVariants.{Int, Named}
use Rattle.rb_core.specs.declared.types.DataDecl.{DataDecl}
use Rattle.rb_core.specs.declared.program.Program.{Program}
use Rattle.rb_core.specs.declared.layout_decl.LayItem.{LayItem}
use Rattle.rb_core.specs.declared.layout_decl.LayItem.TheOpen as I
use Rattle.rb_core.specs.declared.layout_decl.LayItem.TheOpen.{LayItem-F, PartKind-F, PartDecl-F}
use Rattle.rb_core.specs.declared.layout_decl.LayItem.TheFolds.{fold-LayItem, fold-PartKind, fold-PartDecl}
use Rattle.rb_core.specs.declared.layout_decl.PartKind.{PartKind}
use Rattle.rb_core.specs.declared.layout_decl.PartDecl.{PartDecl}
use Rattle.rb_core.specs.declared.layout_decl.Arm.{Arm, Arm-F}
use Rattle.rb_core.specs.declared.layout_decl.LayTree.{LayTree}
use Rattle.rb_core.specs.declared.layout_decl.LayTree.TheOpen as T
use Rattle.rb_core.specs.declared.layout_decl.LayTree.TheOpen.{LayTree-F}
use Rattle.rb_core.specs.declared.layout_decl.LayTree.TheFolds.{fold-LayTree, fold-Arm}
use Rattle.rb_core.specs.declared.layout_decl.LayoutDecl.{LayoutDecl}
use Rattle.rb_core.specs.Layouts.{WrittenLeaf, leaves}
use Rattle.rb_layout.specs.declared.layout.Layout.{Layout}
use Rattle.rb_layout.specs.declared.layout.FlatTree.{FlatTree}
use Rattle.rb_layout.specs.declared.layout.FlatTree.TheVariants as Flat
use Rattle.rb_layout.specs.declared.layout.FlatArm.{FlatArm}
use Rattle.rb_layout.specs.declared.layout.Leaf.{Leaf}
use Rattle.rb_layout.specs.declared.layout.Block.{Block}
use Rattle.rb_layout.specs.declared.layout.FlatWord.{FlatWord}
use Rattle.rb_layout.specs.declared.layout.Part.{Part}
use Rattle.rb_layout.specs.declared.layout.Kind.{Kind}
use Rattle.rb_layout.specs.declared.layout.Kind.TheVariants.{Const, Bits, Word, Pointer}
use Rattle.rb_layout.specs.Positions.{Open, open_positions}
use Rattle.rb_layout.specs.Splits.{Under}

-- the first layout that is declared for type t, and None where none is
abbrev pub decl_of : List LayoutDecl → ℕ → Option LayoutDecl
decl_of [] t = None
decl_of (d ∷ ds) t = if d.ty == t then Some d else decl_of ds t

-- the shape of a declared layout that may be missing, and no words where it is
abbrev pub shape_in : Option LayoutDecl → List ℕ
shape_in None = []
shape_in (Some d) = d.shape

-- the widths in bits of the words that type t's values have, as its layout states them; none where it has no layout
abbrev pub shape_of : List LayoutDecl → ℕ → List ℕ
shape_of decls t = shape_in (decl_of decls t)

-- two paths have the same field numbers in the same order
abbrev pub same_path : List ℕ → List ℕ → Bool
same_path [] [] = true
same_path [] (j ∷ q) = false
same_path (i ∷ p) [] = false
same_path (i ∷ p) (j ∷ q) = (i == j) && same_path p q

-- the type of the first of these open positions that has this path; None where the path is not open
abbrev pub type_at : List Open → List ℕ → Option Ty
type_at [] path = None
type_at (o ∷ os) path = if same_path o.path path then Some o.ty else type_at os path

-- the path is that of one of these open positions
abbrev pub IsOpenIn : List Open → List ℕ → Type 0
IsOpenIn opens path = (ty : Ty) × (type_at opens path ≡ Some ty)

-- Leaves --------------------------------------------------------------------------------------

-- what is placed, and the blocks that are placed with it, in the order of their numbers
pub record WithBlocks (A : Type 0) : Type 0 where
  pub it : A
  pub blocks : List Block

-- what is placed of something, given how many blocks of the leaf were placed before
abbrev pub Laying : Type 0 → Type 0
Laying A = ℕ → WithBlocks A

-- something that is placed without any block
abbrev pub without_blocks : {A : Type 0} → A → WithBlocks A
without_blocks x = record { it = x; blocks = [] }

-- several lists of things, placed from left to right as one: each after the blocks of those before it, where n blocks
-- stand before all of them; nothing where there is nothing to place
abbrev pub in_turn : {A : Type 0} → List (Laying (List A)) → Laying (List A)
in_turn [] n = without_blocks []
in_turn (lay ∷ lays) n =
    let first = lay n in
    let rest = in_turn lays (n + length first.blocks) in
    record { it = first.it ++ rest.it; blocks = first.blocks ++ rest.blocks }

-- What holds the whole field at a path, given the type there: of an integer its bits from bit 0 on, of a data type
-- its word 0. None where the path is not open.
abbrev pub whole_kind : Option Ty → List ℕ → Option Kind
whole_kind None path = None
whole_kind (Some (Int bits)) path = Some (Bits path 0)
whole_kind (Some (Named s)) path = Some (Word path 0)

-- what is held, given the type at its path, and None where the path is not open
abbrev pub kind_if_open : Option Ty → Kind → Option Kind
kind_if_open None kind = None
kind_if_open (Some ty) kind = Some kind

-- A pointer of this alignment and its block, given the words behind it with the blocks inside, where n blocks were
-- placed before. The block comes after those inside it, and the pointer has its number.
abbrev pub pointer_to_block : ℕ → ℕ → WithBlocks (List FlatWord) → WithBlocks (Option Kind)
pointer_to_block align n laid = record {
  it = Some (Pointer align (n + length laid.blocks));
  blocks = laid.blocks ++ record { align = align; words = laid.it } ∷ [];
}

-- What one layer of a part holds, with its blocks: a number; a field, a slice or a word of it, where its path is
-- open; or a pointer to the words behind it, which are placed first. Of a slice it is kept at which bit it begins:
-- it is as long as its part, whatever length k is written.
abbrev pub kind_step : List Open → PartKind-F (Laying (List FlatWord)) (Laying (Option Kind)) (Laying (List Part))
    → Laying (Option Kind)
kind_step opens (I.Const c) n = without_blocks (Some (Const c))
kind_step opens (I.Whole path) n = without_blocks (whole_kind (type_at opens path) path)
kind_step opens (I.Slice path a k) n = without_blocks (kind_if_open (type_at opens path) (Bits path a))
kind_step opens (I.PartKind::Word path j) n = without_blocks (kind_if_open (type_at opens path) (Word path j))
kind_step opens (I.Pointer align items) n = pointer_to_block align n (in_turn items n)

-- a part with this range of l bits from bit o, and no part where nothing is held
abbrev pub parts_of : ℕ → ℕ → Option Kind → List Part
parts_of o l None = []
parts_of o l (Some kind) = record { o = o; l = l; kind = kind } ∷ []

-- one layer of a part: the part in its range, or no part where its path is not open, and the blocks behind it
abbrev pub part_step : PartDecl-F (Laying (List FlatWord)) (Laying (Option Kind)) (Laying (List Part))
    → Laying (List Part)
part_step p n =
    let laid = p.kind n in
    record { it = parts_of p.o p.l laid.it; blocks = laid.blocks }

-- a word of this width with one part of full width
abbrev pub full_word : ℕ → Kind → FlatWord
full_word width kind = record { width = width; parts = record { o = 0; l = width; kind = kind } ∷ [] }

-- a word for each of these widths, of full width each, with the words of the field at a path; the first is its word j
abbrev pub inline_words : List ℕ → ℕ → List ℕ → List FlatWord
inline_words path j [] = []
inline_words path j (width ∷ widths) = full_word width (Word path j) ∷ inline_words path (j + 1) widths

-- the words of the field at a path, given the type there: an integer has one, of its width, a data type those of its
-- shape; none where the path is not open, or the data type has no layout
abbrev pub words_inlined : List LayoutDecl → Option Ty → List ℕ → List FlatWord
words_inlined decls None path = []
words_inlined decls (Some (Int bits)) path = full_word bits (Bits path 0) ∷ []
words_inlined decls (Some (Named s)) path = inline_words path 0 (shape_of decls s)

-- the words of one layer of an item, with its blocks: one word with its parts, or the words of a field, which has no
-- block
abbrev pub item_step : List LayoutDecl → List Open
    → LayItem-F (Laying (List FlatWord)) (Laying (Option Kind)) (Laying (List Part)) → Laying (List FlatWord)
item_step decls opens (I.LayItem::Word width parts) n =
    let laid = in_turn parts n in
    record { it = record { width = width; parts = laid.it } ∷ []; blocks = laid.blocks }
item_step decls opens (I.Inline path) n = without_blocks (words_inlined decls (type_at opens path) path)

-- the words of a written item, and the blocks behind its pointers
abbrev pub item_laid : List LayoutDecl → List Open → LayItem → Laying (List FlatWord)
item_laid decls opens =
    fold-LayItem (Laying (List FlatWord)) (Laying (Option Kind)) (Laying (List Part)) (item_step decls opens)
    (kind_step opens) part_step

-- what a written part holds, if anything, and the blocks behind it
abbrev pub kind_laid : List LayoutDecl → List Open → PartKind → Laying (Option Kind)
kind_laid decls opens =
    fold-PartKind (Laying (List FlatWord)) (Laying (Option Kind)) (Laying (List Part)) (item_step decls opens)
    (kind_step opens) part_step

-- a written part in its range, or no part where nothing is held, and the blocks behind it
abbrev pub part_laid : List LayoutDecl → List Open → PartDecl → Laying (List Part)
part_laid decls opens =
    fold-PartDecl (Laying (List FlatWord)) (Laying (Option Kind)) (Laying (List Part)) (item_step decls opens)
    (kind_step opens) part_step

-- the words of written items from left to right, and the blocks behind their pointers
abbrev pub items_laid : List LayoutDecl → List Open → List LayItem → Laying (List FlatWord)
items_laid decls opens items = in_turn (map (item_laid decls opens) items)

-- the flat form of a written leaf: its provenance, its root words, and its blocks, numbered from 0
abbrev pub flat_leaf : List DataDecl → List LayoutDecl → WrittenLeaf → Leaf
flat_leaf types decls w =
    let laid = items_laid decls (open_positions types w.provenance) w.items 0 in
    record { prov = w.provenance; root = laid.it; blocks = laid.blocks }

-- Trees ---------------------------------------------------------------------------------------

-- a tree of splits before its leaves have numbers: how many leaves it has, and its flat form, given how many leaves
-- stand to the left of it
pub record LeafNumbering : Type 0 where
  pub count : ℕ
  pub from : ℕ → FlatTree

-- how many leaves the tree of an `else` has, and 0 where there is none
abbrev pub count_or_none : Option LeafNumbering → ℕ
count_or_none None = 0
count_or_none (Some tree) = tree.count

-- how many leaves stand below arms in all
abbrev pub arms_count : List (Under LeafNumbering) → ℕ
arms_count arms = sum_by (λ (arm : Under LeafNumbering). arm.of.count) arms

-- the flat forms of arms, where n leaves stand to the left of the first of them, and each arm's leaves to the left of
-- the next
abbrev pub arms_from : List (Under LeafNumbering) → ℕ → List FlatArm
arms_from [] n = []
arms_from (arm ∷ arms) n = record { literal = arm.literal; under = arm.of.from n } ∷ arms_from arms (n + arm.of.count)

-- the flat form of the tree of an `else`, where n leaves stand to the left of it; None where there is no `else`
abbrev pub other_from : Option LeafNumbering → ℕ → Option FlatTree
other_from None n = None
other_from (Some tree) n = Some (tree.from n)

-- one layer of a tree: a split, whose arms' leaves come before those of its `else`, or a leaf, which takes the next
-- number
abbrev pub tree_step : LayTree-F LeafNumbering (Under LeafNumbering) → LeafNumbering
tree_step (T.Split loc arms other) = record {
  count = arms_count arms + count_or_none other;
  from = λ n. Flat.Split loc (arms_from arms n) (other_from other (n + arms_count arms));
}
tree_step (T.Leaf at prov items) = record { count = 1; from = λ n. Flat.Leaf n }

-- an arm's literal, with the numbering of the tree below it
abbrev pub arm_step : Arm-F LeafNumbering (Under LeafNumbering) → Under LeafNumbering
arm_step arm = record { literal = arm.literal; of = arm.under }

-- how many leaves a written tree of splits has, and its flat form once its first leaf has a number
abbrev pub numbering : LayTree → LeafNumbering
numbering = fold-LayTree LeafNumbering (Under LeafNumbering) tree_step arm_step

-- a written arm: its literal, how many leaves the tree below it has, and the flat form of that tree once its first
-- leaf has a number
abbrev pub arm_numbering : Arm → Under LeafNumbering
arm_numbering = fold-Arm LeafNumbering (Under LeafNumbering) tree_step arm_step

-- the flat form of a written tree of splits: its leaves have the numbers from 0 on, from left to right
abbrev pub flat_tree : LayTree → FlatTree
flat_tree tree = (numbering tree).from 0

-- Layouts -------------------------------------------------------------------------------------

-- the flat form of a declared layout: its type, its shape, its tree of splits, and its leaves from left to right
abbrev pub flat_layout : Program → LayoutDecl → Layout
flat_layout p d = record {
  ty = d.ty;
  shape = d.shape;
  tree = flat_tree d.tree;
  leaves = map (flat_leaf p.types p.layouts) (leaves d.tree);
}

-- the flat form of a declared layout as a list, which is empty where there is no layout
abbrev pub flat_or_none : Program → Option LayoutDecl → List Layout
flat_or_none p None = []
flat_or_none p (Some d) = flat_layout p d ∷ []

-- the flat forms of the layouts of these types, the first of which is type t; a type without a layout has none and
-- leaves no gap
abbrev pub flat_from : Program → List DataDecl → ℕ → List Layout
flat_from p [] t = []
flat_from p (d ∷ ds) t = flat_or_none p (decl_of p.layouts t) ++ flat_from p ds (t + 1)

-- the flat form of each type's layout, in the types' order; where each type has a layout, that of type t is at place
-- t
abbrev pub flat_layouts : Program → List Layout
flat_layouts p = flat_from p p.types 0

-- each data type of a program has a declared layout
abbrev pub HaveLayouts : Program → Type 0
HaveLayouts p = (t : ℕ) → t < length p.types → (d : LayoutDecl) × (decl_of p.layouts t ≡ Some d)

-- there is one layout for each type of a program, and at place t the flat form of the one that is declared for type t
pub record AreInOrder (p : Program) (layouts : List Layout) : Type 0 where
  pub count : length layouts ≡ length p.types
  pub each : (t : ℕ) (d : LayoutDecl) → t < length p.types → decl_of p.layouts t ≡ Some d
      → slice_get layouts t ≡ Some (flat_layout p d)
