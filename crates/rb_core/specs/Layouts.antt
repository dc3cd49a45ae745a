-- Layouts as they are written: their leaves from left to right, and how many items and parts they have. A
-- layout is a tree. A split has an arm for each literal, with a tree under it, and perhaps a tree under
-- `else`. A leaf has a provenance, the pattern of the values that it holds, and items. An item is a word with
-- its parts, or all words of a field, written as the field's path, a list of field numbers. A part that is a
-- pointer has the items of its block. A list is short where a number of 32 bits counts it. A
-- step goes over one layer of what is written, where the results for what is inside it are given.
use Rattle.std.specs.Prelude.{ℕ, ◌+◌, ◌^◌, List, [], ◌∷◌, ◌++◌, map, length, Bool, true, ◌&&◌, nat_lt, Option, Some, None}
use Rattle.std.specs.List.{list_all, flat_map, sum_by}
use Rattle.rb_core.specs.declared.pattern.Pat.{Pat}
use Rattle.rb_core.specs.declared.layout_decl.LayItem.{LayItem}
use Rattle.rb_core.specs.declared.layout_decl.LayItem.TheOpen as I
use Rattle.rb_core.specs.declared.layout_decl.LayItem.TheOpen.{LayItem-F, PartKind-F, PartDecl-F}
use Rattle.rb_core.specs.declared.layout_decl.LayItem.TheFolds.{fold-LayItem}
use Rattle.rb_core.specs.declared.layout_decl.Arm.{Arm, Arm-F}
use Rattle.rb_core.specs.declared.layout_decl.LayTree.{LayTree}
use Rattle.rb_core.specs.declared.layout_decl.LayTree.TheOpen as T
use Rattle.rb_core.specs.declared.layout_decl.LayTree.TheOpen.{LayTree-F}
use Rattle.rb_core.specs.declared.layout_decl.LayTree.TheFolds.{fold-LayTree, fold-Arm}

-- a leaf: the pattern of the values that it holds, and its items
pub record WrittenLeaf : Type 0 where
  pub provenance : Pat
  pub items : List LayItem

-- the leaves of the tree under `else`; none where a split has no `else`
abbrev pub leaves_or_none : Option (List WrittenLeaf) → List WrittenLeaf
leaves_or_none None = []
leaves_or_none (Some ls) = ls

-- the leaves under one layer of an arm
abbrev pub arm_leaves : Arm-F (List WrittenLeaf) (List WrittenLeaf) → List WrittenLeaf
arm_leaves a = a.under

-- the leaves of one layer of a tree, from those of the trees below it: of a split, those under its arms in
-- their order, then those under `else`
abbrev pub leaves_step : LayTree-F (List WrittenLeaf) (List WrittenLeaf) → List WrittenLeaf
leaves_step (T.Split loc arms other) = flat_map (λ ls. ls) arms ++ leaves_or_none other
leaves_step (T.Leaf at p items) = record { provenance = p; items = items } ∷ []

-- the leaves of a layout's tree, from left to right
abbrev pub leaves : LayTree → List WrittenLeaf
leaves = fold-LayTree (List WrittenLeaf) (List WrittenLeaf) leaves_step arm_leaves

-- the leaves under an arm of a split, from left to right
abbrev pub leaves_under : Arm → List WrittenLeaf
leaves_under = fold-Arm (List WrittenLeaf) (List WrittenLeaf) leaves_step arm_leaves

-- the provenances of the leaves under an arm of a split, from left to right
abbrev pub arm_provenances : Arm → List Pat
arm_provenances a = map (λ l. l.provenance) (leaves_under a)

-- the provenances of the leaves of a layout's tree, from left to right
abbrev pub provenances : LayTree → List Pat
provenances tree = map (λ l. l.provenance) (leaves tree)

-- what is written in an item, a part or a list of them: how many items and how many parts there are, nested
-- ones included, and whether each list in it is short
pub record ItemCounts : Type 0 where
  pub items : ℕ
  pub parts : ℕ
  pub short : Bool

-- a list is short: it has fewer than 2^32 members
abbrev pub is_short : {A : Type 0} → List A → Bool
is_short xs = nat_lt (length xs) (2 ^ 32)

-- what is written in a list, from what is written in each of its members, with `items` more items and `parts`
-- more parts counted round them; whether the list itself is short counts too
abbrev pub written_round : ℕ → ℕ → List ItemCounts → ItemCounts
written_round items parts ws = record {
  items = items + sum_by (λ w. w.items) ws;
  parts = parts + sum_by (λ w. w.parts) ws;
  short = is_short ws && list_all (λ w. w.short) ws;
}

-- what is written in a path: no item and no part, in one list
abbrev pub written_path : List ℕ → ItemCounts
written_path path = record { items = 0; parts = 0; short = is_short path }

-- what is written in one layer of what a part holds: of a pointer that of the items of its block, of a number
-- nothing, and of each other a path
abbrev pub kind_step : PartKind-F ItemCounts ItemCounts ItemCounts → ItemCounts
kind_step (I.Const n) = written_path []
kind_step (I.Whole path) = written_path path
kind_step (I.Slice path from bits) = written_path path
kind_step (I.PartKind::Word path word) = written_path path
kind_step (I.Pointer align items) = written_round 0 0 items

-- what is written in a part, from what is written in what it holds: that, with the part itself counted
abbrev pub part_step : PartDecl-F ItemCounts ItemCounts ItemCounts → ItemCounts
part_step p = record { items = p.kind.items; parts = p.kind.parts + 1; short = p.kind.short }

-- what is written in one layer of an item: of a word that of its parts, of the words of a field its path; and
-- the item itself
abbrev pub item_step : LayItem-F ItemCounts ItemCounts ItemCounts → ItemCounts
item_step (I.LayItem::Word width parts) = written_round 1 0 parts
item_step (I.Inline path) = record { items = 1; parts = 0; short = is_short path }

-- what is written in an item, with the items and parts that are nested in it
abbrev pub counts_in : LayItem → ItemCounts
counts_in = fold-LayItem ItemCounts ItemCounts ItemCounts item_step kind_step part_step

-- the items of a leaf are short: so are their list and each list in them, and both their items and their
-- parts, nested ones included, are fewer than 2^32
abbrev pub leaf_is_short : List LayItem → Bool
leaf_is_short items =
    let all = written_round 0 0 (map counts_in items) in
    all.short && (nat_lt all.items (2 ^ 32) && nat_lt all.parts (2 ^ 32))

-- what stands under `else` is short, or a split has no `else`
abbrev pub other_is_short : Option Bool → Bool
other_is_short None = true
other_is_short (Some short) = short

-- what stands under one layer of an arm is short
abbrev pub arm_is_short : Arm-F Bool Bool → Bool
arm_is_short a = a.under

-- one layer of a tree is short, where each entry tells whether the tree in its place is: in a split the steps
-- of its location and its arms are short lists too, and in a leaf the items are short
abbrev pub tree_step : LayTree-F Bool Bool → Bool
tree_step (T.Split loc arms other) =
    is_short loc.steps && (is_short arms && (list_all (λ a. a) arms && other_is_short other))
tree_step (T.Leaf at p items) = leaf_is_short items

-- a layout's tree is short: so is each list in it, the lists of the provenances left aside, the list of all its
-- leaves, and the items of each leaf
abbrev pub is_short_layout : LayTree → Bool
is_short_layout tree = is_short (leaves tree) && fold-LayTree Bool Bool tree_step arm_is_short tree
