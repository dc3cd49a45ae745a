-- The items of a leaf as they are written, one after the other. An item is a word with its parts, or a field whose
-- words stand inline; what is written behind a pointer are items, too. Paths are lists of field numbers from the root
-- of the leaf's provenance. A step goes over one layer of what is written, where what is inside it is given.
use Rattle.std.specs.Prelude.{ℕ, List, [], ◌∷◌, map, Option, Some, None, slice_get}
use Rattle.std.specs.List.{flat_map}
use Rattle.rb_core.specs.declared.layout_decl.LayItem.{LayItem}
use Rattle.rb_core.specs.declared.layout_decl.LayItem.TheOpen as I
use Rattle.rb_core.specs.declared.layout_decl.LayItem.TheOpen.{LayItem-F, PartKind-F, PartDecl-F}
use Rattle.rb_core.specs.declared.layout_decl.LayItem.TheFolds.{fold-LayItem}
use Rattle.rb_core.specs.declared.layout_decl.LayoutDecl.{LayoutDecl}
use Rattle.rb_core.specs.Layouts.{WrittenLeaf, leaves}
use Rattle.rb_layout.specs.Flattening.{decl_of}

-- What a part is written to hold, apart from what stands behind a pointer: a number; the whole field at a path; k
-- bits of the integer at a path from bit a on, as `Slice path a k`; word j of the field at a path, as
-- `WordOf path j`; or a pointer, of which its alignment in bytes is said.
pub data Content : Type 0 where
  Number : ℕ → Content
  Whole : List ℕ → Content
  Slice : List ℕ → ℕ → ℕ → Content
  WordOf : List ℕ → ℕ → Content
  Address : ℕ → Content

-- a part as it is written: its range of l bits from bit o, and its content
pub record WrittenPart : Type 0 where
  pub o : ℕ
  pub l : ℕ
  pub content : Content

-- an item: a word of so many bits with its parts in their order, or all words of the field at a path
pub data Item : Type 0 where
  AWord : ℕ → List WrittenPart → Item
  AField : List ℕ → Item

-- something, and the items that are written inside it, which are those behind pointers
pub record Around (A : Type 0) : Type 0 where
  pub it : A
  pub inside : List Item

-- the items inside any of these, in their order
abbrev pub items_inside : {A : Type 0} → List (Around A) → List Item
items_inside xs = flat_map (λ x. x.inside) xs

-- content without items inside it
abbrev pub plain : Content → Around Content
plain content = record { it = content; inside = [] }

-- what one layer of a part is written to hold, with the items inside: those behind a pointer, for which the lists of
-- their items are given, and none in any other
abbrev pub content_step : PartKind-F (List Item) (Around Content) (Around WrittenPart) → Around Content
content_step (I.Const c) = plain (Number c)
content_step (I.Whole path) = plain (Whole path)
content_step (I.Slice path a k) = plain (Slice path a k)
content_step (I.PartKind::Word path j) = plain (WordOf path j)
content_step (I.Pointer align items) = record { it = Address align; inside = flat_map (λ item. item) items }

-- a part as it is written, with the items inside what it holds
abbrev pub written_part_step : PartDecl-F (List Item) (Around Content) (Around WrittenPart) → Around WrittenPart
written_part_step p = record { it = record { o = p.o; l = p.l; content = p.kind.it }; inside = p.kind.inside }

-- one layer of an item as a list of items: a word, and after it the items inside its parts; or a field alone
abbrev pub items_step : LayItem-F (List Item) (Around Content) (Around WrittenPart) → List Item
items_step (I.LayItem::Word width parts) = AWord width (map (λ p. p.it) parts) ∷ items_inside parts
items_step (I.Inline path) = AField path ∷ []

-- an item, and after it those inside it, as written
abbrev pub item_list : LayItem → List Item
item_list = fold-LayItem (List Item) (Around Content) (Around WrittenPart) items_step content_step written_part_step

-- the items of a leaf, outer before inner and from left to right; an item's number is its place in this list
abbrev pub item_lists : List LayItem → List Item
item_lists = flat_map item_list

-- the items of a written leaf that may be missing, and none where it is
abbrev pub items_in : Option WrittenLeaf → List Item
items_in None = []
items_in (Some w) = item_lists w.items

-- the written leaves, from left to right, of a declared layout that may be missing, and none where it is
abbrev pub leaves_in : Option LayoutDecl → List WrittenLeaf
leaves_in None = []
leaves_in (Some d) = leaves d.tree

-- the items of leaf n of the layout that is declared for type t; none where there is no such layout or leaf
abbrev pub items_of : List LayoutDecl → ℕ → ℕ → List Item
items_of decls t n = items_in (slice_get (leaves_in (decl_of decls t)) n)

-- the path that content names, as a list: a number and a pointer name none
abbrev pub content_paths : Content → List (List ℕ)
content_paths (Number c) = []
content_paths (Whole path) = path ∷ []
content_paths (Slice path a k) = path ∷ []
content_paths (WordOf path j) = path ∷ []
content_paths (Address align) = []

-- the paths that an item itself names, in their order: those of a word's parts, not of what is behind pointers, or
-- that of a field
abbrev pub item_paths : Item → List (List ℕ)
item_paths (AWord width parts) = flat_map (λ p. content_paths p.content) parts
item_paths (AField path) = path ∷ []

-- the paths that items name, item by item
abbrev pub paths_of : List Item → List (List ℕ)
paths_of = flat_map item_paths
