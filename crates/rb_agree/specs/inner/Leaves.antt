-- The items of leaves. An item is a word of a leaf with its parts, or a field whose words stand inline. The rules
-- have their own type of items, and what the code has is shown in it.
use Rattle.std.specs.Prelude.{◌≡◌, ℕ, ◌<◌, List, [], map, Option, Some, None, slice_get}
use Rattle.rb_core.specs.Layouts.{WrittenLeaf}
use Rattle.rb_core.specs.declared.layout_decl.LayoutDecl.{LayoutDecl}
use Rattle.rb_layout.specs.Flattening.{decl_of}
use Rattle.rb_layout.specs.Items as I
use Rattle.rb_layout.specs.Items.{item_lists, leaves_in}
use Rattle.rb_agree.specs.declared.items.Item.{Item}
use Rattle.rb_agree.specs.Written.{shown_items}

-- the items of leaves as the rules speak of them, leaf by leaf
abbrev pub shown_leaves : List (List Item) → List (List I.Item)
shown_leaves leaves = map shown_items leaves

-- the items of a leaf as it is written, an outer one before those inside it
abbrev pub leaf_items : WrittenLeaf → List I.Item
leaf_items w = item_lists w.items

-- the items of each of these leaves as they are written, leaf by leaf
abbrev pub items_under : List WrittenLeaf → List (List I.Item)
items_under ws = map leaf_items ws

-- the items of a leaf as the rules speak of them; none where there is no such leaf
abbrev pub items_or_none : Option (List Item) → List I.Item
items_or_none None = []
items_or_none (Some items) = shown_items items

-- the items of the leaves of a type's layout; none where there is no such type
abbrev pub leaves_or_none : Option (List (List Item)) → List (List Item)
leaves_or_none None = []
leaves_or_none (Some leaves) = leaves

-- `written` has for each of the first `count` types the items of each leaf of its layout; none where it has no layout
abbrev pub AreWritten : List LayoutDecl → ℕ → List (List (List Item)) → Type 0
AreWritten decls count written =
    (t : ℕ) → t < count
    → shown_leaves (leaves_or_none (slice_get written t)) ≡ items_under (leaves_in (decl_of decls t))
