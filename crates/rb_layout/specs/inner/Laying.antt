-- What is laid behind what is there: how code that adds to words, parts and blocks meets the flat forms. A laying
-- says what is placed of a leaf, things such as words or parts and the blocks with them, given how many blocks stand
-- before.
use Rattle.std.specs.Prelude.{◌≡◌, ℕ, List, ◌++◌, Option, length, map}
use Rattle.rb_core.specs.declared.pattern.Pat.{Pat}
use Rattle.rb_core.specs.declared.program.Program.{Program}
use Rattle.rb_core.specs.declared.layout_decl.LayItem.{LayItem}
use Rattle.rb_core.specs.declared.layout_decl.PartDecl.{PartDecl}
use Rattle.rb_core.specs.declared.layout_decl.PartKind.{PartKind}
use Rattle.rb_core.specs.declared.layout_decl.Arm.{Arm}
use Rattle.rb_core.specs.Layouts.{WrittenLeaf}
use Rattle.rb_layout.specs.declared.layout.Block.{Block}
use Rattle.rb_layout.specs.declared.layout.FlatArm.{FlatArm}
use Rattle.rb_layout.specs.declared.layout.FlatWord.{FlatWord}
use Rattle.rb_layout.specs.declared.layout.Kind.{Kind}
use Rattle.rb_layout.specs.declared.layout.Leaf.{Leaf}
use Rattle.rb_layout.specs.declared.layout.Part.{Part}
use Rattle.rb_layout.specs.Positions.{open_positions}
use Rattle.rb_layout.specs.Flattening.{WithBlocks, Laying, arm_numbering, flat_leaf, in_turn, words_inlined, item_laid, items_laid, kind_laid, part_laid, type_at}

-- what is placed, its things behind the things xs and its blocks behind these blocks
abbrev pub behind : {A : Type 0} → List A → List Block → WithBlocks (List A) → WithBlocks (List A)
behind xs blocks laid = record { it = xs ++ laid.it; blocks = blocks ++ laid.blocks }

-- Code that lays something has the things xs and the blocks `old` before, and the things ys and the blocks `new`
-- after: ys are xs with the laid things behind them, and `new` are `old` with the laid blocks behind them. The laying
-- is told how many blocks stand before, which is the length of `old`.
abbrev pub Lays : {A : Type 0} → List A → List A → List Block → List Block → Laying (List A) → Type 0
Lays xs ys old new lay =
    ◌≡◌ {A = WithBlocks (List _)} (record { it = ys; blocks = new }) (behind xs old (lay (length old)))

-- Code lays what a part holds, if anything: `kind` is what the laying gives, and the blocks `new` are the blocks
-- `old` with those of the laying behind them.
abbrev pub LaysKind : Option Kind → List Block → List Block → Laying (Option Kind) → Type 0
LaysKind kind old new lay = (kind ≡ (lay (length old)).it) × (new ≡ old ++ (lay (length old)).blocks)

-- What a program's leaf with this provenance places ------------------------------------------------

-- the words of items in a program's leaf with this provenance, and the blocks behind their pointers
abbrev pub items_for : Program → Pat → List LayItem → Laying (List FlatWord)
items_for p prov = items_laid p.layouts (open_positions p.types prov)

-- the words of an item in a program's leaf with this provenance, and the blocks behind its pointers
abbrev pub item_for : Program → Pat → LayItem → Laying (List FlatWord)
item_for p prov = item_laid p.layouts (open_positions p.types prov)

-- the parts of a word in a program's leaf with this provenance, and the blocks behind them; a part whose path is not
-- open places nothing
abbrev pub parts_for : Program → Pat → List PartDecl → Laying (List Part)
parts_for p prov parts = in_turn (map (part_laid p.layouts (open_positions p.types prov)) parts)

-- a part in a program's leaf with this provenance, as a list that is empty where its path is not open, and the blocks
-- behind it
abbrev pub part_for : Program → Pat → PartDecl → Laying (List Part)
part_for p prov = part_laid p.layouts (open_positions p.types prov)

-- what a part holds in a program's leaf with this provenance, if anything, and the blocks behind it
abbrev pub kind_for : Program → Pat → PartKind → Laying (Option Kind)
kind_for p prov = kind_laid p.layouts (open_positions p.types prov)

-- the words of the field at a path in a program's leaf with this provenance; none where the path is not open
abbrev pub field_for : Program → Pat → List ℕ → List FlatWord
field_for p prov path = words_inlined p.layouts (type_at (open_positions p.types prov) path) path

-- the flat form of a program's leaf with this provenance and these items
abbrev pub leaf_for : Program → Pat → List LayItem → Leaf
leaf_for p prov items = flat_leaf p.types p.layouts (record { provenance = prov; items = items })

-- the flat forms of a program's written leaves, in their order
abbrev pub leaves_for : Program → List WrittenLeaf → List Leaf
leaves_for p written = map (flat_leaf p.types p.layouts) written

-- the flat form of a written arm, where n leaves stand to the left of it
abbrev pub arm_for : Arm → ℕ → FlatArm
arm_for arm n = record { literal = arm.literal; under = (arm_numbering arm).of.from n }
