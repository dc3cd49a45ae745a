-- A6: a leaf holds what its provenance leaves open, all of it and once: of an integer every bit, of a data type every
-- word. It holds nothing else. A unit of an open position is such a bit, or such a word where the type is a data type;
-- units count from 0. A path is the field numbers that lead to the position.
use Rattle.std.specs.Prelude.{◌≡◌, ℕ, ◌+◌, ◌<◌, ◌&&◌, leb, ltb, ◌==◌, sum, List, map, length, Bool, false, Some, slice_get, if◌then◌else◌}
use Rattle.rb_core.specs.declared.types.Ty.{Ty}
use Rattle.rb_core.specs.declared.types.Ty.TheVariants.{Int, Named}
use Rattle.rb_core.specs.declared.types.DataDecl.{DataDecl}
use Rattle.rb_core.specs.declared.program.Program.{Program}
use Rattle.rb_layout.specs.declared.layout.Layout.{Layout}
use Rattle.rb_layout.specs.declared.layout.Leaf.{Leaf}
use Rattle.rb_layout.specs.declared.layout.Block.{Block}
use Rattle.rb_layout.specs.declared.layout.FlatWord.{FlatWord}
use Rattle.rb_layout.specs.declared.layout.Part.{Part}
use Rattle.rb_layout.specs.declared.layout.Kind.{Kind}
use Rattle.rb_layout.specs.declared.layout.Kind.TheVariants.{Const, Bits, Word, Pointer}
use Rattle.rb_layout.specs.declared.evidence.Why.{Why}
use Rattle.rb_layout.specs.declared.evidence.Why.TheVariants.{NotHeld, HeldTwice, NotOpen}
use Rattle.rb_layout.specs.Positions.{Open, open_positions}
use Rattle.rb_layout.specs.Flattening.{shape_of, same_path, IsOpenIn}
use Rattle.rb_layout.specs.Items.{Item, items_of, paths_of}
use Rattle.rb_layout.specs.Each.{EachLeaf}

-- A part of l bits and of this kind holds unit i of the position at a path, given the type there. Of an integer this
-- is bit i: the part has bits of the integer at just this path, and i is among the l bits from its first bit a on. Of
-- a data type it is word i: the part has that word of the field at just this path. Constants and pointers hold no
-- unit, nor does a part with a word hold one of an integer, or a part with bits one of a data type.
abbrev pub holds_unit : Ty → List ℕ → ℕ → ℕ → Kind → Bool
holds_unit (Int bits) path i l (Const c) = false
holds_unit (Int bits) path i l (Bits p a) = same_path p path && (leb a i && ltb i (a + l))
holds_unit (Int bits) path i l (Word p j) = false
holds_unit (Int bits) path i l (Pointer align b) = false
holds_unit (Named s) path i l (Const c) = false
holds_unit (Named s) path i l (Bits p a) = false
holds_unit (Named s) path i l (Word p j) = same_path p path && (j == i)
holds_unit (Named s) path i l (Pointer align b) = false

-- 1 where the part holds unit i of the position at the path, which has this type, and else 0
abbrev pub times_in_part : Ty → List ℕ → ℕ → Part → ℕ
times_in_part ty path i p = if holds_unit ty path i p.l p.kind then 1 else 0

-- how many parts of a word hold unit i of the position at the path, which has this type
abbrev pub times_in_word : Ty → List ℕ → ℕ → FlatWord → ℕ
times_in_word ty path i f = sum (map (times_in_part ty path i) f.parts)

-- how many parts of a block's words hold unit i of the position at the path, which has this type
abbrev pub times_in_block : Ty → List ℕ → ℕ → Block → ℕ
times_in_block ty path i b = sum (map (times_in_word ty path i) b.words)

-- how many times a leaf holds unit i of the position at the path, which has this type: the parts that hold it, in its
-- root words and its blocks
abbrev pub times_held : Leaf → Ty → List ℕ → ℕ → ℕ
times_held leaf ty path i =
    sum (map (times_in_word ty path i) leaf.root) + sum (map (times_in_block ty path i) leaf.blocks)

-- how many units a position of this type has: an integer its bits, a data type the words of its shape, which are none
-- without a layout
abbrev pub units_of : Program → Ty → ℕ
units_of p (Int bits) = bits
units_of p (Named s) = length (shape_of p.layouts s)

-- each unit of each open position of the leaf's provenance is held by exactly one part of the leaf
abbrev pub HoldsEach : Program → Leaf → Type 0
HoldsEach p leaf = (k : ℕ) (o : Open) (i : ℕ) → slice_get (open_positions p.types leaf.prov) k ≡ Some o
    → i < units_of p o.ty → times_held leaf o.ty o.path i ≡ 1

-- the path is that of an open position of the leaf's provenance
abbrev pub IsOpen : List DataDecl → Leaf → List ℕ → Type 0
IsOpen types leaf path = IsOpenIn (open_positions types leaf.prov) path

-- each path that the items name, as they are written, is that of an open position of the leaf's provenance
abbrev pub HoldsNoOther : List DataDecl → Leaf → List Item → Type 0
HoldsNoOther types leaf items =
    (k : ℕ) (path : List ℕ) → slice_get (paths_of items) k ≡ Some path → IsOpen types leaf path

-- a leaf with these written items passes the rule: each unit is held exactly once, and no path is named that is not
-- open
pub record HoldsOnce (p : Program) (leaf : Leaf) (items : List Item) : Type 0 where
  pub each : HoldsEach p leaf
  pub no_other : HoldsNoOther p.types leaf items

-- the rule: each leaf of each layout holds each unit of its open positions exactly once, and the items that are
-- written for it name no other path
abbrev pub A6 : Program → List Layout → Type 0
A6 p layouts = EachLeaf layouts (λ t layout n leaf. HoldsOnce p leaf (items_of p.layouts t n))

-- the leaf's provenance has an open position with this path, and i is a unit of it
pub record UnitAt (p : Program) (leaf : Leaf) (path : List ℕ) (i : ℕ) : Type 0 where
  pub number : ℕ
  pub place : Open
  pub is_open : slice_get (open_positions p.types leaf.prov) number ≡ Some place
  pub is_path : place.path ≡ path
  pub is_unit : i < units_of p place.ty

-- How a leaf with these written items fails the rule, by the evidence: unit i of the open position at a path is held
-- by no part, or by more than one; or an item names a path that is not open. No other evidence fails the rule.
abbrev pub FailsHeld : Program → Leaf → List Item → Why → Type 0
FailsHeld p leaf items (NotHeld path i) = (u : UnitAt p leaf path i) × (times_held leaf u.place.ty path i ≡ 0)
FailsHeld p leaf items (HeldTwice path i) = (u : UnitAt p leaf path i) × (1 < times_held leaf u.place.ty path i)
FailsHeld p leaf items (NotOpen path) =
    ((k : ℕ) × (slice_get (paths_of items) k ≡ Some path)) × (IsOpen p.types leaf path → ⊥)
FailsHeld p leaf items why = ⊥
