-- The blocks that constructions ask for, and where they are placed. A construction is an event of a log: a value of a
-- data type was built. Sizes are in bytes; types and leaves are named by their numbers.
use Rattle.std.specs.Prelude.{ℕ, ◌+◌, leb, List, [], ◌∷◌, map, Option, Some, None, slice_get, if◌then◌else◌}
use Rattle.std.specs.List.{flat_map}
use Rattle.rb_core.specs.declared.value.Value.{Value}
use Rattle.rb_core.specs.declared.outcome.Event.{Event}
use Rattle.rb_core.specs.declared.outcome.Event.TheVariants.{Built, Matched}
use Rattle.rb_bytes.specs.Memory.{least_multiple}
use Rattle.rb_bytes.specs.declared.fault.Full.{Full}
use Rattle.rb_layout.specs.declared.layout.Block.{Block}
use Rattle.rb_layout.specs.declared.layout.Leaf.{Leaf}
use Rattle.rb_layout.specs.declared.layout.Layout.{Layout}
use Rattle.rb_layout.specs.Positions.{leaf_of, layout_of}
use Rattle.rb_layout.specs.Words.{size_of}

-- a block that is asked for: its size in bytes, and its alignment, of which its address is to be a multiple
pub record Request : Type 0 where
  pub size : ℕ
  pub align : ℕ

-- the request for a block of a leaf
abbrev pub request_of : Block → Request
request_of b = record { size = size_of b; align = b.align }

-- the leaf with this number among these; None where no number is given or there is no such leaf
abbrev pub leaf_numbered : List Leaf → Option ℕ → Option Leaf
leaf_numbered leaves None = None
leaf_numbered leaves (Some n) = slice_get leaves n

-- the leaf of a value in a layout that may be missing; None where the layout is missing or has no leaf for the value
abbrev pub leaf_in : Option Layout → Value → Option Leaf
leaf_in None v = None
leaf_in (Some layout) v = leaf_numbered layout.leaves (leaf_of layout v)

-- the requests for the blocks of a leaf that may be missing, in the order of their numbers; none where it is
abbrev pub leaf_requests : Option Leaf → List Request
leaf_requests None = []
leaf_requests (Some leaf) = map request_of leaf.blocks

-- the blocks of a value of data type t, as requests: those of its leaf, by number, which is inner before outer; those
-- of its subvalues are not among them, and there are none where it has no leaf
abbrev pub blocks_of : List Layout → ℕ → Value → List Request
blocks_of layouts t v = leaf_requests (leaf_in (layout_of layouts t) v)

-- what one event asks for: a construction the blocks of the value's leaf, a match nothing
abbrev pub requests_at : List Layout → Event → List Request
requests_at layouts (Built t v) = blocks_of layouts t v
requests_at layouts (Matched f at) = []

-- what a log asks for: the blocks of its constructions, in order
abbrev pub requests_of : List Layout → List Event → List Request
requests_of layouts log = flat_map (requests_at layouts) log

-- Where requests end up. `Fits`: all are placed; the address and size of each, in order, and the next free address
-- behind them. `Over`: one does not fit, the first such; the next free address before it, its size and alignment, and
-- the limit.
pub data Laid : Type 0 where
  Fits : (blocks : List (ℕ × ℕ)) → (next : ℕ) → Laid
  Over : Full → Laid

-- a block, with its address and size, before those that are placed after it; what does not fit stays so
abbrev pub block_before : ℕ × ℕ → Laid → Laid
block_before block (Fits blocks next) = Fits (block ∷ blocks) next
block_before block (Over full) = Over full

-- The requests one after the other, where `next` is the next free address: each at the least multiple of its
-- alignment from there on, and the next address behind it. The first that would end beyond `limit` does not fit:
-- `Over` then is the answer, without those placed before it, and none behind it is placed. Without requests `next`
-- stays the next address. An alignment of 0 leads to address 0.
abbrev pub lay : ℕ → ℕ → List Request → Laid
lay limit next [] = Fits [] next
lay limit next (r ∷ rs) =
    let a = least_multiple next r.align in
    if leb (a + r.size) limit
    then block_before (a, r.size) (lay limit (a + r.size) rs)
    else Over (record { next = next; size = r.size; align = r.align; limit = limit })
