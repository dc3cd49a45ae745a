-- Memories that grow by blocks, request by request, and what a node's leaf comes to. A request is for a block, by its
-- size and alignment in bytes; what is laid is a list of blocks, each by its address and size, or over, where one
-- does not fit. `old` and `new` are the memory before and after, `rs` the requests, and `bs` the blocks. A leaf is
-- the form that a layout has for some values, with root words and blocks; each word has parts, which `subs`, the
-- words of the field at a path, and the blocks' addresses fill.
use Rattle.std.specs.Prelude.{◌≡◌, ℕ, ◌<◌, map, List, [], ◌∷◌, ◌++◌, Some, Result, Ok, Err, slice_get}
use Rattle.rb_bytes.specs.Memory.{Memory, IsSize, IsAlign}
use Rattle.rb_bytes.specs.Growth.{Grown}
use Rattle.rb_bytes.specs.declared.fault.Full.{Full as Unplaced}
use Rattle.rb_layout.specs.declared.layout.Block.{Block}
use Rattle.rb_layout.specs.declared.layout.Leaf.{Leaf}
use Rattle.rb_layout.specs.declared.layout.FlatWord.{FlatWord}
use Rattle.rb_layout.specs.declared.layout.Part.{Part}
use Rattle.rb_layout.specs.declared.layout.Kind.TheVariants.{Pointer}
use Rattle.rb_layout.specs.A4.{IsBlockWidth}
use Rattle.rb_layout.specs.Readable.{AreShort}
use Rattle.rb_layout.specs.Words.{size_of}
use Rattle.rb_rel.specs.Placing.{Laid, Over, Request, request_of, block_before, lay}
use Rattle.rb_rel.specs.Storing.{with_blocks, address_at}
use Rattle.rb_coding.specs.declared.fault.EncodeFault.{EncodeFault}
use Rattle.rb_coding.specs.declared.fault.EncodeFault.TheVariants.{Full, Memory as NoMemory}
use Rattle.rb_coding.specs.Encoding.{laid_before}
use Rattle.rb_coding.specs.Packing.{word_made}

-- what is laid, with these blocks in front of it
abbrev pub behind_all : List (ℕ × ℕ) → Laid → Laid
behind_all [] laid = laid
behind_all (b ∷ bs) laid = block_before b (behind_all bs laid)

-- the requests rs were laid as the blocks bs, and the memory has grown by them: whatever requests qs follow are laid
-- in the new memory as they would be behind rs in the old one
pub record Progress (old new : Memory) (rs : List Request) (bs : List (ℕ × ℕ)) : Type 0 where
  pub lays : (qs : List Request) → lay old.limit old.next (rs ++ qs) ≡ behind_all bs (lay new.limit new.next qs)
  pub before : (qs : List Request) → laid_before old.limit old.next (rs ++ qs) ≡ bs ++ laid_before new.limit new.next qs
  pub grown : Grown old new bs new.next

-- one of the requests rs did not fit, as `full` tells, whatever requests qs follow, and the memory has grown by the
-- blocks bs of those before it
pub record Stopped (old new : Memory) (rs : List Request) (full : Unplaced) : Type 0 where
  pub bs : List (ℕ × ℕ)
  pub over : (qs : List Request) → lay old.limit old.next (rs ++ qs) ≡ Over full
  pub before : (qs : List Request) → laid_before old.limit old.next (rs ++ qs) ≡ bs
  pub grown : Grown old new bs full.next

-- blocks that can be placed and filled one after the other: each points to earlier ones alone
pub record ArePlaceable (blocks : List Block) : Type 0 where
  pub short : (b : ℕ) (block : Block) → slice_get blocks b ≡ Some block → AreShort block.words
  pub sizes : (b : ℕ) (block : Block) → slice_get blocks b ≡ Some block → IsSize (size_of block)
  pub aligns : (b : ℕ) (block : Block) → slice_get blocks b ≡ Some block → IsAlign block.align
  pub widths : (b : ℕ) (block : Block) → slice_get blocks b ≡ Some block → (j : ℕ) (f : FlatWord)
      → slice_get block.words j ≡ Some f → IsBlockWidth f.width
  pub below : (b : ℕ) (block : Block) → slice_get blocks b ≡ Some block → (j : ℕ) (f : FlatWord)
      → slice_get block.words j ≡ Some f
      → (k : ℕ) (p : Part) → slice_get f.parts k ≡ Some p → (align c : ℕ) → p.kind ≡ Pointer align c → c < b

-- blocks are placed, at these addresses, and filled with the words that their parts make; or one of them does not
-- fit. Want of memory says nothing of it
abbrev pub ArePlaced : (List ℕ → List ℕ) → List Block → Memory → Memory → Result (List ℕ) EncodeFault → Type 0
ArePlaced subs blocks old new (Ok addresses) =
    (bs : List (ℕ × ℕ)) × (addresses ≡ map (λ (b : ℕ × ℕ). b.0) bs) × Progress old new (map request_of blocks) bs
    × (new ≡ with_blocks (word_made subs (address_at bs)) old blocks)
ArePlaced subs blocks old new (Err (Full full)) = Stopped old new (map request_of blocks) full
ArePlaced subs blocks old new (Err NoMemory) = Unit {0}

-- the blocks of a leaf are placed and filled, and `ws` are its root words; or one of the blocks does not fit. Want of
-- memory says nothing of it
abbrev pub IsMade : (List ℕ → List ℕ) → Leaf → Memory → Memory → Result (List ℕ) EncodeFault → Type 0
IsMade subs leaf old new (Ok ws) =
    (bs : List (ℕ × ℕ)) × Progress old new (map request_of leaf.blocks) bs
    × (new ≡ with_blocks (word_made subs (address_at bs)) old leaf.blocks)
    × (ws ≡ map (word_made subs (address_at bs)) leaf.root)
IsMade subs leaf old new (Err (Full full)) = Stopped old new (map request_of leaf.blocks) full
IsMade subs leaf old new (Err NoMemory) = Unit {0}
