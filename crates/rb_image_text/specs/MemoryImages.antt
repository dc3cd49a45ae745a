-- The image of root words over a memory: every block with its bytes, in the memory's order. A memory has blocks, each
-- with an address and a size in bytes, and at each address a byte that was written, or none.
use Rattle.std.specs.Prelude.{ℕ, zero, suc, ◌+◌, List, [], ◌∷◌, map, unwrap_or}
use Rattle.rb_bytes.specs.Memory.{Memory, byte_at}
use Rattle.rb_image_text.specs.declared.image.ImageBlock.{ImageBlock}
use Rattle.rb_image_text.specs.declared.image.Image.{Image}

-- the bytes of a memory at so many addresses from `at` on; one that was never written, of which a run's blocks have
-- none, is 0
abbrev pub bytes_over : Memory → ℕ → ℕ → List ℕ
bytes_over m at zero = []
bytes_over m at (suc count) = unwrap_or (byte_at m.bytes at) 0 ∷ bytes_over m (at + 1) count

-- the image's block for a memory's block, given by its address and its size: that address, and the bytes there
abbrev pub block_over : Memory → ℕ × ℕ → ImageBlock
block_over m b = record { at = b.0; bytes = bytes_over m b.0 b.1 }

-- all blocks of a memory with their bytes, in the memory's order
abbrev pub blocks_over : Memory → List ImageBlock
blocks_over m = map (block_over m) m.blocks

-- the image of root words over a memory: the words, and all blocks of the memory with their bytes
abbrev pub memory_image : List ℕ → Memory → Image
memory_image words m = record { root = words; blocks = blocks_over m }
