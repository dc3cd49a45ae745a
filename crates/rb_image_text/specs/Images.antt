-- What an image holds, whatever the places of its blocks. An image is root words, those of a value, and blocks of a
-- memory, each given by its address in bytes and by its bytes.
use Rattle.std.specs.Prelude.{ℕ, ◌^◌, ◌<◌, ◌≤◌, List, [], ◌∷◌, length}
use Rattle.rb_bytes.specs.Memory.{most_block}
use Rattle.rb_image_text.specs.declared.image.ImageBlock.{ImageBlock}
use Rattle.rb_image_text.specs.declared.image.Image.{Image}

-- each number of a list is below `high`
abbrev pub AreBelow : ℕ → List ℕ → Type 0
AreBelow high [] = Unit {0}
AreBelow high (n ∷ ns) = (n < high) × AreBelow high ns

-- the block of an image has an address of 64 bits, and 1 to `most_block` bytes, each below 256
pub record IsImageBlock (b : ImageBlock) : Type 0 where
  pub at : b.at < 2 ^ 64
  pub some : 1 ≤ length b.bytes
  pub few : length b.bytes ≤ most_block
  pub bytes : AreBelow 256 b.bytes

-- each block of a list has an address of 64 bits, and 1 to `most_block` bytes
abbrev pub AreImageBlocks : List ImageBlock → Type 0
AreImageBlocks [] = Unit {0}
AreImageBlocks (b ∷ bs) = IsImageBlock b × AreImageBlocks bs

-- the image has root words of 64 bits, and blocks of 1 to `most_block` bytes at addresses of 64 bits
pub record IsImage (i : Image) : Type 0 where
  pub root : AreBelow (2 ^ 64) i.root
  pub blocks : AreImageBlocks i.blocks
