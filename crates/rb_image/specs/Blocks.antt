-- The block of an image that begins at an address, and the words in it. The blocks of an image are given in their
-- order, each by its address and its bytes.
use Rattle.std.specs.Prelude.{ℕ, ◌+◌, ◌/◌, ◌==◌, ◌||◌, nat_eq, nat_le, List, [], ◌∷◌, length, Bool, Option, Some, None, slice_range, if◌then◌else◌}
use Rattle.rb_bits.specs.LittleEndian.{from_le_bytes}
use Rattle.rb_image_text.specs.declared.image.ImageBlock.{ImageBlock}

-- the first of the blocks that begins at an address, none where no block does
abbrev pub block_at : List ImageBlock → ℕ → Option ImageBlock
block_at [] address = None
block_at (b ∷ bs) address = if nat_eq b.at address then Some b else block_at bs address

-- the size in bytes of a block of an image, none where there is no block
abbrev pub size_in : Option ImageBlock → Option ℕ
size_in None = None
size_in (Some b) = Some (length b.bytes)

-- the size in bytes of the block that begins at an address, none where no block does
abbrev pub size_at : List ImageBlock → ℕ → Option ℕ
size_at blocks address = size_in (block_at blocks address)

-- whether a word of a block may have this width: 8, 16, 32 or 64 bits
abbrev pub is_width : ℕ → Bool
is_width width = (width == 8) || ((width == 16) || ((width == 32) || (width == 64)))

-- the number in `count` of these bytes from number `byte` on, the lowest byte first; none where there are fewer
abbrev pub number_in_block : List ℕ → ℕ → ℕ → Option ℕ
number_in_block bytes byte count =
    if nat_le (byte + count) (length bytes) then Some (from_le_bytes (slice_range bytes byte (byte + count))) else None

-- the word of `width` bits from a byte of a block on; none where no word has this width, or it does not lie in the
-- block
abbrev pub word_from : ImageBlock → ℕ → ℕ → Option ℕ
word_from b byte width = if is_width width then number_in_block b.bytes byte (width / 8) else None

-- the word of `width` bits from a byte of a block on; none where there is no block, or no such word in it
abbrev pub block_word : Option ImageBlock → ℕ → ℕ → Option ℕ
block_word None byte width = None
block_word (Some b) byte width = word_from b byte width

-- the word of `width` bits from a byte on of the block that begins at an address, where it lies in it
abbrev pub word_in : List ImageBlock → ℕ → ℕ → ℕ → Option ℕ
word_in blocks address byte width = block_word (block_at blocks address) byte width
