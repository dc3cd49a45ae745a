-- What is read of a leaf: its root words, the addresses of the blocks to which its pointers lead, and the words
-- there. A part is a range of a word of the leaf: a constant, bits or a word of a field, or a pointer to one of the
-- leaf's blocks. A pointer is refused where it leads to no block of the size that the leaf's block has, or, from
-- within a block, not below that block. m has the blocks of an image, ws are the words of the leaf's root, and ats
-- the addresses of its blocks by number, 0 for one that is not known.
use Rattle.std.specs.Prelude.{◌≡◌, ℕ, ◌+◌, ◌/◌, ◌==◌, List, [], ◌∷◌, length, replicate, Option, Some, None, Result, Ok, Err, slice_get, slice_index, slice_set, if◌then◌else◌, unwrap_or}
use Rattle.std.specs.List.{sum_by}
use Rattle.std.specs.declared.alloc.Global.{Global}
use Rattle.std.specs.declared.vec.Vec.{Vec}
use Rattle.rb_layout.specs.declared.layout.Block.{Block}
use Rattle.rb_layout.specs.declared.layout.FlatWord.{FlatWord}
use Rattle.rb_layout.specs.declared.layout.Kind.{Kind}
use Rattle.rb_layout.specs.declared.layout.Kind.TheVariants.{Const, Bits, Word, Pointer}
use Rattle.rb_layout.specs.declared.layout.Leaf.{Leaf}
use Rattle.rb_layout.specs.Words.{words_in}
use Rattle.rb_image_text.specs.declared.fault.ImageFault.{ImageFault}
use Rattle.rb_image_text.specs.declared.image.ImageBlock.{ImageBlock}
use Rattle.rb_image.specs.declared.kept.Kept.{Kept}
use Rattle.rb_image.specs.declared.leaf_words.LeafWords.{LeafWords}
use Rattle.rb_image.specs.Blocks.{word_in}
use Rattle.rb_image.specs.Orders.{LocatedPart, order_of}
use Rattle.rb_image.specs.Parts.{bits_at, pointer_lead}

-- Addresses ----------------------------------------------------------------------------------

-- the addresses of a leaf's blocks, with that of block b if it was found; as they are where it is a fault
abbrev pub with_found : List ℕ → ℕ → Result ℕ ImageFault → List ℕ
with_found ats b (Err fault) = ats
with_found ats b (Ok at) = slice_set ats b at

-- the addresses of a leaf's blocks, with that of the block to which a part of this kind with these bits points,
-- unless it is known or the pointer is refused; as they are for a part that is no pointer
abbrev pub follow_kind : List ImageBlock → Leaf → List ℕ → Kept → Kind → List ℕ
follow_kind m leaf ats bits (Const c) = ats
follow_kind m leaf ats bits (Bits path a) = ats
follow_kind m leaf ats bits (Word path j) = ats
follow_kind m leaf ats bits (Pointer align b) =
    if slice_index ats b == 0 then with_found ats b (pointer_lead m leaf bits align b) else ats

-- the addresses of a leaf's blocks, with that of the block to which part s points, unless it was known or the pointer
-- is refused
abbrev pub follow_part : List ImageBlock → Leaf → List Kept → List ℕ → LocatedPart → List ℕ
follow_part m leaf ws ats s = follow_kind m leaf ats (bits_at m ws ats s) s.part.kind

-- the addresses of a leaf's blocks, with those of the blocks to which these parts point, one part after the other
abbrev pub follow : List ImageBlock → Leaf → List Kept → List ℕ → List LocatedPart → List ℕ
follow m leaf ws ats [] = ats
follow m leaf ws ats (s ∷ ss) = follow m leaf ws (follow_part m leaf ws ats s) ss

-- the addresses of a leaf's blocks by number, on these words of its root; 0 for a block to which no pointer leads, as
-- where a pointer on the way is refused
abbrev pub block_addresses : List ImageBlock → Leaf → List Kept → List ℕ
block_addresses m leaf ws = follow m leaf ws (replicate (length leaf.blocks) 0) (order_of leaf)

-- Words --------------------------------------------------------------------------------------

-- the numbers of words of the block that begins at address `at`, one for each of these flat words, the first of which
-- begins at a byte; 0 for one that is not there
abbrev pub numbers_at : List ImageBlock → ℕ → ℕ → List FlatWord → List ℕ
numbers_at m at byte [] = []
numbers_at m at byte (f ∷ fs) = unwrap_or (word_in m at byte f.width) 0 ∷ numbers_at m at (byte + f.width / 8) fs

-- the numbers of the words of a leaf's block b in their order; none where its address is 0, that is not known
abbrev pub block_numbers : List ImageBlock → Leaf → List ℕ → ℕ → List ℕ
block_numbers m leaf ats b =
    if slice_index ats b == 0 then [] else numbers_at m (slice_index ats b) 0 (words_in leaf (Some b))

-- the items of a vector, and no items where there is no vector
abbrev pub items_or_none : Option (Vec ℕ Global) → List ℕ
items_or_none None = []
items_or_none (Some v) = v.items

-- `blocks` has for each block of the leaf the numbers of its words in m, and none for one whose address is not known
pub record AreNumbers (m : List ImageBlock) (leaf : Leaf) (ats : List ℕ) (blocks : List (Vec ℕ Global)) : Type 0 where
  pub long : length blocks ≡ length ats
  pub numbers : (b : ℕ) → items_or_none (slice_get blocks b) ≡ block_numbers m leaf ats b

-- x, the words of a leaf as they were read, has the words of each block whose address it knows, and no others
abbrev pub HasNumbers : List ImageBlock → Leaf → LeafWords → Type 0
HasNumbers m leaf x = AreNumbers m leaf x.addresses.items x.blocks.items

-- how many flat words the blocks of a leaf have in all
abbrev pub block_span : Leaf → ℕ
block_span leaf = sum_by (λ (b : Block). length b.words) leaf.blocks
