-- The words of leaves, and where they begin in their blocks. A leaf has root words, and blocks with words of their
-- own, which lie in memory one after the other without padding. Widths are in bits, sizes and places in bytes.
use Rattle.std.specs.Prelude.{ℕ, ◌+◌, ◌/◌, take, List, [], ◌∷◌, Option, Some, None, slice_get}
use Rattle.rb_layout.specs.declared.layout.Leaf.{Leaf}
use Rattle.rb_layout.specs.declared.layout.Block.{Block}
use Rattle.rb_layout.specs.declared.layout.FlatWord.{FlatWord}
use Rattle.rb_layout.specs.declared.layout.WordRef.{WordRef}

-- the words of a block that may be missing, and none where it is
abbrev pub words_of_block : Option Block → List FlatWord
words_of_block None = []
words_of_block (Some b) = b.words

-- the root words of a leaf where no block is named, and else the words of the block with this number; none where the
-- leaf has no such block
abbrev pub words_in : Leaf → Option ℕ → List FlatWord
words_in leaf None = leaf.root
words_in leaf (Some b) = words_of_block (slice_get leaf.blocks b)

-- the flat word at a reference, which names the root or a block and a word in it by its number; None where the leaf
-- has no such word
abbrev pub flat_at : Leaf → WordRef → Option FlatWord
flat_at leaf r = slice_get (words_in leaf r.block) r.word

-- how many bytes words take, one after the other; of a width that is no multiple of 8, the whole bytes count
abbrev pub bytes_taken : List FlatWord → ℕ
bytes_taken [] = 0
bytes_taken (f ∷ fs) = f.width / 8 + bytes_taken fs

-- the size of a block in bytes, which is that of its words
abbrev pub size_of : Block → ℕ
size_of b = bytes_taken b.words

-- the byte at which word j of these begins, counted from the first; the byte behind the last where there is no word j
abbrev pub begins_at : List FlatWord → ℕ → ℕ
begins_at fs j = bytes_taken (take j fs)
