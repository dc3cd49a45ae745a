-- The pointer parts of a leaf. A reference names a word of the leaf: one of the root, or of a block.
use Rattle.std.specs.Prelude.{◌≡◌, ℕ, Some, slice_get}
use Rattle.rb_layout.specs.declared.layout.Leaf.{Leaf}
use Rattle.rb_layout.specs.declared.layout.FlatWord.{FlatWord}
use Rattle.rb_layout.specs.declared.layout.Part.{Part}
use Rattle.rb_layout.specs.declared.layout.Kind.TheVariants.{Pointer}
use Rattle.rb_layout.specs.declared.layout.WordRef.{WordRef}
use Rattle.rb_layout.specs.Words.{flat_at}

-- The word at reference r of a leaf has a part of l bits that is a pointer to block b, and counts in units of `align`
-- bytes. `word` is that flat word, and `part` the part, at place `number` in it. That the leaf has a block b is not
-- said here.
pub record PointsTo (leaf : Leaf) (r : WordRef) (l align b : ℕ) : Type 0 where
  pub word : FlatWord
  pub number : ℕ
  pub part : Part
  pub is_word : flat_at leaf r ≡ Some word
  pub is_part : slice_get word.parts number ≡ Some part
  pub is_length : part.l ≡ l
  pub is_pointer : part.kind ≡ Pointer align b
