-- Words of a leaf that are not read yet, and those that are. A leaf has root words, and blocks with words of their
-- own. A block's address is known once a pointer was followed to it.
use Rattle.std.specs.Prelude.{ℕ, ◌+◌, ◌==◌, List, [], ◌∷◌, length, Option, Some, None, slice_get, slice_index, if◌then◌else◌}
use Rattle.rb_layout.specs.declared.layout.Block.{Block}
use Rattle.rb_image.specs.declared.kept.Kept.{Kept}
use Rattle.rb_image.specs.declared.leaf_words.LeafWords.{LeafWords}
use Rattle.rb_image.specs.LeafWords.{items_or_none}
use Rattle.rb_image.specs.Orders.{LocatedPart}
use Rattle.rb_image.specs.Splits.{word_at}

-- how many words those blocks have whose addresses are not known, that is 0 or missing
abbrev pub unread_words : List Block → List ℕ → ℕ
unread_words [] ats = 0
unread_words (b ∷ bs) [] = length b.words + unread_words bs []
unread_words (b ∷ bs) (at ∷ ats) = (if at == 0 then length b.words else 0) + unread_words bs ats

-- the word that part s is of, among the words of its leaf that were read: of the root, or of the block with this
-- number
abbrev pub word_read : LeafWords → Option ℕ → LocatedPart → Kept
word_read x None s = word_at x.root.items s.word
word_read x (Some b) s = record {
  number = slice_index (items_or_none (slice_get x.blocks.items b)) s.word;
  base = slice_index x.addresses.items b;
  place = s.byte;
}
