-- The integers of a leaf, bit by bit. A part is a range of a word of the leaf: a constant, bits or a word of a
-- field, or a pointer to one of the leaf's blocks. Several parts may hold one integer, each a range of its bits:
-- `Bits path a` holds those from bit a on. A path is a list of field numbers from the leaf's root. m has the blocks
-- of an image.
use Rattle.std.specs.Prelude.{ℕ, zero, suc, ◌+◌, ◌-◌, ◌*◌, List, [], ◌∷◌, if◌then◌else◌}
use Rattle.std.specs.Int.{bit_at}
use Rattle.rb_core.specs.declared.types.Ty.{Ty}
use Rattle.rb_core.specs.declared.types.Ty.TheVariants.{Int}
use Rattle.rb_layout.specs.A6.{holds_unit}
use Rattle.rb_layout.specs.declared.layout.Kind.{Kind}
use Rattle.rb_layout.specs.declared.layout.Kind.TheVariants.{Const, Bits, Word, Pointer}
use Rattle.rb_layout.specs.declared.layout.Leaf.{Leaf}
use Rattle.rb_image_text.specs.declared.image.ImageBlock.{ImageBlock}
use Rattle.rb_image.specs.declared.leaf_words.LeafWords.{LeafWords}
use Rattle.rb_image.specs.Orders.{LocatedPart, order_of}
use Rattle.rb_image.specs.Parts.{bits_at}

-- the number of n bits of which f gives each, bit 0 being the lowest
abbrev pub number_of_bits : ℕ → (ℕ → ℕ) → ℕ
number_of_bits zero f = 0
number_of_bits (suc n) f = f 0 + 2 * number_of_bits n (λ i. f (suc i))

-- bit i of an integer, where v is the number in the bits of a part of this kind that holds it; 0 for a part that
-- holds none of an integer
abbrev pub bit_in : ℕ → ℕ → Kind → ℕ
bit_in v i (Const c) = 0
bit_in v i (Bits path a) = bit_at v (i - a)
bit_in v i (Word path j) = 0
bit_in v i (Pointer align b) = 0

-- bit i of the integer at a path, of this type: that of the first of these parts which holds it, where `value` gives
-- the number in the bits of each; 0 where none does
abbrev pub field_bit : (LocatedPart → ℕ) → Ty → List LocatedPart → List ℕ → ℕ → ℕ
field_bit value ty [] path i = 0
field_bit value ty (s ∷ ss) path i =
    if holds_unit ty path i s.part.l s.part.kind then bit_in (value s) i s.part.kind else field_bit value ty ss path i

-- the number in the bits of a part, where the words of its leaf were read
abbrev pub part_value : List ImageBlock → LeafWords → LocatedPart → ℕ
part_value m words s = (bits_at m words.root.items words.addresses.items s).number

-- the integer of so many bits at a path of a leaf, the words of which were read; a bit that no part holds is 0
abbrev pub integer_at : List ImageBlock → Leaf → LeafWords → List ℕ → ℕ → ℕ
integer_at m leaf words path bits = number_of_bits bits (field_bit (part_value m words) (Int bits) (order_of leaf) path)
