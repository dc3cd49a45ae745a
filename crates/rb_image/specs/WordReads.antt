-- One word of an image: of its root, or of a block.
use Rattle.std.specs.Prelude.{ℕ, ◌==◌, Option, slice_get, if◌then◌else◌}
use Rattle.rb_image_text.specs.declared.image.Image.{Image}
use Rattle.rb_image.specs.Blocks.{word_in}

-- at base 0 the root word with the number `place`; at another base the word of `width` bits from byte `place` on of the
-- block that begins there; none where the image has no such root word, or no block with such bytes
abbrev pub read_of : Image → ℕ → ℕ → ℕ → Option ℕ
read_of image base place width = if base == 0 then slice_get image.root place else word_in image.blocks base place width
