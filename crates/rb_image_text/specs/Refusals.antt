-- Why bytes are no text of an image whose blocks are in their places, and that nothing else is refused. An image is
-- root words and blocks; a block is in its place if it begins at 64 or later and behind the one before it, and ends
-- within the greatest region.
use Rattle.std.specs.Prelude.{◌≡◌, ℕ, List, Result, Ok, Err}
use Rattle.rb_image_text.specs.Stopping.{IsTextOf, StopsAt}
use Rattle.rb_image_text.specs.Places.{IsFirstMisplaced}
use Rattle.rb_image_text.specs.declared.image.Image.{Image}
use Rattle.rb_image_text.specs.declared.fault.ImageFault.{ImageFault}
use Rattle.rb_image_text.specs.declared.fault.ImageFault.TheVariants.{ImageSyntax, ImageBlock, Memory}

-- the fault is why bytes are refused: where they stop being a text, or the first block out of its place in the image
-- whose text they are. Want of memory may be answered for any bytes, no other fault for any
abbrev pub IsImageRefusal : List ℕ → ImageFault → Type 0
IsImageRefusal bytes (ImageSyntax at) = StopsAt bytes at
IsImageRefusal bytes (ImageBlock n) = (i : Image) × IsTextOf bytes i × IsFirstMisplaced i.blocks n
IsImageRefusal bytes Memory = Unit {0}
IsImageRefusal bytes fault = ⊥

-- the answer is this image, or want of memory, which says nothing of it; no other fault
abbrev pub IsThis : Image → Result Image ImageFault → Type 0
IsThis i (Ok read) = read ≡ i
IsThis i (Err Memory) = Unit {0}
IsThis i (Err fault) = ⊥
