-- Whose text bytes are, and the byte at which they stop being one. An image is root words, those of a value, and
-- blocks of a memory, each given by its address in bytes and by its bytes. `at` is the number of a byte, counted from
-- 0.
use Rattle.std.specs.Prelude.{◌≡◌, ℕ, List}
use Rattle.rb_core.specs.Stopping.{StopsAtIn}
use Rattle.rb_image_text.specs.Images.{IsImage}
use Rattle.rb_image_text.specs.Text.{image_text}
use Rattle.rb_image_text.specs.declared.image.Image.{Image}

-- the bytes are the text of this image, wherever its blocks lie
pub record IsTextOf (bytes : List ℕ) (i : Image) : Type 0 where
  pub image : IsImage i
  pub is : bytes ≡ image_text i

-- the bytes are the text of some image, wherever its blocks lie
abbrev pub IsImageText : List ℕ → Type 0
IsImageText bytes = (i : Image) × IsTextOf bytes i

-- the bytes before `at` begin some text; with the byte there they don't, or there is none and they are no whole text
abbrev pub StopsAt : List ℕ → ℕ → Type 0
StopsAt bytes at = StopsAtIn IsImageText bytes at
