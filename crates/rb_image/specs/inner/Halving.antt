-- What a search by halves among blocks that ascend finds.
use Rattle.std.specs.Prelude.{◌≡◌, ℕ, ◌<◌, ◌≤◌, List, length, Some, slice_get}
use Rattle.rb_image_text.specs.declared.image.ImageBlock.{ImageBlock}

-- the blocks before this number begin below the address, and no other does
pub record IsFirstFrom (blocks : List ImageBlock) (address k : ℕ) : Type 0 where
  pub within : k ≤ length blocks
  pub below : (i : ℕ) (b : ImageBlock) → i < k → slice_get blocks i ≡ Some b → b.at < address
  pub above : (i : ℕ) (b : ImageBlock) → k ≤ i → slice_get blocks i ≡ Some b → address ≤ b.at
