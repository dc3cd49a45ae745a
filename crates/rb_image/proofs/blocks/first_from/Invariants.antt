use Rattle.std.proofs.Common.{◌≡◌, ℕ, ◌-◌, ◌<◌, ◌≤◌, length, Some}
use Rattle.std.specs.Prelude.{slice_get}
use Rattle.rb_image_text.specs.declared.image.ImageBlock.{ImageBlock}
use Rattle.rb_image.proofs.blocks.first_from.Given as goal

abbrev pub invariant-loop-low : goal.invariant-loop-low
invariant-loop-low l = record {
  order : l.low ≤ l.high;
  within : l.high ≤ length l.blocks;
  below : (i : ℕ) (b : ImageBlock) → i < l.low → slice_get l.blocks i ≡ Some b → b.at < l.address;
  above : (i : ℕ) (b : ImageBlock) → l.high ≤ i → slice_get l.blocks i ≡ Some b → l.address ≤ b.at;
}

abbrev pub decreases-loop-low : goal.decreases-loop-low
decreases-loop-low l = l.high - l.low
