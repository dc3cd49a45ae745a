-- Words of blocks: how many bytes they have, and where they lie.
use Rattle.std.proofs.Common.{◌≡◌, ℕ, ◌+◌, ◌/◌, ◌≤◌, ◌⊎◌, inl, inr, nat_le, length, true, Some, None, sym, ap, ◌∙◌, arith}
use Rattle.std.specs.Prelude.{slice_range, if◌then◌else◌}
use Rattle.std.proofs.lemmas.Bool.Decides.{eqb_tells}
use Rattle.std.proofs.lemmas.Grind.{common_steps}
use Rattle.rb_bits.specs.LittleEndian.{IsByteCount, from_le_bytes}
use Rattle.rb_image_text.specs.declared.image.ImageBlock.{ImageBlock}
use Rattle.rb_image.specs.Blocks.{is_width, number_in_block, word_from}

abbrev Width : ℕ → Type 0
Width w = (w ≡ 8) ⊎ (w ≡ 16) ⊎ (w ≡ 32) ⊎ (w ≡ 64)

width_is : (w : ℕ) → is_width w ≡ true → Width w
width_is w h = grind (arith, h, eqb_tells)

count_of : (w : ℕ) → Width w → IsByteCount (w / 8)
count_of w (inl e) = inl (omega (arith, e))
count_of w (inr (inl e)) = inr (inl (omega (arith, e)))
count_of w (inr (inr (inl e))) = inr (inr (inl (omega (arith, e))))
count_of w (inr (inr (inr e))) = inr (inr (inr (omega (arith, e))))

-- a word has 1, 2, 4 or 8 bytes
pub byte_count : (w : ℕ) → is_width w ≡ true → IsByteCount (w / 8)
byte_count w h = count_of w (width_is w h)

pub le_is : (a b : ℕ) → nat_le a b ≡ true → a ≤ b
le_is a b e = grind (arith, common_steps)

-- a word that lies in its block
pub word_found : (b : ImageBlock) (byte width n : ℕ) → is_width width ≡ true → nat_le (byte + width / 8) (length b.bytes) ≡ true
    → n ≡ from_le_bytes (slice_range b.bytes byte (byte + width / 8)) → Some n ≡ word_from b byte width
word_found b byte width n wide within is =
    ap Some is ∙ sym (ap (λ t. if t then number_in_block b.bytes byte (width / 8) else None) wide ∙ ap (λ t. if t then Some (from_le_bytes (slice_range b.bytes byte (byte + width / 8))) else None) within)
