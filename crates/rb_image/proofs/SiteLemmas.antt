-- Words that are read at sites, and words of blocks that are read from an image.
use Rattle.std.proofs.Common.{◌≡◌, ℕ, zero, suc, nat_eq, map, List, [], ◌∷◌, Bool, false, Some, None, refl, ap, arith}
use Rattle.std.specs.Prelude.{slice_get, if◌then◌else◌}
use Rattle.std.proofs.lemmas.Grind.{common_steps}
use Rattle.std.proofs.lemmas.Option.{same_Some}
use Rattle.rb_image_text.specs.declared.image.Image.{Image}
use Rattle.rb_image_text.specs.declared.image.ImageBlock.{ImageBlock}
use Rattle.rb_image_text.specs.Places.{AreInPlace}
use Rattle.rb_image.specs.declared.kept.Kept.{Kept}
use Rattle.rb_image.specs.declared.site.Site.{Site}
use Rattle.rb_image.specs.Blocks.{word_in, block_word}
use Rattle.rb_image.specs.Splits.{nothing, word_at}
use Rattle.rb_image.specs.WordReads.{read_of}
use Rattle.rb_image.proofs.RootLemmas.{none_at_zero}

pub site_there : (f : Site → Kept) (sites : List Site) (j : ℕ) (s : Site) → slice_get sites j ≡ Some s → word_at (map f sites) j ≡ f s
site_there f [] j s e = absurd cc
site_there f (x ∷ xs) zero s e = ap f (same_Some x s e)
site_there f (x ∷ xs) (suc j) s e = site_there f xs j s e

pub site_missing : (f : Site → Kept) (sites : List Site) (j : ℕ) → slice_get sites j ≡ None → word_at (map f sites) j ≡ nothing
site_missing f [] j e = refl
site_missing f (x ∷ xs) zero e = absurd cc
site_missing f (x ∷ xs) (suc j) e = site_missing f xs j e

-- no block begins at 0
pub no_word_at_zero : (blocks : List ImageBlock) → AreInPlace blocks → (byte width : ℕ) → word_in blocks 0 byte width ≡ None
no_word_at_zero blocks placed byte width = ap (λ b. block_word b byte width) (none_at_zero blocks placed)

differ : (a b : ℕ) → (a ≡ b → ⊥) → nat_eq a b ≡ false
differ a b ne = grind (arith, common_steps, ne)

pub read_from_block : (image : Image) (base place width : ℕ) → (base ≡ 0 → ⊥) → read_of image base place width ≡ word_in image.blocks base place width
read_from_block image base place width ne = ap (λ (b : Bool). if b then slice_get image.root place else word_in image.blocks base place width) (differ base 0 ne)
