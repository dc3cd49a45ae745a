-- The memory of an image keeps the image's blocks, and has no others.
use Rattle.std.proofs.Common.{◌≡◌, ℕ, zero, suc, nat_eq, Bool, true, false, List, [], ◌∷◌, length, Some, refl, sym, ap, ◌∙◌, arith}
use Rattle.std.specs.Prelude.{slice_get, if◌then◌else◌}
use Rattle.std.proofs.lemmas.Grind.{common_steps}
use Rattle.std.proofs.lemmas.Option.{same_Some}
use Rattle.rb_bytes.specs.Memory.{Memory, IsGood}
use Rattle.rb_bytes.specs.Memory as M
use Rattle.rb_image_text.specs.declared.image.ImageBlock.{ImageBlock}
use Rattle.rb_image_text.specs.Images.{AreImageBlocks}
use Rattle.rb_image_text.specs.Places.{AreInPlace}
use Rattle.rb_image.specs.Blocks.{block_at, size_at, size_in}
use Rattle.rb_image.specs.Memories.{image_memory}
use Rattle.rb_image.specs.Values.{KeepsImage}
use Rattle.rb_image.proofs.StandLemmas.{image_memory_good, image_memory_size, image_size_stands, image_word_loaded}

-- the memory keeps the blocks of an image, and has no others
pub record IsWhole (blocks : List ImageBlock) (m : Memory) : Type 0 where
  pub good : IsGood m
  pub keeps : KeepsImage blocks m
  pub whole : (at size : ℕ) → M.size_at m.blocks at ≡ Some size → size_at blocks at ≡ Some size

equal : (a : ℕ) → nat_eq a a ≡ true
equal a = grind (arith, common_steps)

block_found : (blocks : List ImageBlock) (j : ℕ) (c : ImageBlock) → slice_get blocks j ≡ Some c → (b : ImageBlock) × (block_at blocks c.at ≡ Some b)
block_found [] j c e = absurd cc
block_found (x ∷ blocks) zero c e =
    let same = same_Some x c e in
    (x, ap (λ (t : Bool). if t then Some x else block_at blocks c.at) (ap (λ (y : ImageBlock). nat_eq y.at c.at) same ∙ equal c.at))
block_found (x ∷ blocks) (suc j) c e = go (nat_eq x.at c.at) (block_found blocks j c e)
  where
    go : (t : Bool) → (b : ImageBlock) × (block_at blocks c.at ≡ Some b) → (b : ImageBlock) × ((if t then Some x else block_at blocks c.at) ≡ Some b)
    go true r = (x, refl)
    go false r = r

module _ (blocks : List ImageBlock) (placed : AreInPlace blocks) (are : AreImageBlocks blocks) where
  no_others : (at size : ℕ) → M.size_at (image_memory blocks).blocks at ≡ Some size → size_at blocks at ≡ Some size
  no_others at size e =
      let c = image_memory_size blocks at size e in
      let b = block_found blocks c.0 c.1 c.2 in
      let found : size_at blocks at ≡ Some (length b.0.bytes) = ap (size_at blocks) (sym c.3) ∙ ap size_in b.1 in
      let same = same_Some (length b.0.bytes) size (sym (image_size_stands blocks placed are at (length b.0.bytes) found) ∙ e) in
      found ∙ ap Some same

  pub image_whole : IsWhole blocks (image_memory blocks)
  image_whole =
      let good = image_memory_good blocks placed are in
      record {
        good = good;
        keeps = record { sizes = image_size_stands blocks placed are; words = image_word_loaded blocks placed are; bytes = good.small };
        whole = no_others;
      }
