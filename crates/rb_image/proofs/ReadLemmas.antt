-- What reading an image comes to, from what its memory comes to.
use Rattle.std.proofs.Common.{inl, inr, ◌≤◌, ℕ, List, false, Result, Ok, Err, sym, subst}
use Rattle.std.specs.Prelude.{IfErr, IfOk}
use Rattle.rb_core.specs.declared.program.Program.{Program}
use Rattle.rb_core.specs.declared.types.Ty.{Ty}
use Rattle.rb_core.specs.declared.value.Value.{Value}
use Rattle.rb_core.specs.Values.{node_count}
use Rattle.rb_bytes.specs.Memory.{Memory, IsGood}
use Rattle.rb_layout.specs.Flattening.{flat_layouts}
use Rattle.rb_layout.specs.declared.layout.Layout.{Layout}
use Rattle.rb_coding.specs.Decoding.{AreOf}
use Rattle.rb_image_text.specs.declared.fault.ImageFault.{ImageFault}
use Rattle.rb_image_text.specs.declared.image.Image.{Image}
use Rattle.rb_image_text.specs.declared.image.ImageBlock.{ImageBlock}
use Rattle.rb_image_text.specs.Images.{AreImageBlocks}
use Rattle.rb_image_text.specs.Places.{AreInPlace}
use Rattle.rb_image.specs.Falling.{RootDescends}
use Rattle.rb_image.specs.Memories.{Stand, image_memory}
use Rattle.rb_image.specs.Reads.{ImageIsRead, IsReason}
use Rattle.rb_image.specs.Values.{KeepsImage}
use Rattle.rb_image.proofs.KeepLemmas.{Represents-stand}
use Rattle.rb_image.proofs.StandLemmas.{size_stands, word_loaded}

-- ---- what has a value
pub stand_keeps_blocks : (blocks : List ImageBlock) (m : Memory) → IsGood m → Stand blocks m → KeepsImage blocks m
stand_keeps_blocks blocks m good stand = record {
  sizes = size_stands blocks m stand;
  words = word_loaded blocks m stand;
  bytes = good.small;
}

-- the root words represent a value of the image in each memory in which its blocks stand
pub stands_for : (p : Program) (image : Image) (ty : Ty) → AreInPlace image.blocks → AreImageBlocks image.blocks → (m : Memory) → Stand image.blocks m
    → (v : Value) → AreOf p (image_memory image.blocks) ty image.root v → AreOf p m ty image.root v
stands_for p image ty placed are m stand v is = Represents-stand p.types (flat_layouts p) false image.blocks m placed are stand is

-- ---- what reading gives
module _ (p : Program) (layouts : List Layout) (image : Image) (ty : Ty) (limit : ℕ) (v : Value) (descends : RootDescends p image ty v) where
  pub read_ok : (r : Result Value ImageFault) → ImageIsRead v limit r → IfOk r (λ found. RootDescends p image ty found × (node_count found ≤ limit))
  read_ok (Ok found) is = (subst (RootDescends p image ty) (sym is.0) descends, subst (λ x. node_count x ≤ limit) (sym is.0) is.1)
  read_ok (Err fault) is = tt

  pub read_err : (r : Result Value ImageFault) → ImageIsRead v limit r → IfErr r (IsReason p layouts image ty limit)
  read_err (Ok found) is = tt
  read_err (Err fault) (inl over) = inr (inl (over.0, v, descends, over.1))
  read_err (Err fault) (inr memory) = inr (inr memory)
