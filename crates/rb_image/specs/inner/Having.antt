-- That the images which are sound for types of a program have values, and are those that hold values. An image is
-- sound for a type if its root words fit the type, and no place that one comes to from them has a fault. A pointer
-- falls if it leads to a lower address than that of the block in which it is kept.
use Rattle.std.specs.Prelude.{List}
use Rattle.rb_core.specs.declared.program.Program.{Program}
use Rattle.rb_core.specs.declared.types.Ty.{Ty}
use Rattle.rb_core.specs.declared.value.Value.{Value}
use Rattle.rb_bytes.specs.Memory.{Memory}
use Rattle.rb_layout.specs.declared.layout.Layout.{Layout}
use Rattle.rb_coding.specs.Decoding.{AreOf}
use Rattle.rb_image_text.specs.declared.image.Image.{Image}
use Rattle.rb_image_text.specs.Images.{AreImageBlocks}
use Rattle.rb_image_text.specs.Places.{AreInPlace}
use Rattle.rb_image.specs.Falling.{RootDescends}
use Rattle.rb_image.specs.Roots.{IsSoundImage}
use Rattle.rb_image.specs.Values.{IsDeclared, KeepsImage}

-- the root words of an image that is sound for a declared type represent a value of it, in each memory that keeps the
-- image's blocks
abbrev pub RootsHaveValues : Program → List Layout → Type 0
RootsHaveValues p layouts = (image : Image) (ty : Ty) → IsDeclared p.types ty → IsSoundImage p.types layouts image ty
    → (m : Memory) → KeepsImage image.blocks m → (v : Value) × AreOf p m ty image.root v

-- the root words of an image that is sound for a declared type represent a value of it, and all pointers fall
abbrev pub HaveDescents : Program → List Layout → Type 0
HaveDescents p layouts =
    (image : Image) → AreInPlace image.blocks → AreImageBlocks image.blocks → (ty : Ty) → IsDeclared p.types ty
    → IsSoundImage p.types layouts image ty → (v : Value) × RootDescends p image ty v

-- an image is sound for a type where its root words represent a value of it and all pointers fall
abbrev pub AreSoundWhereTheyDescend : Program → List Layout → Type 0
AreSoundWhereTheyDescend p layouts =
    (image : Image) → AreInPlace image.blocks → AreImageBlocks image.blocks → (ty : Ty) (v : Value)
    → RootDescends p image ty v → IsSoundImage p.types layouts image ty
