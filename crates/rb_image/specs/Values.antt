-- That an image that is sound for a type has a value of it. A program has declared types and layouts of them, which
-- agree; an image has root words and blocks.
use Rattle.std.specs.Prelude.{◌≡◌, ℕ, ◌<◌, List, length, false, Some, Ok}
use Rattle.rb_core.specs.declared.program.Program.{Program}
use Rattle.rb_core.specs.declared.types.DataDecl.{DataDecl}
use Rattle.rb_core.specs.declared.types.Ty.{Ty}
use Rattle.rb_core.specs.declared.types.Ty.TheVariants.{Int, Named}
use Rattle.rb_core.specs.declared.value.Value.{Value}
use Rattle.rb_core.specs.TypedPrograms.{IsTyped}
use Rattle.rb_bytes.specs.Memory.{Memory, byte_at, load_of}
use Rattle.rb_bytes.specs.Memory as M
use Rattle.rb_layout.specs.Agreement.{Agrees}
use Rattle.rb_layout.specs.Flattening.{flat_layouts}
use Rattle.rb_rel.specs.Relation.{Represents}
use Rattle.rb_image_text.specs.declared.image.Image.{Image}
use Rattle.rb_image_text.specs.declared.image.ImageBlock.{ImageBlock}
use Rattle.rb_image.specs.Blocks.{size_at, word_in}
use Rattle.rb_image.specs.Roots.{IsSoundImage}

-- the memory keeps what the blocks of an image are: each is there, of its size, and each word in them is loaded; and
-- what is written in the memory are bytes
pub record KeepsImage (blocks : List ImageBlock) (m : Memory) : Type 0 where
  pub sizes : (at size : ℕ) → size_at blocks at ≡ Some size → M.size_at m.blocks at ≡ Some size
  pub words : (at byte width w : ℕ) → word_in blocks at byte width ≡ Some w → load_of m at byte width ≡ Ok w
  pub bytes : (a b : ℕ) → byte_at m.bytes a ≡ Some b → b < 256

-- a type is an integer, or a data type that the program declares
abbrev pub IsDeclared : List DataDecl → Ty → Type 0
IsDeclared types (Int bits) = Unit {0}
IsDeclared types (Named t) = t < length types

-- the root words of an image that is sound for a type represent a value of it, in each memory that keeps its blocks
abbrev pub SoundImagesHaveValues : Type 0
SoundImagesHaveValues = (p : Program) → IsTyped p → Agrees p → (image : Image) (ty : Ty) → IsDeclared p.types ty
    → IsSoundImage p.types (flat_layouts p) image ty → (m : Memory) → KeepsImage image.blocks m
    → (v : Value) × Represents p.types (flat_layouts p) m false ty v image.root
