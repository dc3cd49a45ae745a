-- That the words which are given of a part of a value represent it. A path is a list of field numbers from the value
-- at the root words.
use Rattle.rb_core.specs.declared.program.Program.{Program}
use Rattle.rb_core.specs.declared.types.Ty.{Ty}
use Rattle.rb_core.specs.declared.value.Value.{Value}
use Rattle.rb_core.specs.TypedPrograms.{IsTyped}
use Rattle.rb_layout.specs.Agreement.{Agrees}
use Rattle.rb_layout.specs.Flattening.{flat_layouts}
use Rattle.rb_image_text.specs.declared.image.Image.{Image}
use Rattle.rb_image_text.specs.Images.{AreImageBlocks}
use Rattle.rb_image_text.specs.Places.{AreInPlace}
use Rattle.rb_image.specs.Falling.{RootDescends}
use Rattle.rb_peek.specs.declared.peek.Peeked.{Peeked}
use Rattle.rb_peek.specs.PathParts.{IsPartThere}
use Rattle.rb_peek.specs.Peeking.{IsPart}
use Rattle.std.specs.Prelude.{ℕ, List}

-- where an image holds a value, the words that are given of what stands at a path represent the part of the value
-- there
abbrev pub GivenPartsAreHeld : Type 0
GivenPartsAreHeld =
    (p : Program) → IsTyped p → Agrees p → (image : Image) → AreInPlace image.blocks → AreImageBlocks image.blocks
    → (ty : Ty) (v : Value) → RootDescends p image ty v → (path : List ℕ) (part : Peeked)
    → IsPart p.types (flat_layouts p) image ty path part → IsPartThere p image v path part.ty part.words
