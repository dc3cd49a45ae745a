-- What is due to the command `peek`: the part to which a path leads in the value that an image is to hold. An image
-- has words, its root, and blocks; with what is in these the words represent the value. A path is a list of numbers
-- of fields, from the outermost value on, and a part is the value to which it leads, by its type and its words. What
-- is due is the right answer: a text that is printed, or a refusal.
use Rattle.std.specs.Prelude.{◌≡◌, List, ℕ}
use Rattle.rb_accept.specs.Opening.{Opens}
use Rattle.rb_core.specs.Typing.{result_type}
use Rattle.rb_core.specs.declared.program.Program.{Program}
use Rattle.rb_core.specs.declared.types.Ty.{Ty}
use Rattle.rb_edge.specs.History.{Reading}
use Rattle.rb_peek.specs.Peeking.{IsPart, IsPartFault}
use Rattle.rb_peek.specs.declared.peek.Peeked.{Peeked}
use Rattle.rb_image_text.specs.declared.fault.ImageFault.{ImageFault}
use Rattle.rb_image_text.specs.declared.image.Image.{Image}
use Rattle.rb_layout.specs.Flattening.{flat_layouts}
use Rattle.rb_lines.specs.Answer.{Due}
use Rattle.rb_lines.specs.ImageLines.{image_due}
use Rattle.ribbit_tool.specs.Value.{IsDueToImage}

-- an image of the same blocks, whose root words are those of a part
abbrev pub rooted_at : Image → Peeked → Image
rooted_at image part = record { root = part.words; blocks = image.blocks }

-- What is due to an image that is to hold a value of a type, and a path: the path leads to a part, and what is due to
-- the image of that part is; or it does not, and the fault that it has is shown.
pub data Peeks (p : Program) (ty : Ty) (path : List ℕ) (image : Image) (due : Due) : Type 0 where
  found : (part : Peeked) → IsPart p.types (flat_layouts p) image ty path part
      → IsDueToImage p part.ty (rooted_at image part) due
      → Peeks p ty path image due
  stopped : (fault : ImageFault) → IsPartFault p.types (flat_layouts p) image ty path fault → due ≡ image_due fault
      → Peeks p ty path image due

-- what is due to `peek` of FILE, IMAGE and PATH over what was read: a refusal of FILE or IMAGE, or what is due to the
-- part to which PATH leads in a value of the result type of `main`, or the fault where it leads to none
abbrev pub PeeksValue : List ℕ → List ℕ → List ℕ → List Reading → Due → Type 0
PeeksValue file image path readings due =
    Opens file image (λ p i d. Peeks p (result_type p.funs p.main) path i d) readings due
