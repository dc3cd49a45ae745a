-- What is due to the command `value`: the value that an image holds of the result type of `main`. An image has words,
-- its root, and blocks; with what is in these the words represent the value. What is due is the right answer: a text
-- that is printed, or a refusal. A value is too large where it has more nodes, numbers and constructions, than may be
-- shown.
use Rattle.std.specs.Prelude.{◌≡◌, ◌≤◌, ◌<◌, List, ℕ}
use Rattle.rb_accept.specs.Opening.{Opens}
use Rattle.rb_core.specs.Typing.{result_type}
use Rattle.rb_core.specs.Values.{node_count}
use Rattle.rb_core.specs.declared.program.Program.{Program}
use Rattle.rb_core.specs.declared.types.Ty.{Ty}
use Rattle.rb_core.specs.declared.value.Value.{Value}
use Rattle.rb_edge.specs.History.{Reading}
use Rattle.rb_image.specs.Falling.{RootDescends}
use Rattle.rb_image.specs.Roots.{IsFirstImageFault}
use Rattle.rb_image_text.specs.declared.fault.ImageFault.{ImageFault}
use Rattle.rb_image_text.specs.declared.image.Image.{Image}
use Rattle.rb_layout.specs.Flattening.{flat_layouts}
use Rattle.rb_show.specs.Lines.{line}
use Rattle.rb_lines.specs.Answer.{Due, printed, refusal}
use Rattle.rb_lines.specs.ArgumentLines.{node_limit}
use Rattle.rb_lines.specs.ImageLines.{image_due}
use Rattle.rb_lines.specs.Lines.{large_line}
use Rattle.rb_lines.specs.declared.status.Status.TheVariants.{TooLarge}
use Rattle.rb_values.specs.Texts.{text_of}

-- What is due to an image that is to hold a value of a type: its root words represent one in its blocks, and each
-- pointer that a block holds leads to a block with a lower address; then the value is shown on a line, if it is not
-- too large. Or else the image's first fault is shown.
pub data IsDueToImage (p : Program) (ty : Ty) (image : Image) (due : Due) : Type 0 where
  holds : (v : Value) → RootDescends p image ty v → node_count v ≤ node_limit
      → due ≡ printed (line (text_of p.types v ty)) 0 → IsDueToImage p ty image due
  large : (v : Value) → RootDescends p image ty v → node_limit < node_count v
      → due ≡ refusal TooLarge (large_line node_limit) → IsDueToImage p ty image due
  unsound : (fault : ImageFault) → IsFirstImageFault p.types (flat_layouts p) image ty fault → due ≡ image_due fault
      → IsDueToImage p ty image due

-- what is due to `value` of FILE and IMAGE over what was read: a refusal of either, or the value that IMAGE holds of
-- the result type of `main`
abbrev pub ReadsValue : List ℕ → List ℕ → List Reading → Due → Type 0
ReadsValue file image readings due =
    Opens file image (λ p i d. IsDueToImage p (result_type p.funs p.main) i d) readings due
