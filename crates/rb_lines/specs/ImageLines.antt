-- The lines of images that are refused. An image is the root words of a value and the blocks of memory to which their
-- pointers lead. Blocks are counted from 0, and a block's base is the address at which it begins.
use Rattle.std.specs.Prelude.{ℕ, List, ◌++◌, codes}
use Rattle.std.specs.Fmt.{decimal}
use Rattle.rb_image_text.specs.declared.fault.ImageFault.{ImageFault}
use Rattle.rb_image_text.specs.declared.fault.ImageFault.TheVariants.{ImageSyntax, ImageBlock, BadRoot, BadBits, BadPointer, ImageTooLarge, NoSuchPart, Memory}
use Rattle.rb_show.specs.Lines.{line}
use Rattle.rb_lines.specs.Answer.{Due, refusal}
use Rattle.rb_lines.specs.ArgumentLines.{node_limit}
use Rattle.rb_lines.specs.Lines.{named_line, large_line, no_memory_line}
use Rattle.rb_lines.specs.Numbers.{image_syntax, image_block, bad_root, bad_bits, bad_pointer, no_such_part}
use Rattle.rb_lines.specs.declared.status.Status.{Status}
use Rattle.rb_lines.specs.declared.status.Status.TheVariants as status

-- the line of an image fault of this number at a place, where `kind` says what the place counts
abbrev pub fault_at : ℕ → List ℕ → ℕ → List ℕ
fault_at number kind at = line (named_line (codes "image ") ++ decimal number ++ kind ++ decimal at)

-- the line of an image fault of this number in the block that begins at `base`, which is 0 for the root words; `kind`
-- says what the last number is: a place there, or the address to which a pointer there leads
abbrev pub fault_in : ℕ → ℕ → List ℕ → ℕ → List ℕ
fault_in number base kind at =
    line (named_line (codes "image ") ++ decimal number ++ codes ": base " ++ decimal base ++ kind ++ decimal at)

-- The status of an image fault. A value of too many nodes is no fault of an image, but a limit of what is shown.
abbrev pub image_status : ImageFault → Status
image_status (ImageSyntax at) = status.Image
image_status (ImageBlock block) = status.Image
image_status (BadRoot word) = status.Image
image_status (BadBits base place) = status.Image
image_status (BadPointer base address) = status.Image
image_status ImageTooLarge = status.TooLarge
image_status (NoSuchPart step) = status.Image
image_status Memory = status.NoMemory

-- the line of what is wrong with an image
abbrev pub image_line : ImageFault → List ℕ
image_line (ImageSyntax at) = fault_at image_syntax (codes " at byte ") at
image_line (ImageBlock block) = fault_at image_block (codes ": block ") block
image_line (BadRoot word) = fault_at bad_root (codes ": word ") word
image_line (BadBits base place) = fault_in bad_bits base (codes ", place ") place
image_line (BadPointer base address) = fault_in bad_pointer base (codes ", address ") address
image_line ImageTooLarge = large_line node_limit
image_line (NoSuchPart step) = fault_at no_such_part (codes ": step ") step
image_line Memory = no_memory_line

-- what is due to an image with this fault, before anything ran
abbrev pub image_due : ImageFault → Due
image_due fault = refusal (image_status fault) (image_line fault)
