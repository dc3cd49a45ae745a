-- What reading the value that an image holds comes to. The nodes of a value are counted, and `limit` is the most
-- that are taken. A fault is the image's own, or `ImageTooLarge`.
use Rattle.std.specs.Prelude.{◌≡◌, ◌⊎◌, ◌<◌, ◌≤◌, ℕ, List, Result, Ok, Err}
use Rattle.rb_core.specs.declared.program.Program.{Program}
use Rattle.rb_core.specs.declared.types.Ty.{Ty}
use Rattle.rb_core.specs.declared.value.Value.{Value}
use Rattle.rb_core.specs.Values.{node_count}
use Rattle.rb_layout.specs.declared.layout.Layout.{Layout}
use Rattle.rb_image_text.specs.declared.fault.ImageFault.{ImageFault}
use Rattle.rb_image_text.specs.declared.fault.ImageFault.TheVariants.{ImageTooLarge, Memory}
use Rattle.rb_image_text.specs.declared.image.Image.{Image}
use Rattle.rb_image.specs.Falling.{RootDescends}
use Rattle.rb_image.specs.Roots.{IsFirstImageFault}

-- what is read is this value, which has at most so many nodes, or it has more; or there is want of memory
abbrev pub ImageIsRead : Value → ℕ → Result Value ImageFault → Type 0
ImageIsRead v limit (Ok found) = (found ≡ v) × (node_count v ≤ limit)
ImageIsRead v limit (Err fault) = ((fault ≡ ImageTooLarge) × (limit < node_count v)) ⊎ (fault ≡ Memory)

-- the image holds a value of more nodes than the limit, and the fault says so
abbrev pub IsOver : Program → Image → Ty → ℕ → ImageFault → Type 0
IsOver p image ty limit fault =
    (fault ≡ ImageTooLarge) × (v : Value) × RootDescends p image ty v × (limit < node_count v)

-- why no value is read: the image's first fault, or that its value has more nodes; or there is want of memory
abbrev pub IsReason : Program → List Layout → Image → Ty → ℕ → ImageFault → Type 0
IsReason p layouts image ty limit fault =
    IsFirstImageFault p.types layouts image ty fault ⊎ IsOver p image ty limit fault ⊎ (fault ≡ Memory)
