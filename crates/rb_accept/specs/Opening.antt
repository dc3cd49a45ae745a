-- Images of a file: IMAGE is read after FILE was accepted. What is due to a command is the answer that the program
-- owes to it: a text, or a status with a line. An image is the root words of a value and the blocks to which their
-- pointers lead. A reading is what a source of files handed out of one file.
use Rattle.std.specs.Prelude.{◌≡◌, ◌≢◌, ◌≤◌, ℕ, List, [], ◌∷◌, length}
use Rattle.rb_core.specs.declared.program.Program.{Program}
use Rattle.rb_edge.specs.History.{Reading}
use Rattle.rb_image_text.specs.Places.{AreInPlace}
use Rattle.rb_image_text.specs.Refusals.{IsImageRefusal}
use Rattle.rb_image_text.specs.Stopping.{IsTextOf}
use Rattle.rb_image_text.specs.declared.fault.ImageFault.{ImageFault}
use Rattle.rb_image_text.specs.declared.fault.ImageFault.TheVariants.{Memory}
use Rattle.rb_image_text.specs.declared.image.Image.{Image}
use Rattle.rb_lines.specs.Answer.{Due}
use Rattle.rb_lines.specs.ImageLines.{image_due}
use Rattle.rb_accept.specs.Accepting.{IsAccepted, IsRefused}
use Rattle.rb_accept.specs.Reading.{ReadsFile, ReadsOne, file_limit, image_limit, whole}
use Rattle.rb_accept.specs.View.{IsAcceptance}
use Rattle.rb_accept.specs.declared.opening.Opened.{Opened}

-- what may follow an accepted program and an image: a demand on what is due then
abbrev pub Following : Type 1
Following = Program → Image → Due → Type 0

-- the text is none of an image whose blocks are in their places: `fault` is why, which is known, so that it is not want
-- of memory; and this is due to the text by that fault
pub record IsGarbled (text : List ℕ) (due : Due) : Type 0 where
  pub fault : ImageFault
  pub known : fault ≢ Memory
  pub refused : IsImageRefusal text fault
  pub shown : due ≡ image_due fault

-- What is due to the text of an image: it is none; or it is that of an image, and something follows.
pub data SpellsImage (text : List ℕ) (Then : Image → Due → Type 0) (due : Due) : Type 0 where
  garbled : IsGarbled text due → SpellsImage text Then due
  spelled : (image : Image) → IsTextOf text image → AreInPlace image.blocks → Then image due
      → SpellsImage text Then due

-- what is due where IMAGE is read with its limit, and nothing after it; `Then` follows where its text spells an image
abbrev pub ReadsImage : List ℕ → (Image → Due → Type 0) → List Reading → Due → Type 0
ReadsImage image Then readings due = ReadsOne image image_limit (λ text d. SpellsImage text Then d) readings due

-- What is due to a file over what is read after it: it is refused, and nothing is read after it; or
-- it is accepted, and something follows.
pub data AcceptsFirst (bytes : List ℕ) (Then : Program → List Reading → Due → Type 0) (later : List Reading)
    (due : Due) : Type 0 where
  turned_down : IsRefused bytes due → later ≡ [] → AcceptsFirst bytes Then later due
  accepted : (p : Program) → IsAccepted bytes p → Then p later due → AcceptsFirst bytes Then later due

-- What is due to FILE and IMAGE: FILE is read and accepted, then IMAGE is read, and something follows.
abbrev pub Opens : List ℕ → List ℕ → Following → List Reading → Due → Type 0
Opens file image Then readings due =
    ReadsFile file file_limit
    (λ bytes later d. AcceptsFirst bytes (λ p rs e. ReadsImage image (Then p) rs e) later d) readings due

-- Read images -------------------------------------------------------------------------------

-- the file of this name was read within its limit, and nothing else, and its text is that of image `i`, whose blocks
-- are in their places
pub record IsReadImage (image : List ℕ) (readings : List Reading) (i : Image) : Type 0 where
  pub text : List ℕ
  pub is : readings ≡ whole image text ∷ []
  pub short : length text ≤ image_limit
  pub spelled : IsTextOf text i
  pub placed : AreInPlace i.blocks

-- a file was read and accepted, and then an image was read, and nothing after it
pub record IsOpened (file image : List ℕ) (readings : List Reading) (o : Opened) : Type 0 where
  pub bytes : List ℕ
  pub later : List Reading
  pub is : readings ≡ whole file bytes ∷ later
  pub short : length bytes ≤ file_limit
  pub acceptance : IsAcceptance bytes o.accepted
  pub read : IsReadImage image later o.image
