-- Root words: whether they fit a type, and what an image comes to that they begin. A word fits a width if it has at
-- most so many bits. A place is the number of a data type, and the words at which a value of it is to stand. It is
-- sound if neither it nor a place that one comes to from it has a fault.
use Rattle.std.specs.Prelude.{◌≡◌, ◌⊎◌, ℕ, ◌+◌, ◌<◌, ◌^◌, List, [], ◌∷◌, Option, Some, None, slice_get}
use Rattle.rb_core.specs.declared.types.Ty.{Ty}
use Rattle.rb_core.specs.declared.types.Ty.TheVariants.{Int, Named}
use Rattle.rb_core.specs.declared.types.DataDecl.{DataDecl}
use Rattle.rb_layout.specs.declared.layout.Layout.{Layout}
use Rattle.rb_layout.specs.Positions.{layout_of}
use Rattle.rb_image_text.specs.declared.fault.ImageFault.{ImageFault}
use Rattle.rb_image_text.specs.declared.fault.ImageFault.TheVariants.{BadRoot}
use Rattle.rb_image_text.specs.declared.image.Image.{Image}
use Rattle.rb_image.specs.declared.kept.Kept.{Kept}
use Rattle.rb_image.specs.Parts.{At, look}
use Rattle.rb_image.specs.Sound.{Looking, IsSound, HasFault}

-- Widths -------------------------------------------------------------------------------------

-- the widths of the root words of a layout; none where there is no layout
abbrev pub layout_widths : Option Layout → List ℕ
layout_widths None = []
layout_widths (Some layout) = layout.shape

-- the widths in bits of the words of a value of a type; none for a data type that has no layout
abbrev pub widths_of : List Layout → Ty → List ℕ
widths_of layouts (Int bits) = bits ∷ []
widths_of layouts (Named t) = layout_widths (layout_of layouts t)

-- a word is below 2 ^ its width, and there is one exactly where there is a width
abbrev pub WordFits : Option ℕ → Option ℕ → Type 0
WordFits None None = Unit {0}
WordFits None (Some word) = ⊥
WordFits (Some width) None = ⊥
WordFits (Some width) (Some word) = word < 2 ^ width

-- word i fits width i: both are there, and the word is below 2 ^ the width; or neither is there
abbrev pub FitsAt : List ℕ → List ℕ → ℕ → Type 0
FitsAt widths words i = WordFits (slice_get widths i) (slice_get words i)

-- there are as many words as widths, and each word is below 2 ^ its width
abbrev pub WordsFit : List ℕ → List ℕ → Type 0
WordsFit widths words = (i : ℕ) → FitsAt widths words i

-- word i is the first that does not fit: it is missing, too many or too wide
pub record IsFirstMisfit (widths : List ℕ) (words : List ℕ) (i : ℕ) : Type 0 where
  pub misfit : FitsAt widths words i → ⊥
  pub before : (j : ℕ) → j < i → FitsAt widths words j

-- Places -------------------------------------------------------------------------------------

-- words of a root as they are kept there, the first of which is root word j
abbrev pub kept_from : ℕ → List ℕ → List Kept
kept_from j [] = []
kept_from j (n ∷ ns) = record { number = n; base = 0; place = j } ∷ kept_from (j + 1) ns

-- the place of a value of data type t at the root words
abbrev pub root_at : ℕ → List ℕ → At
root_at t words = record { ty = t; words = kept_from 0 words }

-- the place at the root words is sound, if the type is a data type; an integer has no place
abbrev pub RootIsSound : Looking → Ty → List ℕ → Type 0
RootIsSound look (Int bits) words = Unit {0}
RootIsSound look (Named t) words = IsSound look (root_at t words)

-- this is the first fault from the place at the root words on; an integer has no place, and so no fault
abbrev pub RootHasFault : Looking → Ty → List ℕ → ImageFault → Type 0
RootHasFault look (Int bits) words fault = ⊥
RootHasFault look (Named t) words fault = HasFault look (root_at t words) fault

-- Images -------------------------------------------------------------------------------------

module _ (types : List DataDecl) (layouts : List Layout) (image : Image) (ty : Ty) where
  -- the root words fit the type, and the image is sound from them on
  pub record IsSoundImage : Type 0 where
    pub fit : WordsFit (widths_of layouts ty) image.root
    pub sound : RootIsSound (look types layouts image.blocks) ty image.root

  -- this is the image's first fault: of the first root word that does not fit, or else the first from the root on
  abbrev pub IsFirstImageFault : ImageFault → Type 0
  IsFirstImageFault fault =
      ((i : ℕ) × (fault ≡ BadRoot i) × IsFirstMisfit (widths_of layouts ty) image.root i)
      ⊎ (WordsFit (widths_of layouts ty) image.root
      × RootHasFault (look types layouts image.blocks) ty image.root fault)
