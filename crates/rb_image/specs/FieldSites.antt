-- The sites at which the words of a leaf's field stand. A site says where in an image bits are: a range of a root
-- word, or of a word of a block. A field is the subvalue at a path, a list of field numbers from the leaf's root. A
-- part is a range of a word of the leaf. `ats` has the addresses of the leaf's blocks by number, 0 for one that is
-- not known.
use Rattle.std.specs.Prelude.{◌≡◌, ℕ, ◌+◌, ◌^◌, ◌<◌, ◌≤◌, List, length, map, Some, slice_get}
use Rattle.rb_core.specs.declared.program.Program.{Program}
use Rattle.rb_core.specs.TypedPrograms.{IsTyped}
use Rattle.rb_layout.specs.declared.layout.FlatWord.{FlatWord}
use Rattle.rb_layout.specs.declared.layout.Leaf.{Leaf}
use Rattle.rb_layout.specs.declared.layout.Part.{Part}
use Rattle.rb_layout.specs.declared.layout.WordRef.{WordRef}
use Rattle.rb_layout.specs.Agreement.{Agrees}
use Rattle.rb_layout.specs.Each.{EachLeaf}
use Rattle.rb_layout.specs.Flattening.{flat_layouts}
use Rattle.rb_layout.specs.Readable.{IsReadable}
use Rattle.rb_layout.specs.Words.{flat_at}
use Rattle.rb_image_text.specs.declared.image.Image.{Image}
use Rattle.rb_image_text.specs.Places.{AreInPlace}
use Rattle.rb_image.specs.declared.kept.Kept.{Kept}
use Rattle.rb_image.specs.declared.site.Site.{Site}
use Rattle.rb_image.specs.Orders.{order_of}
use Rattle.rb_image.specs.Parts.{field_word, field_words}
use Rattle.rb_image.specs.Roots.{kept_from}
use Rattle.rb_image.specs.Sites.{kept_of}

-- the bits at a site are among the 64 of a word
abbrev pub IsNarrow : Site → Type 0
IsNarrow s = s.o + s.l ≤ 64

-- at each of these sites the bits are among the 64 of a word
abbrev pub AreNarrow : List Site → Type 0
AreNarrow sites = (j : ℕ) (s : Site) → slice_get sites j ≡ Some s → IsNarrow s

-- each part of a word of the leaf, in its root or a block, is among the 64 bits of a word
abbrev pub HasNarrowParts : Leaf → Type 0
HasNarrowParts leaf = (r : WordRef) (f : FlatWord) (k : ℕ) (p : Part)
    → flat_at leaf r ≡ Some f → slice_get f.parts k ≡ Some p → p.o + p.l ≤ 64

-- in layouts that agree with their types each part of a leaf's words is among 64 bits, and the words are few and
-- short
abbrev pub LeavesAreNarrow : Type 0
LeavesAreNarrow = (p : Program) → IsTyped p → Agrees p
    → EachLeaf (flat_layouts p) (λ t layout n leaf. IsReadable leaf × HasNarrowParts leaf)

-- the first `count` words of the field at a path, where the leaf's root words stand at these sites, and its blocks at
-- the addresses `ats`
abbrev pub words_of_field : Image → Leaf → List Site → List ℕ → List ℕ → ℕ → List Kept
words_of_field image leaf sites ats path count =
    field_words (field_word image.blocks (map (kept_of image) sites) ats (order_of leaf)) path 0 count

-- in each image the first `count` words of the field at a path stand at the sites `found`, where the leaf's root
-- words stand at `sites`, and its blocks at the addresses `ats`
abbrev pub AreSitesOf : Leaf → List Site → List ℕ → List ℕ → ℕ → List Site → Type 0
AreSitesOf leaf sites ats path count found = (image : Image) → AreInPlace image.blocks
    → map (kept_of image) found ≡ words_of_field image leaf sites ats path count

-- each of these numbers is a word of at most 64 bits
abbrev pub AreWords : List ℕ → Type 0
AreWords ns = (k n : ℕ) → slice_get ns k ≡ Some n → n < 2 ^ 64

-- in each image with `count` root words, which have at most 64 bits, these stand at the sites `found`
abbrev pub AreRootSites : ℕ → List Site → Type 0
AreRootSites count found = (image : Image) → length image.root ≡ count → AreWords image.root
    → map (kept_of image) found ≡ kept_from 0 image.root
