-- The site at which a part of a leaf stands. A site says where in an image bits are: a range of a root word, or of a
-- word of a block. A part is a range of a word of the leaf, given by its first bit o and its length l. A field is
-- the subvalue at a path, a list of field numbers from the leaf's root.
use Rattle.std.specs.Prelude.{ℕ, zero, suc, ◌+◌, ◌-◌, ◌==◌, nat_lt, List, [], ◌∷◌, Option, Some, None, slice_get, slice_index, if◌then◌else◌}
use Rattle.rb_layout.specs.declared.layout.Part.{Part}
use Rattle.rb_image.specs.declared.site.Site.{Site}
use Rattle.rb_image.specs.Orders.{LocatedPart}
use Rattle.rb_image.specs.Parts.{is_field_word}

-- the lesser of two numbers
abbrev pub lesser : ℕ → ℕ → ℕ
lesser a b = if nat_lt a b then a else b

-- the site of what stands nowhere, which has no bits; a place is noted in it
abbrev pub nowhere : ℕ → Site
nowhere place = record { base = 0; place = place; width = 0; o = 0; l = 0 }

-- the l bits from bit o on of those at a site, but no more than there are
abbrev pub range_in : Site → ℕ → ℕ → Site
range_in s o l = let before = lesser o s.l in
    record { base = s.base; place = s.place; width = s.width; o = s.o + before; l = lesser l (s.l - before) }

-- the site of a part of a root word that stands at this site; nowhere where there is no such word
abbrev pub root_site : Option Site → Part → Site
root_site None p = nowhere 0
root_site (Some s) p = range_in s p.o p.l

-- the site of part s in the block at an address; nowhere where that is 0, at which no block begins
abbrev pub block_site : ℕ → LocatedPart → Site
block_site at s = if at == 0 then nowhere s.byte
    else record { base = at; place = s.byte; width = s.width; o = s.part.o; l = s.part.l }

-- the site of part s of a leaf, in its root or in the block with this number, where the root words stand at these
-- sites and the blocks at the addresses `ats`
abbrev pub part_site : List Site → List ℕ → Option ℕ → LocatedPart → Site
part_site sites ats None s = root_site (slice_get sites s.word) s.part
part_site sites ats (Some b) s = block_site (slice_index ats b) s

-- the site of word j of the field at a path: that of the first of these parts that holds it; nowhere where none does
abbrev pub field_site : List Site → List ℕ → List LocatedPart → List ℕ → ℕ → Site
field_site sites ats [] path j = nowhere 0
field_site sites ats (s ∷ ss) path j =
    if is_field_word s.part.kind path j then part_site sites ats s.block s else field_site sites ats ss path j

-- the sites of n words, from word j on, where `site` gives each of them
abbrev pub sites_from : (ℕ → Site) → ℕ → ℕ → List Site
sites_from site j zero = []
sites_from site j (suc n) = site j ∷ sites_from site (j + 1) n

-- the site of all 64 bits of root word j
abbrev pub whole_root : ℕ → Site
whole_root j = record { base = 0; place = j; width = 64; o = 0; l = 64 }
