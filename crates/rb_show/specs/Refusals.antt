-- The text of a refusal of layouts: the type, the rule, and what fails there. A leaf is named by its provenance, the
-- pattern of the values that it holds. A path leads to a field: the number of a field, of a field in that one, and so
-- on. A split goes by the bits at a location, and its arms are for literals, numbers that these bits may be. `types`
-- are the types of the program.
use Rattle.std.specs.Prelude.{ℕ, List, [], ◌∷◌, ◌++◌, Bool, codes, if◌then◌else◌, nat_eq, Option, Some, None, slice_get}
use Rattle.std.specs.Fmt.{decimal}
use Rattle.std.specs.List.{flat_map, list_any}
use Rattle.rb_core.specs.declared.layout_decl.Loc.{Loc}
use Rattle.rb_core.specs.declared.pattern.Pat.{Pat}
use Rattle.rb_core.specs.declared.types.DataDecl.{DataDecl}
use Rattle.rb_core.specs.declared.types.Ty.{Ty}
use Rattle.rb_core.specs.declared.types.Ty.TheVariants.{Int, Named}
use Rattle.rb_core.specs.Texts.{pattern_text, type_name}
use Rattle.rb_layout.specs.declared.evidence.Refused.{Refused}
use Rattle.rb_layout.specs.declared.evidence.Why.{Why}
use Rattle.rb_layout.specs.declared.evidence.Why.TheVariants.{NoLayout, ShapeWidth, WordCount, WordWidth, Outside, Overlap, ConstWide, Misfit, BlockWord, BlockWords, Blocks, Align, ShortPointer, Common, NoLeaf, NotHeld, HeldTwice, NotOpen, Unresolved, NotKnown, NotExcluded, LiteralWide, LiteralTwice, NoArm, HasPointer, FlatCycle, HoldCycle}
use Rattle.rb_layout.specs.declared.layout.Layout.{Layout}
use Rattle.rb_layout.specs.declared.layout.Leaf.{Leaf}
use Rattle.rb_layout.specs.A8.{length_of}
use Rattle.rb_layout.specs.Flattening.{type_at}
use Rattle.rb_layout.specs.Positions.{open_positions, leaves_of_layout}
use Rattle.rb_show.specs.Lines.{path_text}
use Rattle.rb_show.specs.Locations.{bits_text, loc_text}

-- Names -------------------------------------------------------------------------------------

-- the name of a type, by its number; empty where there is no such type
abbrev pub name_of : List DataDecl → ℕ → List ℕ
name_of types t = type_name (slice_get types t)

-- the name of type t behind that of another, with a comma between them
abbrev pub later_name : List DataDecl → ℕ → List ℕ
later_name types t = codes ", " ++ name_of types t

-- the names of these types, with commas between them
abbrev pub names_text : List DataDecl → List ℕ → List ℕ
names_text types [] = []
names_text types (t ∷ ts) = name_of types t ++ flat_map (later_name types) ts

-- Leaves ------------------------------------------------------------------------------------

-- the provenance of a leaf that was looked up, by which a leaf is named; empty where no leaf was found
abbrev pub provenance_text : List DataDecl → Option Leaf → List ℕ
provenance_text types None = []
provenance_text types (Some leaf) = pattern_text types leaf.prov

-- what a field of this type is counted in: words for a data type, else bits; bits, too, where no type was found
abbrev pub unit_text : Option Ty → List ℕ
unit_text (Some (Named t)) = codes " word "
unit_text (Some (Int bits)) = codes " bit "
unit_text None = codes " bit "

-- what the field at a path of a leaf is counted in, words or bits; bits, too, where there is no such leaf or field
abbrev pub unit_in : List DataDecl → Option Leaf → List ℕ → List ℕ
unit_in types None path = codes " bit "
unit_in types (Some leaf) path = unit_text (type_at (open_positions types leaf.prov) path)

-- a field, named by its path
abbrev pub field_text : List ℕ → List ℕ
field_text path = codes "field " ++ path_text path

-- What fails --------------------------------------------------------------------------------

-- the text that the word of this number has so many bits
abbrev pub width_text : ℕ → ℕ → List ℕ
width_text word width = codes "word " ++ decimal word ++ codes " has " ++ decimal width ++ codes " bits"

-- which item of a leaf fails, by its number, before what fails there
abbrev pub item_text : ℕ → List ℕ
item_text item = codes "item " ++ decimal item ++ codes ": "

-- the text that the word of this number has so many bits, and the shape's word so many others
abbrev pub other_width_text : ℕ → ℕ → ℕ → List ℕ
other_width_text word width wanted = width_text word width ++ codes ", wanted " ++ decimal wanted

-- the text that in this item l bits from bit o on have no bit or go beyond their word
abbrev pub outside_text : ℕ → ℕ → ℕ → List ℕ
outside_text item o l = item_text item ++ codes "part " ++ bits_text o l ++ codes " outside its word"

-- the text that in this item l bits from bit o on and m bits from bit p on have a bit in common
abbrev pub overlap_text : ℕ → ℕ → ℕ → ℕ → ℕ → List ℕ
overlap_text item o l p m =
    item_text item ++ codes "parts " ++ bits_text o l ++ codes " and " ++ bits_text p m ++ codes " overlap"

-- the text that in this item a constant stands over l bits, where it doesn't fit
abbrev pub constant_text : ℕ → ℕ → ℕ → List ℕ
constant_text item c l =
    item_text item ++ codes "constant " ++ decimal c ++ codes " over " ++ decimal l ++ codes " bits"

-- the text that in this item l bits from bit o on don't fit what they hold of the field at a path
abbrev pub misfit_text : ℕ → ℕ → ℕ → List ℕ → List ℕ
misfit_text item o l path =
    item_text item ++ codes "part " ++ bits_text o l ++ codes " does not fit " ++ field_text path

-- a literal, as a number behind the word for it
abbrev pub literal_text : ℕ → List ℕ
literal_text c = codes "literal " ++ decimal c

-- the text of how many root words a leaf should have, and how many it has
abbrev pub counts_text : ℕ → ℕ → List ℕ
counts_text wanted found = codes "wanted " ++ decimal wanted ++ codes " words, found " ++ decimal found

-- the text that a split's location leads to no bits of the leaf
abbrev pub unresolved_text : Loc → List ℕ
unresolved_text loc = loc_text loc ++ codes " does not resolve"

-- a literal, what it is not (such as known), and the location where it isn't
abbrev pub literal_at : ℕ → List ℕ → Loc → List ℕ
literal_at c fault loc = literal_text c ++ fault ++ loc_text loc

-- the text that the values of this pattern have no leaf
abbrev pub missing_text : List DataDecl → Pat → List ℕ
missing_text types pat = codes "no leaf for " ++ pattern_text types pat

-- the text that type t has a pointer, where it is flattened and must not have one
abbrev pub pointer_text : List DataDecl → ℕ → List ℕ
pointer_text types t = name_of types t ++ codes " has a pointer"

-- a cycle of types, by their names: each flattens the next, and the last the first
abbrev pub flattening_text : List DataDecl → List ℕ → List ℕ
flattening_text types ts = codes "flattening cycle " ++ names_text types ts

-- a cycle of types, by their names: each holds the next in root words, and the last the first
abbrev pub holding_text : List DataDecl → List ℕ → List ℕ
holding_text types ts = codes "holding cycle " ++ names_text types ts

-- the split that fails, by its location, before what fails there
abbrev pub split_text : Loc → List ℕ
split_text loc = codes "split " ++ loc_text loc ++ codes ": "

-- the text that the field at a path is not open
abbrev pub closed_text : List ℕ → List ℕ
closed_text path = field_text path ++ codes " not open"

-- the text that a literal of the split at a location doesn't fit the bits that it goes by
abbrev pub wide_text : Loc → ℕ → List ℕ
wide_text loc c =
    split_text loc ++ literal_text c ++ codes " over " ++ decimal (length_of loc) ++ codes " bits"

-- the text that the split at a location has a literal twice
abbrev pub twice_text : Loc → ℕ → List ℕ
twice_text loc c = split_text loc ++ literal_text c ++ codes " twice"

-- the text that the split at a location has no arm
abbrev pub armless_text : Loc → List ℕ
armless_text loc = split_text loc ++ codes "no arm"

module _ (types : List DataDecl) (leaves : List Leaf) where
  -- the provenance of leaf n, by which it is named; empty where there is no such leaf
  abbrev pub leaf_text : ℕ → List ℕ
  leaf_text n = provenance_text types (slice_get leaves n)

  -- bit or word i of the field at a path of leaf n, whichever the field is counted in
  abbrev pub unit_of_field : ℕ → List ℕ → ℕ → List ℕ
  unit_of_field n path i = field_text path ++ unit_in types (slice_get leaves n) path ++ decimal i

  -- the text that bit or word i of the field at a path of leaf n is not held
  abbrev pub unheld_text : ℕ → List ℕ → ℕ → List ℕ
  unheld_text n path i = unit_of_field n path i ++ codes " not held"

  -- the text that bit or word i of the field at a path of leaf n is held twice
  abbrev pub twice_held_text : ℕ → List ℕ → ℕ → List ℕ
  twice_held_text n path i = unit_of_field n path i ++ codes " held twice"

  -- the text that leaf n and a later leaf, each named by its provenance, have a common value
  abbrev pub common_text : ℕ → ℕ → List ℕ
  common_text n later =
      codes "leaves " ++ leaf_text n ++ codes " and " ++ leaf_text later ++ codes " have a common value"

  -- the text of what fails, where n is the number of the leaf if it fails at a leaf
  abbrev pub evidence_text : ℕ → Why → List ℕ
  evidence_text n NoLayout = codes "no layout"
  evidence_text n (ShapeWidth i width) = width_text i width
  evidence_text n (WordCount wanted found) = counts_text wanted found
  evidence_text n (WordWidth i width wanted) = other_width_text i width wanted
  evidence_text n (Outside item o l) = outside_text item o l
  evidence_text n (Overlap item o l p m) = overlap_text item o l p m
  evidence_text n (ConstWide item c l) = constant_text item c l
  evidence_text n (Misfit item o l path) = misfit_text item o l path
  evidence_text n (BlockWord width) = codes "block word of " ++ decimal width ++ codes " bits"
  evidence_text n (BlockWords count) = codes "block of " ++ decimal count ++ codes " words"
  evidence_text n (Blocks count) = decimal count ++ codes " blocks"
  evidence_text n (Align align) = codes "alignment " ++ decimal align
  evidence_text n (ShortPointer bits) = codes "pointer of " ++ decimal bits ++ codes " bits"
  evidence_text n (Common later) = common_text n later
  evidence_text n (NoLeaf pat) = missing_text types pat
  evidence_text n (NotHeld path i) = unheld_text n path i
  evidence_text n (HeldTwice path i) = twice_held_text n path i
  evidence_text n (NotOpen path) = closed_text path
  evidence_text n (Unresolved loc) = unresolved_text loc
  evidence_text n (NotKnown loc c) = literal_at c (codes " not known at ") loc
  evidence_text n (NotExcluded loc c) = literal_at c (codes " not excluded at ") loc
  evidence_text n (LiteralWide loc c) = wide_text loc c
  evidence_text n (LiteralTwice loc c) = twice_text loc c
  evidence_text n (NoArm loc) = armless_text loc
  evidence_text n (HasPointer t) = pointer_text types t
  evidence_text n (FlatCycle ts) = flattening_text types ts
  evidence_text n (HoldCycle ts) = holding_text types ts

-- A refusal ---------------------------------------------------------------------------------

-- whether a rule is of each leaf by itself: its words, its parts, its blocks, its fields, or the splits above it
abbrev pub is_of_one_leaf : ℕ → Bool
is_of_one_leaf rule = list_any (nat_eq rule) (2 ∷ 3 ∷ 4 ∷ 6 ∷ 7 ∷ [])

-- the name of leaf n before what fails there, where the rule is of one leaf; else empty
abbrev pub at_leaf : List DataDecl → List Leaf → ℕ → ℕ → List ℕ
at_leaf types leaves rule n =
    if is_of_one_leaf rule then codes "leaf " ++ leaf_text types leaves n ++ codes ": " else []

-- the number of a refusal's leaf, or 0 where the refusal is of no leaf
abbrev pub number_of_leaf : Option ℕ → ℕ
number_of_leaf None = 0
number_of_leaf (Some n) = n

-- the text of a refusal, such as `layout of T: A4: leaf C(_): alignment 3`
abbrev pub refusal_text : List DataDecl → List Layout → Refused → List ℕ
refusal_text types layouts r =
    let leaves = leaves_of_layout (slice_get layouts r.ty) in
    codes "layout of " ++ name_of types r.ty ++ codes ": A" ++ decimal r.rule ++ codes ": "
    ++ at_leaf types leaves r.rule (number_of_leaf r.leaf) ++ evidence_text types leaves (number_of_leaf r.leaf) r.why
