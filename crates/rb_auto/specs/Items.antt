-- The word of a leaf with its parts: boxed with a tag of 8 bits and a pointer, or packed from bit 0 upwards. A leaf
-- is what a constructor's values look like: here one word. A part is some bits of a word, with what they hold; a
-- block is words in memory to which a pointer leads. The words `ws` are those of the constructor's fields.
use Rattle.std.specs.Prelude.{ℕ, zero, suc, ◌+◌, nat_le, if◌then◌else◌, List, [], ◌∷◌, ◌++◌, map, length, take, drop}
use Rattle.rb_core.specs.declared.layout_decl.LayItem.{LayItem}
use Rattle.rb_core.specs.declared.layout_decl.LayItem.TheVariants as I
use Rattle.rb_core.specs.declared.layout_decl.PartDecl.{PartDecl}
use Rattle.rb_core.specs.declared.layout_decl.PartKind.{PartKind}
use Rattle.rb_core.specs.declared.layout_decl.PartKind.TheVariants as K
use Rattle.rb_auto.specs.declared.field_words.FieldWord.{FieldWord}
use Rattle.rb_auto.specs.declared.form.Form.{Form}
use Rattle.rb_auto.specs.declared.form.Form.TheVariants.{Boxed, Packed}
use Rattle.rb_auto.specs.FieldWords.{content}

-- a part of l bits from bit o on, of this kind
abbrev pub part : ℕ → ℕ → PartKind → PartDecl
part o l kind = record { o = o; l = l; kind = kind }

-- a word of 64 bits whose one part, of this kind, has l bits from bit 0 on
abbrev pub whole_word : ℕ → PartKind → LayItem
whole_word l kind = I.Word 64 (part 0 l kind ∷ [])

-- Boxed -----------------------------------------------------------------------------------------

-- a word of a block that holds one word of a field
abbrev pub field_item : FieldWord → LayItem
field_item w = whole_word w.width (content w)

-- a list in groups of 64 items, the last of which has the rest; at most n groups
abbrev pub groups : {A : Type 0} → ℕ → List A → List (List A)
groups zero ws = []
groups (suc n) [] = []
groups (suc n) (w ∷ ws) = take 64 (w ∷ ws) ∷ groups n (drop 64 (w ∷ ws))

-- a word of a block that points to a block with a group of words
abbrev pub group_item : List FieldWord → LayItem
group_item ws = whole_word 64 (K.Pointer 8 (map field_item ws))

-- the block of a constructor: its words, or pointers to groups of them where there are over 64
abbrev pub block_items : List FieldWord → List LayItem
block_items ws = if nat_le (length ws) 64 then map field_item ws else map group_item (groups (length ws) ws)

-- the pointer, in 56 bits from bit 8 on, to the block with these words, as a list of parts; none where there are no
-- words
abbrev pub pointer_parts : List FieldWord → List PartDecl
pointer_parts [] = []
pointer_parts (w ∷ ws) = part 8 56 (K.Pointer 8 (block_items (w ∷ ws))) ∷ []

-- the parts of the word of constructor k of a boxed type: k as its tag of 8 bits, then the pointer to its words, if
-- any
abbrev pub boxed_parts : ℕ → List FieldWord → List PartDecl
boxed_parts k ws = part 0 8 (K.Const k) ∷ pointer_parts ws

-- Packed ----------------------------------------------------------------------------------------

-- a part for each of these words, one after the other from bit o upwards, without a gap
abbrev pub parts_from : ℕ → List FieldWord → List PartDecl
parts_from o [] = []
parts_from o (w ∷ ws) = part o w.width (content w) ∷ parts_from (o + w.width) ws

-- k as a tag of so many bits from bit 0 on, as a list of parts; none where the tag has no bits
abbrev pub tag_parts : ℕ → ℕ → List PartDecl
tag_parts zero k = []
tag_parts (suc tag) k = part 0 (suc tag) (K.Const k) ∷ []

-- the parts of the word of constructor k of a packed type: k as its tag of so many bits, then the words of its fields
abbrev pub packed_parts : ℕ → ℕ → List FieldWord → List PartDecl
packed_parts tag k ws = tag_parts tag k ++ parts_from tag ws

-- Both ------------------------------------------------------------------------------------------

-- how many bits the word of a derived layout in this form has
abbrev pub form_width : Form → ℕ
form_width Boxed = 64
form_width (Packed tag width) = width

-- how many bits the tag of a derived layout in this form has
abbrev pub form_tag : Form → ℕ
form_tag Boxed = 8
form_tag (Packed tag width) = tag

-- the parts of the word of constructor k in a derived layout of this form, where its fields have these words
abbrev pub form_parts : Form → ℕ → List FieldWord → List PartDecl
form_parts Boxed k ws = boxed_parts k ws
form_parts (Packed tag width) k ws = packed_parts tag k ws

-- the items of the leaf of constructor k in a derived layout of this form: one word, with its tag and its fields'
-- words
abbrev pub leaf_items : Form → ℕ → List FieldWord → List LayItem
leaf_items form k ws = I.Word (form_width form) (form_parts form k ws) ∷ []
