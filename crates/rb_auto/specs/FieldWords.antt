-- The words of a constructor's fields, in order. A field has words by its type: an integer is one, a data type has
-- those of its written layout or else one, as wide as `rooms` says. Fields have numbers from 0, and so have the words
-- of a field that has several; an only word has none. A part is some bits of a word of a leaf.
use Rattle.std.specs.Prelude.{ℕ, ◌+◌, List, [], ◌∷◌, ◌++◌, Option, Some, None}
use Rattle.rb_core.specs.declared.types.Ty.{Ty}
use Rattle.rb_core.specs.declared.program.Program.{Program}
use Rattle.rb_core.specs.declared.layout_decl.PartKind.{PartKind}
use Rattle.rb_core.specs.declared.layout_decl.PartKind.TheVariants as K
use Rattle.rb_auto.specs.declared.field_words.FieldWord.{FieldWord}
use Rattle.rb_auto.specs.declared.room.Room.{Room}
use Rattle.rb_auto.specs.Widths.{widths}

-- what a part is written to hold for a word of field i: the only one is `.i`, and word j of several is `.i word j`
abbrev pub content_in : ℕ → Option ℕ → PartKind
content_in i None = K.Whole (i ∷ [])
content_in i (Some j) = K.Word (i ∷ []) j

-- what a part is written to hold that holds this word of a field
abbrev pub content : FieldWord → PartKind
content w = content_in w.field w.word

-- words of field i with these widths, the first of which is word j of the field
abbrev pub words_from : ℕ → ℕ → List ℕ → List FieldWord
words_from i j [] = []
words_from i j (w ∷ ws) = record { field = i; word = Some j; width = w } ∷ words_from i (j + 1) ws

-- the words of field i, which have these widths; an only word has no number of its own
abbrev pub field_words : ℕ → List ℕ → List FieldWord
field_words i [] = []
field_words i (w ∷ []) = record { field = i; word = None; width = w } ∷ []
field_words i (w ∷ v ∷ ws) = words_from i 0 (w ∷ v ∷ ws)

-- the words of fields of these types, in order, the first of which is field i
abbrev pub fields_words : Program → List Room → ℕ → List Ty → List FieldWord
fields_words p rooms i [] = []
fields_words p rooms i (ty ∷ tys) = field_words i (widths p rooms ty) ++ fields_words p rooms (i + 1) tys

-- the words of the fields of a constructor, which have these types, in order
abbrev pub constructor_words : Program → List Room → List Ty → List FieldWord
constructor_words p rooms tys = fields_words p rooms 0 tys
