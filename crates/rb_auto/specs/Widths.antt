-- The widths of words, as derived layouts count them. A room says of a type how wide its word is where its layout is
-- derived; `rooms` has that of each type, by its number. A type's shape is the widths of its words, in bits. A tag is
-- the number of a constructor, in as few bits as tell the constructors of its type apart.
use Rattle.std.specs.Prelude.{ℕ, zero, suc, ◌+◌, ◌^◌, max, nat_le, ◌&&◌, if◌then◌else◌, List, [], ◌∷◌, map, length, sum, sum_by, Option, Some, None, slice_get}
use Rattle.rb_core.specs.declared.types.Ty.{Ty}
use Rattle.rb_core.specs.declared.types.Ty.TheVariants.{Int, Named}
use Rattle.rb_core.specs.declared.types.Con.{Con}
use Rattle.rb_core.specs.declared.program.Program.{Program}
use Rattle.rb_core.specs.declared.layout_decl.LayoutDecl.{LayoutDecl}
use Rattle.rb_layout.specs.Flattening.{decl_of}
use Rattle.rb_auto.specs.declared.room.Room.{Room}
use Rattle.rb_auto.specs.declared.room.Room.TheVariants.{Word, Recursive, Bits}
use Rattle.rb_auto.specs.Fields.{cons_of}

-- the width of the word of a packed type that needs n bits: n, but one at least; a type that needs over 64 is refused
-- and counts as a whole word
abbrev pub packed_width : ℕ → ℕ
packed_width zero = 1
packed_width (suc n) = if nat_le (suc n) 64 then suc n else 64

-- the width of the word of a type with this room; a packed type that reaches itself is refused and counts as a whole
-- word
abbrev pub word_width : Room → ℕ
word_width Word = 64
word_width Recursive = 64
word_width (Bits n) = packed_width n

-- the width of the word of a type with this room, or a whole word where there is none
abbrev pub room_width : Option Room → ℕ
room_width None = 64
room_width (Some room) = word_width room

-- a written width as it counts: one outside 1 to 64 counts as 64
abbrev pub counted_width : ℕ → ℕ
counted_width w = if nat_le 1 w && nat_le w 64 then w else 64

-- the widths of a type's words: those of its written layout, as they count, or else that of one word by its room
abbrev pub shape_or : Option LayoutDecl → Option Room → List ℕ
shape_or None room = room_width room ∷ []
shape_or (Some d) room = map counted_width d.shape

-- the widths of the words of type t: those of its written layout, or else that of one word by its room
abbrev pub shape : Program → List Room → ℕ → List ℕ
shape p rooms t = shape_or (decl_of p.layouts t) (slice_get rooms t)

-- the widths of the words of a field of this type: an integer is one word
abbrev pub widths : Program → List Room → Ty → List ℕ
widths p rooms (Int bits) = bits ∷ []
widths p rooms (Named t) = shape p rooms t

-- how many bits all words of a field of this type have together
abbrev pub field_width : Program → List Room → Ty → ℕ
field_width p rooms ty = sum (widths p rooms ty)

-- how many bits all words of a constructor's fields have together
abbrev pub con_width : Program → List Room → Con → ℕ
con_width p rooms c = sum_by (field_width p rooms) c.fields

-- the greatest of these numbers; 0 where there are none
abbrev pub greatest : List ℕ → ℕ
greatest [] = 0
greatest (n ∷ ns) = max n (greatest ns)

-- the least number of bits, from `bits` up to `bits + more`, that tell n things apart; `bits + more` where none does
unfoldable pub bits_from : ℕ → ℕ → ℕ → ℕ
bits_from zero bits n = bits
bits_from (suc more) bits n = if nat_le n (2 ^ bits) then bits else bits_from more (suc bits) n

-- the least t with 2^t at least n; 63 where n is over 2^63
unfoldable pub tag_bits : ℕ → ℕ
tag_bits n = bits_from 63 0 n

-- how many bits the tag of type t has where it is packed: as few as tell its constructors apart
abbrev pub tag_of : Program → ℕ → ℕ
tag_of p t = tag_bits (length (cons_of p.types t))

-- how many bits type t needs to be packed: those of its tag, and those of the longest of its constructors
abbrev pub need : Program → List Room → ℕ → ℕ
need p rooms t = tag_of p t + greatest (map (con_width p rooms) (cons_of p.types t))
