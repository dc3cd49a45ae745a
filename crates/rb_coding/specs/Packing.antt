-- Words as they are made from their parts. A flat word is one of a leaf, the form that a layout has for some values
-- of a type; its part is the l bits from bit o on, which hold a constant, bits or a word of a field, or a pointer to
-- one of the leaf's blocks, by its number. A path is a list of field numbers, outermost first.
use Rattle.std.specs.Prelude.{ℕ, ◌-◌, ltb, List, [], ◌∷◌, if◌then◌else◌}
use Rattle.rb_bits.specs.Words.{take_of, put_of}
use Rattle.rb_layout.specs.declared.layout.FlatWord.{FlatWord}
use Rattle.rb_layout.specs.declared.layout.Part.{Part}
use Rattle.rb_rel.specs.Storing.{number_of}

-- word w with the low l bits of the number `part` put into it from bit o on; w as it is where l is 0 or the bits
-- leave the word
abbrev pub put_into : ℕ → ℕ → ℕ → ℕ → ℕ
put_into w o l part =
    if ltb l 1 then w else (if ltb 64 l then w else (if ltb (64 - l) o then w else put_of w o l (take_of part 0 l)))

-- the word that parts make, each in its place, and 0 elsewhere: `subs` has the words of the field at a path, and
-- `ats` the address of each block by number
abbrev pub word_of_parts : (List ℕ → List ℕ) → (ℕ → ℕ) → List Part → ℕ
word_of_parts subs ats [] = 0
word_of_parts subs ats (p ∷ ps) = put_into (word_of_parts subs ats ps) p.o p.l (number_of subs ats p.l p.kind)

-- the word that the parts of a flat word make, where `subs` has the words of the field at a path, and `ats` the
-- address of each block by number
abbrev pub word_made : (List ℕ → List ℕ) → (ℕ → ℕ) → FlatWord → ℕ
word_made subs ats f = word_of_parts subs ats f.parts
