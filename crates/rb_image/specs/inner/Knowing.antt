-- Places among others. A place is the number of a data type, and the words at which a value of it is to stand.
use lib.Pointwise.{pointwise}
use Rattle.std.specs.Prelude.{nat_eq, ◌&&◌, Bool, List, [], ◌∷◌, ◌++◌, if◌then◌else◌}
use Rattle.std.specs.List.{list_any}
use Rattle.rb_image.specs.declared.kept.Kept.{Kept}
use Rattle.rb_image.specs.Parts.{At}

-- whether two words have one number and are kept in one place
abbrev pub same_word : Kept → Kept → Bool
same_word v w = nat_eq v.number w.number && (nat_eq v.base w.base && nat_eq v.place w.place)

-- whether two places are of one type and have as many words, each the same number and kept where the other is
abbrev pub same_place : At → At → Bool
same_place p q = nat_eq p.ty q.ty && pointwise same_word p.words q.words

-- whether a place is one of these
abbrev pub is_among : List At → At → Bool
is_among ps p = list_any (same_place p) ps

-- the places with one more, if it is new
abbrev pub with_place : List At → At → List At
with_place ps p = if is_among ps p then ps else ps ++ p ∷ []
