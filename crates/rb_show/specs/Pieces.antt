-- The pieces of a word: its parts, and the ranges of bits that no part holds.
use Rattle.std.specs.Prelude.{ℕ, zero, suc, ◌+◌, ◌-◌, ◌==◌, ◌&&◌, ◌||◌, leb, ltb, List, [], ◌∷◌, ◌++◌, Bool, not, if◌then◌else◌}
use Rattle.std.specs.List.{flat_map, list_any, range_with_len}
use Rattle.rb_layout.specs.declared.layout.FlatWord.{FlatWord}
use Rattle.rb_layout.specs.declared.layout.Part.{Part}

-- a part of a word, or a range of bits that no part holds: its first bit, and how many they are
pub data WordPiece : Type 0 where
  Held : Part → WordPiece
  Free : ℕ → ℕ → WordPiece

-- whether bit i of a word is one of those that this part of it holds
abbrev pub holds_bit : ℕ → Part → Bool
holds_bit i p = leb p.o i && ltb i (p.o + p.l)

-- whether i is a bit of the word that no part holds
abbrev pub is_free : FlatWord → ℕ → Bool
is_free word i = ltb i word.width && not (list_any (holds_bit i) word.parts)

-- whether a free range begins at bit i: it is free, and the bit below it is none or isn't free
abbrev pub begins_free : FlatWord → ℕ → Bool
begins_free word i = is_free word i && (i == 0 || not (is_free word (i - 1)))

-- how many of n bits from bit i on are free, up to the first that isn't
abbrev pub free_bits : FlatWord → ℕ → ℕ → ℕ
free_bits word i zero = 0
free_bits word i (suc n) = if is_free word i then suc (free_bits word (suc i) n) else 0

-- the part, as a piece, if it begins at bit i; else nothing
abbrev pub held_at : ℕ → Part → List WordPiece
held_at i p = if p.o == i then Held p ∷ [] else []

-- the longest free range from bit i on, if bit i is free and the bit below it is none or isn't free; else nothing
abbrev pub free_at : FlatWord → ℕ → List WordPiece
free_at word i = if begins_free word i then Free i (free_bits word i (word.width - i)) ∷ [] else []

-- the pieces of a word that begin at bit i, the parts before the free range
abbrev pub pieces_at : FlatWord → ℕ → List WordPiece
pieces_at word i = flat_map (held_at i) word.parts ++ free_at word i

-- the pieces of a word, by the bits at which they begin; a part that begins outside the word is left out
abbrev pub pieces_of : FlatWord → List WordPiece
pieces_of word = flat_map (pieces_at word) (range_with_len 0 word.width)
