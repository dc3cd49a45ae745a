-- What the pieces of a word are, that is, its parts and the ranges of bits that no part holds, and which leaves the
-- text of a layout shows.
use Rattle.std.specs.Prelude.{◌≡◌, ℕ, ◌+◌, ◌<◌, ◌≤◌, ◌↔◌, List, [], ◌∷◌, map, length, Some, slice_get}
use Rattle.std.specs.List.{Contains, sum_by, range_with_len}
use Rattle.rb_core.specs.declared.program.Program.{Program}
use Rattle.rb_layout.specs.declared.layout.FlatWord.{FlatWord}
use Rattle.rb_layout.specs.declared.layout.Layout.{Layout}
use Rattle.rb_layout.specs.declared.layout.Part.{Part}
use Rattle.rb_layout.specs.A3.{IsIn}
use Rattle.rb_layout.specs.Each.{EachLayout}
use Rattle.rb_layout.specs.FreeBits.{IsFree}
use Rattle.rb_layout.specs.Flattening.{flat_layouts}
use Rattle.rb_layout.specs.Splits.{Route, routes_of}
use Rattle.rb_show.specs.Pieces.{WordPiece, Held, Free, pieces_of}

-- the bits from o on, l of them and at least one, are free, and neither the bit below them nor that above is
pub record IsMaximal (word : FlatWord) (o l : ℕ) : Type 0 where
  pub some : 1 ≤ l
  pub free : (i : ℕ) → IsIn o l i → IsFree word i
  pub below : (i : ℕ) → i + 1 ≡ o → IsFree word i → ⊥
  pub above : IsFree word (o + l) → ⊥

-- the free ranges that are shown are exactly the maximal ones
abbrev pub FreeAreMaximal : Type 0
FreeAreMaximal = (word : FlatWord) (o l : ℕ) → Contains (pieces_of word) (Free o l) ↔ IsMaximal word o l

-- x is piece k of the word in the order in which its pieces are shown, from 0
abbrev pub IsWordPiece : FlatWord → ℕ → WordPiece → Type 0
IsWordPiece word k x = slice_get (pieces_of word) k ≡ Some x

-- of two free ranges of a word, the earlier ends below the bit beneath the later one, so that they don't touch
abbrev pub FreeAreApart : Type 0
FreeAreApart =
    (word : FlatWord) (j k o l m n : ℕ) → j < k → IsWordPiece word j (Free o l) → IsWordPiece word k (Free m n)
    → o + l < m

-- the bit of its word at which a piece begins
abbrev pub first_bit : WordPiece → ℕ
first_bit (Held p) = p.o
first_bit (Free o l) = o

-- no piece begins below one that stands before it
abbrev pub PiecesAscend : Type 0
PiecesAscend =
    (word : FlatWord) (j k : ℕ) (a b : WordPiece) → j < k → IsWordPiece word j a → IsWordPiece word k b
    → first_bit a ≤ first_bit b

-- the parts among pieces, in their order, without the free ranges
abbrev pub parts_in : List WordPiece → List Part
parts_in [] = []
parts_in (Held p ∷ pieces) = p ∷ parts_in pieces
parts_in (Free o l ∷ pieces) = parts_in pieces

-- each part of the word begins at one of the word's bits
abbrev pub BeginInside : FlatWord → Type 0
BeginInside word = (k : ℕ) (p : Part) → slice_get word.parts k ≡ Some p → p.o < word.width

-- of a word whose parts begin inside it, the parts that are shown are its own, each as often as it is there:
-- however parts are weighed, they weigh the same
abbrev pub EachPartIsShown : Type 0
EachPartIsShown = (word : FlatWord) (weight : Part → ℕ) → BeginInside word
    → sum_by weight (parts_in (pieces_of word)) ≡ sum_by weight word.parts

-- the numbers of the leaves that a layout's text shows, in the order of the text
abbrev pub leaves_shown : Layout → List ℕ
leaves_shown layout = map (λ (r : Route). r.leaf) (routes_of layout.tree)

-- each leaf of a layout is shown once, from left to right
abbrev pub LeavesAreShown : Type 0
LeavesAreShown =
    (p : Program) → EachLayout (flat_layouts p)
    (λ t layout. leaves_shown layout ≡ range_with_len 0 (length layout.leaves))
