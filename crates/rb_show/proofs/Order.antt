-- The pieces of a word stand by ascending offset.
use Rattle.std.proofs.Common.{◌≡◌, ◌∙◌, ◌⊎◌, ap, inl, inr, get_or, append_assoc, ℕ, zero, suc, ◌+◌, ◌-◌, ◌<◌, ◌≤◌, ◌==◌, List, [], ◌∷◌, ◌++◌, Bool, true, false, Some, refl, sym, subst, arith}
use Rattle.std.specs.Prelude.{slice_get, if◌then◌else◌}
use Rattle.std.specs.List.{flat_map, range_with_len, Contains}
use Rattle.std.proofs.lemmas.Bool.{eqb-true}
use Rattle.std.proofs.lemmas.Option.{same_Some, slice_get-get_or, slice_get_within}
use Rattle.rb_layout.specs.declared.layout.FlatWord.{FlatWord}
use Rattle.rb_layout.specs.declared.layout.Part.{Part}
use Rattle.rb_layout.specs.FreeBits.{IsFree}
use Rattle.rb_show.specs.Laws.{first_bit, FreeAreApart, IsMaximal, PiecesAscend}
use Rattle.rb_show.proofs.FreeRanges.{free_are_maximal}
use Rattle.rb_show.specs.Pieces.{WordPiece, Held, Free, begins_free, free_bits, held_at, free_at, pieces_at, pieces_of}

-- the least bit at which what stands behind it begins: a free range stands last at its bit
abbrev next : WordPiece → ℕ
next (Held p) = p.o
next (Free o l) = o + 1

-- each begins no lower than the one before it leaves, and the first no lower than bit lo
abbrev Ascend : ℕ → List WordPiece → Type 0
Ascend lo [] = Unit {0}
Ascend lo (x ∷ xs) = (lo ≤ first_bit x) × Ascend (next x) xs

ascend-from : (lo hi : ℕ) (xs : List WordPiece) → lo ≤ hi → Ascend hi xs → Ascend lo xs
ascend-from lo hi [] le a = tt
ascend-from lo hi (x ∷ xs) le a = let h = a.0 in (omega (arith, le, h), a.1)

-- the parts at bit i
held-append : (i : ℕ) (p : Part) (b : Bool) (ys : List WordPiece) → (p.o == i) ≡ b → Ascend i ys → Ascend i ((if b then Held p ∷ [] else []) ++ ys)
held-append i p true ys e a = let same = eqb-true p.o i e in (omega (arith, same), subst (λ j. Ascend j ys) (sym same) a)
held-append i p false ys e a = a

parts-append : (i : ℕ) (ps : List Part) (ys : List WordPiece) → Ascend i ys → Ascend i (flat_map (held_at i) ps ++ ys)
parts-append i [] ys a = a
parts-append i (p ∷ ps) ys a =
    subst (Ascend i) (sym (append_assoc (held_at i p) (flat_map (held_at i) ps) ys))
    (held-append i p (p.o == i) (flat_map (held_at i) ps ++ ys) refl (parts-append i ps ys a))

free-append : (i n : ℕ) (b : Bool) (ys : List WordPiece) → Ascend (i + 1) ys → Ascend i ((if b then Free i n ∷ [] else []) ++ ys)
free-append i n true ys a = (omega arith, a)
free-append i n false ys a = ascend-from i (i + 1) ys (omega arith) a

bits_ascend : (word : FlatWord) (a n : ℕ) → Ascend a (flat_map (pieces_at word) (range_with_len a n))
bits_ascend word a zero = tt
bits_ascend word a (suc n) =
    let rest = flat_map (pieces_at word) (range_with_len (a + 1) n) in
    subst (Ascend a) (sym (append_assoc (flat_map (held_at a) word.parts) (free_at word a) rest))
    (parts-append a word.parts (free_at word a ++ rest)
    (free-append a (free_bits word a (word.width - a)) (begins_free word a) rest (bits_ascend word (a + 1) n)))

goes_on : (x : WordPiece) → first_bit x ≤ next x
goes_on (Held p) = omega arith
goes_on (Free o l) = omega arith

no_lower : (lo : ℕ) (xs : List WordPiece) → Ascend lo xs → (k : ℕ) (b : WordPiece) → slice_get xs k ≡ Some b → lo ≤ first_bit b
no_lower lo [] a k b e = absurd cc
no_lower lo (x ∷ xs) a zero b e = subst (λ y. lo ≤ first_bit y) (same_Some x b e) a.0
no_lower lo (x ∷ xs) a (suc k) b e = let h = a.0 in let g = goes_on x in let r = no_lower (next x) xs a.1 k b e in omega (arith, h, g, r)

in_order : (lo : ℕ) (xs : List WordPiece) → Ascend lo xs → (j k : ℕ) (a b : WordPiece) → j < k → slice_get xs j ≡ Some a → slice_get xs k ≡ Some b → next a ≤ first_bit b
in_order lo [] s j k a b lt e f = absurd cc
in_order lo (x ∷ xs) s j zero a b lt e f = absurd (omega (arith, lt))
in_order lo (x ∷ xs) s zero (suc k) a b lt e f = subst (λ y. next y ≤ first_bit b) (same_Some x a e) (no_lower (next x) xs s.1 k b f)
in_order lo (x ∷ xs) s (suc j) (suc k) a b lt e f = in_order (next x) xs s.1 j k a b (omega (arith, lt)) e f

pub pieces_ascend : PiecesAscend
pieces_ascend word j k a b lt e f =
    let r = in_order 0 (pieces_of word) (bits_ascend word 0 word.width) j k a b lt e f in
    let g = goes_on a in
    omega (arith, r, g)

-- a piece that stands somewhere
stands : (xs : List WordPiece) (k : ℕ) (x : WordPiece) → slice_get xs k ≡ Some x → Contains xs x
stands xs k x e =
    let lt = slice_get_within xs k x e in
    (k, lt, same_Some (get_or xs k x) x (sym (slice_get-get_or xs k x lt) ∙ e))

case : (a b : ℕ) → (a < b) ⊎ (a ≡ b) ⊎ (b < a)
case zero zero = inr (inl refl)
case zero (suc b) = inl (omega arith)
case (suc a) zero = inr (inr (omega arith))
case (suc a) (suc b) = elim (case a b) [ inl h ↦ inl (omega (arith, h)) | inr (inl e) ↦ inr (inl (ap suc e)) | inr (inr h) ↦ inr (inr (omega (arith, h))) ]

apart : (word : FlatWord) (o l m n : ℕ) → o + 1 ≤ m → IsMaximal word o l → IsMaximal word m n → o + l < m
apart word o l m n above first second = elim (case (o + l) m) [
  | inl h ↦ h
  | inr (inl same) ↦ let some = second.some in absurd (first.above (subst (λ i. IsFree word i) (sym same) (second.free m (omega arith, omega (arith, some)))))
  | inr (inr lower) ↦
      let back : m - 1 + 1 ≡ m = omega (arith, above) in
      absurd (second.below (m - 1) back (first.free (m - 1) (omega (arith, above), omega (arith, lower, above))))
]

pub free_are_apart : FreeAreApart
free_are_apart word j k o l m n lt e f =
    let above = in_order 0 (pieces_of word) (bits_ascend word 0 word.width) j k (Free o l) (Free m n) lt e f in
    let first = (free_are_maximal word o l).0 (stands (pieces_of word) j (Free o l) e) in
    let second = (free_are_maximal word m n).0 (stands (pieces_of word) k (Free m n) f) in
    apart word o l m n above first second
