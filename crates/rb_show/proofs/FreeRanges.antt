-- The free ranges that are shown are the maximal ones.
use Rattle.std.proofs.Common.{◌≡◌, ℕ, zero, suc, ◌+◌, ◌-◌, ◌<◌, ◌≤◌, ◌⊎◌, ◌==◌, ◌&&◌, ◌||◌, inl, inr, List, [], ◌∷◌, get_or, Bool, true, false, not, Some, refl, sym, subst, ap, ◌∙◌, ne_eqb, arith}
use Rattle.std.specs.Prelude.{slice_get, leb, ltb, if◌then◌else◌}
use Rattle.std.specs.List.{flat_map, list_any, Contains, All}
use Rattle.std.proofs.lemmas.Bool.{leb-true, le-leb, ltb-true, lt-ltb, and_parts}
use Rattle.std.proofs.lemmas.List.Elements.{All-nil, All-cons, All-contains, Contains-append_right, Contains-append_cases, Contains-push}
use Rattle.std.proofs.lemmas.List.Folds.{list_any_none, list_any_at}
use Rattle.std.proofs.lemmas.Option.{same_Some, slice_get-get_or, slice_get_within}
use Rattle.rb_layout.specs.declared.layout.FlatWord.{FlatWord}
use Rattle.rb_layout.specs.declared.layout.Part.{Part}
use Rattle.rb_layout.specs.A3.{IsIn}
use Rattle.rb_layout.specs.FreeBits.{IsFree}
use Rattle.rb_show.specs.Laws.{IsMaximal, FreeAreMaximal}
use Rattle.rb_show.specs.Pieces.{WordPiece, Held, Free, holds_bit, is_free, begins_free, free_bits, held_at, free_at, pieces_at, pieces_of}
use Rattle.rb_show.proofs.Listed.{in_bits, bit_in, all_flat, first_or_later}
use Rattle.rb_show.proofs.Words.{free-more, free-stops}

and_both : (a b : Bool) → a ≡ true → b ≡ true → (a && b) ≡ true
and_both a b e f = ap (λ x. x && b) e ∙ f

not_true : (b : Bool) → (b ≡ true → ⊥) → b ≡ false
not_true true f = absurd (f refl)
not_true false f = refl

is_not : (b : Bool) → not b ≡ true → b ≡ true → ⊥
is_not true e f = absurd cc
is_not false e f = absurd cc

-- Bits --------------------------------------------------------------------------------------

held_in : (i : ℕ) (p : Part) → holds_bit i p ≡ true → IsIn p.o p.l i
held_in i p e = let h = and_parts (leb p.o i) (ltb i (p.o + p.l)) e in (leb-true p.o i h.0, ltb-true i (p.o + p.l) h.1)

in_held : (i : ℕ) (p : Part) → IsIn p.o p.l i → holds_bit i p ≡ true
in_held i p h = and_both (leb p.o i) (ltb i (p.o + p.l)) (le-leb p.o i h.0) (lt-ltb i (p.o + p.l) h.1)

abbrev AreOut : ℕ → List Part → Type 0
AreOut i ps = (k : ℕ) (p : Part) → slice_get ps k ≡ Some p → IsIn p.o p.l i → ⊥

all_out : (i : ℕ) (ps : List Part) → AreOut i ps → All (λ p. holds_bit i p ≡ false) ps
all_out i [] f = All-nil (λ p. holds_bit i p ≡ false)
all_out i (p ∷ ps) f =
    All-cons (λ q. holds_bit i q ≡ false) p ps (not_true (holds_bit i p) (λ e. f 0 p refl (held_in i p e))) (all_out i ps (λ k q e. f (suc k) q e))

none_holds : (i : ℕ) (ps : List Part) → AreOut i ps → list_any (holds_bit i) ps ≡ false
none_holds i ps f = list_any_none (holds_bit i) ps (all_out i ps f)

one_holds : (i : ℕ) (ps : List Part) (k : ℕ) (p : Part) → slice_get ps k ≡ Some p → IsIn p.o p.l i → list_any (holds_bit i) ps ≡ true
one_holds i ps k p e h =
    let lt = slice_get_within ps k p e in
    let is : get_or ps k p ≡ p = same_Some (get_or ps k p) p (sym (slice_get-get_or ps k p lt) ∙ e) in
    list_any_at (holds_bit i) ps k p lt (ap (holds_bit i) is ∙ in_held i p h)

module _ (word : FlatWord) where
  abbrev held : ℕ → Bool
  held i = list_any (holds_bit i) word.parts

  is_free-true : (i : ℕ) → is_free word i ≡ true → IsFree word i
  is_free-true i e =
      let h = and_parts (ltb i word.width) (not (held i)) e in
      record { inside = ltb-true i word.width h.0; outside = λ k p is within. is_not (held i) h.1 (one_holds i word.parts k p is within) }

  true-is_free : (i : ℕ) → IsFree word i → is_free word i ≡ true
  true-is_free i f =
      and_both (ltb i word.width) (not (held i)) (lt-ltb i word.width f.inside) (ap not (none_holds i word.parts f.outside))

  not_free : (i : ℕ) → (IsFree word i → ⊥) → is_free word i ≡ false
  not_free i f = not_true (is_free word i) (λ e. f (is_free-true i e))

  false-is_free : (i : ℕ) → is_free word i ≡ false → IsFree word i → ⊥
  false-is_free i e f = let t : false ≡ true = sym e ∙ true-is_free i f in absurd cc

  -- Runs of free bits -----------------------------------------------------------------------

  step_at : (i n : ℕ) (b : Bool) → is_free word i ≡ b → free_bits word i (suc n) ≡ (if b then suc (free_bits word (suc i) n) else 0)
  step_at i n b e = ap (λ (c : Bool). if c then suc (free_bits word (suc i) n) else 0) e

  run_on : (n i j : ℕ) (b : Bool) → is_free word i ≡ b → (i ≡ j) ⊎ (i < j) → j < i + free_bits word i (suc n)
      → (i < j → j < suc i + free_bits word (suc i) n → is_free word j ≡ true) → is_free word j ≡ true
  run_on n i j true e (inl s) lt rest = ap (λ k. is_free word k) (sym s) ∙ e
  run_on n i j true e (inr l) lt rest = let r = step_at i n true e in rest l (omega (arith, lt, r))
  run_on n i j false e (inl s) lt rest = let r = step_at i n false e in absurd (omega (arith, lt, r, s))
  run_on n i j false e (inr l) lt rest = let r = step_at i n false e in absurd (omega (arith, lt, r, l))

  run_free : (n i j : ℕ) → i ≤ j → j < i + free_bits word i n → is_free word j ≡ true
  run_free zero i j le lt = absurd (omega (arith, le, lt))
  run_free (suc n) i j le lt = run_on n i j (is_free word i) refl (first_or_later i j le) lt (λ l h. run_free n (suc i) j (omega (arith, l)) h)

  -- a run goes to the last of n bits, or to one that isn't free
  abbrev Ends : ℕ → ℕ → Type 0
  Ends i n = (free_bits word i n ≡ n) ⊎ (is_free word (i + free_bits word i n) ≡ false)

  ends_on : (n i : ℕ) (b : Bool) → is_free word i ≡ b → Ends (suc i) n → Ends i (suc n)
  ends_on n i true e (inl s) = inl (step_at i n true e ∙ ap suc s)
  ends_on n i true e (inr s) =
      let r = step_at i n true e in
      let same : i + free_bits word i (suc n) ≡ suc i + free_bits word (suc i) n = omega (arith, r) in
      inr (ap (λ k. is_free word k) same ∙ s)
  ends_on n i false e rest =
      let r = step_at i n false e in
      let same : i + free_bits word i (suc n) ≡ i = omega (arith, r) in
      inr (ap (λ k. is_free word k) same ∙ e)

  run_ends : (n i : ℕ) → Ends i n
  run_ends zero i = inl refl
  run_ends (suc n) i = ends_on n i (is_free word i) refl (run_ends n (suc i))

  run_is : (l n i : ℕ) → l ≤ n → ((j : ℕ) → i ≤ j → j < i + l → is_free word j ≡ true) → is_free word (i + l) ≡ false → free_bits word i n ≡ l
  run_is zero n i le free end = let z : i + 0 ≡ i = omega arith in free-stops word i n (ap (λ k. is_free word k) (sym z) ∙ end)
  run_is (suc l) zero i le free end = absurd (omega (arith, le))
  run_is (suc l) (suc n) i le free end =
      let z : suc i + l ≡ i + suc l = omega arith in
      free-more word i n (free i (omega arith) (omega arith))
      ∙ ap suc (run_is l n (suc i) (omega (arith, le)) (λ j a b. free j (omega (arith, a)) (omega (arith, b))) (ap (λ k. is_free word k) z ∙ end))

  -- Shown ranges ----------------------------------------------------------------------------

  abbrev IsHeld : WordPiece → Type 0
  IsHeld (Held p) = Unit {0}
  IsHeld (Free o l) = ⊥

  held_one : (p : Part) (b : Bool) → All IsHeld (if b then Held p ∷ [] else [])
  held_one p true = All-cons IsHeld (Held p) [] tt (All-nil IsHeld)
  held_one p false = All-nil IsHeld

  parts_held : (i : ℕ) → All IsHeld (flat_map (held_at i) word.parts)
  parts_held i = all_flat IsHeld (held_at i) (λ p. held_one p (p.o == i)) word.parts

  abbrev IsRangeAt : ℕ → WordPiece → Type 0
  IsRangeAt i x = (begins_free word i ≡ true) × (x ≡ Free i (free_bits word i (word.width - i)))

  range_one : (i : ℕ) (b : Bool) → begins_free word i ≡ b → All (IsRangeAt i) (if b then Free i (free_bits word i (word.width - i)) ∷ [] else [])
  range_one i true e = let r = Free i (free_bits word i (word.width - i)) in All-cons (IsRangeAt i) r [] (e, refl) (All-nil (IsRangeAt i))
  range_one i false e = All-nil (IsRangeAt i)

  abbrev low : WordPiece → ℕ
  low (Held p) = 0
  low (Free o l) = o

  abbrev many : WordPiece → ℕ
  many (Held p) = 0
  many (Free o l) = l

  -- a range that stands at bit i begins there, and goes on as far as bits are free
  at_bit : (i o l : ℕ) → Contains (pieces_at word i) (Free o l) → (begins_free word i ≡ true) × (o ≡ i) × (l ≡ free_bits word i (word.width - i))
  at_bit i o l c = elim (Contains-append_cases (flat_map (held_at i) word.parts) (free_at word i) (Free o l) c) [
    | inl h ↦ absurd (All-contains IsHeld (flat_map (held_at i) word.parts) (Free o l) (parts_held i) h)
    | inr h ↦ let r = All-contains (IsRangeAt i) (free_at word i) (Free o l) (range_one i (begins_free word i) refl) h in (r.0, ap low r.1, ap many r.1)
  ]

  not_below : (i j : ℕ) → begins_free word i ≡ true → j + 1 ≡ i → IsFree word j → ⊥
  not_below i j b e f =
      let h = and_parts (is_free word i) (i == 0 || not (is_free word (i - 1))) b in
      let back : i - 1 ≡ j = omega (arith, e) in
      let above : (i == 0) ≡ false = ne_eqb i 0 (λ z. omega (arith, z, e)) in
      let at : not (is_free word j) ≡ true = ap (λ k. not (is_free word k)) (sym back) ∙ ap (λ b. b || not (is_free word (i - 1))) (sym above) ∙ h.1 in
      is_not (is_free word j) at (true-is_free j f)

  maximal : (i n : ℕ) → begins_free word i ≡ true → i < word.width → n ≡ free_bits word i (word.width - i) → IsMaximal word i n
  maximal i n b lt e =
      let h = and_parts (is_free word i) (i == 0 || not (is_free word (i - 1))) b in
      let all : word.width - i ≡ suc (word.width - i - 1) = omega (arith, lt) in
      let some : n ≡ suc (free_bits word (suc i) (word.width - i - 1)) = e ∙ ap (λ m. free_bits word i m) all ∙ step_at i (word.width - i - 1) true h.0 in
      record {
        some = omega (arith, some);
        free = λ j within. is_free-true j (run_free (word.width - i) i j within.0 (omega (arith, within.1, e)));
        below = λ j is f. not_below i j b is f;
        above = λ f. elim (run_ends (word.width - i) i) [
          | inl whole ↦ let inside = f.inside in absurd (omega (arith, whole, inside, e, lt))
          | inr held ↦ false-is_free (i + n) (ap (λ m. is_free word (i + m)) e ∙ held) f
        ];
      }

  shown_is_maximal : (o l : ℕ) → Contains (pieces_of word) (Free o l) → IsMaximal word o l
  shown_is_maximal o l c =
      let at = in_bits (pieces_at word) 0 word.width (Free o l) c in
      let here = at_bit at.0 o l at.3 in
      subst (λ i. IsMaximal word i l) (sym here.1) (maximal at.0 l here.0 (omega (arith, at.2)) here.2)

  begins : (o : ℕ) → is_free word o ≡ true → ((j : ℕ) → j + 1 ≡ o → IsFree word j → ⊥) → begins_free word o ≡ true
  begins zero free below = and_both (is_free word 0) (0 == 0 || not (is_free word (0 - 1))) free refl
  begins (suc j) free below =
      let back : suc j - 1 ≡ j = omega arith in
      let one : j + 1 ≡ suc j = omega arith in
      and_both (is_free word (suc j)) (suc j == 0 || not (is_free word (suc j - 1))) free
      (ap (λ b. b || not (is_free word (suc j - 1))) (ne_eqb (suc j) 0 (λ z. omega (arith, z))) ∙ ap (λ k. not (is_free word k)) back ∙ ap not (not_free j (below j one)))

  maximal_is_shown : (o l : ℕ) → IsMaximal word o l → Contains (pieces_of word) (Free o l)
  maximal_is_shown o l m =
      let some = m.some in
      let first = m.free o (omega arith, omega (arith, some)) in
      let last = m.free (o + (l - 1)) (omega arith, omega (arith, some)) in
      let first_in = first.inside in
      let last_in = last.inside in
      let free : is_free word o ≡ true = true-is_free o first in
      let run = run_is l (word.width - o) o (omega (arith, some, last_in)) (λ j a b. true-is_free j (m.free j (a, b))) (not_free (o + l) m.above) in
      let one : free_at word o ≡ Free o l ∷ [] = ap (λ (b : Bool). if b then Free o (free_bits word o (word.width - o)) ∷ [] else []) (begins o free m.below)
      ∙ ap (λ n. Free o n ∷ []) run in
      let here : Contains (free_at word o) (Free o l) = subst (λ xs. Contains xs (Free o l)) (sym one) (Contains-push [] (Free o l)) in
      bit_in (pieces_at word) 0 word.width o (Free o l) (omega arith) (omega (arith, first_in)) (Contains-append_right (flat_map (held_at o) word.parts) (free_at word o) (Free o l) here)

pub free_are_maximal : FreeAreMaximal
free_are_maximal word o l = (shown_is_maximal word o l, maximal_is_shown word o l)
