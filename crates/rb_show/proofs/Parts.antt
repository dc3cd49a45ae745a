-- Each part that begins in its word is shown once.
use Rattle.std.proofs.Common.{◌≡◌, ℕ, zero, suc, ◌+◌, ◌-◌, ◌<◌, ◌≤◌, ◌⊎◌, ◌==◌, inl, inr, List, [], ◌∷◌, ◌++◌, Bool, true, false, Some, refl, sym, ap, ◌∙◌, arith}
use Rattle.std.specs.Prelude.{slice_get, if◌then◌else◌}
use Rattle.std.specs.List.{flat_map, range_with_len, sum_by}
use Rattle.std.proofs.lemmas.Bool.{eqb-true, eq-eqb}
use Rattle.std.proofs.lemmas.List.Sums.{sum_by-cons, sum_by-append}
use Rattle.rb_layout.specs.declared.layout.FlatWord.{FlatWord}
use Rattle.rb_layout.specs.declared.layout.Part.{Part}
use Rattle.rb_show.specs.Laws.{parts_in, EachPartIsShown}
use Rattle.rb_show.proofs.Listed.{first_or_later}
use Rattle.rb_show.specs.Pieces.{WordPiece, Held, Free, begins_free, free_bits, held_at, free_at, pieces_at}

parts-append : (xs ys : List WordPiece) → parts_in (xs ++ ys) ≡ parts_in xs ++ parts_in ys
parts-append [] ys = refl
parts-append (Held p ∷ xs) ys = ap (λ ps. p ∷ ps) (parts-append xs ys)
parts-append (Free o l ∷ xs) ys = parts-append xs ys

no_part : (i n : ℕ) (b : Bool) → parts_in (if b then Free i n ∷ [] else []) ≡ []
no_part i n true = refl
no_part i n false = refl

module _ (weight : Part → ℕ) where
  -- what the parts among pieces weigh
  abbrev weigh : List WordPiece → ℕ
  weigh xs = sum_by weight (parts_in xs)

  weigh-append : (xs ys : List WordPiece) → weigh (xs ++ ys) ≡ weigh xs + weigh ys
  weigh-append xs ys = ap (λ ps. sum_by weight ps) (parts-append xs ys) ∙ sum_by-append weight (parts_in xs) (parts_in ys)

  -- the pieces of one part at so many bits from bit a on
  abbrev one_over : Part → ℕ → ℕ → ℕ
  one_over p a zero = 0
  one_over p a (suc n) = weigh (held_at a p) + one_over p (a + 1) n

  -- the parts that begin at so many bits from bit a on
  abbrev all_over : List Part → ℕ → ℕ → ℕ
  all_over ps a zero = 0
  all_over ps a (suc n) = weigh (flat_map (held_at a) ps) + all_over ps (a + 1) n

  -- free ranges weigh nothing
  pieces_weigh : (word : FlatWord) (i : ℕ) → weigh (pieces_at word i) ≡ weigh (flat_map (held_at i) word.parts)
  pieces_weigh word i =
      let none : weigh (free_at word i) ≡ 0 = ap (λ ps. sum_by weight ps) (no_part i (free_bits word i (word.width - i)) (begins_free word i)) in
      let e = weigh-append (flat_map (held_at i) word.parts) (free_at word i) in
      omega (arith, e, none)

  over_bits : (word : FlatWord) (a n : ℕ) → weigh (flat_map (pieces_at word) (range_with_len a n)) ≡ all_over word.parts a n
  over_bits word a zero = refl
  over_bits word a (suc n) =
      let e = weigh-append (pieces_at word a) (flat_map (pieces_at word) (range_with_len (a + 1) n)) in
      let here = pieces_weigh word a in
      let rest = over_bits word (a + 1) n in
      omega (arith, e, here, rest)

  no_parts : (a n : ℕ) → all_over [] a n ≡ 0
  no_parts a zero = refl
  no_parts a (suc n) = let rest = no_parts (a + 1) n in omega (arith, rest)

  more_parts : (p : Part) (ps : List Part) (a n : ℕ) → all_over (p ∷ ps) a n ≡ one_over p a n + all_over ps a n
  more_parts p ps a zero = refl
  more_parts p ps a (suc n) =
      let e = weigh-append (held_at a p) (flat_map (held_at a) ps) in
      let rest = more_parts p ps (a + 1) n in
      omega (arith, e, rest)

  weigh_one : (p : Part) (i : ℕ) (b : Bool) → (p.o == i) ≡ b → weigh (held_at i p) ≡ weigh (if b then Held p ∷ [] else [])
  weigh_one p i b e = ap (λ (c : Bool). weigh (if c then Held p ∷ [] else [])) e

  here_weighs : (p : Part) (i : ℕ) → p.o ≡ i → weigh (held_at i p) ≡ weight p
  here_weighs p i e = let s = weigh_one p i true (eq-eqb p.o i e) in let t = sum_by-cons weight p [] in omega (arith, s, t)

  elsewhere : (p : Part) (i : ℕ) (b : Bool) → (p.o == i) ≡ b → (p.o ≡ i → ⊥) → weigh (held_at i p) ≡ 0
  elsewhere p i true e not = absurd (not (eqb-true p.o i e))
  elsewhere p i false e not = weigh_one p i false e

  passed : (p : Part) (a n : ℕ) → p.o < a → one_over p a n ≡ 0
  passed p a zero lt = refl
  passed p a (suc n) lt =
      let here = elsewhere p a (p.o == a) refl (λ e. absurd (omega (arith, e, lt))) in
      let rest = passed p (a + 1) n (omega (arith, lt)) in
      omega (arith, here, rest)

  once_at : (p : Part) (a n : ℕ) → (a ≡ p.o) ⊎ (a < p.o) → (a < p.o → one_over p (a + 1) n ≡ weight p) → one_over p a (suc n) ≡ weight p
  once_at p a n (inl e) rest =
      let here = here_weighs p a (sym e) in
      let none = passed p (a + 1) n (omega (arith, e)) in
      omega (arith, here, none)
  once_at p a n (inr lt) rest =
      let here = elsewhere p a (p.o == a) refl (λ e. absurd (omega (arith, e, lt))) in
      let later = rest lt in
      omega (arith, here, later)

  once : (p : Part) (a n : ℕ) → a ≤ p.o → p.o < a + n → one_over p a n ≡ weight p
  once p a zero le lt = absurd (omega (arith, le, lt))
  once p a (suc n) le lt = once_at p a n (first_or_later a p.o le) (λ l. once p (a + 1) n (omega (arith, l)) (omega (arith, lt)))

  all_once : (width : ℕ) (ps : List Part) → ((k : ℕ) (p : Part) → slice_get ps k ≡ Some p → p.o < width) → all_over ps 0 width ≡ sum_by weight ps
  all_once width [] inside = no_parts 0 width
  all_once width (p ∷ ps) inside =
      let first = once p 0 width (omega arith) (let h = inside 0 p refl in omega (arith, h)) in
      let rest = all_once width ps (λ k q e. inside (suc k) q e) in
      let more = more_parts p ps 0 width in
      let cons = sum_by-cons weight p ps in
      omega (arith, first, rest, more, cons)

pub each_part_is_shown : EachPartIsShown
each_part_is_shown word weight inside = over_bits weight word 0 word.width ∙ all_once weight word.width word.parts inside
