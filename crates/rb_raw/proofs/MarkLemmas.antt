-- Blocks by the marks at their ends.
use Rattle.std.proofs.Common.{◌≡◌, ◌≢◌, ℕ, zero, suc, ◌+◌, ◌-◌, ◌<◌, ◌≤◌, inl, inr, Bool, true, false, List, [], ◌∷◌, ◌++◌, length, get_or, set, replicate, refl, sym, ap, ◌∙◌, arith, length-set}
use Rattle.std.specs.Prelude.{slice_index, if◌then◌else◌, bit_or}
use Rattle.std.proofs.lemmas.Bool.Decides.{eqb_tells}
use Rattle.std.proofs.lemmas.List.{get_or-set_same, get_or-set_other}
use Rattle.rb_raw.specs.Marks.{is_first, is_last, blocks_in}

put_first : {A : Type 0} (b : Bool) (x : A) (xs ys : List A) → (if b then x ∷ (xs ++ ys) else (xs ++ ys)) ≡ (if b then x ∷ xs else xs) ++ ys
put_first true x xs ys = refl
put_first false x xs ys = refl

pub blocks_clear : (marks : List ℕ) (at begun : ℕ) → ((i : ℕ) → slice_index marks i ≡ 0) → blocks_in marks at begun ≡ []
blocks_clear [] at begun clear = refl
blocks_clear (mark ∷ marks) at begun clear =
    let none : mark ≡ 0 = clear 0 in
    rw none (blocks_clear marks (at + 1) begun (λ i. clear (suc i)))

-- a last mark where nothing else is marked ends the block that was begun
blocks_ended : (marks : List ℕ) (at begun i : ℕ) → i < length marks → ((j : ℕ) → slice_index marks j ≡ 0) → blocks_in (set marks i 2) at begun ≡ (begun, at + i + 1 - begun) ∷ []
blocks_ended [] at begun i lt clear = absurd (omega arith)
blocks_ended (mark ∷ marks) at begun zero lt clear =
    let e : at + 1 ≡ at + 0 + 1 = omega arith in
    rw (blocks_clear marks (at + 1) begun (λ j. clear (suc j))) (ap (λ n. (begun, n - begun) ∷ []) e)
blocks_ended (mark ∷ marks) at begun (suc i) lt clear =
    let none : mark ≡ 0 = clear 0 in
    let e : at + 1 + i + 1 ≡ at + suc i + 1 = omega arith in
    rw none (blocks_ended marks (at + 1) begun i (omega arith) (λ j. clear (suc j)) ∙ ap (λ n. (begun, n - begun) ∷ []) e)

-- a block of one byte behind all others
blocks_one : (marks : List ℕ) (at begun i : ℕ) → i < length marks → ((j : ℕ) → i ≤ j → slice_index marks j ≡ 0)
    → blocks_in (set marks i 3) at begun ≡ blocks_in marks at begun ++ (at + i, 1) ∷ []
blocks_one [] at begun i lt clear = absurd (omega arith)
blocks_one (mark ∷ marks) at begun zero lt clear =
    let none : mark ≡ 0 = clear 0 (omega arith) in
    let rest : (j : ℕ) → slice_index marks j ≡ 0 = λ j. clear (suc j) (omega arith) in
    let e : at ≡ at + 0 = omega arith in
    let one : at + 1 - at ≡ 1 = omega arith in
    rw (none, blocks_clear marks (at + 1) at rest, blocks_clear marks (at + 1) begun rest, one) (ap (λ n. (n, 1) ∷ []) e)
blocks_one (mark ∷ marks) at begun (suc i) lt clear =
    let first = if is_first mark then at else begun in
    let e : at + 1 + i ≡ at + suc i = omega arith in
    let rest = blocks_one marks (at + 1) first i (omega arith) (λ j le. clear (suc j) (omega arith)) ∙ ap (λ n. blocks_in marks (at + 1) first ++ (n, 1) ∷ []) e in
    ap (λ bs. if is_last mark then (first, at + 1 - first) ∷ bs else bs) rest ∙ put_first (is_last mark) (first, at + 1 - first) (blocks_in marks (at + 1) first) ((at + suc i, 1) ∷ [])

-- a longer block behind all others
blocks_more : (marks : List ℕ) (at begun i last size : ℕ) → last < length marks → i < last → i + size ≡ last + 1 → ((j : ℕ) → i ≤ j → slice_index marks j ≡ 0)
    → blocks_in (set (set marks i 1) last 2) at begun ≡ blocks_in marks at begun ++ (at + i, size) ∷ []
blocks_more [] at begun i last size lt before long clear = absurd (omega arith)
blocks_more (mark ∷ marks) at begun i zero size lt before long clear = absurd (omega arith)
blocks_more (mark ∷ marks) at begun zero (suc last) size lt before long clear =
    let none : mark ≡ 0 = clear 0 (omega arith) in
    let rest : (j : ℕ) → slice_index marks j ≡ 0 = λ j. clear (suc j) (omega arith) in
    let e : at ≡ at + 0 = omega arith in
    let s : at + 1 + last + 1 - at ≡ size = omega arith in
    rw (none, blocks_clear marks (at + 1) begun rest)
    (blocks_ended marks (at + 1) at last (omega arith) rest ∙ ap (λ n. (at, n) ∷ []) s ∙ ap (λ n. (n, size) ∷ []) e)
blocks_more (mark ∷ marks) at begun (suc i) (suc last) size lt before long clear =
    let first = if is_first mark then at else begun in
    let e : at + 1 + i ≡ at + suc i = omega arith in
    let rest = blocks_more marks (at + 1) first i last size (omega arith) (omega arith) (omega arith) (λ j le. clear (suc j) (omega arith))
    ∙ ap (λ n. blocks_in marks (at + 1) first ++ (n, size) ∷ []) e in
    ap (λ bs. if is_last mark then (first, at + 1 - first) ∷ bs else bs) rest ∙ put_first (is_last mark) (first, at + 1 - first) (blocks_in marks (at + 1) first) ((at + suc i, size) ∷ [])

set_twice : (marks : List ℕ) (i m n : ℕ) → set (set marks i m) i n ≡ set marks i n
set_twice [] i m n = refl
set_twice (mark ∷ marks) zero m n = refl
set_twice (mark ∷ marks) (suc i) m n = ap (λ ms. mark ∷ ms) (set_twice marks i m n)

-- the marks of a new block, where nothing was marked from its address on
module _ (marks marks' : List ℕ) (at size m n : ℕ) (pos : 0 < size) (fits : at + size ≤ length marks) (clear : (j : ℕ) → at ≤ j → slice_index marks j ≡ 0)
    (begins : m ≡ slice_index marks at) (ends : n ≡ slice_index (set marks at (bit_or m 1)) (at + size - 1)) (are : marks' ≡ set (set marks at (bit_or m 1)) (at + size - 1) (bit_or n 2)) where
  none : m ≡ 0
  none = begins ∙ clear at (omega arith)

  begun : set marks at (bit_or m 1) ≡ set marks at 1
  begun = ap (λ k. set marks at (bit_or k 1)) none

  pub blocks_placed : blocks_in marks' 0 0 ≡ blocks_in marks 0 0 ++ (at, size) ∷ []
  blocks_placed = elim (eqb_tells size 1) [
    | inl one ↦
        let here : at + size - 1 ≡ at = omega (arith, one.1) in
        let both : n ≡ 1 = ends ∙ ap (λ ms. get_or ms (at + size - 1) 0) begun ∙ ap (λ i. get_or (set marks at 1) i 0) here ∙ get_or-set_same marks at 1 0 (omega arith) in
        let all : marks' ≡ set marks at 3 =
        are ∙ ap (λ ms. set ms (at + size - 1) (bit_or n 2)) begun ∙ ap (λ i. set (set marks at 1) i (bit_or n 2)) here ∙ ap (λ k. set (set marks at 1) at (bit_or k 2)) both ∙ set_twice marks at 1 3 in
        let zero_on : 0 + at ≡ at = omega arith in
        ap (λ ms. blocks_in ms 0 0) all ∙ blocks_one marks 0 0 at (omega arith) clear ∙ ap (λ k. blocks_in marks 0 0 ++ (k, 1) ∷ []) zero_on ∙ ap (λ k. blocks_in marks 0 0 ++ (at, k) ∷ []) (sym one.1)
    | inr more ↦
        let apart : at + size - 1 ≢ at = λ e. more.1 (omega arith) in
        let free : n ≡ 0 = ends ∙ get_or-set_other marks at (at + size - 1) (bit_or m 1) 0 apart ∙ clear (at + size - 1) (omega arith) in
        let all : marks' ≡ set (set marks at 1) (at + size - 1) 2 = are ∙ ap (λ ms. set ms (at + size - 1) (bit_or n 2)) begun ∙ ap (λ k. set (set marks at 1) (at + size - 1) (bit_or k 2)) free in
        let zero_on : 0 + at ≡ at = omega arith in
        let long : 1 < size = omega (arith, more.1) in
        ap (λ ms. blocks_in ms 0 0) all ∙ blocks_more marks 0 0 at (at + size - 1) size (omega arith) (omega arith) (omega arith) clear ∙ ap (λ k. blocks_in marks 0 0 ++ (k, size) ∷ []) zero_on
  ]

  pub clear_behind : (a : ℕ) → at + size ≤ a → slice_index marks' a ≡ 0
  clear_behind a le =
      let past : a ≢ at = omega arith in
      let behind : a ≢ at + size - 1 = omega arith in
      ap (λ ms. get_or ms a 0) are ∙ get_or-set_other (set marks at (bit_or m 1)) (at + size - 1) a (bit_or n 2) 0 behind ∙ get_or-set_other marks at a (bit_or m 1) 0 past ∙ clear a (omega arith)

  pub length-placed : length marks' ≡ length marks
  length-placed = ap length are ∙ length-set (set marks at (bit_or m 1)) (at + size - 1) (bit_or n 2) ∙ length-set marks at (bit_or m 1)

pub get_or_any : (marks : List ℕ) (i a b : ℕ) → i < length marks → get_or marks i a ≡ get_or marks i b
get_or_any [] i a b lt = absurd (omega arith)
get_or_any (mark ∷ marks) zero a b lt = refl
get_or_any (mark ∷ marks) (suc i) a b lt = get_or_any marks i a b (omega arith)

pub zero_at : (n a : ℕ) → slice_index (replicate {A = ℕ} n 0) a ≡ 0
zero_at zero a = refl
zero_at (suc n) zero = refl
zero_at (suc n) (suc a) = zero_at n a
