-- The number that the code composes of parts is the one that the parts pack.
use Rattle.std.proofs.Common.{◌≡◌, ℕ, zero, suc, ◌+◌, ◌-◌, ◌*◌, ◌/◌, ◌%◌, ◌^◌, ◌<◌, ◌≤◌, ◌⊎◌, ◌==◌, inl, inr, Bool, true, false, List, [], ◌∷◌, Some, refl, sym, subst, ap, ◌∙◌, arith}
use Rattle.std.specs.Prelude.{slice_get, slice_index, if◌then◌else◌}
use Rattle.std.specs.Int.{bit_at}
use Rattle.std.proofs.lemmas.Bool.{cases_lt}
use Rattle.std.proofs.lemmas.Grind.{common_steps}
use Rattle.std.proofs.lemmas.Nat.{pow_pos}
use Rattle.std.proofs.lemmas.Nat.Bits.{same_from_bits}
use Rattle.std.proofs.Math.Nat.{mod-eq_of_lt}
use Rattle.std.proofs.Math.Pow.{shr_lt}
use Rattle.rb_bits.specs.Words.{take_of, put_of, IsOutside, AreDisjoint}
use Rattle.rb_bits.proofs.WordLemmas.{take_fits, bit_at_put_inside, bit_at_put_outside}
use Rattle.rb_layout.specs.declared.layout.Part.{Part}
use Rattle.rb_layout.specs.declared.layout.Kind.{Kind}
use Rattle.rb_layout.specs.declared.layout.Kind.TheVariants.{Const, Bits, Word, Pointer}
use Rattle.rb_layout.specs.A4.{IsAlignment}
use Rattle.rb_fragment.specs.Reads.{is_range}
use Rattle.rb_rel.proofs.Packing.{packed, put_below}
use Rattle.rb_rel.specs.Storing.{number_of}
use Rattle.rb_compose.specs.Counts.{capped_bits}
use Rattle.rb_compose.specs.inner.Code.{constants, shift_of, with_constant}

pub capped-is : (n : ℕ) → n ≤ 64 → capped_bits n ≡ n
capped-is n le = omega (arith, le)

-- Shifts -----------------------------------------------------------------------------------------

pub shift_small : (align : ℕ) → shift_of align ≤ 6
shift_small align =
    elim (align == 2) as (λ t. (if t then 1 else if align == 4 then 2 else if align == 8 then 3 else if align == 16 then 4 else if align == 32 then 5 else if align == 64 then 6 else 0) ≤ 6) [
      | true ↦ omega arith
      | false ↦ elim (align == 4) as (λ t. (if t then 2 else if align == 8 then 3 else if align == 16 then 4 else if align == 32 then 5 else if align == 64 then 6 else 0) ≤ 6) [
        | true ↦ omega arith
        | false ↦ elim (align == 8) as (λ t. (if t then 3 else if align == 16 then 4 else if align == 32 then 5 else if align == 64 then 6 else 0) ≤ 6) [
          | true ↦ omega arith
          | false ↦ elim (align == 16) as (λ t. (if t then 4 else if align == 32 then 5 else if align == 64 then 6 else 0) ≤ 6) [
            | true ↦ omega arith
            | false ↦ elim (align == 32) as (λ t. (if t then 5 else if align == 64 then 6 else 0) ≤ 6) [
              | true ↦ omega arith
              | false ↦ elim (align == 64) as (λ t. (if t then 6 else 0) ≤ 6) [ true ↦ omega arith | false ↦ omega arith ]
            ]
          ]
        ]
      ]
    ]

shift_at : (k : ℕ) → k ≤ 6 → shift_of (2 ^ k) ≡ k
shift_at zero le = refl
shift_at (suc zero) le = refl
shift_at (suc (suc zero)) le = refl
shift_at (suc (suc (suc zero))) le = refl
shift_at (suc (suc (suc (suc zero)))) le = refl
shift_at (suc (suc (suc (suc (suc zero))))) le = refl
shift_at (suc (suc (suc (suc (suc (suc zero)))))) le = refl
shift_at (suc (suc (suc (suc (suc (suc (suc k))))))) le = absurd (omega (arith, le))

pub shift_is : (align : ℕ) → IsAlignment align → align ≡ 2 ^ shift_of align
shift_is align a = a.2 ∙ ap (λ i. 2 ^ i) (sym (shift_at a.0 a.1) ∙ ap shift_of (sym a.2))

-- Two puts ---------------------------------------------------------------------------------------

place_in : (o l i : ℕ) → IsOutside o l i ⊎ ((k : ℕ) × (k < l) × (i ≡ o + k))
place_in o l i = elim (cases_lt i o) [
  | inl lt ↦ inl (inl lt)
  | inr le ↦ elim (cases_lt i (o + l)) [ inl lt ↦ inr (i - o, omega (arith, le, lt), omega (arith, le)) | inr high ↦ inl (inr high) ]
]

apart_at : (o l b m k : ℕ) → AreDisjoint o l b m → k < m → IsOutside o l (b + k)
apart_at o l b m k (inl le) lt = inr (omega arith)
apart_at o l b m k (inr le) lt = inl (omega arith)

pub turned : (o l b m : ℕ) → AreDisjoint o l b m → AreDisjoint b m o l
turned o l b m (inl le) = inr le
turned o l b m (inr le) = inl le

put_swap : (n o l x b m y : ℕ) → x < 2 ^ l → y < 2 ^ m → AreDisjoint o l b m → put_of (put_of n o l x) b m y ≡ put_of (put_of n b m y) o l x
put_swap n o l x b m y fx fy apart = same_from_bits (put_of (put_of n o l x) b m y) (put_of (put_of n b m y) o l x) bits
  where
    first : (i k : ℕ) → k < l → i ≡ o + k → bit_at (put_of (put_of n o l x) b m y) i ≡ bit_at (put_of (put_of n b m y) o l x) i
    first i k lt is =
        let out = apart_at b m o l k (turned o l b m apart) lt in
        ap (bit_at (put_of (put_of n o l x) b m y)) is
        ∙ bit_at_put_outside (put_of n o l x) b m y (o + k) fy out ∙ bit_at_put_inside n o l x k fx lt
        ∙ sym (bit_at_put_inside (put_of n b m y) o l x k fx lt) ∙ ap (bit_at (put_of (put_of n b m y) o l x)) (sym is)

    second : (i k : ℕ) → k < m → i ≡ b + k → bit_at (put_of (put_of n o l x) b m y) i ≡ bit_at (put_of (put_of n b m y) o l x) i
    second i k lt is =
        let out = apart_at o l b m k apart lt in
        ap (bit_at (put_of (put_of n o l x) b m y)) is
        ∙ bit_at_put_inside (put_of n o l x) b m y k fy lt ∙ sym (bit_at_put_inside n b m y k fy lt)
        ∙ sym (bit_at_put_outside (put_of n b m y) o l x (b + k) fx out) ∙ ap (bit_at (put_of (put_of n b m y) o l x)) (sym is)

    neither : (i : ℕ) → IsOutside o l i → IsOutside b m i → bit_at (put_of (put_of n o l x) b m y) i ≡ bit_at (put_of (put_of n b m y) o l x) i
    neither i ol bm =
        bit_at_put_outside (put_of n o l x) b m y i fy bm ∙ bit_at_put_outside n o l x i fx ol
        ∙ sym (bit_at_put_outside n b m y i fy bm) ∙ sym (bit_at_put_outside (put_of n b m y) o l x i fx ol)

    bits : (i : ℕ) → bit_at (put_of (put_of n o l x) b m y) i ≡ bit_at (put_of (put_of n b m y) o l x) i
    bits i = elim (place_in o l i) [
      | inr h ↦ first i h.0 h.1 h.2
      | inl out ↦ elim (place_in b m i) [ inr h ↦ second i h.0 h.1 h.2 | inl far ↦ neither i out far ]
    ]

in_range : (o l : ℕ) → is_range o l ≡ true → o + l ≤ 64
in_range o l e = grind (arith, common_steps)

pub is_a_range : (o l : ℕ) → 1 ≤ l → o + l ≤ 64 → is_range o l ≡ true
is_a_range o l some le = grind (arith, common_steps)

low_fits : (n k : ℕ) → n % 2 ^ k < 2 ^ k
low_fits n k = let p = pow_pos k in omega arith

-- What code composes -----------------------------------------------------------------------------

abbrev pub taken_value : ℕ → ℕ → ℕ → ℕ
taken_value w o l = if o == 0 then w else take_of w o l

same_nat : (a b : ℕ) → (a == b) ≡ true → a ≡ b
same_nat a b e = grind (arith, common_steps)

taken_is : (w o l m : ℕ) → (o ≡ 0 → w % 2 ^ m ≡ take_of w o l % 2 ^ m) → taken_value w o l % 2 ^ m ≡ take_of w o l % 2 ^ m
taken_is w o l m h = go (o == 0) refl
  where
    go : (t : Bool) → (o == 0) ≡ t → (if t then w else take_of w o l) % 2 ^ m ≡ take_of w o l % 2 ^ m
    go true e = h (same_nat o 0 e)
    go false e = refl

pub from_zero : (w l : ℕ) → take_of w 0 l ≡ w % 2 ^ l
from_zero w l = let z : w / 1 ≡ w = omega arith in ap (λ x. x % 2 ^ l) z

-- `field` has the words of the fields, by path and number, and `ats` the addresses of blocks
module _ (field : List ℕ → ℕ → ℕ) (ats : ℕ → ℕ) where
  abbrev pub source_value : ℕ → Kind → ℕ
  source_value l (Const c) = c
  source_value l (Bits path a) = taken_value (field path 0) (capped_bits a) (capped_bits l)
  source_value l (Word path j) = field path j
  source_value l (Pointer align x) = taken_value (ats x) (shift_of align) (64 - shift_of align)

  abbrev pub with_kind : ℕ → Part → Kind → ℕ
  with_kind n p kind = put_of n (capped_bits p.o) (capped_bits p.l) (source_value p.l kind % 2 ^ capped_bits p.l)

  abbrev pub with_part : ℕ → Part → ℕ
  with_part n p = with_kind n p p.kind

  -- the parts that are no constants
  abbrev pub other_kind : ℕ → Part → Kind → ℕ
  other_kind n p (Const c) = n
  other_kind n p (Bits path a) = with_kind n p (Bits path a)
  other_kind n p (Word path j) = with_kind n p (Word path j)
  other_kind n p (Pointer align x) = with_kind n p (Pointer align x)

  abbrev pub others : ℕ → List Part → ℕ
  others n [] = n
  others n (p ∷ ps) = others (other_kind n p p.kind) ps

  abbrev pub with_parts : ℕ → List Part → ℕ
  with_parts n [] = n
  with_parts n (p ∷ ps) = with_parts (with_part n p) ps

  with_parts_swap : (ps : List Part) (n o l x : ℕ) → x < 2 ^ l → ((k : ℕ) (q : Part) → slice_get ps k ≡ Some q → AreDisjoint o l (capped_bits q.o) (capped_bits q.l))
      → with_parts (put_of n o l x) ps ≡ put_of (with_parts n ps) o l x
  with_parts_swap [] n o l x fits apart = refl
  with_parts_swap (q ∷ ps) n o l x fits apart =
      let y = source_value q.l q.kind % 2 ^ capped_bits q.l in
      ap (λ z. with_parts z ps) (put_swap n o l x (capped_bits q.o) (capped_bits q.l) y fits (low_fits (source_value q.l q.kind) (capped_bits q.l)) (apart 0 q refl))
      ∙ with_parts_swap ps (with_part n q) o l x fits (λ k p e. apart (suc k) p e)

  abbrev pub AreRanges : List Part → Type 0
  AreRanges ps = (k : ℕ) (q : Part) → slice_get ps k ≡ Some q → is_range (capped_bits q.o) (capped_bits q.l) ≡ true

  abbrev pub AreApart : List Part → Type 0
  AreApart ps = (j k : ℕ) (x y : Part) → j < k → slice_get ps j ≡ Some x → slice_get ps k ≡ Some y → AreDisjoint (capped_bits x.o) (capped_bits x.l) (capped_bits y.o) (capped_bits y.l)

  constant_swap : (n o l x : ℕ) (q : Part) (kind : Kind) → x < 2 ^ l → is_range (capped_bits q.o) (capped_bits q.l) ≡ true → AreDisjoint o l (capped_bits q.o) (capped_bits q.l)
      → with_constant (put_of n o l x) q.o q.l kind ≡ put_of (with_constant n q.o q.l kind) o l x
  constant_swap n o l x q (Const c) fits range apart =
      let y = take_of c 0 (capped_bits q.l) in
      ap (λ t. if t then put_of (put_of n o l x) (capped_bits q.o) (capped_bits q.l) y else put_of n o l x) range
      ∙ put_swap n o l x (capped_bits q.o) (capped_bits q.l) y fits (take_fits c 0 (capped_bits q.l)) apart
      ∙ ap (λ t. put_of (if t then put_of n (capped_bits q.o) (capped_bits q.l) y else n) o l x) (sym range)
  constant_swap n o l x q (Bits path a) fits range apart = refl
  constant_swap n o l x q (Word path j) fits range apart = refl
  constant_swap n o l x q (Pointer align b) fits range apart = refl

  constants_swap : (ps : List Part) (n o l x : ℕ) → x < 2 ^ l → AreRanges ps → ((k : ℕ) (q : Part) → slice_get ps k ≡ Some q → AreDisjoint o l (capped_bits q.o) (capped_bits q.l))
      → constants (put_of n o l x) ps ≡ put_of (constants n ps) o l x
  constants_swap [] n o l x fits ranges apart = refl
  constants_swap (q ∷ ps) n o l x fits ranges apart =
      ap (λ z. constants z ps) (constant_swap n o l x q q.kind fits (ranges 0 q refl) (apart 0 q refl))
      ∙ constants_swap ps (with_constant n q.o q.l q.kind) o l x fits (λ k p e. ranges (suc k) p e) (λ k p e. apart (suc k) p e)

  -- constants first and then the others is one after the other
  constants_first : (ps : List Part) (n : ℕ) → AreRanges ps → AreApart ps → others (constants n ps) ps ≡ with_parts n ps
  constants_first [] n ranges apart = refl
  constants_first (p ∷ ps) n ranges apart =
      go p.kind (λ i. constants_first ps i (λ k q e. ranges (suc k) q e) (λ j k x y lt e h. apart (suc j) (suc k) x y (omega (arith, lt)) e h))
    where
      late : (v : ℕ) → v < 2 ^ capped_bits p.l → ((i : ℕ) → others (constants i ps) ps ≡ with_parts i ps)
          → others (put_of (constants n ps) (capped_bits p.o) (capped_bits p.l) v) ps ≡ with_parts (put_of n (capped_bits p.o) (capped_bits p.l) v) ps
      late v fits rest =
          ap (λ z. others z ps) (sym (constants_swap ps n (capped_bits p.o) (capped_bits p.l) v fits (λ k q e. ranges (suc k) q e) (λ k q e. apart 0 (suc k) p q (omega arith) refl e)))
          ∙ rest (put_of n (capped_bits p.o) (capped_bits p.l) v)

      go : (kind : Kind) → ((i : ℕ) → others (constants i ps) ps ≡ with_parts i ps)
          → others (other_kind (constants (with_constant n p.o p.l kind) ps) p kind) ps ≡ with_parts (with_kind n p kind) ps
      go (Const c) rest =
          rest (with_constant n p.o p.l (Const c))
          ∙ ap (λ t. with_parts (if t then put_of n (capped_bits p.o) (capped_bits p.l) (take_of c 0 (capped_bits p.l)) else n) ps) (ranges 0 p refl)
          ∙ ap (λ y. with_parts (put_of n (capped_bits p.o) (capped_bits p.l) y) ps) (from_zero c (capped_bits p.l))
      go (Bits path a) rest = late (source_value p.l (Bits path a) % 2 ^ capped_bits p.l) (low_fits (source_value p.l (Bits path a)) (capped_bits p.l)) rest
      go (Word path j) rest = late (source_value p.l (Word path j) % 2 ^ capped_bits p.l) (low_fits (source_value p.l (Word path j)) (capped_bits p.l)) rest
      go (Pointer align x) rest = late (source_value p.l (Pointer align x) % 2 ^ capped_bits p.l) (low_fits (source_value p.l (Pointer align x)) (capped_bits p.l)) rest

  -- a part that the code puts as it is
  pub record IsPut (subs : List ℕ → List ℕ) (at : ℕ → ℕ) (p : Part) : Type 0 where
    pub first : capped_bits p.o ≡ p.o
    pub long : capped_bits p.l ≡ p.l
    pub fits : number_of subs at p.l p.kind < 2 ^ p.l
    pub value : source_value p.l p.kind % 2 ^ p.l ≡ number_of subs at p.l p.kind

  module _ (subs : List ℕ → List ℕ) (at : ℕ → ℕ) where
    pub put_is : (n : ℕ) (p : Part) → IsPut subs at p → with_part n p ≡ put_of n p.o p.l (number_of subs at p.l p.kind)
    put_is n p is =
        ap (λ o. put_of n o (capped_bits p.l) (source_value p.l p.kind % 2 ^ capped_bits p.l)) is.first
        ∙ ap (λ l. put_of n p.o l (source_value p.l p.kind % 2 ^ l)) is.long ∙ ap (put_of n p.o p.l) is.value

    one_by_one : (ps : List Part) → ((k : ℕ) (p : Part) → slice_get ps k ≡ Some p → IsPut subs at p)
        → ((j k : ℕ) (p q : Part) → j < k → slice_get ps j ≡ Some p → slice_get ps k ≡ Some q → AreDisjoint p.o p.l q.o q.l) → with_parts 0 ps ≡ packed subs at ps
    one_by_one [] are apart = refl
    one_by_one (p ∷ ps) are apart =
        let is = are 0 p refl in
        let x = number_of subs at p.l p.kind in
        ap (λ z. with_parts z ps) (put_is 0 p is)
        ∙ with_parts_swap ps 0 p.o p.l x is.fits
        (λ k q e.
        let r = are (suc k) q e in
        subst (λ o. AreDisjoint p.o p.l o (capped_bits q.l)) (sym r.first) (subst (λ l. AreDisjoint p.o p.l q.o l) (sym r.long) (apart 0 (suc k) p q (omega arith) refl e)))
        ∙ ap (λ z. put_of z p.o p.l x) (one_by_one ps (λ k q e. are (suc k) q e) (λ j k a b lt e h. apart (suc j) (suc k) a b (omega (arith, lt)) e h))

    pub composed : (ps : List Part) → AreRanges ps → ((k : ℕ) (p : Part) → slice_get ps k ≡ Some p → IsPut subs at p)
        → ((j k : ℕ) (p q : Part) → j < k → slice_get ps j ≡ Some p → slice_get ps k ≡ Some q → AreDisjoint p.o p.l q.o q.l) → others (constants 0 ps) ps ≡ packed subs at ps
    composed ps ranges are apart = constants_first ps 0 ranges (λ j k x y lt e h. as_capped x y (are j x e) (are k y h) (apart j k x y lt e h)) ∙ one_by_one ps are apart
      where
        as_capped : (x y : Part) → IsPut subs at x → IsPut subs at y → AreDisjoint x.o x.l y.o y.l → AreDisjoint (capped_bits x.o) (capped_bits x.l) (capped_bits y.o) (capped_bits y.l)
        as_capped x y px py d =
            subst (λ i. AreDisjoint i (capped_bits x.l) (capped_bits y.o) (capped_bits y.l)) (sym px.first) (subst (λ i. AreDisjoint x.o i (capped_bits y.o) (capped_bits y.l)) (sym px.long)
            (subst (λ i. AreDisjoint x.o x.l i (capped_bits y.l)) (sym py.first) (subst (λ i. AreDisjoint x.o x.l y.o i) (sym py.long) d)))

    -- by what a part holds
    pub const_put : (l c : ℕ) → c < 2 ^ l → source_value l (Const c) % 2 ^ l ≡ number_of subs at l (Const c)
    const_put l c fits = mod-eq_of_lt fits

    pub bits_put : (l a : ℕ) (path : List ℕ) → a ≤ 64 → l ≤ 64 → field path 0 ≡ slice_index (subs path) 0 → source_value l (Bits path a) % 2 ^ l ≡ number_of subs at l (Bits path a)
    bits_put l a path la ll is =
        let w = slice_index (subs path) 0 in
        ap (λ x. taken_value x (capped_bits a) (capped_bits l) % 2 ^ l) is ∙ ap (λ i. taken_value w i (capped_bits l) % 2 ^ l) (capped-is a la)
        ∙ ap (λ i. taken_value w a i % 2 ^ l) (capped-is l ll)
        ∙ taken_is w a l l (λ z. sym (mod-eq_of_lt (take_fits w a l) ∙ ap (λ i. take_of w i l) z ∙ from_zero w l)) ∙ mod-eq_of_lt (take_fits w a l)

    pub word_put : (l j : ℕ) (path : List ℕ) → slice_index (subs path) j < 2 ^ l → field path j ≡ slice_index (subs path) j → source_value l (Word path j) % 2 ^ l ≡ number_of subs at l (Word path j)
    word_put l j path fits is = ap (λ w. w % 2 ^ l) is ∙ mod-eq_of_lt fits

    pub pointer_put : (l align x : ℕ) → IsAlignment align → ats x ≡ at x → ats x < 2 ^ 64 → at x / align < 2 ^ l → source_value l (Pointer align x) % 2 ^ l ≡ number_of subs at l (Pointer align x)
    pointer_put l align x is same small fits =
        let k = shift_of align in
        let le = shift_small align in
        let all : (64 - k) + k ≡ 64 = omega (arith, le) in
        let high : ats x / 2 ^ k < 2 ^ (64 - k) = shr_lt (64 - k) k (subst (λ i. ats x < 2 ^ i) (sym all) small) in
        let value : ats x / 2 ^ k ≡ at x / align = ap (λ i. i / 2 ^ k) same ∙ ap (λ i. at x / i) (sym (shift_is align is)) in
        let w = ats x in
        let none : k ≡ 0 → w % 2 ^ l ≡ take_of w k (64 - k) % 2 ^ l = λ z. ap (λ i. i % 2 ^ l) (sym (ap (λ i. take_of w i (64 - i)) z ∙ from_zero w 64 ∙ mod-eq_of_lt small)) in
        taken_is w k (64 - k) l none ∙ ap (λ i. i % 2 ^ l) (mod-eq_of_lt high ∙ value) ∙ mod-eq_of_lt fits

-- a word that has a field's word whole
pub put_whole : (l x : ℕ) → put_of 0 0 l x ≡ x
put_whole l x =
    let z : 0 / 2 ^ (0 + l) ≡ 0 = zero_over (2 ^ (0 + l)) in
    let e : (0 * 2 ^ l + x) * 1 + 0 ≡ x = omega arith in
    ap (λ i. (i * 2 ^ l + x) * 2 ^ 0 + 0 % 2 ^ 0) z ∙ e
  where
    zero_over : (n : ℕ) → 0 / n ≡ 0
    zero_over n = grind (arith, common_steps)

-- constants are a number of 64 bits
pub constants_small : (ps : List Part) (n : ℕ) → n < 2 ^ 64 → constants n ps < 2 ^ 64
constants_small [] n lt = lt
constants_small (p ∷ ps) n lt = constants_small ps (with_constant n p.o p.l p.kind) (small p.kind)
  where
    by : (t : Bool) (c : ℕ) → is_range (capped_bits p.o) (capped_bits p.l) ≡ t → (if t then put_of n (capped_bits p.o) (capped_bits p.l) (take_of c 0 (capped_bits p.l)) else n) < 2 ^ 64
    by true c e = put_below n (capped_bits p.o) (capped_bits p.l) (take_of c 0 (capped_bits p.l)) 64 (in_range (capped_bits p.o) (capped_bits p.l) e) lt (take_fits c 0 (capped_bits p.l))
    by false c e = lt

    small : (kind : Kind) → with_constant n p.o p.l kind < 2 ^ 64
    small (Const c) = by (is_range (capped_bits p.o) (capped_bits p.l)) c refl
    small (Bits path a) = lt
    small (Word path j) = lt
    small (Pointer align x) = lt
