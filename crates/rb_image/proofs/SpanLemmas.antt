-- The bytes and the blocks of the memory of an image.
use Rattle.std.proofs.Common.{◌≡◌, ◌≢◌, ℕ, zero, suc, ◌+◌, ◌-◌, ◌<◌, ◌≤◌, inl, inr, List, [], ◌∷◌, ◌++◌, length, map, replicate, Option, Some, None, refl, sym, subst, ap, ◌∙◌, arith, eq-eqb, length-append}
use Rattle.std.specs.Prelude.{slice_get}
use Rattle.std.proofs.lemmas.Bool.{cases_lt}
use Rattle.std.proofs.lemmas.Bool.Decides.{eqb_tells}
use Rattle.std.proofs.lemmas.List.{length-map, length-replicate}
use Rattle.std.proofs.lemmas.Option.{same_Some, slice_get_within}
use Rattle.rb_bytes.specs.Memory.{IsGood, byte_at, size_at, AreBlocks}
use Rattle.rb_bytes.proofs.BlockLemmas.{eqb_other}
use Rattle.rb_image_text.specs.declared.image.ImageBlock.{ImageBlock}
use Rattle.rb_image_text.specs.Images.{AreBelow}
use Rattle.rb_image.specs.Memories.{Stand, bytes_from, end_from, memory_within, span_of}
use Rattle.rb_image.proofs.AscentLemmas.{Ascend, ascend_lower, begins_above, end_lower, ends}

-- ---- lists of bytes
byte_left : (xs ys : List (Option ℕ)) (i : ℕ) → i < length xs → byte_at (xs ++ ys) i ≡ byte_at xs i
byte_left [] ys i lt = absurd (omega arith)
byte_left (x ∷ xs) ys zero lt = refl
byte_left (x ∷ xs) ys (suc i) lt = byte_left xs ys i (omega (arith, lt))

byte_right : (xs ys : List (Option ℕ)) (k i : ℕ) → k ≡ length xs + i → byte_at (xs ++ ys) k ≡ byte_at ys i
byte_right [] ys k i e = let same : k ≡ i = omega (arith, e) in ap (λ n. byte_at ys n) same
byte_right (x ∷ xs) ys zero i e = absurd (omega (arith, e))
byte_right (x ∷ xs) ys (suc k) i e = byte_right xs ys k i (omega (arith, e))

none_at : (n a : ℕ) → byte_at (replicate n None) a ≡ None
none_at zero a = refl
none_at (suc n) zero = refl
none_at (suc n) (suc a) = none_at n a

some_at : (ns : List ℕ) (i : ℕ) → byte_at (map Some ns) i ≡ slice_get ns i
some_at [] i = refl
some_at (n ∷ ns) zero = refl
some_at (n ∷ ns) (suc i) = some_at ns i

below_at : (high : ℕ) (ns : List ℕ) (i n : ℕ) → AreBelow high ns → slice_get ns i ≡ Some n → n < high
below_at high [] i n are is = cc
below_at high (m ∷ ns) zero n are is = let same : m ≡ n = same_Some m n is in omega (arith, same, are.0)
below_at high (m ∷ ns) (suc i) n are is = below_at high ns i n are.1 is

-- ---- the bytes of the first block, what lies before it and behind it
module _ (from to : ℕ) (b : ImageBlock) (bs : List ImageBlock) (le : from ≤ b.at) where
  abbrev gap : List (Option ℕ)
  gap = replicate (b.at - from) None

  abbrev own : List (Option ℕ)
  own = map Some b.bytes

  abbrev rest : List (Option ℕ)
  rest = bytes_from (b.at + length b.bytes) bs to

  gap_long : length gap ≡ b.at - from
  gap_long = length-replicate (b.at - from) None

  own_long : length own ≡ length b.bytes
  own_long = length-map b.bytes Some

  whole_long : length (bytes_from from (b ∷ bs) to) ≡ (b.at - from) + (length b.bytes + length rest)
  whole_long =
      let outer = length-append gap (own ++ rest) in
      let inner = length-append own rest in
      omega (arith, outer, inner, gap_long, own_long)

  in_gap : (k : ℕ) → from + k < b.at → byte_at (bytes_from from (b ∷ bs) to) k ≡ None
  in_gap k lt = byte_left gap (own ++ rest) k (omega (arith, lt, le, gap_long)) ∙ none_at (b.at - from) k

  in_block : (k i : ℕ) → from + k ≡ b.at + i → i < length b.bytes → byte_at (bytes_from from (b ∷ bs) to) k ≡ slice_get b.bytes i
  in_block k i e lt =
      byte_right gap (own ++ rest) k i (omega (arith, e, le, gap_long))
      ∙ byte_left own rest i (omega (arith, lt, own_long))
      ∙ some_at b.bytes i

  behind_it : (k i : ℕ) → from + k ≡ b.at + length b.bytes + i → byte_at (bytes_from from (b ∷ bs) to) k ≡ byte_at rest i
  behind_it k i e =
      byte_right gap (own ++ rest) k (length b.bytes + i) (omega (arith, e, le, gap_long))
      ∙ byte_right own rest (length b.bytes + i) i (omega (arith, own_long))

-- ---- all bytes
bytes_long : (limit from : ℕ) (bs : List ImageBlock) → Ascend limit from bs → from + length (bytes_from from bs limit) ≡ limit
bytes_long limit from [] up = let none = length-replicate {A = Option ℕ} (limit - from) None in omega (arith, none, up)
bytes_long limit from (b ∷ bs) up =
    let rest = bytes_long limit (b.at + length b.bytes) bs up.3 in
    let whole = whole_long from limit b bs up.0 in
    omega (arith, rest, whole, up.0)

bytes_small : (limit from : ℕ) (bs : List ImageBlock) → Ascend limit from bs → (k n : ℕ) → byte_at (bytes_from from bs limit) k ≡ Some n → n < 256
bytes_small limit from [] up k n is = absurd (let none = none_at (limit - from) k in cc)
bytes_small limit from (b ∷ bs) up k n is = elim (cases_lt (from + k) b.at) [
  | inl before ↦ absurd (let none = in_gap from limit b bs up.0 k before in cc)
  | inr at ↦ elim (cases_lt (from + k) (b.at + length b.bytes)) [
    | inl within ↦
        let i = from + k - b.at in
        below_at 256 b.bytes i n up.2 (sym (in_block from limit b bs up.0 k i (omega (arith, at)) (omega (arith, at, within))) ∙ is)
    | inr past ↦
        let i = from + k - (b.at + length b.bytes) in
        bytes_small limit (b.at + length b.bytes) bs up.3 i n (sym (behind_it from limit b bs up.0 k i (omega (arith, past))) ∙ is)
  ]
]

bytes_fresh : (limit from : ℕ) (bs : List ImageBlock) → Ascend limit from bs → (k : ℕ) → end_from from bs ≤ from + k → byte_at (bytes_from from bs limit) k ≡ None
bytes_fresh limit from [] up k le = none_at (limit - from) k
bytes_fresh limit from (b ∷ bs) up k le =
    let past = (ends limit (b.at + length b.bytes) bs up.3).0 in
    let i = from + k - (b.at + length b.bytes) in
    behind_it from limit b bs up.0 k i (omega (arith, past, le))
    ∙ bytes_fresh limit (b.at + length b.bytes) bs up.3 i (omega (arith, past, le))

-- each byte of a block stands at its address
bytes_stand : (limit from : ℕ) (bs : List ImageBlock) → Ascend limit from bs → (j : ℕ) (c : ImageBlock) → slice_get bs j ≡ Some c
    → (k i n : ℕ) → from + k ≡ c.at + i → slice_get c.bytes i ≡ Some n → byte_at (bytes_from from bs limit) k ≡ Some n
bytes_stand limit from [] up j c is = cc
bytes_stand limit from (b ∷ bs) up zero c is =
    subst (λ (x : ImageBlock). (k i n : ℕ) → from + k ≡ x.at + i → slice_get x.bytes i ≡ Some n → byte_at (bytes_from from (b ∷ bs) limit) k ≡ Some n)
    (same_Some b c is) (λ k i n e at. in_block from limit b bs up.0 k i e (slice_get_within b.bytes i n at) ∙ at)
bytes_stand limit from (b ∷ bs) up (suc j) c is = λ k i n e at.
    let above = begins_above limit (b.at + length b.bytes) bs j c up.3 is in
    let off = from + k - (b.at + length b.bytes) in
    behind_it from limit b bs up.0 k off (omega (arith, above, e))
    ∙ bytes_stand limit (b.at + length b.bytes) bs up.3 j c is off i n (omega (arith, above, e)) at

-- ---- the blocks
spans : (limit from : ℕ) (bs : List ImageBlock) → Ascend limit from bs → AreBlocks from (map span_of bs) (end_from from bs)
spans limit from [] up = omega arith
spans limit from (b ∷ bs) up = (up.0, omega (arith, up.1), spans limit (b.at + length b.bytes) bs up.3)

size_stands : (limit from : ℕ) (bs : List ImageBlock) → Ascend limit from bs → (j : ℕ) (c : ImageBlock) → slice_get bs j ≡ Some c → size_at (map span_of bs) c.at ≡ Some (length c.bytes)
size_stands limit from [] up j c is = cc
size_stands limit from (b ∷ bs) up zero c is =
    subst (λ (x : ImageBlock). size_at (map span_of (b ∷ bs)) x.at ≡ Some (length x.bytes)) (same_Some b c is) (rw (eq-eqb b.at b.at refl) refl)
size_stands limit from (b ∷ bs) up (suc j) c is =
    let above = begins_above limit (b.at + length b.bytes) bs j c up.3 is in
    let ne : b.at ≢ c.at = omega (arith, above, up.1) in
    rw (eqb_other b.at c.at ne) (size_stands limit (b.at + length b.bytes) bs up.3 j c is)

-- no other block has a size
pub size_from : (bs : List ImageBlock) (base size : ℕ) → size_at (map span_of bs) base ≡ Some size
    → (j : ℕ) × (c : ImageBlock) × (slice_get bs j ≡ Some c) × (c.at ≡ base) × (length c.bytes ≡ size)
size_from [] base size is = cc
size_from (b ∷ bs) base size is = elim (eqb_tells b.at base) [
  | inl h ↦ (zero, b, refl, h.1, same_Some (length b.bytes) size (rw h.0 at is))
  | inr h ↦ let rest = size_from bs base size (rw h.0 at is) in (suc rest.0, rest.1, rest.2, rest.3, rest.4)
]

-- ---- the memory
pub within_good : (limit : ℕ) (blocks : List ImageBlock) → limit ≤ 16777216 → Ascend limit 64 blocks → IsGood (memory_within limit blocks)
within_good limit blocks high up =
    let end = ends limit 64 blocks up in
    let low = ascend_lower limit 0 64 blocks (omega arith) up in
    let long = bytes_long limit 0 blocks low in
    let end_low = end_lower 0 64 blocks (omega arith) in
    record {
      blocks = spans limit 64 blocks up;
      next = (end.0, end.1);
      limit = high;
      long = omega (arith, long);
      small = bytes_small limit 0 blocks low;
      fresh = λ a le. bytes_fresh limit 0 blocks low a (omega (arith, le, end_low));
    }

pub within_stand : (limit : ℕ) (blocks : List ImageBlock) → Ascend limit 64 blocks → Stand blocks (memory_within limit blocks)
within_stand limit blocks up k b is =
    let low = ascend_lower limit 0 64 blocks (omega arith) up in
    record {
      size = size_stands limit 64 blocks up k b is;
      bytes = λ i n at. bytes_stand limit 0 blocks low k b is (b.at + i) i n (omega arith) at;
    }
