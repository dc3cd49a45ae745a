-- Bytes read and written one after another.
use Rattle.std.proofs.Common.{◌≡◌, ◌≢◌, ℕ, zero, suc, ◌+◌, ◌-◌, ◌*◌, ◌/◌, ◌%◌, ◌^◌, ◌<◌, ◌≤◌, ◌⊎◌, inl, inr, List, [], ◌∷◌, length, get_or, set, Option, Some, None, Result, Ok, Err, refl, sym, subst, ap, ◌∙◌, arith, length-set}
use Rattle.std.proofs.lemmas.Bool.{cases_lt}
use Rattle.std.proofs.lemmas.Nat.{mod-pow-add, pow-add, mul-add-lt}
use Rattle.std.proofs.lemmas.Option.{same_Some, slice_get-get_or, slice_get_past}
use Rattle.std.proofs.Math.Pow.{pow_mono}
use Rattle.std.proofs.Math.Nat.{mul-add, mul_assoc, mul_comm}
use Rattle.std.specs.Prelude.{slice_get, IsSome}
use Rattle.rb_bits.specs.LittleEndian.{from_le_bytes}
use Rattle.rb_bytes.specs.Memory.{byte_in, byte_at, read_le, write_le, then_byte}
use Rattle.rb_bytes.specs.declared.fault.Trap.{Trap}
use Rattle.rb_bytes.specs.declared.fault.Trap.TheVariants.{Unwritten}

-- ---- one byte written
pub byte_at-set_same : (bytes : List (Option ℕ)) (a b : ℕ) → a < length bytes → byte_at (set bytes a (Some b)) a ≡ Some b
byte_at-set_same [] a b lt = absurd (omega arith)
byte_at-set_same (x ∷ bytes) zero b lt = refl
byte_at-set_same (x ∷ bytes) (suc a) b lt = byte_at-set_same bytes a b (omega arith)

pub byte_at-set_other : (bytes : List (Option ℕ)) (i a : ℕ) (x : Option ℕ) → a ≢ i → byte_at (set bytes i x) a ≡ byte_at bytes a
byte_at-set_other [] i a x ne = refl
byte_at-set_other (y ∷ bytes) zero zero x ne = absurd (ne refl)
byte_at-set_other (y ∷ bytes) zero (suc a) x ne = refl
byte_at-set_other (y ∷ bytes) (suc i) zero x ne = refl
byte_at-set_other (y ∷ bytes) (suc i) (suc a) x ne = byte_at-set_other bytes i a x (λ e. ne (ap suc e))

-- ---- a word written
pub length-write_le : (bytes : List (Option ℕ)) (n at word : ℕ) → length (write_le bytes n at word) ≡ length bytes
length-write_le bytes zero at word = refl
length-write_le bytes (suc n) at word = length-write_le (set bytes at (Some (word % 256))) n (at + 1) (word / 256) ∙ length-set bytes at (Some (word % 256))

pub byte_at-write_le_outside : (bytes : List (Option ℕ)) (n at word a : ℕ) → (a < at) ⊎ (at + n ≤ a) → byte_at (write_le bytes n at word) a ≡ byte_at bytes a
byte_at-write_le_outside bytes zero at word a out = refl
byte_at-write_le_outside bytes (suc n) at word a (inl lt) =
    byte_at-write_le_outside (set bytes at (Some (word % 256))) n (at + 1) (word / 256) a (inl (omega arith))
    ∙ byte_at-set_other bytes at a (Some (word % 256)) (omega arith)
byte_at-write_le_outside bytes (suc n) at word a (inr le) =
    byte_at-write_le_outside (set bytes at (Some (word % 256))) n (at + 1) (word / 256) a (inr (omega arith))
    ∙ byte_at-set_other bytes at a (Some (word % 256)) (omega arith)

set_small : (bytes : List (Option ℕ)) (i x : ℕ) → ((a b : ℕ) → byte_at bytes a ≡ Some b → b < 256) → x < 256 → (a b : ℕ) → byte_at (set bytes i (Some x)) a ≡ Some b → b < 256
set_small [] i x small lt a b is = small a b is
set_small (y ∷ bytes) zero x small lt zero b is = let e : x ≡ b = same_Some x b is in omega arith
set_small (y ∷ bytes) zero x small lt (suc a) b is = small (suc a) b is
set_small (y ∷ bytes) (suc i) x small lt zero b is = small 0 b is
set_small (y ∷ bytes) (suc i) x small lt (suc a) b is = set_small bytes i x (λ k c at. small (suc k) c at) lt a b is

-- what was written is a byte
pub write_le_small : (bytes : List (Option ℕ)) (n at word : ℕ) → ((a b : ℕ) → byte_at bytes a ≡ Some b → b < 256) → (a b : ℕ) → byte_at (write_le bytes n at word) a ≡ Some b → b < 256
write_le_small bytes zero at word small = small
write_le_small bytes (suc n) at word small =
    write_le_small (set bytes at (Some (word % 256))) n (at + 1) (word / 256) (λ a b is. set_small bytes at (word % 256) small (omega arith) a b is)

-- ---- a word read
-- reading sees the bytes that it reads and no others
pub read_le_same : (xs ys : List (Option ℕ)) (n at : ℕ) → ((a : ℕ) → at ≤ a → a < at + n → byte_at xs a ≡ byte_at ys a) → read_le xs n at ≡ read_le ys n at
read_le_same xs ys zero at same = refl
read_le_same xs ys (suc n) at same =
    ap (λ o. then_byte at o (read_le xs n (at + 1))) (same at (omega arith) (omega arith))
    ∙ ap (then_byte at (byte_at ys at)) (read_le_same xs ys n (at + 1) (λ a le lt. same a (omega arith) (omega arith)))

then_byte_ok : (at : ℕ) (o : Option ℕ) (rest : Result ℕ Trap) (r : ℕ) → then_byte at o rest ≡ Ok r → (b : ℕ) × (q : ℕ) × (o ≡ Some b) × (rest ≡ Ok q)
then_byte_ok at None rest r is = cc
then_byte_ok at (Some b) (Err trap) r is = cc
then_byte_ok at (Some b) (Ok q) r is = (b, q, refl, refl)

-- a word that can be read stays where what was written stays
pub read_le_kept : (xs ys : List (Option ℕ)) (n at r : ℕ) → ((a b : ℕ) → byte_at xs a ≡ Some b → byte_at ys a ≡ Some b) → read_le xs n at ≡ Ok r → read_le ys n at ≡ Ok r
read_le_kept xs ys zero at r kept is = is
read_le_kept xs ys (suc n) at r kept is =
    let got = then_byte_ok at (byte_at xs at) (read_le xs n (at + 1)) r is in
    let byte : byte_at ys at ≡ byte_at xs at = kept at got.0 got.2 ∙ sym got.2 in
    let rest : read_le ys n (at + 1) ≡ read_le xs n (at + 1) = read_le_kept xs ys n (at + 1) got.1 kept got.3 ∙ sym got.3 in
    ap (λ o. then_byte at o (read_le ys n (at + 1))) byte ∙ ap (then_byte at (byte_at xs at)) rest ∙ is

-- bytes that are all written are read as the number that they spell
pub read_le-spelled : (bytes : List (Option ℕ)) (values : List ℕ) (at : ℕ) → ((i : ℕ) → i < length values → byte_at bytes (at + i) ≡ slice_get values i) → read_le bytes (length values) at ≡ Ok (from_le_bytes values)
read_le-spelled bytes [] at is = refl
read_le-spelled bytes (v ∷ values) at is =
    let start : at ≡ at + 0 = omega arith in
    let here : byte_at bytes at ≡ Some v = ap (byte_at bytes) start ∙ is 0 (omega arith) in
    let rest = read_le-spelled bytes values (at + 1) (λ i lt. let e : at + 1 + i ≡ at + suc i = omega arith in ap (byte_at bytes) e ∙ is (suc i) (omega arith)) in
    ap (λ o. then_byte at o (read_le bytes (length values) (at + 1))) here ∙ ap (then_byte at (Some v)) rest

-- a read that fails names the first byte that was never written
pub read_le-unwritten : (bytes : List (Option ℕ)) (n at a : ℕ) → read_le bytes n at ≡ Err (Unwritten a)
    → (at ≤ a) × (a < at + n) × (byte_at bytes a ≡ None) × ((k : ℕ) → at ≤ k → k < a → IsSome (byte_at bytes k))
read_le-unwritten bytes zero at a is = cc
read_le-unwritten bytes (suc n) at a is =
    at_byte (λ failed. read_le-unwritten bytes n (at + 1) a failed) (byte_at bytes at) (read_le bytes n (at + 1)) refl refl is
  where
    at_byte : (read_le bytes n (at + 1) ≡ Err (Unwritten a) → (at + 1 ≤ a) × (a < at + 1 + n) × (byte_at bytes a ≡ None) × ((k : ℕ) → at + 1 ≤ k → k < a → IsSome (byte_at bytes k)))
        → (o : Option ℕ) (r : Result ℕ Trap) → byte_at bytes at ≡ o → read_le bytes n (at + 1) ≡ r → then_byte at o r ≡ Err (Unwritten a)
        → (at ≤ a) × (a < at + suc n) × (byte_at bytes a ≡ None) × ((k : ℕ) → at ≤ k → k < a → IsSome (byte_at bytes k))
    at_byte later None r byte rest named =
        let e : at ≡ a = cc in
        (omega arith, omega arith, ap (byte_at bytes) (sym e) ∙ byte, λ k le lt. absurd (omega arith))
    at_byte later (Some b) (Ok r) byte rest named = cc
    at_byte later (Some b) (Err trap) byte rest named =
        let more = later (rest ∙ named) in (
          omega arith,
          omega arith,
          more.2,
          λ k le lt. elim (cases_lt at k) [
            | inl past ↦ more.3 k (omega arith) lt
            | inr here ↦ let e : at ≡ k = omega arith in subst (λ j. IsSome (byte_at bytes j)) e (subst IsSome (sym byte) refl)
          ],
        )

pub digits : (n word : ℕ) → word % 2 ^ (8 * suc n) ≡ word % 256 + 256 * (word / 256 % 2 ^ (8 * n))
digits n word =
    let e : 8 * suc n ≡ 8 * n + 8 = omega arith in
    ap (λ k. word % 2 ^ k) e ∙ mod-pow-add word (8 * n) 8 ∙ omega arith

-- what was written is read again, as far as the bytes go
pub read_le-write_le : (bytes : List (Option ℕ)) (n at word : ℕ) → at + n ≤ length bytes → read_le (write_le bytes n at word) n at ≡ Ok (word % 2 ^ (8 * n))
read_le-write_le bytes zero at word le = ap Ok (omega arith)
read_le-write_le bytes (suc n) at word le =
    let first = set bytes at (Some (word % 256)) in
    let all = write_le first n (at + 1) (word / 256) in
    let here : byte_at all at ≡ Some (word % 256) = byte_at-write_le_outside first n (at + 1) (word / 256) at (inl (omega arith)) ∙ byte_at-set_same bytes at (word % 256) (omega arith) in
    let rest = read_le-write_le first n (at + 1) (word / 256) (rw length-set (omega arith)) in
    ap (λ o. then_byte at o (read_le all n (at + 1))) here
    ∙ ap (then_byte at (Some (word % 256))) rest
    ∙ ap Ok (sym (digits n word))

-- ---- as the code goes: byte after byte
-- what the list gives at an index is what stands at that address
pub byte_at-get_or : (bytes : List (Option ℕ)) (a : ℕ) (d : Option ℕ) → a < length bytes → byte_at bytes a ≡ get_or bytes a d
byte_at-get_or bytes a d lt = ap byte_in (slice_get-get_or bytes a d lt)

pub byte_at-past : (bytes : List (Option ℕ)) (a : ℕ) → length bytes ≤ a → byte_at bytes a ≡ None
byte_at-past bytes a le = ap byte_in (slice_get_past bytes a le)

-- a word whose low i bytes are known, and what the bytes above them spell
abbrev pub onto : ℕ → ℕ → Result ℕ Trap → Result ℕ Trap
onto word i (Err trap) = Err trap
onto word i (Ok rest) = Ok (word + 2 ^ (8 * i) * rest)

pub onto_none : (r : Result ℕ Trap) → r ≡ onto 0 0 r
onto_none (Err trap) = refl
onto_none (Ok rest) = ap Ok (omega arith)

read_le_more : (bytes : List (Option ℕ)) (n at : ℕ) → 0 < n → read_le bytes n at ≡ then_byte at (byte_at bytes at) (read_le bytes (n - 1) (at + 1))
read_le_more bytes zero at lt = absurd (omega arith)
read_le_more bytes (suc n) at lt = let e : n ≡ suc n - 1 = omega arith in ap (λ k. then_byte at (byte_at bytes at) (read_le bytes k (at + 1))) e

digit : (p word b rest : ℕ) → word + p * (b + 256 * rest) ≡ word + b * p + p * 256 * rest
digit p word b rest = omega (arith, mul-add p b (256 * rest), mul_assoc p 256 rest, mul_comm p b)

below : (p word b : ℕ) → word < p → b < 256 → word + b * p < p * 256
below p word b fits small = omega (arith, mul-add-lt b p word 256 small fits)

onto_byte : (word i b at : ℕ) (r : Result ℕ Trap) → onto word i (then_byte at (Some b) r) ≡ onto (word + b * 2 ^ (8 * i)) (i + 1) r
onto_byte word i b at (Err trap) = refl
onto_byte word i b at (Ok rest) =
    let e : 8 * (i + 1) ≡ 8 * i + 8 = omega arith in
    let p : 2 ^ (8 * (i + 1)) ≡ 2 ^ (8 * i) * 256 = ap (λ k. 2 ^ k) e ∙ pow-add 2 (8 * i) 8 in
    ap Ok (digit (2 ^ (8 * i)) word b rest ∙ ap (λ k. word + b * 2 ^ (8 * i) + k * rest) (sym p))

pub read_some : (bytes : List (Option ℕ)) (n at word i b : ℕ) → 0 < n → byte_at bytes at ≡ Some b → onto word i (read_le bytes n at) ≡ onto (word + b * 2 ^ (8 * i)) (i + 1) (read_le bytes (n - 1) (at + 1))
read_some bytes n at word i b pos is =
    ap (onto word i) (read_le_more bytes n at pos ∙ ap (λ o. then_byte at o (read_le bytes (n - 1) (at + 1))) is)
    ∙ onto_byte word i b at (read_le bytes (n - 1) (at + 1))

pub read_none : (bytes : List (Option ℕ)) (n at word i : ℕ) → 0 < n → byte_at bytes at ≡ None → onto word i (read_le bytes n at) ≡ Err (Unwritten at)
read_none bytes n at word i pos is =
    ap (onto word i) (read_le_more bytes n at pos ∙ ap (λ o. then_byte at o (read_le bytes (n - 1) (at + 1))) is)

-- one more byte stays within its width, and within 64 bits
pub more_fits : (word i b : ℕ) → word < 2 ^ (8 * i) → b < 256 → word + b * 2 ^ (8 * i) < 2 ^ (8 * (i + 1))
more_fits word i b fits small =
    let e : 8 * (i + 1) ≡ 8 * i + 8 = omega arith in
    let p : 2 ^ (8 * (i + 1)) ≡ 2 ^ (8 * i) * 256 = ap (λ k. 2 ^ k) e ∙ pow-add 2 (8 * i) 8 in
    rw p (below (2 ^ (8 * i)) word b fits small)

pub word_fits : (word i b : ℕ) → word < 2 ^ (8 * i) → b < 256 → i < 8 → word + b * 2 ^ (8 * i) < 2 ^ 64
word_fits word i b fits small few =
    let most : 8 * (i + 1) ≤ 64 = omega arith in
    omega (arith, more_fits word i b fits small, pow_mono most)

pub write_le_more : (bytes : List (Option ℕ)) (n at word : ℕ) → 0 < n → write_le bytes n at word ≡ write_le (set bytes at (Some (word % 256))) (n - 1) (at + 1) (word / 256)
write_le_more bytes zero at word pos = absurd (omega arith)
write_le_more bytes (suc n) at word pos =
    let e : n ≡ suc n - 1 = omega arith in
    ap (λ k. write_le (set bytes at (Some (word % 256))) k (at + 1) (word / 256)) e
