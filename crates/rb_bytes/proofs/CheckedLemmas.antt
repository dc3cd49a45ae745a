-- A checked memory, by its fields.
use Rattle.std.proofs.Common.{◌≡◌, ℕ, zero, suc, ◌+◌, ◌-◌, ◌*◌, ◌/◌, ◌%◌, ◌^◌, ◌<◌, ◌≤◌, true, List, [], ◌∷◌, ◌++◌, length, map, get_or, set, replicate, take, drop, Option, Some, None, Result, Ok, Err, inl, inr, refl, sym, ap, ◌∙◌, arith, length-append, length-set}
use Rattle.std.proofs.lemmas.Bool.{cases_lt}
use Rattle.std.proofs.lemmas.List.{append_assoc, drop_more, drop-drop, drop-set-lt, get_or-drop, get_or-map, get_or-replicate, get_or-take, length-drop, length-map, length-replicate, length-take-le, map-append, map-set, replicate-append-replicate, set-append_left, take-append-drop, take_all, take_more_set}
use Rattle.std.proofs.lemmas.Nat.{pow-add, pow_pos}
use Rattle.std.specs.Prelude.{vec_capacity}
use Rattle.rb_bits.specs.LittleEndian.{IsByteCount, from_le_bytes, to_le_bytes}
use Rattle.rb_bytes.specs.Memory.{Memory, IsAlign, IsWidth, byte_at, empty_memory, least_multiple, place_of, size_at, lies_within, read_le, write_le, then_byte, store_of}
use Rattle.rb_bytes.specs.Starts.{byte_by_mark, marked_bytes, size_in, blocks_from, bytes_of, memory_of, IsKept}
use Rattle.rb_bytes.specs.declared.fault.Full.{Full}
use Rattle.rb_bytes.specs.declared.fault.Trap.{Trap}
use Rattle.rb_bytes.specs.declared.fault.Trap.TheVariants.{Unwritten}
use Rattle.rb_bytes.specs.declared.checked.CheckedMemory.TheInside.{Inside}
use Rattle.rb_bytes.proofs.ByteLemmas.{byte_at-get_or, byte_at-past, digits, read_le_same}
use Rattle.rb_bytes.proofs.BlockLemmas.{AreBlocks_length, aligned_from, within_size}
use Rattle.rb_bytes.proofs.MemoryLemmas.{empty_good, align_positive, block_good, placed_is, within_next, write_good, store_within}
use Rattle.rb_bytes.proofs.StartLemmas.{size_at-blocks_from, blocks_none, blocks_from-set}

-- ---- bytes and their marks
pub count_of_width : (width : ℕ) → IsWidth width → IsByteCount (width / 8)
count_of_width width (inl e) = inl (omega arith)
count_of_width width (inr (inl e)) = inr (inl (omega arith))
count_of_width width (inr (inr (inl e))) = inr (inr (inl (omega arith)))
count_of_width width (inr (inr (inr e))) = inr (inr (inr (omega arith)))

written_some : (mark byte : ℕ) → 0 < mark → byte_by_mark mark byte ≡ Some byte
written_some zero byte pos = absurd (omega arith)
written_some (suc mark) byte pos = refl

pub byte_at-written_in : (marks bytes : List ℕ) (a : ℕ) → length marks ≡ length bytes → byte_at (marked_bytes marks bytes) a ≡ byte_by_mark (get_or marks a 0) (get_or bytes a 0)
byte_at-written_in [] bytes a even = refl
byte_at-written_in (mark ∷ marks) [] a even = absurd (omega arith)
byte_at-written_in (mark ∷ marks) (byte ∷ bytes) zero even = refl
byte_at-written_in (mark ∷ marks) (byte ∷ bytes) (suc a) even = byte_at-written_in marks bytes a (omega arith)

pub byte_marked : (marks bytes : List ℕ) (a : ℕ) → length marks ≡ length bytes → 0 < get_or marks a 0 → byte_at (marked_bytes marks bytes) a ≡ Some (get_or bytes a 0)
byte_marked marks bytes a even pos = byte_at-written_in marks bytes a even ∙ written_some (get_or marks a 0) (get_or bytes a 0) pos

pub byte_unmarked : (marks bytes : List ℕ) (a : ℕ) → length marks ≡ length bytes → get_or marks a 0 ≡ 0 → byte_at (marked_bytes marks bytes) a ≡ None
byte_unmarked marks bytes a even none = byte_at-written_in marks bytes a even ∙ ap (λ mark. byte_by_mark mark (get_or bytes a 0)) none

length-written_in : (marks bytes : List ℕ) → length marks ≡ length bytes → length (marked_bytes marks bytes) ≡ length bytes
length-written_in [] bytes even = even
length-written_in (mark ∷ marks) [] even = absurd (omega arith)
length-written_in (mark ∷ marks) (byte ∷ bytes) even = ap suc (length-written_in marks bytes (omega arith))

-- a word whose bytes are all marked
pub read_marked : (marks bytes : List ℕ) (n at : ℕ) → length marks ≡ length bytes → at + n ≤ length bytes → ((a : ℕ) → at ≤ a → a < at + n → 0 < get_or marks a 0)
    → read_le (marked_bytes marks bytes) n at ≡ Ok (from_le_bytes (take n (drop at bytes)))
read_marked marks bytes zero at even le all = refl
read_marked marks bytes (suc n) at even le all =
    let here = byte_marked marks bytes at even (all at (omega arith) (omega arith)) in
    let rest = read_marked marks bytes n (at + 1) even (omega arith) (λ a low high. all a (omega arith) (omega arith)) in
    ap (λ o. then_byte at o (read_le (marked_bytes marks bytes) n (at + 1))) here
    ∙ ap (then_byte at (Some (get_or bytes at 0))) rest
    ∙ ap (λ xs. Ok (from_le_bytes (take (suc n) xs))) (sym (drop_more bytes at 0 (omega arith)))

-- a word of which some bytes are marked, up to one that is not
pub read_unmarked : (marks bytes : List ℕ) (n at a : ℕ) → length marks ≡ length bytes → at ≤ a → a < at + n → get_or marks a 0 ≡ 0 → ((k : ℕ) → at ≤ k → k < a → 0 < get_or marks k 0)
    → read_le (marked_bytes marks bytes) n at ≡ Err (Unwritten a)
read_unmarked marks bytes zero at a even low high none before = absurd (omega arith)
read_unmarked marks bytes (suc n) at a even low high none before =
    elim (cases_lt at a) [
      | inl lt ↦
          let here = byte_marked marks bytes at even (before at (omega arith) lt) in
          let rest = read_unmarked marks bytes n (at + 1) a even (omega arith) (omega arith) none (λ k le less. before k (omega arith) less) in
          ap (λ o. then_byte at o (read_le (marked_bytes marks bytes) n (at + 1))) here ∙ ap (then_byte at (Some (get_or bytes at 0))) rest
      | inr le ↦
          let e : a ≡ at = omega arith in
          let here = byte_unmarked marks bytes a even none in
          ap (λ k. then_byte at (byte_at (marked_bytes marks bytes) k) (read_le (marked_bytes marks bytes) n (at + 1))) (sym e)
          ∙ ap (λ o. then_byte at o (read_le (marked_bytes marks bytes) n (at + 1))) here ∙ ap (λ k. Err (Unwritten k)) (sym e)
    ]

-- ---- the marks of a word
pub full_marks : (n : ℕ) → to_le_bytes n (2 ^ (8 * n) - 1) ≡ replicate n 255
full_marks zero = refl
full_marks (suc n) =
    let e : 8 * suc n ≡ 8 + 8 * n = omega arith in
    let p : 2 ^ (8 * suc n) ≡ 256 * 2 ^ (8 * n) = ap (λ k. 2 ^ k) e ∙ pow-add 2 8 (8 * n) in
    let low : (2 ^ (8 * suc n) - 1) % 256 ≡ 255 = omega (arith, p, pow_pos (8 * n)) in
    let high : (2 ^ (8 * suc n) - 1) / 256 ≡ 2 ^ (8 * n) - 1 = omega (arith, p, pow_pos (8 * n)) in
    ap (λ b. b ∷ to_le_bytes n ((2 ^ (8 * suc n) - 1) / 256)) low ∙ ap (λ w. 255 ∷ to_le_bytes n w) high ∙ ap (λ xs. 255 ∷ xs) (full_marks n)

pub low_bytes : (n word : ℕ) → to_le_bytes n (word % 2 ^ (8 * n)) ≡ to_le_bytes n word
low_bytes zero word = refl
low_bytes (suc n) word =
    let p = digits n word in
    let low : word % 2 ^ (8 * suc n) % 256 ≡ word % 256 = omega (arith, p) in
    let high : word % 2 ^ (8 * suc n) / 256 ≡ word / 256 % 2 ^ (8 * n) = omega (arith, p) in
    ap (λ b. b ∷ to_le_bytes n (word % 2 ^ (8 * suc n) / 256)) low ∙ ap (λ w. word % 256 ∷ to_le_bytes n w) high ∙ ap (λ xs. word % 256 ∷ xs) (low_bytes n (word / 256))

-- marks that spell the greatest number are all there
pub all_marked : (marks : List ℕ) (n at word : ℕ) → to_le_bytes n word ≡ take n (drop at marks) → word ≡ 2 ^ (8 * n) - 1 → (a : ℕ) → at ≤ a → a < at + n → 0 < get_or marks a 0
all_marked marks n at word stored full a low high =
    let same : take n (drop at marks) ≡ replicate n 255 = sym stored ∙ ap (to_le_bytes n) full ∙ full_marks n in
    let i = a - at in
    let there : at + i ≡ a = omega arith in
    let mark = sym (ap (λ k. get_or marks k 0) there) ∙ sym (get_or-drop at marks i 0) ∙ sym (get_or-take n (drop at marks) i 0 (omega arith))
    ∙ ap (λ xs. get_or xs i 0) same ∙ get_or-replicate n i 255 0 (omega arith) in
    omega (arith, mark)

-- ---- a word written over some bytes
abbrev pub over : ℕ → ℕ → List ℕ → List ℕ → List ℕ
over at n xs ys = take at xs ++ (ys ++ drop n (drop at xs))

over_one : (at n : ℕ) (xs ys : List ℕ) (x : ℕ) → at < length xs → over (at + 1) n (set xs at x) ys ≡ over at (suc n) xs (x ∷ ys)
over_one at n xs ys x lt =
    let e : at + 1 + n ≡ at + suc n = omega arith in
    let rest : drop n (drop (at + 1) (set xs at x)) ≡ drop (suc n) (drop at xs) =
    ap (drop n) (drop-set-lt (at + 1) xs at x (omega arith)) ∙ drop-drop n (at + 1) xs ∙ ap (λ k. drop k xs) e ∙ sym (drop-drop (suc n) at xs) in
    ap (λ zs. zs ++ (ys ++ drop n (drop (at + 1) (set xs at x)))) (take_more_set xs at x lt)
    ∙ append_assoc (take at xs) (x ∷ []) (ys ++ drop n (drop (at + 1) (set xs at x)))
    ∙ ap (λ zs. take at xs ++ (x ∷ (ys ++ zs))) rest

written_in-set : (marks bytes : List ℕ) (at byte : ℕ) → length marks ≡ length bytes → marked_bytes (set marks at 255) (set bytes at byte) ≡ set (marked_bytes marks bytes) at (Some byte)
written_in-set [] [] at byte even = refl
written_in-set [] (b ∷ bytes) at byte even = absurd (omega arith)
written_in-set (mark ∷ marks) [] at byte even = absurd (omega arith)
written_in-set (mark ∷ marks) (b ∷ bytes) zero byte even = refl
written_in-set (mark ∷ marks) (b ∷ bytes) (suc at) byte even = ap (λ xs. byte_by_mark mark b ∷ xs) (written_in-set marks bytes at byte (omega arith))

none_over : (at : ℕ) (xs : List ℕ) → over at 0 xs [] ≡ xs
none_over at xs = take-append-drop at xs

written_over : (marks bytes : List ℕ) (n at word : ℕ) → length marks ≡ length bytes → at + n ≤ length bytes
    → marked_bytes (over at n marks (replicate n 255)) (over at n bytes (to_le_bytes n word)) ≡ write_le (marked_bytes marks bytes) n at word
written_over marks bytes zero at word even le = ap (λ xs. marked_bytes xs (over at 0 bytes [])) (none_over at marks) ∙ ap (marked_bytes marks) (none_over at bytes)
written_over marks bytes (suc n) at word even le =
    let marks1 = set marks at 255 in
    let bytes1 = set bytes at (word % 256) in
    let even1 : length marks1 ≡ length bytes1 = length-set marks at 255 ∙ even ∙ sym (length-set bytes at (word % 256)) in
    ap (λ xs. marked_bytes xs (over at (suc n) bytes (to_le_bytes (suc n) word))) (sym (over_one at n marks (replicate n 255) 255 (omega arith)))
    ∙ ap (marked_bytes (over (at + 1) n marks1 (replicate n 255))) (sym (over_one at n bytes (to_le_bytes n (word / 256)) (word % 256) (omega arith)))
    ∙ written_over marks1 bytes1 n (at + 1) (word / 256) even1 (rw length-set (omega arith))
    ∙ ap (λ xs. write_le xs n (at + 1) (word / 256)) (written_in-set marks bytes at (word % 256) even)

pub part_long : (xs : List ℕ) (at n : ℕ) → at + n ≤ length xs → length (take n (drop at xs)) ≡ n
part_long xs at n le = length-take-le n (drop at xs) (rw length-drop (omega arith))

-- the marks become the greatest number, and the bytes the low part of the word
pub write_is : (marks bytes : List ℕ) (n at word : ℕ) → length marks ≡ length bytes → at + n ≤ length bytes
    → marked_bytes (over at n marks (to_le_bytes n (2 ^ (8 * n) - 1))) (over at n bytes (to_le_bytes n (word % 2 ^ (8 * n)))) ≡ write_le (marked_bytes marks bytes) n at word
write_is marks bytes n at word even le =
    ap (λ xs. marked_bytes (over at n marks xs) (over at n bytes (to_le_bytes n (word % 2 ^ (8 * n))))) (full_marks n)
    ∙ ap (λ xs. marked_bytes (over at n marks (replicate n 255)) (over at n bytes xs)) (low_bytes n word)
    ∙ written_over marks bytes n at word even le

-- ---- the memory that they spell
none_at : (n a : ℕ) → byte_at (replicate n None) a ≡ None
none_at zero a = refl
none_at (suc n) zero = refl
none_at (suc n) (suc a) = none_at n a

-- nothing is written behind the last block
pub byte_at-padded : (xs : List (Option ℕ)) (n a : ℕ) → byte_at (xs ++ replicate n None) a ≡ byte_at xs a
byte_at-padded [] n a = none_at n a
byte_at-padded (x ∷ xs) n zero = refl
byte_at-padded (x ∷ xs) n (suc a) = byte_at-padded xs n a

pub read_le-padded : (xs : List (Option ℕ)) (more n at : ℕ) → read_le (xs ++ replicate more None) n at ≡ read_le xs n at
read_le-padded xs more n at = read_le_same (xs ++ replicate more None) xs n at (λ a le lt. byte_at-padded xs more a)

write_le-front : (xs ys : List (Option ℕ)) (n at word : ℕ) → at + n ≤ length xs → write_le (xs ++ ys) n at word ≡ write_le xs n at word ++ ys
write_le-front xs ys zero at word le = refl
write_le-front xs ys (suc n) at word le =
    ap (λ zs. write_le zs n (at + 1) (word / 256)) (set-append_left xs ys at (Some (word % 256)) (omega arith))
    ∙ write_le-front (set xs at (Some (word % 256))) ys n (at + 1) (word / 256) (rw length-set (omega arith))

pub byte_none : (c : Inside) → IsKept c → (a : ℕ) → get_or c.marks.items a 0 ≡ 0 → byte_at (bytes_of c) a ≡ None
byte_none c kept a none = byte_at-padded (marked_bytes c.marks.items c.bytes.items) (c.limit - length c.bytes.items) a ∙ byte_unmarked c.marks.items c.bytes.items a kept.even.0 none

pub byte_some : (c : Inside) → IsKept c → (a : ℕ) → 0 < get_or c.marks.items a 0 → byte_at (bytes_of c) a ≡ Some (get_or c.bytes.items a 0)
byte_some c kept a pos = byte_at-padded (marked_bytes c.marks.items c.bytes.items) (c.limit - length c.bytes.items) a ∙ byte_marked c.marks.items c.bytes.items a kept.even.0 pos

-- the size that stands at an address
pub start_here : (sizes : List ℕ) (a d : ℕ) → a < length sizes → byte_at (map size_in sizes) a ≡ size_in (get_or sizes a d)
start_here sizes a d lt = byte_at-get_or (map size_in sizes) a (size_in d) (rw length-map lt) ∙ get_or-map size_in sizes a d (size_in d) lt

pub no_start : (sizes : List ℕ) (a : ℕ) → length sizes ≤ a → byte_at (map size_in sizes) a ≡ None
no_start sizes a le = byte_at-past (map size_in sizes) a (rw length-map le)

pub size_in_some : (size : ℕ) → 0 < size → size_in size ≡ Some size
size_in_some zero pos = absurd (omega arith)
size_in_some (suc n) pos = refl

-- ---- a new one
module _ (c : Inside) (bytes : c.bytes.items ≡ []) (marks : c.marks.items ≡ []) (sizes : c.sizes.items ≡ []) (next : c.next ≡ 64) where
  no_blocks : blocks_from (map size_in c.sizes.items) 0 ≡ []
  no_blocks = rw sizes refl

  pub new_is : memory_of c ≡ empty_memory c.limit
  new_is =
      let whole : c.limit - 0 ≡ c.limit = omega arith in
      let nothing : bytes_of c ≡ replicate c.limit None =
      rw (marks, bytes) (ap (λ n. replicate {A = Option ℕ} n None) whole) in
      let none = no_blocks in cc

  pub new_kept : (c.limit ≤ vec_capacity c.bytes) × (c.limit ≤ vec_capacity c.marks) × (c.limit ≤ vec_capacity c.sizes) → c.blocks ≡ 0 → 64 ≤ c.limit → c.limit ≤ 16777216 → IsKept c
  new_kept room blocks low high =
      let empty = ap length bytes in
      record {
        good = rw new_is (empty_good c.limit low high);
        room = room;
        even = (ap length marks ∙ sym (ap length bytes), ap length sizes ∙ sym (ap length bytes));
        below = omega arith;
        reached = λ some. absurd (omega arith);
        counted = blocks ∙ sym (ap length no_blocks);
      }

-- ---- a block more
pub blocks_few : (c : Inside) → IsKept c → c.blocks < 16777216
blocks_few c kept =
    let good = kept.good in
    omega (arith, kept.counted, AreBlocks_length (blocks_from (map size_in c.sizes.items) 0) 64 c.next good.blocks, good.next, good.limit)

-- a list resized to a greater length
pub resized_is : (to more len : ℕ) (xs xs' : List ℕ) → length xs + more ≡ to → len ≡ length xs → xs' ≡ take to xs ++ replicate (to - len) 0 → xs' ≡ xs ++ replicate more 0
resized_is to more len xs xs' count same resized =
    let e : to - len ≡ more = omega arith in
    resized ∙ ap (λ ys. ys ++ replicate (to - len) 0) (take_all to xs (omega arith)) ∙ ap (λ n. xs ++ replicate n 0) e

-- the lists end before the next block
pub below_place : (c : Inside) → IsKept c → (align at : ℕ) → IsAlign align → at ≡ least_multiple c.next align → length c.bytes.items ≤ at
below_place c kept align at aligns is = omega (arith, kept.below, aligned_from c.next align (align_positive align aligns), is)

nothing_more : (n : ℕ) → marked_bytes (replicate n 0) (replicate n 0) ≡ replicate n None
nothing_more zero = refl
nothing_more (suc n) = ap (λ xs. None ∷ xs) (nothing_more n)

written_in-grown : (marks bytes : List ℕ) (more : ℕ) → length marks ≡ length bytes → marked_bytes (marks ++ replicate more 0) (bytes ++ replicate more 0) ≡ marked_bytes marks bytes ++ replicate more None
written_in-grown [] [] more even = nothing_more more
written_in-grown [] (byte ∷ bytes) more even = absurd (omega arith)
written_in-grown (mark ∷ marks) [] more even = absurd (omega arith)
written_in-grown (mark ∷ marks) (byte ∷ bytes) more even = ap (λ xs. byte_by_mark mark byte ∷ xs) (written_in-grown marks bytes more (omega arith))

no_sizes : (n : ℕ) → map size_in (replicate n 0) ≡ replicate n None
no_sizes zero = refl
no_sizes (suc n) = ap (λ xs. None ∷ xs) (no_sizes n)

blocks_from-grown : (starts : List (Option ℕ)) (n at : ℕ) → blocks_from (starts ++ replicate n None) at ≡ blocks_from starts at
blocks_from-grown [] n at = blocks_none (replicate n None) at (none_at n)
blocks_from-grown (None ∷ starts) n at = blocks_from-grown starts n (at + 1)
blocks_from-grown (Some size ∷ starts) n at = ap (λ bs. (at, size) ∷ bs) (blocks_from-grown starts n (at + 1))

module _ (c c' : Inside) (kept : IsKept c) (size align at : ℕ) (pos : 0 < size) (aligns : IsAlign align) (is : at ≡ least_multiple c.next align) (fits : at + size ≤ c.limit)
    (more : ℕ) (count : length c.bytes.items + more ≡ at + size) (bytes' : c'.bytes.items ≡ c.bytes.items ++ replicate more 0) (marks' : c'.marks.items ≡ c.marks.items ++ replicate more 0)
    (sizes' : c'.sizes.items ≡ set (c.sizes.items ++ replicate more 0) at size) (room' : (c.limit ≤ vec_capacity c'.bytes) × (c.limit ≤ vec_capacity c'.marks) × (c.limit ≤ vec_capacity c'.sizes))
    (blocks' : c'.blocks ≡ c.blocks + 1) (next' : c'.next ≡ at + size) (limit' : c'.limit ≡ c.limit) where
  above : c.next ≤ at
  above = omega (arith, aligned_from c.next align (align_positive align aligns), is)

  past : length c.bytes.items ≤ at
  past = below_place c kept align at aligns is

  grown_length : (xs : List ℕ) → length xs ≡ length c.bytes.items → length (xs ++ replicate more 0) ≡ at + size
  grown_length xs same = length-append xs (replicate more 0) ∙ ap (λ n. length xs + n) (length-replicate more 0) ∙ omega (arith, same, count)

  long_bytes : length c'.bytes.items ≡ at + size
  long_bytes = ap length bytes' ∙ grown_length c.bytes.items refl

  long_marks : length c'.marks.items ≡ at + size
  long_marks = ap length marks' ∙ grown_length c.marks.items kept.even.0

  long_sizes : length c'.sizes.items ≡ at + size
  long_sizes = ap length sizes' ∙ length-set (c.sizes.items ++ replicate more 0) at size ∙ grown_length c.sizes.items kept.even.1

  one_more : blocks_from (map size_in c'.sizes.items) 0 ≡ blocks_from (map size_in c.sizes.items) 0 ++ (at, size) ∷ []
  one_more =
      let e : 0 + at ≡ at = omega arith in
      let sizes = c.sizes.items ++ replicate more 0 in
      let all : map size_in sizes ≡ map size_in c.sizes.items ++ replicate more None = map-append size_in c.sizes.items (replicate more 0) ∙ ap (λ xs. map size_in c.sizes.items ++ xs) (no_sizes more) in
      let within : at < length (map size_in sizes) = rw length-map (omega (arith, grown_length c.sizes.items kept.even.1, pos)) in
      let free : (j : ℕ) → at ≤ j → byte_at (map size_in sizes) j ≡ None =
      λ j h. let le = past in let same = kept.even.1 in ap (λ xs. byte_at xs j) all ∙ byte_at-padded (map size_in c.sizes.items) more j ∙ no_start c.sizes.items j (omega arith) in
      ap (λ xs. blocks_from (map size_in xs) 0) sizes'
      ∙ ap (λ xs. blocks_from xs 0) (map-set size_in sizes at size)
      ∙ ap (λ o. blocks_from (set (map size_in sizes) at o) 0) (size_in_some size pos)
      ∙ blocks_from-set (map size_in sizes) 0 at size within free
      ∙ ap (λ n. blocks_from (map size_in sizes) 0 ++ (n, size) ∷ []) e
      ∙ ap (λ bs. bs ++ (at, size) ∷ []) (ap (λ xs. blocks_from xs 0) all ∙ blocks_from-grown (map size_in c.sizes.items) more 0)

  same_bytes : bytes_of c' ≡ bytes_of c
  same_bytes =
      let rest : more + (c'.limit - length c'.bytes.items) ≡ c.limit - length c.bytes.items = omega (arith, long_bytes, limit', fits, count) in
      let none = replicate (c'.limit - length c'.bytes.items) None in
      ap (λ xs. marked_bytes xs c'.bytes.items ++ none) marks'
      ∙ ap (λ xs. marked_bytes (c.marks.items ++ replicate more 0) xs ++ none) bytes'
      ∙ ap (λ xs. xs ++ none) (written_in-grown c.marks.items c.bytes.items more kept.even.0)
      ∙ append_assoc (marked_bytes c.marks.items c.bytes.items) (replicate more None) none
      ∙ ap (λ xs. marked_bytes c.marks.items c.bytes.items ++ xs) (replicate-append-replicate more (c'.limit - length c'.bytes.items) None ∙ ap (λ n. replicate n None) rest)

  placed_memory : memory_of c' ≡ record (memory_of c) { next = at + size; blocks = blocks_from (map size_in c.sizes.items) 0 ++ (at, size) ∷ [] }
  placed_memory =
      let blocks = one_more in
      let bytes = same_bytes in cc

  pub place_kept : IsKept c'
  place_kept = record {
    good = rw placed_memory (block_good (memory_of c) at size kept.good above pos fits);
    room = (omega (arith, limit', room'.0), omega (arith, limit', room'.1), omega (arith, limit', room'.2));
    even = (long_marks ∙ sym long_bytes, long_sizes ∙ sym long_bytes);
    below = omega (arith, long_bytes, next');
    reached = λ some. omega (arith, long_bytes, next');
    counted =
        let more_blocks = ap length one_more ∙ length-append (blocks_from (map size_in c.sizes.items) 0) ((at, size) ∷ []) in
        omega (arith, kept.counted, blocks', more_blocks);
  }

  pub place_is : ◌≡◌ {A = Result ℕ Full × Memory} (Ok at, memory_of c') (place_of (memory_of c) size align)
  place_is = rw (placed_memory, is) (sym (placed_is (memory_of c) size align (omega arith)))

-- ---- bytes written
module _ (c c' : Inside) (kept : IsKept c) (at n word : ℕ) (le : at + n ≤ length c.bytes.items)
    (value : marked_bytes c'.marks.items c'.bytes.items ≡ write_le (marked_bytes c.marks.items c.bytes.items) n at word)
    (marks' : length c'.marks.items ≡ length c.marks.items) (bytes' : length c'.bytes.items ≡ length c.bytes.items) (sizes' : c'.sizes.items ≡ c.sizes.items)
    (room' : (c.limit ≤ vec_capacity c'.bytes) × (c.limit ≤ vec_capacity c'.marks) × (c.limit ≤ vec_capacity c'.sizes))
    (blocks' : c'.blocks ≡ c.blocks) (next' : c'.next ≡ c.next) (limit' : c'.limit ≡ c.limit) where
  pub stored_memory : memory_of c' ≡ record (memory_of c) { bytes = write_le (bytes_of c) n at word }
  stored_memory =
      let rest = replicate (c.limit - length c.bytes.items) None in
      let blocks : blocks_from (map size_in c'.sizes.items) 0 ≡ blocks_from (map size_in c.sizes.items) 0 = ap (λ xs. blocks_from (map size_in xs) 0) sizes' in
      let bytes : bytes_of c' ≡ write_le (bytes_of c) n at word =
      ap (λ m. marked_bytes c'.marks.items c'.bytes.items ++ replicate m None) (omega (arith, bytes', limit'))
      ∙ ap (λ xs. xs ++ rest) value ∙ sym (write_le-front (marked_bytes c.marks.items c.bytes.items) rest n at word (rw (length-written_in c.marks.items c.bytes.items kept.even.0) le)) in cc

  pub store_kept : IsKept c'
  store_kept = record {
    good = rw stored_memory (write_good (memory_of c) n at word kept.good (omega (arith, le, kept.below)));
    room = (omega (arith, limit', room'.0), omega (arith, limit', room'.1), omega (arith, limit', room'.2));
    even = (marks' ∙ kept.even.0 ∙ sym bytes', ap length sizes' ∙ kept.even.1 ∙ sym bytes');
    below = omega (arith, bytes', next', kept.below);
    reached = λ some. let was = kept.reached (omega (arith, some, bytes')) in omega (arith, bytes', next', was);
    counted = blocks' ∙ kept.counted ∙ ap (λ xs. length (blocks_from (map size_in xs) 0)) (sym sizes');
  }

pub store_is : (c c' : Inside) (base offset width word : ℕ) → lies_within (size_at (memory_of c).blocks base) (offset + width / 8) ≡ true
    → memory_of c' ≡ record (memory_of c) { bytes = write_le (bytes_of c) (width / 8) (base + offset) word }
    → ◌≡◌ {A = Result (Unit {0}) Trap × Memory} (Ok tt, memory_of c') (store_of (memory_of c) base offset width word)
store_is c c' base offset width word lies same =
    rw same (sym (store_within (memory_of c) base offset width word lies))

-- the bytes of an access lie within what the lists reach
pub within_bytes : (c : Inside) (kept : IsKept c) (base to : ℕ) → lies_within (size_at (memory_of c).blocks base) to ≡ true → base + to ≤ length c.bytes.items
within_bytes c kept base to lies =
    let starts = map size_in c.sizes.items in
    let got = within_size (size_at (blocks_from starts 0) base) to lies in
    let here = size_at-blocks_from starts base in
    elim (cases_lt base (length c.sizes.items)) [
      | inl lt ↦ omega (arith, kept.even.1, kept.reached (omega (arith, kept.even.1, lt)), within_next (memory_of c) base to kept.good lies)
      | inr le ↦ let none = no_start c.sizes.items base le in cc
    ]
