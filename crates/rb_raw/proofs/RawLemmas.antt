-- A raw memory, by its fields.
use Rattle.std.proofs.Common.{◌≡◌, ℕ, ◌+◌, ◌-◌, ◌/◌, ◌^◌, ◌<◌, ◌≤◌, Bool, true, false, [], ◌∷◌, ◌++◌, length, get_or, set, replicate, None, Result, Ok, Err, refl, sym, ap, ◌∙◌, arith, length-append, length-set}
use Rattle.std.specs.Prelude.{slice_index, bit_or, IsOk, if◌then◌else◌}
use Rattle.std.proofs.lemmas.List.{length-replicate}
use Rattle.rb_bytes.specs.Memory.{Memory, IsAlign, empty_memory, least_multiple, place_of, write_le, store_of, lies_within, size_at, load_of, read_le}
use Rattle.rb_bytes.specs.declared.fault.Full.{Full}
use Rattle.rb_bytes.specs.declared.fault.Trap.{Trap}
use Rattle.rb_bytes.specs.declared.fault.Trap.TheVariants.{Astray}
use Rattle.rb_bytes.proofs.BlockLemmas.{AreBlocks_length, aligned_from}
use Rattle.rb_bytes.proofs.MemoryLemmas.{empty_good, align_positive, block_good, placed_is, write_good, store_within, within_next}
use Rattle.rb_raw.specs.Marks.{blocks_in, memory_of, MarksAreKept}
use Rattle.rb_raw.specs.declared.memory.RawMemory.TheInside.{Inside}
use Rattle.rb_raw.proofs.MarkLemmas.{blocks_clear, blocks_placed, clear_behind, length-placed, zero_at, get_or_any}

-- ---- a new one
pub new_is : (r : Inside) → r.bytes ≡ replicate r.limit None → r.marks.items ≡ replicate r.limit 0 → r.next ≡ 64 → memory_of r ≡ empty_memory r.limit
new_is r bytes marks next =
    let none : blocks_in r.marks.items 0 0 ≡ [] = rw marks (blocks_clear (replicate r.limit 0) 0 0 (zero_at r.limit)) in cc

pub new_kept : (r : Inside) → r.bytes ≡ replicate r.limit None → r.marks.items ≡ replicate r.limit 0 → r.next ≡ 64 → r.blocks ≡ 0 → 64 ≤ r.limit → r.limit ≤ 16777216 → MarksAreKept r
new_kept r bytes marks next blocks low high =
    let none : blocks_in r.marks.items 0 0 ≡ [] = rw marks (blocks_clear (replicate r.limit 0) 0 0 (zero_at r.limit)) in
    record {
      good = rw (new_is r bytes marks next) (empty_good r.limit low high);
      long = ap length marks ∙ length-replicate r.limit 0;
      clear = λ a h. ap (λ ms. slice_index ms a) marks ∙ zero_at r.limit a;
      counted = blocks ∙ sym (ap length none);
    }

-- ---- a block more
pub blocks_few : (r : Inside) → MarksAreKept r → r.blocks < 16777216
blocks_few r kept =
    let good = kept.good in
    omega (arith, kept.counted, AreBlocks_length (blocks_in r.marks.items 0 0) 64 r.next good.blocks, good.next, good.limit)

module _ (r r' : Inside) (kept : MarksAreKept r) (size align at m n : ℕ) (pos : 0 < size) (aligns : IsAlign align) (is : at ≡ least_multiple r.next align) (fits : at + size ≤ r.limit)
    (begins : m ≡ get_or r.marks.items at m) (ends : n ≡ get_or (set r.marks.items at (bit_or m 1)) (at + size - 1) n)
    (marks' : r'.marks.items ≡ set (set r.marks.items at (bit_or m 1)) (at + size - 1) (bit_or n 2))
    (bytes' : r'.bytes ≡ r.bytes) (blocks' : r'.blocks ≡ r.blocks + 1) (next' : r'.next ≡ at + size) (limit' : r'.limit ≡ r.limit) where
  above : r.next ≤ at
  above = omega (arith, aligned_from r.next align (align_positive align aligns), is)

  room : at + size ≤ length r.marks.items
  room = omega (arith, kept.long)

  clear : (j : ℕ) → at ≤ j → slice_index r.marks.items j ≡ 0
  clear j le = kept.clear j (omega (arith, above))

  first_mark : m ≡ slice_index r.marks.items at
  first_mark = begins ∙ get_or_any r.marks.items at m 0 (omega (arith, room))

  last_mark : n ≡ slice_index (set r.marks.items at (bit_or m 1)) (at + size - 1)
  last_mark =
      let long = length-set r.marks.items at (bit_or m 1) in
      ends ∙ get_or_any (set r.marks.items at (bit_or m 1)) (at + size - 1) n 0 (omega (arith, room, long))

  one_more : blocks_in r'.marks.items 0 0 ≡ blocks_in r.marks.items 0 0 ++ (at, size) ∷ []
  one_more = blocks_placed r.marks.items r'.marks.items at size m n pos room clear first_mark last_mark marks'

  placed_memory : memory_of r' ≡ record (memory_of r) { next = at + size; blocks = blocks_in r.marks.items 0 0 ++ (at, size) ∷ [] }
  placed_memory = let blocks = one_more in cc

  pub place_kept : MarksAreKept r'
  place_kept = record {
    good = rw placed_memory (block_good (memory_of r) at size kept.good above pos fits);
    long = length-placed r.marks.items r'.marks.items at size m n pos room clear first_mark last_mark marks' ∙ kept.long ∙ sym limit';
    clear = λ a h. clear_behind r.marks.items r'.marks.items at size m n pos room clear first_mark last_mark marks' a (omega arith);
    counted =
        let more = ap length one_more ∙ length-append (blocks_in r.marks.items 0 0) ((at, size) ∷ []) in
        omega (arith, kept.counted, blocks', more);
  }

  pub place_is : ◌≡◌ {A = Result ℕ Full × Memory} (Ok at, memory_of r') (place_of (memory_of r) size align)
  place_is = rw (placed_memory, is) (sym (placed_is (memory_of r) size align (omega arith)))

-- ---- an access that does not trap
within_of_ok : (b : Bool) (x : Result ℕ Trap) (trap : Trap) → IsOk (if b then x else Err trap) → (b ≡ true) × IsOk x
within_of_ok true x trap ok = (refl, ok)
within_of_ok false x trap ok = cc

pub load_lies : (m : Memory) (base offset width : ℕ) → IsOk (load_of m base offset width)
    → (lies_within (size_at m.blocks base) (offset + width / 8) ≡ true) × IsOk (read_le m.bytes (width / 8) (base + offset))
unfolding load_of
load_lies m base offset width ok = within_of_ok (lies_within (size_at m.blocks base) (offset + width / 8)) (read_le m.bytes (width / 8) (base + offset)) (Astray base offset) ok

stored_of_ok : (b : Bool) (x : Result (Unit {0}) Trap × Memory) (trap : Trap) (m : Memory) → IsOk (if◌then◌else◌ {A = Result (Unit {0}) Trap × Memory} b x (Err trap, m)).0 → b ≡ true
stored_of_ok true x trap m ok = refl
stored_of_ok false x trap m ok = cc

pub store_lies : (m : Memory) (base offset width word : ℕ) → IsOk (store_of m base offset width word).0 → lies_within (size_at m.blocks base) (offset + width / 8) ≡ true
unfolding store_of
store_lies m base offset width word ok =
    stored_of_ok (lies_within (size_at m.blocks base) (offset + width / 8)) (Ok tt, record m { bytes = write_le m.bytes (width / 8) (base + offset) word }) (Astray base offset) m ok

pub access_below : (r : Inside) → MarksAreKept r → (base to : ℕ) → lies_within (size_at (blocks_in r.marks.items 0 0) base) to ≡ true → (base + to ≤ r.next) × (base + to ≤ length r.bytes) × (base + to < 2 ^ 64)
access_below r kept base to lies =
    let good = kept.good in
    let below = within_next (memory_of r) base to good lies in
    (below, omega (arith, good.next, good.long), omega (arith, good.next, good.limit))

-- ---- bytes written
pub store_kept : (r r' : Inside) (kept : MarksAreKept r) (at n word : ℕ) → at + n ≤ r.next → r'.bytes ≡ write_le r.bytes n at word
    → r'.marks.items ≡ r.marks.items → r'.blocks ≡ r.blocks → r'.next ≡ r.next → r'.limit ≡ r.limit → MarksAreKept r'
store_kept r r' kept at n word le bytes' marks' blocks' next' limit' =
    let same : memory_of r' ≡ record (memory_of r) { bytes = write_le r.bytes n at word } = cc in
    record {
      good = rw same (write_good (memory_of r) n at word kept.good le);
      long = ap length marks' ∙ kept.long ∙ sym limit';
      clear = λ a h. ap (λ ms. slice_index ms a) marks' ∙ kept.clear a (omega arith);
      counted = blocks' ∙ kept.counted ∙ ap (λ ms. length (blocks_in ms 0 0)) (sym marks');
    }

pub store_is : (r r' : Inside) (base offset width word : ℕ) → lies_within (size_at (blocks_in r.marks.items 0 0) base) (offset + width / 8) ≡ true
    → r'.bytes ≡ write_le r.bytes (width / 8) (base + offset) word → r'.marks.items ≡ r.marks.items → r'.next ≡ r.next → r'.limit ≡ r.limit
    → ◌≡◌ {A = Result (Unit {0}) Trap × Memory} (Ok tt, memory_of r') (store_of (memory_of r) base offset width word)
store_is r r' base offset width word lies bytes' marks' next' limit' =
    let same : memory_of r' ≡ record (memory_of r) { bytes = write_le r.bytes (width / 8) (base + offset) word } = cc in
    rw same (sym (store_within (memory_of r) base offset width word lies))
