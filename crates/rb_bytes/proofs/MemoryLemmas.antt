-- What a place, a load and a store do with a good memory.
use Rattle.std.proofs.Common.{◌≡◌, ◌≢◌, ℕ, zero, suc, ◌+◌, ◌*◌, ◌/◌, ◌%◌, ◌^◌, ◌<◌, ◌≤◌, ◌⊎◌, inl, inr, Bool, true, false, List, [], ◌∷◌, ◌++◌, length, replicate, Some, None, Result, Ok, Err, refl, sym, subst, ap, ◌∙◌, arith, append_assoc, append-nil}
use Rattle.std.specs.Prelude.{IfOk, OnOk, if◌then◌else◌}
use Rattle.std.proofs.lemmas.Bool.{cases_lt}
use Rattle.std.proofs.lemmas.Bool.Decides.{leb_tells}
use Rattle.std.proofs.lemmas.List.{length-replicate}
use Rattle.std.proofs.Math.Nat.{one-le-pow}
use Rattle.rb_bits.specs.LittleEndian.{from_le_bytes}
use Rattle.rb_bytes.specs.Memory.{Memory, IsGood, IsAlign, IsSize, IsWidth, byte_at, empty_memory, least_multiple, place_of, size_at, lies_within, read_le, write_le, load_of, store_of, least_region, most_region}
use Rattle.rb_bytes.specs.Laws.{Extends, AreApart, Spells, IsLeastMultiple, IsFirstUnwritten, ChangesOnly, IsPlaced, IsStored, IsLoaded}
use Rattle.rb_bytes.specs.declared.fault.Full.{Full}
use Rattle.rb_bytes.specs.declared.fault.Trap.{Trap}
use Rattle.rb_bytes.specs.declared.fault.Trap.TheVariants.{Astray, Unwritten}
use Rattle.rb_bytes.proofs.ByteLemmas.{read_le-unwritten, read_le-spelled, byte_at-write_le_outside, length-write_le, write_le_small, read_le_same, read_le_kept, read_le-write_le}
use Rattle.rb_bytes.proofs.BlockLemmas.{AreBlocks_push, block_bounds, blocks_apart, size_at-append, size_at-push, within_size, aligned_from, aligned_least}

either : (t : Bool) → (t ≡ true) ⊎ (t ≡ false)
either true = inl refl
either false = inr refl

-- ---- the empty memory
none_written : (n a : ℕ) → byte_at (replicate n None) a ≡ None
none_written zero a = refl
none_written (suc n) zero = refl
none_written (suc n) (suc a) = none_written n a

pub empty_good : (limit : ℕ) → least_region ≤ limit → limit ≤ most_region → IsGood (empty_memory limit)
empty_good limit low high = record {
  blocks = omega arith;
  next = (omega arith, low);
  limit = high;
  long = length-replicate limit None;
  small = λ a b is. let none = none_written limit a in cc;
  fresh = λ a le. none_written limit a;
}

-- ---- a store
-- so many bytes from the start of a block lie below the next address
pub within_next : (m : Memory) (base to : ℕ) → IsGood m → lies_within (size_at m.blocks base) to ≡ true → base + to ≤ m.next
within_next m base to good e =
    let got = within_size (size_at m.blocks base) to e in
    omega (arith, got.2, (block_bounds m.blocks base got.0 64 m.next good.blocks got.1).2)

pub write_good : (m : Memory) (n at word : ℕ) → IsGood m → at + n ≤ m.next → IsGood (record m { bytes = write_le m.bytes n at word })
write_good m n at word good le = record {
  blocks = good.blocks;
  next = good.next;
  limit = good.limit;
  long = length-write_le m.bytes n at word ∙ good.long;
  small = write_le_small m.bytes n at word good.small;
  fresh = λ a h. byte_at-write_le_outside m.bytes n at word a (inr (omega arith)) ∙ good.fresh a h;
}

-- what is written lies below the next address
pub written_below : (m : Memory) (a b : ℕ) → IsGood m → byte_at m.bytes a ≡ Some b → a < m.next
written_below m a b good is =
    elim (cases_lt a m.next) [ inl lt ↦ lt | inr le ↦ absurd (let none = good.fresh a le in cc) ]

-- ---- a place
pub align_positive : (align : ℕ) → IsAlign align → 0 < align
align_positive align a = let p = one-le-pow a.0 2 (omega arith) in omega (arith, p, a.2)

pub block_good : (m : Memory) (a size : ℕ) → IsGood m → m.next ≤ a → 0 < size → a + size ≤ m.limit → IsGood (record m { next = a + size; blocks = m.blocks ++ (a, size) ∷ [] })
block_good m a size good above pos fits = record {
  blocks = AreBlocks_push m.blocks 64 m.next a size good.blocks above pos;
  next = (omega (arith, good.next), fits);
  limit = good.limit;
  long = good.long;
  small = good.small;
  fresh = λ at le. good.fresh at (omega arith);
}

pub placed_is : (m : Memory) (size align : ℕ) → least_multiple m.next align + size ≤ m.limit
    → ◌≡◌ {A = Result ℕ Full × Memory} (place_of m size align) (Ok (least_multiple m.next align), record m { next = least_multiple m.next align + size; blocks = m.blocks ++ (least_multiple m.next align, size) ∷ [] })
placed_is m size align le =
    elim (leb_tells (least_multiple m.next align + size) m.limit) [ inl h ↦ rw h.0 refl | inr h ↦ absurd (omega (arith, h.1)) ]

pub full_is : (m : Memory) (size align : ℕ) → m.limit < least_multiple m.next align + size
    → ◌≡◌ {A = Result ℕ Full × Memory} (place_of m size align) (Err (record { next = m.next; size = size; align = align; limit = m.limit }), m)
full_is m size align lt =
    elim (leb_tells (least_multiple m.next align + size) m.limit) [ inl h ↦ absurd (omega (arith, h.1)) | inr h ↦ rw h.0 refl ]

-- what holds of a memory with one more block, and of the memory itself, holds after a place
after_place : (P : Memory → Type 0) (m : Memory) (size align : ℕ) → P m
    → (least_multiple m.next align + size ≤ m.limit → P (record m { next = least_multiple m.next align + size; blocks = m.blocks ++ (least_multiple m.next align, size) ∷ [] }))
    → P (place_of m size align).1
after_place P m size align same more =
    elim (cases_lt m.limit (least_multiple m.next align + size)) [
      | inl lt ↦ subst P (sym (ap (λ (r : Result ℕ Full × Memory). r.1) (full_is m size align lt))) same
      | inr le ↦ subst P (sym (ap (λ (r : Result ℕ Full × Memory). r.1) (placed_is m size align le))) (more le)
    ]

-- a place keeps a good memory good
pub place_good : (m : Memory) (size align : ℕ) → IsGood m → IsSize size → IsAlign align → IsGood (place_of m size align).1
place_good m size align good sizes aligns =
    after_place IsGood m size align good
    (λ fits. block_good m (least_multiple m.next align) size good (aligned_from m.next align (align_positive align aligns)) sizes.0 fits)

-- ---- what stays
pub Extends-refl : (m : Memory) → Extends m m
Extends-refl m = record { limit = refl; next = omega arith; blocks = ([], sym (append-nil m.blocks)); written = λ a b is. is }

pub Extends-trans : (m m' m'' : Memory) → Extends m m' → Extends m' m'' → Extends m m''
Extends-trans m m' m'' one two = record {
  limit = two.limit ∙ one.limit;
  next = omega (arith, one.next, two.next);
  blocks = (one.blocks.0 ++ two.blocks.0, two.blocks.1 ∙ ap (λ bs. bs ++ two.blocks.0) one.blocks.1 ∙ append_assoc m.blocks one.blocks.0 two.blocks.0);
  written = λ a b is. two.written a b (one.written a b is);
}

pub place_extends : (m : Memory) (size align : ℕ) → IsAlign align → Extends m (place_of m size align).1
place_extends m size align aligns =
    after_place (Extends m) m size align (Extends-refl m)
    (λ fits. record {
      limit = refl;
      next = omega (arith, aligned_from m.next align (align_positive align aligns));
      blocks = ((least_multiple m.next align, size) ∷ [], refl);
      written = λ a b is. is;
    })

-- the block that was placed is found at its address
pub place_found : (m : Memory) (size align : ℕ) → IsGood m → IsAlign align → IfOk (place_of m size align).0 (λ a. size_at (place_of m size align).1.blocks a ≡ Some size)
place_found m size align good aligns =
    let P : Result ℕ Full × Memory → Type 0 = λ r. IfOk r.0 (λ a. size_at r.1.blocks a ≡ Some size) in
    elim (cases_lt m.limit (least_multiple m.next align + size)) [
      | inl lt ↦ subst P (sym (full_is m size align lt)) tt
      | inr le ↦
          subst P (sym (placed_is m size align le))
          (size_at-push m.blocks 64 m.next (least_multiple m.next align) size good.blocks (aligned_from m.next align (align_positive align aligns)))
    ]

-- at the least multiple of the alignment
pub place_least : (m : Memory) (size align : ℕ) → IsAlign align → IfOk (place_of m size align).0 (IsLeastMultiple m.next align)
place_least m size align aligns =
    let P : Result ℕ Full × Memory → Type 0 = λ r. IfOk r.0 (IsLeastMultiple m.next align) in
    elim (cases_lt m.limit (least_multiple m.next align + size)) [
      | inl lt ↦ subst P (sym (full_is m size align lt)) tt
      | inr le ↦ subst P (sym (placed_is m size align le)) (aligned_least m.next align (align_positive align aligns))
    ]

-- ---- loads by their two cases
pub load_astray : (m : Memory) (base offset width : ℕ) → lies_within (size_at m.blocks base) (offset + width / 8) ≡ false → load_of m base offset width ≡ Err (Astray base offset)
unfolding load_of
load_astray m base offset width e = rw e refl

pub load_within : (m : Memory) (base offset width : ℕ) → lies_within (size_at m.blocks base) (offset + width / 8) ≡ true → load_of m base offset width ≡ read_le m.bytes (width / 8) (base + offset)
unfolding load_of
load_within m base offset width e = rw e refl

choice_ok : (t : Bool) (x : Result ℕ Trap) (trap : Trap) (r : ℕ) → ◌≡◌ {A = Result ℕ Trap} (if t then x else Err trap) (Ok r) → (t ≡ true) × (x ≡ Ok r)
choice_ok true x trap r is = (refl, is)
choice_ok false x trap r is = cc

pub load_ok : (m : Memory) (base offset width r : ℕ) → load_of m base offset width ≡ Ok r
    → (lies_within (size_at m.blocks base) (offset + width / 8) ≡ true) × (read_le m.bytes (width / 8) (base + offset) ≡ Ok r)
unfolding load_of
load_ok m base offset width r is =
    choice_ok (lies_within (size_at m.blocks base) (offset + width / 8)) (read_le m.bytes (width / 8) (base + offset)) (Astray base offset) r is

pub size_at_extends : (m m' : Memory) (base size : ℕ) → Extends m m' → size_at m.blocks base ≡ Some size → size_at m'.blocks base ≡ Some size
size_at_extends m m' base size ext is = ap (λ bs. size_at bs base) ext.blocks.1 ∙ size_at-append m.blocks ext.blocks.0 base size is

pub within_extends : (m m' : Memory) (base to : ℕ) → Extends m m' → lies_within (size_at m.blocks base) to ≡ true → lies_within (size_at m'.blocks base) to ≡ true
within_extends m m' base to ext e =
    let got = within_size (size_at m.blocks base) to e in
    ap (λ o. lies_within o to) (size_at_extends m m' base got.0 ext got.1 ∙ sym got.1) ∙ e

-- what can be loaded is loaded from every memory that extends this one
pub load_extends : (m m' : Memory) (base offset width r : ℕ) → Extends m m' → load_of m base offset width ≡ Ok r → load_of m' base offset width ≡ Ok r
load_extends m m' base offset width r ext is =
    let got = load_ok m base offset width r is in
    load_within m' base offset width (within_extends m m' base (offset + width / 8) ext got.0)
    ∙ read_le_kept m.bytes m'.bytes (width / 8) (base + offset) r ext.written got.1

-- ---- stores by their two cases
pub store_astray : (m : Memory) (base offset width word : ℕ) → lies_within (size_at m.blocks base) (offset + width / 8) ≡ false
    → ◌≡◌ {A = Result (Unit {0}) Trap × Memory} (store_of m base offset width word) (Err (Astray base offset), m)
unfolding store_of
store_astray m base offset width word e = rw e refl

pub store_within : (m : Memory) (base offset width word : ℕ) → lies_within (size_at m.blocks base) (offset + width / 8) ≡ true
    → ◌≡◌ {A = Result (Unit {0}) Trap × Memory} (store_of m base offset width word) (Ok tt, record m { bytes = write_le m.bytes (width / 8) (base + offset) word })
unfolding store_of
store_within m base offset width word e = rw e refl

-- what holds of a memory with the bytes written, and of the memory itself, holds after a store
after_store : (P : Memory → Type 0) (m : Memory) (base offset width word : ℕ) → P m
    → (lies_within (size_at m.blocks base) (offset + width / 8) ≡ true → P (record m { bytes = write_le m.bytes (width / 8) (base + offset) word }))
    → P (store_of m base offset width word).1
after_store P m base offset width word same more =
    elim (either (lies_within (size_at m.blocks base) (offset + width / 8))) [
      | inl e ↦ subst P (sym (ap (λ (r : Result (Unit {0}) Trap × Memory). r.1) (store_within m base offset width word e))) (more e)
      | inr e ↦ subst P (sym (ap (λ (r : Result (Unit {0}) Trap × Memory). r.1) (store_astray m base offset width word e))) same
    ]

pub store_good : (m : Memory) (base offset width word : ℕ) → IsGood m → IsGood (store_of m base offset width word).1
store_good m base offset width word good =
    after_store IsGood m base offset width word good
    (λ e. write_good m (width / 8) (base + offset) word good (omega (arith, within_next m base (offset + width / 8) good e)))

width_bits : (width : ℕ) → IsWidth width → 8 * (width / 8) ≡ width
width_bits width (inl e) = omega arith
width_bits width (inr (inl e)) = omega arith
width_bits width (inr (inr (inl e))) = omega arith
width_bits width (inr (inr (inr e))) = omega arith

-- what was stored is loaded again, as far as its width goes
pub store_loaded : (m : Memory) (base offset width word : ℕ) → IsGood m → IsWidth width
    → OnOk (store_of m base offset width word).0 (load_of (store_of m base offset width word).1 base offset width ≡ Ok (word % 2 ^ width))
store_loaded m base offset width word good wide =
    let P : Result (Unit {0}) Trap × Memory → Type 0 = λ r. OnOk r.0 (load_of r.1 base offset width ≡ Ok (word % 2 ^ width)) in
    elim (either (lies_within (size_at m.blocks base) (offset + width / 8))) [
      | inl e ↦
          let below = within_next m base (offset + width / 8) good e in
          subst P (sym (store_within m base offset width word e))
          (load_within (record m { bytes = write_le m.bytes (width / 8) (base + offset) word }) base offset width e
          ∙ read_le-write_le m.bytes (width / 8) (base + offset) word (omega (arith, good.long, good.next))
          ∙ ap (λ k. Ok (word % 2 ^ k)) (width_bits width wide))
      | inr e ↦ subst P (sym (store_astray m base offset width word e)) tt
    ]

written_elsewhere : (m : Memory) (n at word other place wide : ℕ) → (at + n ≤ other + place) ⊎ (other + place + wide / 8 ≤ at)
    → load_of (record m { bytes = write_le m.bytes n at word }) other place wide ≡ load_of m other place wide
unfolding load_of
written_elsewhere m n at word other place wide apart =
    let same = read_le_same (write_le m.bytes n at word) m.bytes (wide / 8) (other + place) (λ a le lt. byte_at-write_le_outside m.bytes n at word a (outside apart a le lt)) in
    ap (λ x. if lies_within (size_at m.blocks other) (place + wide / 8) then x else Err (Astray other place)) same
  where
    outside : (at + n ≤ other + place) ⊎ (other + place + wide / 8 ≤ at) → (a : ℕ) → other + place ≤ a → a < other + place + wide / 8 → (a < at) ⊎ (at + n ≤ a)
    outside (inl le) a low high = inr (omega arith)
    outside (inr le) a low high = inl (omega arith)

-- other bytes stay
pub store_bytes : (m : Memory) (base offset width word a : ℕ) → (a < base + offset) ⊎ (base + offset + width / 8 ≤ a)
    → byte_at (store_of m base offset width word).1.bytes a ≡ byte_at m.bytes a
store_bytes m base offset width word a out =
    after_store (λ (new : Memory). byte_at new.bytes a ≡ byte_at m.bytes a) m base offset width word refl
    (λ e. byte_at-write_le_outside m.bytes (width / 8) (base + offset) word a out)

-- a load of other bytes gives what it gave before
pub store_elsewhere : (m : Memory) (base offset width word other place wide : ℕ) → AreApart base offset width other place wide
    → load_of (store_of m base offset width word).1 other place wide ≡ load_of m other place wide
store_elsewhere m base offset width word other place wide apart =
    after_store (λ (new : Memory). load_of new other place wide ≡ load_of m other place wide) m base offset width word refl
    (λ e. written_elsewhere m (width / 8) (base + offset) word other place wide apart)

-- bytes within two blocks are apart
blocks_differ : (m : Memory) (base other offset count place wide : ℕ) → IsGood m → base ≢ other
    → lies_within (size_at m.blocks base) (offset + count) ≡ true → lies_within (size_at m.blocks other) (place + wide) ≡ true
    → (base + offset + count ≤ other + place) ⊎ (other + place + wide ≤ base + offset)
blocks_differ m base other offset count place wide good ne here there =
    let s = within_size (size_at m.blocks base) (offset + count) here in
    let t = within_size (size_at m.blocks other) (place + wide) there in
    elim (cases_lt base other) [
      | inl lt ↦ inl (omega (arith, s.2, blocks_apart m.blocks base s.0 other t.0 64 m.next good.blocks s.1 t.1 lt))
      | inr le ↦
          let lt : other < base = omega arith in
          inr (omega (arith, t.2, blocks_apart m.blocks other t.0 base s.0 64 m.next good.blocks t.1 s.1 lt))
    ]

-- and so does a load from another block
pub store_other_block : (m : Memory) (base offset width word other place wide : ℕ) → IsGood m → base ≢ other
    → load_of (store_of m base offset width word).1 other place wide ≡ load_of m other place wide
store_other_block m base offset width word other place wide good ne =
    after_store (λ (new : Memory). load_of new other place wide ≡ load_of m other place wide) m base offset width word refl
    (λ here.
    let new : Memory = record m { bytes = write_le m.bytes (width / 8) (base + offset) word } in
    elim (either (lies_within (size_at m.blocks other) (place + wide / 8))) [
      | inl there ↦ written_elsewhere m (width / 8) (base + offset) word other place wide (blocks_differ m base other offset (width / 8) place (wide / 8) good ne here there)
      | inr astray ↦ load_astray new other place wide astray ∙ sym (load_astray m other place wide astray)
    ])

pub store_changes : (m : Memory) (base offset width word : ℕ) → IsGood m → ChangesOnly m (store_of m base offset width word).1 base offset width
store_changes m base offset width word good = record {
  bytes = store_bytes m base offset width word;
  elsewhere = store_elsewhere m base offset width word;
  other_block = λ b o w ne. store_other_block m base offset width word b o w good ne;
}

-- a store above the old memory's next address keeps what the old memory had
pub store_extends : (old m : Memory) (base offset width word : ℕ) → IsGood old → Extends old m → old.next ≤ base + offset → Extends old (store_of m base offset width word).1
store_extends old m base offset width word good ext above =
    after_store (Extends old) m base offset width word ext
    (λ e. record {
      limit = ext.limit;
      next = ext.next;
      blocks = ext.blocks;
      written = λ a b is.
          let below : a < old.next = written_below old a b good is in
          byte_at-write_le_outside m.bytes (width / 8) (base + offset) word a (inl (omega arith)) ∙ ext.written a b is;
    })

-- a load gives the number that the bytes spell
pub load_spelled : (m : Memory) (base offset width : ℕ) (bytes : List ℕ) (result : Result ℕ Trap) → width ≡ 8 * length bytes → Spells m (base + offset) bytes
    → result ≡ load_of m base offset width → OnOk result (result ≡ Ok (from_le_bytes bytes))
load_spelled m base offset width bytes (Ok r) count spells is =
    let n : width / 8 ≡ length bytes = omega arith in
    is ∙ load_within m base offset width (load_ok m base offset width r (sym is)).0
    ∙ ap (λ k. read_le m.bytes k (base + offset)) n ∙ read_le-spelled m.bytes bytes (base + offset) spells
load_spelled m base offset width bytes (Err trap) count spells is = tt

-- a load that misses a byte names the first one
pub load_unwritten : (m : Memory) (base offset width a : ℕ) → load_of m base offset width ≡ Err (Unwritten a) → IsFirstUnwritten m (base + offset) (width / 8) a
load_unwritten m base offset width a is =
    elim (either (lies_within (size_at m.blocks base) (offset + width / 8))) [
      | inl e ↦
          let got = read_le-unwritten m.bytes (width / 8) (base + offset) a (sym (load_within m base offset width e) ∙ is) in
          record { within = (got.0, got.1); unwritten = got.2; before = got.3 }
      | inr e ↦ let other = load_astray m base offset width e in cc
    ]

-- none of the bytes of a block that was placed is written
pub place_fresh : (m : Memory) (size align : ℕ) → IsGood m → IsAlign align
    → IfOk (place_of m size align).0 (λ a. (k : ℕ) → a ≤ k → byte_at (place_of m size align).1.bytes k ≡ None)
place_fresh m size align good aligns =
    let P : Result ℕ Full × Memory → Type 0 = λ r. IfOk r.0 (λ a. (k : ℕ) → a ≤ k → byte_at r.1.bytes k ≡ None) in
    elim (cases_lt m.limit (least_multiple m.next align + size)) [
      | inl lt ↦ subst P (sym (full_is m size align lt)) tt
      | inr le ↦
          subst P (sym (placed_is m size align le))
          (λ k above. good.fresh k (omega (arith, aligned_from m.next align (align_positive align aligns), above)))
    ]

-- ---- the laws of a place, a store and a load
pub place_keeps : (m : Memory) (size align : ℕ) → IsGood m → IsSize size → IsAlign align → IsPlaced m size align (place_of m size align)
place_keeps m size align good sizes aligns =
    let stays = place_extends m size align aligns in
    record {
      good = place_good m size align good sizes aligns;
      least = place_least m size align aligns;
      stays = stays;
      loads = λ b o w r is. load_extends m (place_of m size align).1 b o w r stays is;
      found = place_found m size align good aligns;
      unwritten = place_fresh m size align good aligns;
    }

pub store_keeps : (m : Memory) (base offset width word : ℕ) → IsGood m → IsWidth width
    → IsStored m base offset width word (store_of m base offset width word)
store_keeps m base offset width word good wide = record {
  good = store_good m base offset width word good;
  loaded = store_loaded m base offset width word good wide;
  only = store_changes m base offset width word good;
  earlier = λ early early_good above ext. store_extends early m base offset width word early_good ext above;
}

pub load_keeps : (m : Memory) (base offset width : ℕ) → IsLoaded m base offset width (load_of m base offset width)
load_keeps m base offset width = record {
  spelled = λ bytes count spells. load_spelled m base offset width bytes (load_of m base offset width) count spells refl;
  unwritten = λ a is. load_unwritten m base offset width a is;
}
