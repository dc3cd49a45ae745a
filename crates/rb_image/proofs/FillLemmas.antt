-- Blocks put into a memory one after the other, with fillers before them.
use Rattle.std.proofs.Common.{◌≡◌, ℕ, zero, suc, ◌+◌, ◌/◌, ◌%◌, ◌<◌, ◌≤◌, inl, inr, true, List, [], ◌∷◌, ◌++◌, length, Some, Result, Ok, Err, refl, sym, subst, ap, ◌∙◌, arith}
use Rattle.std.specs.Prelude.{slice_get}
use Rattle.std.proofs.lemmas.Bool.{cases_lt}
use Rattle.std.proofs.lemmas.Bool.Decides.{leb_tells}
use Rattle.std.proofs.lemmas.Option.{same_Some, slice_get_within}
use Rattle.rb_bytes.specs.Memory.{Memory, IsAlign, IsGood, IsSize, least_multiple, byte_at, lies_within, place_of, size_at, store_of, write_le}
use Rattle.rb_bytes.specs.Laws.{Extends}
use Rattle.rb_bytes.specs.declared.fault.Full.{Full}
use Rattle.rb_bytes.specs.declared.fault.Trap.{Trap}
use Rattle.rb_bytes.proofs.BlockLemmas.{block_bounds, size_at-push}
use Rattle.rb_bytes.proofs.ByteLemmas.{byte_at-set_same, byte_at-write_le_outside}
use Rattle.rb_bytes.proofs.MemoryLemmas.{Extends-trans, placed_is, store_within, write_good, written_below}
use Rattle.rb_image_text.specs.declared.image.ImageBlock.{ImageBlock}
use Rattle.rb_image_text.specs.Images.{AreImageBlocks}
use Rattle.rb_image_text.specs.Places.{AreInPlace}
use Rattle.rb_image_text.proofs.PlaceLemmas.{end_next}
use Rattle.rb_image.specs.Memories.{Stand, BlockStands}
use Rattle.rb_image.specs.inner.Filling.{AreStored, StandBefore, with_next}
use Rattle.rb_image.proofs.StandLemmas.{stands_extends}

-- ---- one block at the next address
pub align_one : IsAlign 1
align_one = (0, omega arith, refl)

aligned_one : (n : ℕ) → least_multiple n 1 ≡ n
aligned_one n = omega arith

abbrev placing : Memory → ℕ → ℕ → Result ℕ Full × Memory
placing m size a = (Ok a, record m { next = a + size; blocks = m.blocks ++ (a, size) ∷ [] })

pub fits_next : (m : Memory) (size : ℕ) → m.next + size ≤ m.limit → ◌≡◌ {A = Result ℕ Full × Memory} (place_of m size 1) (Ok m.next, with_next m size)
fits_next m size le =
    let e = aligned_one m.next in
    placed_is m size 1 (omega (arith, e, le)) ∙ ap (placing m size) e

-- it is not full
pub never_full : (m new : Memory) (size : ℕ) (full : Full) → m.next + size ≤ m.limit → (Err full, new) ≡ place_of m size 1 → ⊥
never_full m new size full le is =
    let h : ◌≡◌ {A = Result ℕ Full} (Err full) (Ok m.next) = ap (λ (x : Result ℕ Full × Memory). x.0) (is ∙ fits_next m size le) in
    cc

pub placed_next : (m new : Memory) (size a : ℕ) → m.next + size ≤ m.limit → (Ok a, new) ≡ place_of m size 1 → new ≡ with_next m size
placed_next m new size a le is = ap (λ (x : Result ℕ Full × Memory). x.1) (is ∙ fits_next m size le)

next_extends : (m : Memory) (size : ℕ) → Extends m (with_next m size)
next_extends m size = record { limit = refl; next = omega arith; blocks = ((m.next, size) ∷ [], refl); written = λ a b is. is }

pub extends_next : (old m new : Memory) (size : ℕ) → Extends old m → new ≡ with_next m size → Extends old new
extends_next old m new size ext is = Extends-trans old m new ext (subst (Extends m) (sym is) (next_extends m size))

-- the block is found there
next_found : (m : Memory) (size : ℕ) → IsGood m → size_at (with_next m size).blocks m.next ≡ Some size
next_found m size good = size_at-push m.blocks 64 m.next m.next size good.blocks (omega arith)

pub found_next : (m new : Memory) (at size : ℕ) → IsGood m → m.next ≡ at → new ≡ with_next m size → size_at new.blocks at ≡ Some size
found_next m new at size good next is =
    ap (λ (x : Memory). size_at x.blocks at) is ∙ ap (λ n. size_at (with_next m size).blocks n) (sym next) ∙ next_found m size good

-- ---- its bytes
module _ (old : Memory) (at : ℕ) (bytes : List ℕ) (size : size_at old.blocks at ≡ Some (length bytes)) where
  pub stored_none : IsGood old → AreStored old at bytes 0 old
  stored_none good = record {
    good = good;
    limit = refl;
    next = refl;
    blocks = refl;
    written = λ i n lt is. absurd (omega (arith, lt));
    below = λ a lt. refl;
  }

  module _ (m : Memory) (i : ℕ) (s : AreStored old at bytes i m) where
    found : size_at m.blocks at ≡ Some (length bytes)
    found = ap (λ bs. size_at bs at) s.blocks ∙ size

    ends_before_next : at + length bytes ≤ m.next
    ends_before_next = (block_bounds m.blocks at (length bytes) 64 m.next s.good.blocks found).2

    abbrev with_byte : ℕ → Memory
    with_byte n = record m { bytes = write_le m.bytes 1 (at + i) n }

    store_fits : (n : ℕ) → i < length bytes → ◌≡◌ {A = Result (Unit {0}) Trap × Memory} (store_of m at i 8 n) (Ok tt, with_byte n)
    store_fits n lt =
        let within : lies_within (size_at m.blocks at) (i + 8 / 8) ≡ true =
        ap (λ o. lies_within o (i + 8 / 8)) found
        ∙ elim (leb_tells (i + 8 / 8) (length bytes)) [ inl h ↦ h.0 | inr h ↦ absurd (omega (arith, h.1, lt)) ] in
        store_within m at i 8 n within

    pub never_astray : (new : Memory) (n : ℕ) (trap : Trap) → i < length bytes → (Err trap, new) ≡ store_of m at i 8 n → ⊥
    never_astray new n trap lt is =
        let h : ◌≡◌ {A = Result (Unit {0}) Trap} (Err trap) (Ok tt) = ap (λ (x : Result (Unit {0}) Trap × Memory). x.0) (is ∙ store_fits n lt) in
        cc

    byte_stored : (n : ℕ) → i < length bytes → n < 256 → byte_at (with_byte n).bytes (at + i) ≡ Some n
    byte_stored n lt small =
        let long = s.good.long in
        let high = s.good.next.1 in
        let end = ends_before_next in
        let same : n % 256 ≡ n = omega (arith, small) in
        byte_at-set_same m.bytes (at + i) (n % 256) (omega (arith, lt, long, high, end)) ∙ ap Some same

    with_byte_stored : (n : ℕ) → slice_get bytes i ≡ Some n → n < 256 → AreStored old at bytes (i + 1) (with_byte n)
    with_byte_stored n is small =
        let lt = slice_get_within bytes i n is in
        let end = ends_before_next in
        record {
          good = write_good m 1 (at + i) n s.good (omega (arith, lt, end));
          limit = s.limit;
          next = s.next;
          blocks = s.blocks;
          written = λ k b below at_k. elim (cases_lt k i) [
            | inl before ↦ byte_at-write_le_outside m.bytes 1 (at + i) n (at + k) (inl (omega (arith, before))) ∙ s.written k b before at_k
            | inr past ↦
                let same : k ≡ i = omega (arith, below, past) in
                let value : n ≡ b = same_Some n b (sym is ∙ ap (λ j. slice_get bytes j) (sym same) ∙ at_k) in
                ap (λ j. byte_at (with_byte n).bytes (at + j)) same ∙ byte_stored n lt small ∙ ap Some value
          ];
          below = λ a lower. byte_at-write_le_outside m.bytes 1 (at + i) n a (inl (omega (arith, lower))) ∙ s.below a lower;
        }

    pub stored_more : (new : Memory) (n : ℕ) → slice_get bytes i ≡ Some n → n < 256 → (Ok tt, new) ≡ store_of m at i 8 n → AreStored old at bytes (i + 1) new
    stored_more new n is small stores =
        let same : new ≡ with_byte n = ap (λ (x : Result (Unit {0}) Trap × Memory). x.1) (stores ∙ store_fits n (slice_get_within bytes i n is)) in
        subst (AreStored old at bytes (i + 1)) (sym same) (with_byte_stored n is small)

pub stored_all : (old new : Memory) (at : ℕ) (bytes : List ℕ) (i : ℕ) → length bytes ≤ i → AreStored old at bytes i new → AreStored old at bytes (length bytes) new
stored_all old new at bytes i le s = record {
  good = s.good;
  limit = s.limit;
  next = s.next;
  blocks = s.blocks;
  written = λ k n lt is. s.written k n (omega (arith, lt, le)) is;
  below = s.below;
}

-- ---- a block, with its bytes
module _ (old m placed new : Memory) (b : ImageBlock) (ext : Extends old m) (good : IsGood m) (next : m.next ≡ b.at)
    (is : placed ≡ with_next m (length b.bytes)) (stored : AreStored placed b.at b.bytes (length b.bytes) new) where
  s : AreStored (with_next m (length b.bytes)) b.at b.bytes (length b.bytes) new
  s = subst (λ (x : Memory). AreStored x b.at b.bytes (length b.bytes) new) is stored

  pub block_next : new.next ≡ b.at + length b.bytes
  block_next = let n = s.next in omega (arith, n, next)

  pub block_extends : Extends old new
  block_extends = Extends-trans old m new ext (record {
    limit = s.limit;
    next = (let n = s.next in omega (arith, n));
    blocks = ((m.next, length b.bytes) ∷ [], s.blocks);
    written = λ a v at. let lt = written_below m a v good at in s.below a (omega (arith, lt, next)) ∙ at;
  })

  pub block_stands : BlockStands new b
  block_stands = record {
    size = ap (λ bs. size_at bs b.at) s.blocks ∙ found_next m (with_next m (length b.bytes)) b.at (length b.bytes) good next refl;
    bytes = λ i n at. s.written i n (slice_get_within b.bytes i n at) at;
  }

-- ---- all blocks
pub block_sized : (blocks : List ImageBlock) (i : ℕ) (b : ImageBlock) → AreImageBlocks blocks → slice_get blocks i ≡ Some b → IsSize (length b.bytes)
block_sized [] i b are is = cc
block_sized (c ∷ blocks) zero b are is = subst (λ (x : ImageBlock). IsSize (length x.bytes)) (same_Some c b is) (omega (arith, are.0.some), are.0.few)
block_sized (c ∷ blocks) (suc i) b are is = block_sized blocks i b are.1 is

module _ (blocks : List ImageBlock) (placed : AreInPlace blocks) (i : ℕ) (b : ImageBlock) (is : slice_get blocks i ≡ Some b) (m : Memory) (s : StandBefore blocks i m) where
  pub stand_above : m.next ≤ b.at
  stand_above =
      let here = placed i b (slice_get_within blocks i b is) is in
      let next = s.next in
      omega (arith, here.low, here.behind, next)

  pub stand_room : b.at + length b.bytes ≤ m.limit
  stand_room = s.room i b is

  pub stand_more : (new : Memory) → Extends m new → BlockStands new b → new.next ≡ b.at + length b.bytes → IsGood new → StandBefore blocks (i + 1) new
  stand_more new ext stands next good = record {
    good = good;
    room = λ k c at. (let fits = s.room k c at in let same = ext.limit in omega (arith, fits, same));
    next = (let end = end_next blocks i b is in omega (arith, end, next));
    stand = λ k c below at. elim (cases_lt k i) [
      | inl before ↦ stands_extends m new c ext (s.stand k c before at)
      | inr past ↦
          let same : k ≡ i = omega (arith, below, past) in
          subst (BlockStands new) (same_Some b c (sym is ∙ ap (λ j. slice_get blocks j) (sym same) ∙ at)) stands
    ];
  }

pub stand_all : (blocks : List ImageBlock) (m : Memory) (i : ℕ) → length blocks ≤ i → StandBefore blocks i m → Stand blocks m
stand_all blocks m i le s k b is = let lt = slice_get_within blocks k b is in s.stand k b (omega (arith, lt, le)) is
