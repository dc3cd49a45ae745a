-- Blocks that are placed and filled: the memory grows by them, and each word is loaded again.
use Rattle.std.proofs.Common.{◌≡◌, ℕ, zero, suc, ◌+◌, ◌*◌, ◌/◌, ◌%◌, ◌^◌, ◌<◌, ◌≤◌, ◌⊎◌, inl, inr, length, map, List, [], ◌∷◌, true, Option, Some, None, Result, Ok, Err, refl, sym, subst, ap, ◌∙◌, arith}
use Rattle.std.specs.Prelude.{slice_get, if◌then◌else◌}
use Rattle.std.proofs.lemmas.Bool.{cases_lt}
use Rattle.std.proofs.lemmas.Bool.Decides.{leb_tells}
use Rattle.std.proofs.lemmas.Option.{same_Some}
use Rattle.std.proofs.Math.Nat.{mod-eq_of_lt}
use Rattle.rb_bytes.specs.Memory.{Memory, IsGood, byte_at, least_multiple, then_byte, read_le, write_le, size_at, lies_within, load_of}
use Rattle.rb_bytes.specs.Growth.{Grown}
use Rattle.rb_bytes.specs.declared.fault.Trap.{Trap}
use Rattle.rb_bytes.specs.declared.fault.Full.{Full}
use Rattle.rb_bytes.proofs.ByteLemmas.{length-write_le, byte_at-write_le_outside, write_le_small, read_le_same, read_le-write_le}
use Rattle.rb_bytes.proofs.BlockLemmas.{AreBlocks_push, size_at-push, aligned_from}
use Rattle.rb_bytes.proofs.GrowthLemmas.{Grown-refl, Grown-trans, Grown-extends, Grown-loads}
use Rattle.rb_bytes.proofs.MemoryLemmas.{load_within, size_at_extends}
use Rattle.rb_layout.specs.declared.layout.Block.{Block}
use Rattle.rb_layout.specs.declared.layout.FlatWord.{FlatWord}
use Rattle.rb_layout.specs.Words.{bytes_taken, size_of, begins_at}
use Rattle.rb_layout.specs.A4.{IsBlockWidth}
use Rattle.rb_rel.specs.Placing.{Laid, Fits, Over, Request, request_of, block_before, lay}
use Rattle.rb_rel.specs.Storing.{with_words, with_block, with_blocks}

-- Words one after the other from an address on, each of them a number of its width
module _ (number : FlatWord → ℕ) where
  pub length-with_words : (fs : List FlatWord) (at : ℕ) (bytes : List (Option ℕ)) → length (with_words number fs at bytes) ≡ length bytes
  length-with_words [] at bytes = refl
  length-with_words (f ∷ fs) at bytes = length-with_words fs (at + f.width / 8) (write_le bytes (f.width / 8) at (number f)) ∙ length-write_le bytes (f.width / 8) at (number f)

  pub written_outside : (fs : List FlatWord) (at : ℕ) (bytes : List (Option ℕ)) (a : ℕ) → (a < at) ⊎ (at + bytes_taken fs ≤ a) → byte_at (with_words number fs at bytes) a ≡ byte_at bytes a
  written_outside [] at bytes a out = refl
  written_outside (f ∷ fs) at bytes a out =
      written_outside fs (at + f.width / 8) (write_le bytes (f.width / 8) at (number f)) a (rest out) ∙ byte_at-write_le_outside bytes (f.width / 8) at (number f) a (first out)
    where
      rest : (a < at) ⊎ (at + (f.width / 8 + bytes_taken fs) ≤ a) → (a < at + f.width / 8) ⊎ (at + f.width / 8 + bytes_taken fs ≤ a)
      rest (inl lt) = inl (omega (arith, lt))
      rest (inr le) = inr (omega (arith, le))

      first : (a < at) ⊎ (at + (f.width / 8 + bytes_taken fs) ≤ a) → (a < at) ⊎ (at + f.width / 8 ≤ a)
      first (inl lt) = inl lt
      first (inr le) = inr (omega (arith, le))

  written_small : (fs : List FlatWord) (at : ℕ) (bytes : List (Option ℕ)) → ((a b : ℕ) → byte_at bytes a ≡ Some b → b < 256) → (a b : ℕ) → byte_at (with_words number fs at bytes) a ≡ Some b → b < 256
  written_small [] at bytes small = small
  written_small (f ∷ fs) at bytes small = written_small fs (at + f.width / 8) (write_le bytes (f.width / 8) at (number f)) (write_le_small bytes (f.width / 8) at (number f) small)

  -- each word is read again
  written_read : (fs : List FlatWord) (at : ℕ) (bytes : List (Option ℕ)) → at + bytes_taken fs ≤ length bytes → (j : ℕ) (f : FlatWord) → slice_get fs j ≡ Some f
      → read_le (with_words number fs at bytes) (f.width / 8) (at + begins_at fs j) ≡ Ok (number f % 2 ^ (8 * (f.width / 8)))
  written_read [] at bytes le j f is = absurd cc
  written_read (g ∷ fs) at bytes le zero f is =
      let n = g.width / 8 in
      let next = write_le bytes n at (number g) in
      let z : at + 0 ≡ at = omega arith in
      let same = read_le_same (with_words number fs (at + n) next) next n at (λ a low high. written_outside fs (at + n) next a (inl high)) in
      subst (λ (x : FlatWord). read_le (with_words number (g ∷ fs) at bytes) (x.width / 8) (at + 0) ≡ Ok (number x % 2 ^ (8 * (x.width / 8)))) (same_Some g f is)
      (ap (read_le (with_words number (g ∷ fs) at bytes) n) z ∙ same ∙ read_le-write_le bytes n at (number g) (omega (arith, le)))
  written_read (g ∷ fs) at bytes le (suc j) f is =
      let n = g.width / 8 in
      let next = write_le bytes n at (number g) in
      let z : at + (n + begins_at fs j) ≡ at + n + begins_at fs j = omega arith in
      let long = length-write_le bytes n at (number g) in
      ap (read_le (with_words number fs (at + n) next) (f.width / 8)) z ∙ written_read fs (at + n) next (omega (arith, le, long)) j f is

  -- what is read was written
  read_written : (bytes : List (Option ℕ)) (n at r : ℕ) → read_le bytes n at ≡ Ok r → (a : ℕ) → at ≤ a → a < at + n → (u : ℕ) × (byte_at bytes a ≡ Some u)
  read_written bytes zero at r e a low high = absurd (omega (arith, low, high))
  read_written bytes (suc n) at r e a low high =
      let h = parts (byte_at bytes at) (read_le bytes n (at + 1)) r e in
      elim (cases_lt at a) [
        | inl lt ↦ read_written bytes n (at + 1) h.1 h.3 a (omega (arith, lt)) (omega (arith, high))
        | inr le ↦ let z : a ≡ at = omega (arith, low, le) in (h.0, ap (byte_at bytes) z ∙ h.2)
      ]
    where
      parts : (b : Option ℕ) (x : Result ℕ Trap) (y : ℕ) → then_byte at b x ≡ Ok y → (u : ℕ) × (v : ℕ) × (b ≡ Some u) × ◌≡◌ {A = Result ℕ Trap} x (Ok v)
      parts None x y h = absurd cc
      parts (Some u) (Err t) y h = absurd cc
      parts (Some u) (Ok v) y h = (u, v, refl, refl)

  -- each byte is written
  written_whole : (fs : List FlatWord) (at : ℕ) (bytes : List (Option ℕ)) → at + bytes_taken fs ≤ length bytes → (a : ℕ) → at ≤ a → a < at + bytes_taken fs → (u : ℕ) × (byte_at (with_words number fs at bytes) a ≡ Some u)
  written_whole [] at bytes le a low high = absurd (omega (arith, low, high))
  written_whole (g ∷ fs) at bytes le a low high =
      let n = g.width / 8 in
      let next = write_le bytes n at (number g) in
      let long = length-write_le bytes n at (number g) in
      elim (cases_lt a (at + n)) [
        | inl lt ↦
            let u = read_written next n at (number g % 2 ^ (8 * n)) (read_le-write_le bytes n at (number g) (omega (arith, le))) a low lt in
            (u.0, written_outside fs (at + n) next a (inl lt) ∙ u.1)
        | inr up ↦ written_whole fs (at + n) next (omega (arith, le, long)) a up (omega (arith, high))
      ]

pub begins_within : (fs : List FlatWord) (j : ℕ) (f : FlatWord) → slice_get fs j ≡ Some f → begins_at fs j + f.width / 8 ≤ bytes_taken fs
begins_within [] j f is = absurd cc
begins_within (g ∷ fs) zero f is = let e = ap (λ (x : FlatWord). x.width / 8) (same_Some g f is) in omega (arith, e)
begins_within (g ∷ fs) (suc j) f is = let h = begins_within fs j f is in omega (arith, h)

pub width_bytes : (width : ℕ) → IsBlockWidth width → 8 * (width / 8) ≡ width
width_bytes width (inl e) = omega (arith, e)
width_bytes width (inr (inl e)) = omega (arith, e)
width_bytes width (inr (inr (inl e))) = omega (arith, e)
width_bytes width (inr (inr (inr e))) = omega (arith, e)

pub within_yes : (size to : ℕ) → to ≤ size → lies_within (Some size) to ≡ true
within_yes size to le = elim (leb_tells to size) [ inl h ↦ h.0 | inr h ↦ absurd (omega (arith, h.1, le)) ]

-- what a block is: words of bytes, at least one of them
pub record IsBlock (block : Block) : Type 0 where
  pub some : 0 < size_of block
  pub widths : (j : ℕ) (f : FlatWord) → slice_get block.words j ≡ Some f → IsBlockWidth f.width
  pub align : 0 < block.align

-- a memory that has grown by a block with these words
pub record Stored (m m' : Memory) (block : Block) (number : FlatWord → ℕ) (a : ℕ) : Type 0 where
  pub sized : size_at m'.blocks a ≡ Some (size_of block)
  pub loads : (j : ℕ) (f : FlatWord) → slice_get block.words j ≡ Some f → load_of m' a (begins_at block.words j) f.width ≡ Ok (number f)

module _ (m : Memory) (good : IsGood m) (block : Block) (is : IsBlock block) (number : FlatWord → ℕ) where
  abbrev a : ℕ
  a = least_multiple m.next block.align

  abbrev filled : Memory
  filled = with_block number m block

  module _ (room : a + size_of block ≤ m.limit) where
    pub above : m.next ≤ a
    above = aligned_from m.next block.align is.align

    long : a + bytes_taken block.words ≤ length m.bytes
    long = let l = good.long in omega (arith, room, l)

    pub filled_good : IsGood filled
    filled_good = record {
      blocks = AreBlocks_push m.blocks 64 m.next a (size_of block) good.blocks above is.some;
      next = ((let n = good.next.0 in omega (arith, n, above)), room);
      limit = good.limit;
      long = length-with_words number block.words a m.bytes ∙ good.long;
      small = written_small number block.words a m.bytes good.small;
      fresh = λ x le. written_outside number block.words a m.bytes x (inr le) ∙ good.fresh x (omega (arith, le, above));
    }

    pub filled_grown : Grown m filled ((a, size_of block) ∷ []) (a + size_of block)
    filled_grown = record {
      limit = refl;
      next = refl;
      rises = omega (arith, above);
      behind = refl;
      kept = λ x lt. written_outside number block.words a m.bytes x (inl (omega (arith, lt, above)));
      whole = ((omega arith, λ x low high. written_whole number block.words a m.bytes long x low high), tt);
      good = filled_good;
    }

    filled_sized : size_at filled.blocks a ≡ Some (size_of block)
    filled_sized = size_at-push m.blocks 64 m.next a (size_of block) good.blocks above

    filled_loads : ((j : ℕ) (f : FlatWord) → slice_get block.words j ≡ Some f → number f < 2 ^ f.width) → (j : ℕ) (f : FlatWord) → slice_get block.words j ≡ Some f → load_of filled a (begins_at block.words j) f.width ≡ Ok (number f)
    filled_loads fits j f at =
        let wide = width_bytes f.width (is.widths j f at) in
        load_within filled a (begins_at block.words j) f.width (ap (λ o. lies_within o (begins_at block.words j + f.width / 8)) filled_sized ∙ within_yes (size_of block) (begins_at block.words j + f.width / 8) (begins_within block.words j f at))
        ∙ written_read number block.words a m.bytes long j f at
        ∙ ap (λ k. Ok (number f % 2 ^ k)) wide ∙ ap Ok (mod-eq_of_lt (fits j f at))

    pub filled_stored : ((j : ℕ) (f : FlatWord) → slice_get block.words j ≡ Some f → number f < 2 ^ f.width) → Stored m filled block number a
    filled_stored fits = record { sized = filled_sized; loads = filled_loads fits }

-- Several blocks, one after the other
module _ (number : FlatWord → ℕ) where
  pub record AllStored (m : Memory) (blocks : List Block) (bs : List (ℕ × ℕ)) (p : ℕ) : Type 0 where
    pub memory : Memory
    pub is_filled : memory ≡ with_blocks number m blocks
    pub grown : Grown m memory bs p
    pub stored : (k : ℕ) (block : Block) → slice_get blocks k ≡ Some block → (at : ℕ × ℕ) × (slice_get bs k ≡ Some at) × Stored m memory block number at.0

  stored_later : (m m' m'' : Memory) (block : Block) (a : ℕ) (bs : List (ℕ × ℕ)) (p : ℕ) → IsGood m' → Grown m' m'' bs p → Stored m m' block number a → Stored m m'' block number a
  stored_later m m' m'' block a bs p good g s = record {
    sized = size_at_extends m' m'' a (size_of block) (Grown-extends m' m'' bs p good g) s.sized;
    loads = λ j f is. Grown-loads m' m'' bs p good g a _ f.width (number f) (s.loads j f is);
  }

  -- what is laid behind a block
  pub laid_more : (limit next : ℕ) (r : Request) (rs : List Request) (bs : List (ℕ × ℕ)) (p : ℕ) → lay limit next (r ∷ rs) ≡ Fits bs p
      → (least_multiple next r.align + r.size ≤ limit) × (cs : List (ℕ × ℕ)) × (lay limit (least_multiple next r.align + r.size) rs ≡ Fits cs p) × (bs ≡ (least_multiple next r.align, r.size) ∷ cs)
  laid_more limit next r rs bs p e = elim (leb_tells (least_multiple next r.align + r.size) limit) [
    | inl h ↦ let q = split (lay limit (least_multiple next r.align + r.size) rs) (sym (ap (λ t. if t then block_before (least_multiple next r.align, r.size) (lay limit (least_multiple next r.align + r.size) rs) else Over full) h.0) ∙ e) in (h.1, q.0, q.1, q.2)
    | inr h ↦ absurd (over (sym (ap (λ t. if t then block_before (least_multiple next r.align, r.size) (lay limit (least_multiple next r.align + r.size) rs) else Over full) h.0) ∙ e))
  ]
    where
      full : Full
      full = record { next = next; size = r.size; align = r.align; limit = limit }

      split : (l : Laid) → block_before (least_multiple next r.align, r.size) l ≡ Fits bs p → (cs : List (ℕ × ℕ)) × (l ≡ Fits cs p) × (bs ≡ (least_multiple next r.align, r.size) ∷ cs)
      split (Fits cs q) h = (cs, (let x : (least_multiple next r.align, r.size) ∷ cs ≡ bs = cc in let y : q ≡ p = cc in ap (Fits cs) y), (let x : (least_multiple next r.align, r.size) ∷ cs ≡ bs = cc in sym x))
      split (Over f) h = absurd cc

      over : Over full ≡ Fits bs p → ⊥
      over h = cc

  pub all_stored : (blocks : List Block) → ((k : ℕ) (block : Block) → slice_get blocks k ≡ Some block → IsBlock block)
      → ((k : ℕ) (block : Block) → slice_get blocks k ≡ Some block → (j : ℕ) (f : FlatWord) → slice_get block.words j ≡ Some f → number f < 2 ^ f.width)
      → (m : Memory) → IsGood m → (bs : List (ℕ × ℕ)) (p : ℕ) → lay m.limit m.next (map request_of blocks) ≡ Fits bs p → AllStored m blocks bs p
  all_stored [] are fit m good bs p e =
      let x : bs ≡ [] = cc in
      let y : m.next ≡ p = cc in
      record { memory = m; is_filled = refl; grown = subst (λ q. Grown m m bs q) y (subst (λ cs. Grown m m cs m.next) (sym x) (Grown-refl m good)); stored = λ k block is. absurd cc }
  all_stored (b ∷ blocks) are fit m good bs p e =
      let l = laid_more m.limit m.next (request_of b) (map request_of blocks) bs p e in
      let is = are 0 b refl in
      let fits = fit 0 b refl in
      let m1 = filled m good b is number in
      let g1 = filled_grown m good b is number l.0 in
      let s1 = filled_stored m good b is number l.0 fits in
      let rest = all_stored blocks (λ k x h. are (suc k) x h) (λ k x h. fit (suc k) x h) m1 g1.good l.1 p l.2 in
      let g = Grown-trans m m1 rest.memory ((least_multiple m.next b.align, size_of b) ∷ []) l.1 (least_multiple m.next b.align + size_of b) p g1 rest.grown in
      record {
        memory = rest.memory;
        is_filled = rest.is_filled;
        grown = subst (λ cs. Grown m rest.memory cs p) (sym l.3) g;
        stored = λ k block h. subst (λ cs. (at : ℕ × ℕ) × (slice_get cs k ≡ Some at) × Stored m rest.memory block number at.0) (sym l.3) (found k block h s1 g1.good rest);
      }
    where
      found : (k : ℕ) (block : Block) → slice_get (b ∷ blocks) k ≡ Some block → {m1 : Memory} {cs : List (ℕ × ℕ)} → Stored m m1 b number (least_multiple m.next b.align) → IsGood m1
          → (rest : AllStored m1 blocks cs p) → (at : ℕ × ℕ) × (slice_get ((least_multiple m.next b.align, size_of b) ∷ cs) k ≡ Some at) × Stored m rest.memory block number at.0
      found zero block h {m1} {cs} s good1 rest =
          ((least_multiple m.next b.align, size_of b), refl, subst (λ (x : Block). Stored m rest.memory x number (least_multiple m.next b.align)) (same_Some b block h) (stored_later m m1 rest.memory b (least_multiple m.next b.align) cs p good1 rest.grown s))
      found (suc k) block h {m1} {cs} s good1 rest =
          let r = rest.stored k block h in (r.0, r.1, record { sized = r.2.sized; loads = r.2.loads })
