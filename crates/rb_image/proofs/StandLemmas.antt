-- Memories in which the blocks of an image stand: what sizes, loads and words are there.
use Rattle.std.proofs.Common.{◌≡◌, ℕ, zero, suc, ◌+◌, ◌-◌, ◌/◌, ◌<◌, ◌≤◌, inl, inr, Bool, true, false, List, [], ◌∷◌, length, drop, get_or, Option, Some, None, Ok, refl, sym, subst, ap, ◌∙◌, arith, get_or-take, get_or-drop, length-take, length-drop}
use Rattle.std.specs.Prelude.{slice_get, slice_range, nat_le, if◌then◌else◌}
use Rattle.std.proofs.lemmas.Bool.Decides.{eqb_tells, leb_tells}
use Rattle.std.proofs.lemmas.Option.{none-some, same_Some, slice_get-get_or}
use Rattle.rb_bits.specs.LittleEndian.{from_le_bytes}
use Rattle.rb_bytes.specs.Memory.{Memory, IsGood, byte_at, size_at, lies_within, load_of, read_le}
use Rattle.rb_bytes.specs.Laws.{Extends}
use Rattle.rb_bytes.proofs.BlockLemmas.{within_size}
use Rattle.rb_bytes.proofs.ByteLemmas.{read_le_same, read_le-spelled}
use Rattle.rb_bytes.proofs.MemoryLemmas.{load_ok, load_within, size_at_extends}
use Rattle.rb_image_text.specs.declared.image.ImageBlock.{ImageBlock}
use Rattle.rb_image_text.specs.Images.{AreImageBlocks}
use Rattle.rb_image_text.specs.Places.{AreInPlace}
use Rattle.rb_image.specs.Blocks.{block_at, is_width, number_in_block, size_in, word_in, block_word}
use Rattle.rb_image.specs.Blocks.{size_at as size_found}
use Rattle.rb_image.specs.Memories.{Stand, BlockStands, image_memory}
use Rattle.rb_image.proofs.AscentLemmas.{ascending}
use Rattle.rb_image.proofs.BlockLemmas.{le_is}
use Rattle.rb_image.proofs.SpanLemmas.{size_from, within_good, within_stand}

-- ---- the memory of an image
pub image_memory_good : (blocks : List ImageBlock) → AreInPlace blocks → AreImageBlocks blocks → IsGood (image_memory blocks)
unfolding image_memory
image_memory_good blocks placed are = within_good 16777216 blocks (omega arith) (ascending blocks placed are)

pub image_memory_stands : (blocks : List ImageBlock) → AreInPlace blocks → AreImageBlocks blocks → Stand blocks (image_memory blocks)
unfolding image_memory
image_memory_stands blocks placed are = within_stand 16777216 blocks (ascending blocks placed are)

-- it has no other blocks
pub image_memory_size : (blocks : List ImageBlock) (base size : ℕ) → size_at (image_memory blocks).blocks base ≡ Some size
    → (j : ℕ) × (c : ImageBlock) × (slice_get blocks j ≡ Some c) × (c.at ≡ base) × (length c.bytes ≡ size)
unfolding image_memory
image_memory_size blocks base size is = size_from blocks base size is

-- ---- a block that stands in two memories
pub stands_extends : (m m' : Memory) (b : ImageBlock) → Extends m m' → BlockStands m b → BlockStands m' b
stands_extends m m' b ext s = record {
  size = size_at_extends m m' b.at (length b.bytes) ext s.size;
  bytes = λ i n is. ext.written (b.at + i) n (s.bytes i n is);
}

byte_same : (m m' : Memory) (b : ImageBlock) → BlockStands m b → BlockStands m' b → (a : ℕ) → b.at ≤ a → a < b.at + length b.bytes → byte_at m'.bytes a ≡ byte_at m.bytes a
byte_same m m' b s s' a low high =
    let i = a - b.at in
    let e : b.at + (a - b.at) ≡ a = omega (arith, low) in
    let at = slice_get-get_or b.bytes (a - b.at) 0 (omega (arith, low, high)) in
    ap (λ n. byte_at m'.bytes n) (sym e)
    ∙ s'.bytes (a - b.at) (get_or b.bytes (a - b.at) 0) at
    ∙ sym (s.bytes (a - b.at) (get_or b.bytes (a - b.at) 0) at)
    ∙ ap (λ n. byte_at m.bytes n) e

load_same : (m m' : Memory) (b : ImageBlock) (offset width r : ℕ) → BlockStands m b → BlockStands m' b → load_of m b.at offset width ≡ Ok r → load_of m' b.at offset width ≡ Ok r
load_same m m' b offset width r s s' is =
    let got = load_ok m b.at offset width r is in
    let size : size_at m'.blocks b.at ≡ size_at m.blocks b.at = s'.size ∙ sym s.size in
    let within : lies_within (size_at m'.blocks b.at) (offset + width / 8) ≡ true = ap (λ o. lies_within o (offset + width / 8)) size ∙ got.0 in
    let fits = within_size (size_at m.blocks b.at) (offset + width / 8) got.0 in
    let long : fits.0 ≡ length b.bytes = same_Some fits.0 (length b.bytes) (sym fits.1 ∙ s.size) in
    load_within m' b.at offset width within
    ∙ read_le_same m'.bytes m.bytes (width / 8) (b.at + offset) (λ a low high. byte_same m m' b s s' a (omega (arith, low)) (omega (arith, high, long, fits.2)))
    ∙ got.1

-- ---- what the memory of an image has, each memory has in which its blocks stand
pub size_kept : (blocks : List ImageBlock) (m : Memory) → Stand blocks m → (base size : ℕ) → size_at (image_memory blocks).blocks base ≡ Some size → size_at m.blocks base ≡ Some size
size_kept blocks m stand base size is =
    let c = image_memory_size blocks base size is in
    ap (λ a. size_at m.blocks a) (sym c.3) ∙ (stand c.0 c.1 c.2).size ∙ ap Some c.4

pub load_kept : (blocks : List ImageBlock) (m : Memory) → AreInPlace blocks → AreImageBlocks blocks → Stand blocks m
    → (base offset width r : ℕ) → load_of (image_memory blocks) base offset width ≡ Ok r → load_of m base offset width ≡ Ok r
load_kept blocks m placed are stand base offset width r is =
    let got = load_ok (image_memory blocks) base offset width r is in
    let fits = within_size (size_at (image_memory blocks).blocks base) (offset + width / 8) got.0 in
    let c = image_memory_size blocks base fits.0 fits.1 in
    subst (λ a. load_of m a offset width ≡ Ok r) c.3
    (load_same (image_memory blocks) m c.1 offset width r (image_memory_stands blocks placed are c.0 c.1 c.2) (stand c.0 c.1 c.2)
    (subst (λ a. load_of (image_memory blocks) a offset width ≡ Ok r) (sym c.3) is))

-- ---- words of blocks
block_found : (blocks : List ImageBlock) (address : ℕ) (b : ImageBlock) → block_at blocks address ≡ Some b → (j : ℕ) × (slice_get blocks j ≡ Some b) × (b.at ≡ address)
block_found [] address b is = cc
block_found (c ∷ blocks) address b is = elim (eqb_tells c.at address) [
  | inl h ↦
      let same : c ≡ b = same_Some c b (rw h.0 at is) in
      (zero, ap Some same, ap (λ (x : ImageBlock). x.at) (sym same) ∙ h.1)
  | inr h ↦ let rest = block_found blocks address b (rw h.0 at is) in (suc rest.0, rest.1, rest.2)
]

chosen : {A : Type 0} (t : Bool) (o : Option A) (x : A) → ◌≡◌ {A = Option A} (if t then o else None) (Some x) → (t ≡ true) × (o ≡ Some x)
chosen true o x is = (refl, is)
chosen false o x is = absurd (none-some x is)

number_is : (bytes : List ℕ) (byte count w : ℕ) → number_in_block bytes byte count ≡ Some w → (byte + count ≤ length bytes) × (from_le_bytes (slice_range bytes byte (byte + count)) ≡ w)
number_is bytes byte count w is =
    let got = chosen (nat_le (byte + count) (length bytes)) (Some (from_le_bytes (slice_range bytes byte (byte + count)))) w is in
    (le_is (byte + count) (length bytes) got.0, same_Some (from_le_bytes (slice_range bytes byte (byte + count))) w got.1)

word_found : (o : Option ImageBlock) (byte width w : ℕ) → block_word o byte width ≡ Some w
    → (b : ImageBlock) × (o ≡ Some b) × (byte + width / 8 ≤ length b.bytes) × (from_le_bytes (slice_range b.bytes byte (byte + width / 8)) ≡ w)
word_found None byte width w is = cc
word_found (Some b) byte width w is =
    let got = chosen (is_width width) (number_in_block b.bytes byte (width / 8)) w is in
    let number = number_is b.bytes byte (width / 8) w got.1 in
    (b, refl, number.0, number.1)

-- so many bytes of a block from one on
range_long : (bytes : List ℕ) (byte count : ℕ) → byte + count ≤ length bytes → length (slice_range bytes byte (byte + count)) ≡ count
range_long bytes byte count le =
    let taken = length-take (byte + count - byte) (drop byte bytes) in
    let left = length-drop byte bytes in
    omega (arith, taken, left, le)

range_at : (bytes : List ℕ) (byte count i : ℕ) → byte + count ≤ length bytes → i < count
    → slice_get (slice_range bytes byte (byte + count)) i ≡ slice_get bytes (byte + i)
range_at bytes byte count i le lt =
    let long = range_long bytes byte count le in
    slice_get-get_or (slice_range bytes byte (byte + count)) i 0 (omega (arith, long, lt))
    ∙ ap Some (get_or-take (byte + count - byte) (drop byte bytes) i 0 (omega (arith, lt)) ∙ get_or-drop byte bytes i 0)
    ∙ sym (slice_get-get_or bytes (byte + i) 0 (omega (arith, le, lt)))

range_stands : (m : Memory) (b : ImageBlock) → BlockStands m b → (byte count i : ℕ) → byte + count ≤ length b.bytes → i < count
    → byte_at m.bytes (b.at + byte + i) ≡ slice_get (slice_range b.bytes byte (byte + count)) i
range_stands m b s byte count i le lt =
    let e : b.at + byte + i ≡ b.at + (byte + i) = omega arith in
    let at = slice_get-get_or b.bytes (byte + i) 0 (omega (arith, le, lt)) in
    ap (λ n. byte_at m.bytes n) e ∙ s.bytes (byte + i) (get_or b.bytes (byte + i) 0) at ∙ sym at ∙ sym (range_at b.bytes byte count i le lt)

-- a word of a block is loaded where the block stands
block_loads : (m : Memory) (b : ImageBlock) → BlockStands m b → (byte width : ℕ) → byte + width / 8 ≤ length b.bytes
    → load_of m b.at byte width ≡ Ok (from_le_bytes (slice_range b.bytes byte (byte + width / 8)))
block_loads m b s byte width le =
    let range = slice_range b.bytes byte (byte + width / 8) in
    let long : length range ≡ width / 8 = range_long b.bytes byte (width / 8) le in
    let within : lies_within (size_at m.blocks b.at) (byte + width / 8) ≡ true =
    ap (λ o. lies_within o (byte + width / 8)) s.size ∙ elim (leb_tells (byte + width / 8) (length b.bytes)) [ inl h ↦ h.0 | inr h ↦ absurd (omega (arith, h.1, le)) ] in
    load_within m b.at byte width within
    ∙ ap (λ n. read_le m.bytes n (b.at + byte)) (sym long)
    ∙ read_le-spelled m.bytes range (b.at + byte) (λ i lt. range_stands m b s byte (width / 8) i le (omega (arith, long, lt)))

pub word_loaded : (blocks : List ImageBlock) (m : Memory) → Stand blocks m → (address byte width w : ℕ) → word_in blocks address byte width ≡ Some w → load_of m address byte width ≡ Ok w
word_loaded blocks m stand address byte width w is =
    let word = word_found (block_at blocks address) byte width w is in
    let found = block_found blocks address word.0 word.1 in
    subst (λ a. load_of m a byte width ≡ Ok w) found.2 (block_loads m word.0 (stand found.0 word.0 found.1) byte width word.2 ∙ ap Ok word.3)

sized : (o : Option ImageBlock) (n : ℕ) → size_in o ≡ Some n → (b : ImageBlock) × (o ≡ Some b) × (length b.bytes ≡ n)
sized None n is = cc
sized (Some b) n is = (b, refl, same_Some (length b.bytes) n is)

pub size_stands : (blocks : List ImageBlock) (m : Memory) → Stand blocks m → (address n : ℕ) → size_found blocks address ≡ Some n → size_at m.blocks address ≡ Some n
size_stands blocks m stand address n is =
    let block = sized (block_at blocks address) n is in
    let found = block_found blocks address block.0 block.1 in
    ap (λ a. size_at m.blocks a) (sym found.2) ∙ (stand found.0 block.0 found.1).size ∙ ap Some block.2

-- ---- for the memory of an image itself
pub image_word_loaded : (blocks : List ImageBlock) → AreInPlace blocks → AreImageBlocks blocks → (address byte width w : ℕ)
    → word_in blocks address byte width ≡ Some w → load_of (image_memory blocks) address byte width ≡ Ok w
image_word_loaded blocks placed are = word_loaded blocks (image_memory blocks) (image_memory_stands blocks placed are)

pub image_size_stands : (blocks : List ImageBlock) → AreInPlace blocks → AreImageBlocks blocks → (address n : ℕ)
    → size_found blocks address ≡ Some n → size_at (image_memory blocks).blocks address ≡ Some n
image_size_stands blocks placed are = size_stands blocks (image_memory blocks) (image_memory_stands blocks placed are)
