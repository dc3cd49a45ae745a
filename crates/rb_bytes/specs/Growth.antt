-- A memory with exactly some blocks more. A block is its address and its size in bytes.
use Rattle.std.specs.Prelude.{◌≡◌, ℕ, ◌+◌, ◌<◌, ◌≤◌, List, [], ◌∷◌, ◌++◌, Some}
use Rattle.rb_bytes.specs.Memory.{Memory, IsGood, byte_at}
use Rattle.rb_bytes.specs.Laws.{Extends, KeepsLoads}

-- the block ends at the next address at the latest, and each of its bytes was written
abbrev pub IsWhole : Memory → ℕ × ℕ → Type 0
IsWhole m b = (b.0 + b.1 ≤ m.next) × ((a : ℕ) → b.0 ≤ a → a < b.0 + b.1 → (u : ℕ) × (byte_at m.bytes a ≡ Some u))

-- each of the blocks ends at the next address at the latest, and has all of its bytes written; of no block this is
-- true
abbrev pub AreWhole : Memory → List (ℕ × ℕ) → Type 0
AreWhole m [] = Unit {0}
AreWhole m (b ∷ bs) = IsWhole m b × AreWhole m bs

-- The new memory is good, with the old one's limit, exactly these blocks behind the old one's, all their bytes
-- written, and the next address p, which is not below the old one. Below the old next address each byte is as it was,
-- written or not.
pub record Grown (old new : Memory) (blocks : List (ℕ × ℕ)) (p : ℕ) : Type 0 where
  pub limit : new.limit ≡ old.limit
  pub next : new.next ≡ p
  pub rises : old.next ≤ p
  pub behind : new.blocks ≡ old.blocks ++ blocks
  pub kept : (a : ℕ) → a < old.next → byte_at new.bytes a ≡ byte_at old.bytes a
  pub whole : AreWhole new blocks
  pub good : IsGood new

-- The laws of growing. A good memory has grown by no block. One that grew by some blocks and then by others has grown
-- by all of them. A good memory that grows keeps its blocks, what was written, and what could be loaded.
pub record GrowthLaws : Type 0 where
  pub none : (m : Memory) → IsGood m → Grown m m [] m.next
  pub twice : (a b c : Memory) (bs cs : List (ℕ × ℕ)) (p q : ℕ) → Grown a b bs p → Grown b c cs q
      → Grown a c (bs ++ cs) q
  pub extends : (old new : Memory) (bs : List (ℕ × ℕ)) (p : ℕ) → IsGood old → Grown old new bs p → Extends old new
  pub loads : (old new : Memory) (bs : List (ℕ × ℕ)) (p : ℕ) → IsGood old → Grown old new bs p → KeepsLoads old new
