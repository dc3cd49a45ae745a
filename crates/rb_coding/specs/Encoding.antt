-- What encoding comes to: words that represent a value, or the first block that does not fit. A construction is a
-- value of a data type that is built; it asks for the blocks of its leaf, the form that the type's layout has for it.
-- A request is for a block, by its size and alignment in bytes; blocks are laid from low addresses to high ones, and
-- `next` of a memory is where the next one may begin. A block is its address and size. Bits that no part of a
-- layout's words has are free.
use Rattle.std.specs.Prelude.{◌≡◌, ℕ, ◌+◌, leb, List, [], ◌∷◌, ◌++◌, Result, Ok, Err, if◌then◌else◌}
use Rattle.rb_core.specs.declared.value.Value.{Value}
use Rattle.rb_core.specs.declared.types.Ty.{Ty}
use Rattle.rb_core.specs.declared.types.DataDecl.{DataDecl}
use Rattle.rb_core.specs.declared.program.Program.{Program}
use Rattle.rb_bytes.specs.Memory.{Memory, least_multiple}
use Rattle.rb_bytes.specs.Growth.{Grown}
use Rattle.rb_layout.specs.declared.layout.Layout.{Layout}
use Rattle.rb_layout.specs.Flattening.{flat_layouts}
use Rattle.rb_rel.specs.Answers.{making_of, all_makings}
use Rattle.rb_rel.specs.Placing.{Request, Fits, Over, requests_of, lay}
use Rattle.rb_rel.specs.Relation.{IsCleanlyRepresented}
use Rattle.rb_coding.specs.declared.fault.EncodeFault.{EncodeFault}
use Rattle.rb_coding.specs.declared.fault.EncodeFault.TheVariants.{Full, Memory as NoMemory}

-- where the requests before the first that would end beyond `limit` are laid, from address `next` on: each by address
-- and size, and all of them where none would
abbrev pub laid_before : ℕ → ℕ → List Request → List (ℕ × ℕ)
laid_before limit next [] = []
laid_before limit next (r ∷ rs) =
    let a = least_multiple next r.align in
    if leb (a + r.size) limit then (a, r.size) ∷ laid_before limit (a + r.size) rs else []

-- the memory as it would be with these blocks and no others
abbrev pub only : Memory → List (ℕ × ℕ) → Memory
only m blocks = record m { blocks = blocks }

-- a value whose constructions' blocks are laid from one address to another: the words represent it over
-- these blocks and no others, and free bits are 0
pub record StandsAlone (types : List DataDecl) (layouts : List Layout) (m : Memory) (t : Ty) (v : Value) (from : ℕ)
    (blocks : List (ℕ × ℕ)) (to : ℕ) (ws : List ℕ) : Type 0 where
  pub laid : lay m.limit from (requests_of layouts (making_of types v t)) ≡ Fits blocks to
  pub represents : IsCleanlyRepresented types layouts (only m blocks) t v ws

-- values of these types, laid one behind the other from one address to another, with their words one behind the
-- other, too: each value stands over its own blocks alone
abbrev pub StandApart : List DataDecl → List Layout → Memory → List Ty → List Value → ℕ → List (ℕ × ℕ) → ℕ → List ℕ
    → Type 0
StandApart types layouts m [] [] from blocks to ws = (from ≡ to) × (blocks ≡ []) × (ws ≡ [])
StandApart types layouts m [] (v ∷ vs) from blocks to ws = ⊥
StandApart types layouts m (t ∷ ts) [] from blocks to ws = ⊥
StandApart types layouts m (t ∷ ts) (v ∷ vs) from blocks to ws =
    (own : List (ℕ × ℕ)) × (others : List (ℕ × ℕ)) × (mid : ℕ) × (first : List ℕ) × (rest : List ℕ)
    × (blocks ≡ own ++ others) × (ws ≡ first ++ rest)
    × StandsAlone types layouts m t v from own mid first × StandApart types layouts m ts vs mid others to rest

-- the old memory has grown by just the blocks of these requests, and the words that are given are right: that is what
-- `right` says of the new memory, these blocks and the words. Or it has grown by the blocks before the first that
-- does not fit. Of want of memory nothing is said
abbrev pub Encodes : (Memory → List (ℕ × ℕ) → List ℕ → Type 0) → List Request → Memory → Memory
    → Result (List ℕ) EncodeFault → Type 0
Encodes right rs old new (Ok ws) =
    (blocks : List (ℕ × ℕ)) × (next : ℕ) × (lay old.limit old.next rs ≡ Fits blocks next)
    × Grown old new blocks next × right new blocks ws
Encodes right rs old new (Err (Full full)) =
    (lay old.limit old.next rs ≡ Over full) × Grown old new (laid_before old.limit old.next rs) full.next
Encodes right rs old new (Err NoMemory) = Unit {0}

-- what may come of encoding a value of a type: its words represent it over the new blocks alone, and free bits are 0;
-- or one of its blocks does not fit. Want of memory says nothing of it
abbrev pub IsEncoded : Program → Ty → Value → Memory → Memory → Result (List ℕ) EncodeFault → Type 0
IsEncoded p ty v old new =
    Encodes (λ m blocks ws. IsCleanlyRepresented p.types (flat_layouts p) (only m blocks) ty v ws)
    (requests_of (flat_layouts p) (making_of p.types v ty)) old new

-- what may come of encoding values one after the other: the words of each represent it over its own blocks alone; or
-- one of their blocks does not fit. Want of memory says nothing of it
abbrev pub AreEncoded : Program → List Ty → List Value → Memory → Memory → Result (List ℕ) EncodeFault → Type 0
AreEncoded p ts vs old new =
    Encodes (λ m blocks ws. StandApart p.types (flat_layouts p) m ts vs old.next blocks m.next ws)
    (requests_of (flat_layouts p) (all_makings p.types vs ts)) old new
