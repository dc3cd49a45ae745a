-- What is read at a location of words, and the leaf to which splits lead. A location names a root word and a range of
-- its bits, and then steps: each takes the bits so far as an address, counted in units of its alignment, loads a word
-- of the block there, and names a range of that. The range [o:l] is the l bits from bit o on. `ws` are the root words
-- that represent a value, `subs` the words at each open position of its leaf, `ats` the address of each of its
-- blocks.
use Rattle.std.specs.Prelude.{◌≡◌, ℕ, ◌+◌, ◌*◌, ◌<◌, ◌≤◌, Bool, nat_eq, List, [], ◌∷◌, Option, Some, None, Result, Ok, Err, slice_get, if◌then◌else◌}
use Rattle.rb_core.specs.declared.layout_decl.Loc.{Loc}
use Rattle.rb_core.specs.declared.layout_decl.Step.{Step}
use Rattle.rb_bits.specs.Words.{take_of}
use Rattle.rb_bytes.specs.Memory.{Memory, load_of}
use Rattle.rb_bytes.specs.declared.fault.Trap.{Trap}
use Rattle.rb_layout.specs.declared.layout.FlatTree.{FlatTree}
use Rattle.rb_layout.specs.declared.layout.FlatTree.TheOpen as T
use Rattle.rb_layout.specs.declared.layout.FlatTree.TheOpen.{FlatTree-F}
use Rattle.rb_layout.specs.declared.layout.FlatTree.TheFolds.{fold-FlatTree}
use Rattle.rb_layout.specs.declared.layout.FlatArm.{FlatArm-F}
use Rattle.rb_layout.specs.declared.layout.Leaf.{Leaf}
use Rattle.rb_layout.specs.declared.layout.FlatWord.{FlatWord}
use Rattle.rb_layout.specs.declared.layout.WordRef.{WordRef}
use Rattle.rb_layout.specs.declared.layout.Part.{Part}
use Rattle.rb_layout.specs.declared.layout.Kind.{Kind}
use Rattle.rb_layout.specs.Locations.{Reached, reached_at}
use Rattle.rb_layout.specs.Words.{words_in, flat_at}
use Rattle.rb_layout.specs.Splits.{SplitAt, Under}
use Rattle.rb_rel.specs.Relation.{IsFound, WordHolds}

-- what follows a load: it goes on with the word that is loaded, and comes to None where the load traps
abbrev pub on_loaded : Result ℕ Trap → (ℕ → Option ℕ) → Option ℕ
on_loaded (Ok w) go = go w
on_loaded (Err t) go = None

-- The bits to which steps lead from the range [o:l] of word w: each step loads from the block at the address that the
-- bits so far are, and without a step left the bits of the range are read. None where a load goes astray or meets an
-- unwritten byte.
abbrev pub read_from : Memory → ℕ → ℕ → ℕ → List Step → Option ℕ
read_from m w o l [] = Some (take_of w o l)
read_from m w o l (s ∷ steps) =
    on_loaded (load_of m (take_of w o l * s.align) s.byte s.width) (λ x. read_from m x s.o s.l steps)

-- the bits at a location, given the root word that it names; None where there is no such word
abbrev pub read_first : Memory → Option ℕ → Loc → Option ℕ
read_first m None loc = None
read_first m (Some w) loc = read_from m w loc.o loc.l loc.steps

-- the bits at a location of root words, as a number; None where there is no such root word, or a load goes astray or
-- meets an unwritten byte
abbrev pub read_loc : List ℕ → Memory → Loc → Option ℕ
read_loc ws m loc = read_first m (slice_get ws loc.word) loc

-- the flat word f of a leaf, at reference r, and the word w that stands there in a representation: it is found among
-- the root words or in its block, and its parts hold
pub record WordStands (leaf : Leaf) (ws : List ℕ) (m : Memory) (clean : Bool) (subs : List ℕ → List ℕ) (ats : ℕ → ℕ)
    (r : WordRef) (f : FlatWord) (w : ℕ) : Type 0 where
  pub is_flat : flat_at leaf r ≡ Some f
  pub is_found : IsFound r.block (words_in leaf r.block) f r.word ws ats m w
  pub holds : WordHolds subs ats clean f w

-- What is read, n, where a location comes to the range of x in a leaf: the bits of this range, in the word that
-- stands there; so the reading succeeds. The range has a bit and lies in the word.
pub record IsRead (leaf : Leaf) (ws : List ℕ) (m : Memory) (clean : Bool) (subs : List ℕ → List ℕ) (ats : ℕ → ℕ)
    (x : Reached) (n : Option ℕ) : Type 0 where
  pub found : ℕ
  pub stands : WordStands leaf ws m clean subs ats x.ref x.word found
  pub some : 1 ≤ x.l
  pub inside : x.o + x.l ≤ x.word.width
  pub is_read : n ≡ Some (take_of found x.o x.l)

-- a location that resolves in the leaf and ends at exactly the range of one part, which has l bits and this kind
pub record LeadsTo (leaf : Leaf) (loc : Loc) (l : ℕ) (kind : Kind) : Type 0 where
  pub reached : Reached
  pub resolves : reached_at leaf loc ≡ Some reached
  pub number : ℕ
  pub part : Part
  pub is_part : slice_get reached.word.parts number ≡ Some part
  pub first : part.o ≡ reached.o
  pub long : part.l ≡ reached.l
  pub bits : part.l ≡ l
  pub is_kind : part.kind ≡ kind

-- what root words lead to in a memory: the number of a leaf, or None
abbrev pub Walk : Type 0
Walk = List ℕ → Memory → Option ℕ

-- the walk below an `else`, and None where there is no `else`
abbrev pub walk_else : Option Walk → Walk
walk_else None ws m = None
walk_else (Some go) ws m = go ws m

-- the walk below the first arm whose literal is n, and below the `else` where no arm has it
abbrev pub walk_arms : List (Under Walk) → Option Walk → ℕ → Walk
walk_arms [] other n ws m = walk_else other ws m
walk_arms (arm ∷ arms) other n ws m = if nat_eq arm.literal n then arm.of ws m else walk_arms arms other n ws m

-- the walk from a split on, given the number that was read at its location; None where none was read
abbrev pub walk_at : Option ℕ → List (Under Walk) → Option Walk → Walk
walk_at None arms other ws m = None
walk_at (Some n) arms other ws m = walk_arms arms other n ws m

-- one layer of a walk: at a split the bits at its location decide the way, and a leaf ends it
abbrev pub walk_step : FlatTree-F Walk (Under Walk) → Walk
walk_step (T.Split loc arms other) ws m = walk_at (read_loc ws m loc) arms other ws m
walk_step (T.Leaf n) ws m = Some n

-- one layer of an arm: its literal, with the walk below it, which is given
abbrev pub walk_arm : FlatArm-F Walk (Under Walk) → Under Walk
walk_arm arm = record { literal = arm.literal; of = arm.under }

-- the leaf to which the splits of a tree lead, read on root words in a memory; None where a location cannot be read,
-- or a split has neither an arm for what is read nor an `else`
abbrev pub walk : FlatTree → Walk
walk = fold-FlatTree Walk (Under Walk) walk_step walk_arm

-- no number stands twice in a list
abbrev pub AreDistinct : List ℕ → Type 0
AreDistinct cs = (j k c : ℕ) → j < k → slice_get cs j ≡ Some c → slice_get cs k ≡ Some c → ⊥

-- no split has two arms of one literal
abbrev pub LiteralsDistinct : List SplitAt → Type 0
LiteralsDistinct ss = (k : ℕ) (s : SplitAt) → slice_get ss k ≡ Some s → AreDistinct s.literals
