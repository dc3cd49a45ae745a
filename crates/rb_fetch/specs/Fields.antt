-- Fields of represented values: what their words are, as reads, and code that makes them. A leaf is one of the forms
-- in which a layout stores the values of a data type. A position of a leaf is a path, field numbers from the root, to
-- a wildcard or a constructor of its provenance, the pattern of the values that it holds. At a wildcard, an open
-- position, the leaf's words have the part. At a constructor they have its fields alone, and the part is rebuilt:
-- constructed of these again. A read is a number that code can make from slots and loads; it means that number, over
-- slots s and memory m. A representation is clean where all bits are 0 that stand in no part of a word. A plan has a
-- program and its layouts, and a sheet is a function's code so far. `agreed` is a program with layouts that agree
-- with its types.
use Rattle.std.specs.Prelude.{◌≡◌, ℕ, ◌≤◌, ◌⊎◌, List, Bool, Some, length, slice_get}
use Rattle.rb_core.specs.declared.value.Value.{Value}
use Rattle.rb_core.specs.declared.types.Ty.{Ty}
use Rattle.rb_core.specs.declared.types.Ty.TheVariants.{Named}
use Rattle.rb_core.specs.Values.{part_at}
use Rattle.rb_bytes.specs.Memory.{Memory, IsGood}
use Rattle.rb_target.specs.Growth.{Nowhere}
use Rattle.rb_target.specs.Meaning.{slots_at}
use Rattle.rb_target.specs.Sheet.{Sheet}
use Rattle.rb_layout.specs.declared.agreed.LaidOut.{LaidOut}
use Rattle.rb_layout.specs.declared.layout.Layout.{Layout}
use Rattle.rb_layout.specs.declared.layout.Leaf.{Leaf}
use Rattle.rb_layout.specs.Positions.{open_positions, leaf_of, layout_of}
use Rattle.rb_fragment.specs.declared.reads.Read.{Read}
use Rattle.rb_fragment.specs.Plan.{Plan, Rep, words_needed}
use Rattle.rb_fragment.specs.Adding.{Adds}
use Rattle.rb_fragment.specs.Pieces.{AtEnd, CodePiece}
use Rattle.rb_fragment.specs.Slots.{AllBelow, IsOneOf}
use Rattle.rb_fragment.specs.WordReads.{AreMeant, AllFit, IsSlotOf}
use Rattle.rb_fetch.specs.Finding.{IsPlanOf}
use Rattle.rb_fetch.specs.Positions.{PositionAt, mend_under}

-- the path leads to an open position of leaf n of the layout of type t, that is, a wildcard of its provenance, at
-- which type ty is
pub record FieldAt (plan : Plan) (t n : ℕ) (path : List ℕ) (ty : Ty) : Type 0 where
  pub layout : Layout
  pub leaf : Leaf
  pub number : ℕ
  pub is_layout : layout_of plan.layouts t ≡ Some layout
  pub is_leaf : slice_get layout.leaves n ≡ Some leaf
  pub is_open : slice_get (open_positions plan.program.types leaf.prov) number ≡ Some (record { path = path; ty = ty })

-- Reads --------------------------------------------------------------------------------------

-- the reads, over slots s and memory m, mean words that represent the part of value v at the path, of type ty
pub record IsPartMeant (plan : Plan) (clean : Bool) (ty : Ty) (v : Value) (path : List ℕ) (reads : List Read)
    (s : List ℕ) (m : Memory) : Type 0 where
  pub part : Value
  pub words : List ℕ
  pub is_part : part_at v path ≡ Some part
  pub are_meant : AreMeant reads s m words
  pub represents : Rep plan m clean ty part words

-- What the words of a field are, over reads of a value's words: wherever these mean words that represent a
-- value of this leaf, the field's reads mean words that represent the part of it at the path, as cleanly.
pub record AreFieldReads (plan : Plan) (t n : ℕ) (path : List ℕ) (ty : Ty) (layout : Layout)
    (words reads : List Read) : Type 0 where
  pub count : length reads ≡ words_needed plan ty
  pub fit : (k : ℕ) → AllFit k words → AllFit k reads
  pub origin : (x : ℕ) → IsSlotOf x reads → IsSlotOf x words
  pub means : (clean : Bool) (v : Value) (ws s : List ℕ) (m : Memory) → IsGood m → AreMeant words s m ws
      → Rep plan m clean (Named t) v ws → leaf_of layout v ≡ Some n
      → IsPartMeant plan clean ty v path reads s m

-- in every plan of the agreed program, `reads` mean the words of the field at `path`, an open position of leaf n of
-- type t, wherever `words` mean the words of a value of that leaf
abbrev pub ReadsField : LaidOut → ℕ → ℕ → List ℕ → List Read → List Read → Type 0
ReadsField agreed t n path words reads =
    (plan : Plan) → IsPlanOf agreed plan → (ty : Ty) (f : FieldAt plan t n path ty)
    → length words ≡ words_needed plan (Named t)
    → AreFieldReads plan t n path ty f.layout words reads

-- Slots --------------------------------------------------------------------------------------

-- The appended code leaves words of the part at a position in slots, as cleanly as the value is, and keeps all
-- slots that there were. Each of the part's slots is new, or is one of the value's. A part at a constructor is
-- rebuilt in its own type's layout, with at most as many switches as that takes; one at a wildcard is there,
-- and takes none.
pub record FieldIsFetched (plan : Plan) (t n : ℕ) (path : List ℕ) (ty : Ty) (f : PositionAt plan t n path ty)
    (words : List ℕ) (old new : Sheet) (slots : List ℕ) : Type 0 where
  pub adds : Adds plan old new
  pub given : AllBelow new.slots slots
  pub count : length slots ≡ words_needed plan ty
  pub origin : (x : ℕ) → IsOneOf x slots → (old.slots ≤ x) ⊎ IsOneOf x words
  pub runs : (clean : Bool) (v part : Value) → leaf_of f.layout v ≡ Some n → part_at v path ≡ Some part
      → CodePiece plan old.slots old new Nowhere (mend_under plan.layouts f.pat)
      (λ s m. IsGood m × Rep plan m clean (Named t) v (slots_at s words))
      (AtEnd new (λ s m. Rep plan m clean ty part (slots_at s slots)))

-- in every plan of the agreed program, the code from old to new leaves in `slots` the part at `path` of a value of
-- leaf n of type t, whose words are in the slots `words`
abbrev pub FetchesField : LaidOut → ℕ → ℕ → List ℕ → List ℕ → Sheet → Sheet → List ℕ → Type 0
FetchesField agreed t n path words old new slots =
    (plan : Plan) → IsPlanOf agreed plan → (ty : Ty) (f : PositionAt plan t n path ty) → AllBelow old.slots words
    → length words ≡ words_needed plan (Named t)
    → FieldIsFetched plan t n path ty f words old new slots
