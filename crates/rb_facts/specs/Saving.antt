-- Spots, that is, slots in which parts of a value are saved, and code that saves them. A leaf is one of the forms in
-- which a layout stores the values of data type t, given by its number; its provenance is the pattern of these
-- values. It takes a subvalue apart where it has the subvalue's fields in place of its words: to save the subvalue,
-- code rebuilds (mends) it. A position is the numbers of the fields that lead from the whole value to a part of it,
-- the outermost first; a path leads so from a part, or from a pattern, to what stands below it. A source is a part
-- whose leaf is known, from which parts are saved: the slots `words` hold its words. The facts `known` say which
-- leaves parts have and which spots hold theirs; `more` are the facts behind some code. A sheet is the code and the
-- number of slots so far, `old` before some code is appended and `new` behind it; of the slots the first n are kept.
-- `agreed` is a program with layouts that agree with its types; a plan of it has these, and the switches that its
-- matches may cost. A memory is good where it is one that can come to be. `clean` asks that bits that no part of a
-- value takes are 0.
use Rattle.std.specs.Prelude.{◌≡◌, ℕ, zero, suc, ◌+◌, ◌≤◌, ◌⊎◌, List, [], ◌∷◌, Bool, Option, Some, None, length, nat_eq, slice_get, ◌++◌, ◌==◌, ◌&&◌}
use Rattle.std.specs.List.{starts_with, sum_by}
use Rattle.rb_core.specs.declared.value.Value.{Value}
use Rattle.rb_core.specs.declared.types.Ty.{Ty}
use Rattle.rb_core.specs.declared.types.Ty.TheVariants.{Named}
use Rattle.rb_core.specs.declared.pattern.Pat.{Pat, out-Pat}
use Rattle.rb_core.specs.Values.{part_at}
use Rattle.rb_decide.specs.Decisions.{subpatterns}
use Rattle.rb_bytes.specs.Memory.{Memory, IsGood}
use Rattle.rb_target.specs.Growth.{Grows, Nowhere}
use Rattle.rb_target.specs.Meaning.{slots_at}
use Rattle.rb_target.specs.Sheet.{Sheet}
use Rattle.rb_layout.specs.declared.agreed.LaidOut.{LaidOut}
use Rattle.rb_layout.specs.declared.layout.Layout.{Layout}
use Rattle.rb_layout.specs.declared.layout.Leaf.{Leaf}
use Rattle.rb_layout.specs.Positions.{layout_of, leaf_of}
use Rattle.rb_rel.specs.Switches.{HeadAt, choose_of, heads_of}
use Rattle.rb_fragment.specs.Adding.{Adds}
use Rattle.rb_fragment.specs.Plan.{Plan, Rep, words_needed}
use Rattle.rb_fragment.specs.Pieces.{AtEnd, CodePiece, Straight}
use Rattle.rb_fragment.specs.Slots.{AllBelow, AllFrom, SlotsAreApart, IsDistinct, IsOneOf}
use Rattle.rb_fetch.specs.Finding.{IsPlanOf, leaf_within}
use Rattle.rb_facts.specs.declared.knowledge.Known.{Known}
use Rattle.rb_facts.specs.declared.knowledge.Spot.{Spot}
use Rattle.rb_facts.specs.Looks.{rebuilding_bound}
use Rattle.rb_facts.specs.Knowing.{AreKnown, view_of, SpotsBelow}
use Rattle.rb_facts.specs.Places.{HaveWords}

-- Spots -----------------------------------------------------------------------------------------

-- spots that code may write: their slots are from n on and below m, each spot has as many as its type has words, and
-- no slot is given twice, within a spot or in two of them
pub record AreSpots (plan : Plan) (n m : ℕ) (spots : List Spot) : Type 0 where
  pub low : n ≤ m
  pub from : (k : ℕ) (spot : Spot) → slice_get spots k ≡ Some spot → AllFrom n spot.slots
  pub below : SpotsBelow m spots
  pub count : HaveWords plan spots
  pub distinct : (k : ℕ) (spot : Spot) → slice_get spots k ≡ Some spot → IsDistinct spot.slots
  pub apart : (j k : ℕ) (a b : Spot) → slice_get spots j ≡ Some a → slice_get spots k ≡ Some b → (j ≡ k → ⊥)
      → SlotsAreApart a.slots b.slots

-- nothing is asked of the slots and the memory
abbrev pub Anything : List ℕ → Memory → Type 0
Anything s m = Unit {0}

-- from old to new there are `count` more slots, and code that keeps the old ones and goes on at its end
pub record Zeroes (old new : Sheet) (count : ℕ) : Type 0 where
  pub slots : new.slots ≡ old.slots + count
  pub straight : (plan : Plan) (n : ℕ) → n ≤ old.slots → Straight plan n old new Anything Anything
  pub grows : Grows old.code new.code

-- each spot has slots that are new from old to new, and the code between keeps the old ones
pub record GivenSpots (plan : Plan) (old new : Sheet) (spots : List Spot) : Type 0 where
  pub are : AreSpots plan old.slots new.slots spots
  pub straight : Straight plan old.slots old new Anything Anything

-- in each plan of the layouts each spot has slots that are new from old to new, and the code between keeps the old
-- ones
abbrev pub GivesSpots : LaidOut → Sheet → Sheet → List Spot → Type 0
GivesSpots agreed old new spots = (plan : Plan) → IsPlanOf agreed plan → GivenSpots plan old new spots

-- spot number k is for the part at this position, of this type
abbrev pub IsSpotAt : List Spot → List ℕ → Ty → ℕ → Type 0
IsSpotAt spots position ty k =
    (spot : Spot) × (slice_get spots k ≡ Some spot) × (spot.position ≡ position) × (spot.ty ≡ ty)

-- whether the first position is that of a field of the part at the second, that is, has one field number more behind
-- it
abbrev pub is_field : List ℕ → List ℕ → Bool
is_field position above = (length position == length above + 1) && starts_with nat_eq position above

-- Fields ----------------------------------------------------------------------------------------

-- what stands at a path of a pattern; none where nothing does, or there is no pattern
abbrev pub pattern_at : Option Pat → List ℕ → Option Pat
pattern_at None path = None
pattern_at (Some p) [] = Some p
pattern_at (Some p) (i ∷ path) = pattern_at (slice_get (subpatterns (out-Pat p)) i) path

-- the provenance of a leaf, if there is one
abbrev pub provenance : Option Leaf → Option Pat
provenance None = None
provenance (Some leaf) = Some leaf.prov

-- what stands at a path of the provenance of leaf number `leaf` of data type t; none where nothing does, or there is
-- no such leaf
abbrev pub prov_at : List Layout → ℕ → ℕ → List ℕ → Option Pat
prov_at layouts t leaf path = pattern_at (provenance (leaf_within (layout_of layouts t) leaf)) path

-- the switches that rebuild what a leaf took apart where this part of its provenance stands, and below; 0 where there
-- is no such part
abbrev pub mend_pattern : List Layout → Option Pat → ℕ
mend_pattern layouts None = 0
mend_pattern layouts (Some p) = sum_by (λ (h : HeadAt). choose_of layouts h.con.ty h.con.con) (heads_of p)

-- the switches that rebuild what leaf number `leaf` of data type t took apart at and below a path
abbrev pub mend_at : List Layout → ℕ → ℕ → List ℕ → ℕ
mend_at layouts t leaf path = mend_pattern layouts (prov_at layouts t leaf path)

-- the switches that rebuild what leaf number `leaf` of data type t took apart at and below the first so many fields
-- of what stands at a path
abbrev pub mends_at : List Layout → ℕ → ℕ → List ℕ → ℕ → ℕ
mends_at layouts t leaf path zero = 0
mends_at layouts t leaf path (suc i) = mends_at layouts t leaf path i + mend_at layouts t leaf (path ++ i ∷ [])

-- each value of leaf number `leaf` of data type t has a part at the path
abbrev pub HasPart : Plan → ℕ → ℕ → List ℕ → Type 0
HasPart plan t leaf path =
    (v : Value) (layout : Layout) → layout_of plan.layouts t ≡ Some layout → leaf_of layout v ≡ Some leaf
    → (part : Value) × (part_at v path ≡ Some part)

-- the words in some slots represent value v of data type t, in a good memory
abbrev pub IsThere : Plan → Bool → ℕ → Value → List ℕ → List ℕ → Memory → Type 0
IsThere plan clean t v words s m = IsGood m × Rep plan m clean (Named t) v (slots_at s words)

-- Where the value has leaf number `leaf` of data type t, the appended code leaves the words of its part at the path,
-- of type `at`, in slots, each of which is new or one of the value's. It does at most the switches that rebuild the
-- part.
pub record PartIsFetched (plan : Plan) (t leaf : ℕ) (path : List ℕ) (at : Ty) (words : List ℕ) (old new : Sheet)
    (slots : List ℕ) : Type 0 where
  pub has : HasPart plan t leaf path
  pub adds : Adds plan old new
  pub given : AllBelow new.slots slots
  pub count : length slots ≡ words_needed plan at
  pub origin : (x : ℕ) → IsOneOf x slots → (old.slots ≤ x) ⊎ IsOneOf x words
  pub runs : (clean : Bool) (v part : Value) (layout : Layout) → layout_of plan.layouts t ≡ Some layout
      → leaf_of layout v ≡ Some leaf → part_at v path ≡ Some part
      → CodePiece plan old.slots old new Nowhere (mend_at plan.layouts t leaf path)
      (λ s m. IsThere plan clean t v words s m) (AtEnd new (λ s m. Rep plan m clean at part (slots_at s slots)))

-- in each plan of the layouts the appended code leaves the words of the part at a path of the leaf, which is of type
-- `at`, in slots
abbrev pub FetchesPart : LaidOut → ℕ → ℕ → List ℕ → Ty → List ℕ → Sheet → Sheet → List ℕ → Type 0
FetchesPart agreed t leaf path at words old new slots =
    (plan : Plan) → IsPlanOf agreed plan → AllBelow old.slots words → length words ≡ words_needed plan (Named t)
    → PartIsFetched plan t leaf path at words old new slots

-- Saving ----------------------------------------------------------------------------------------

-- the words of a part of data type t stand in slots, and these facts are so of the value v that it is part of
abbrev pub IsThereWith : Plan → Bool → ℕ → Value → Value → List ℕ → List Spot → List Known → List ℕ → Memory → Type 0
IsThereWith plan clean t v part words spots known s m =
    IsThere plan clean t part words s m × AreKnown (view_of plan clean v spots s m) known

-- Where the part at a position has this leaf, the appended code goes from some facts on a value to more, with at most
-- `most` switches.
pub record Knows (plan : Plan) (n most t leaf : ℕ) (words : List ℕ) (spots : List Spot) (position : List ℕ)
    (known more : List Known) (old new : Sheet) : Type 0 where
  pub adds : Adds plan old new
  pub runs : (clean : Bool) (v part : Value) (layout : Layout) → layout_of plan.layouts t ≡ Some layout
      → leaf_of layout part ≡ Some leaf → part_at v position ≡ Some part
      → CodePiece plan n old new Nowhere most (λ s m. IsThereWith plan clean t v part words spots known s m)
      (AtEnd new (λ s m. IsThereWith plan clean t v part words spots more s m))

-- the switches that rebuild what a leaf took apart at and below its fields that have these patterns, the first of
-- which is field i
abbrev pub mends_from : List Layout → ℕ → ℕ → List Pat → ℕ → ℕ
mends_from layouts t leaf [] i = 0
mends_from layouts t leaf (p ∷ ps) i = mend_at layouts t leaf (i ∷ []) + mends_from layouts t leaf ps (i + 1)

-- in each plan of the layouts the appended code goes from some facts on a value to more, with at most `most`
-- switches, where the part at the position has this leaf of data type t
abbrev pub Learns : LaidOut → (Plan → ℕ) → ℕ → ℕ → List ℕ → List Spot → List ℕ → List Known → List Known → Sheet → Sheet
    → Type 0
Learns agreed most t leaf words spots position known more old new =
    (plan : Plan) (n : ℕ) → IsPlanOf agreed plan → AreSpots plan n old.slots spots → AllBelow old.slots words
    → length words ≡ words_needed plan (Named t)
    → Knows plan n (most plan) t leaf words spots position known more old new

-- the appended code goes to more facts by saving fields of a part that has this leaf of data type t, with at most the
-- switches that rebuild what a leaf of the type took apart
abbrev pub SavesFields : LaidOut → ℕ → ℕ → List ℕ → List Spot → List ℕ → List Known → List Known → Sheet → Sheet
    → Type 0
SavesFields agreed t leaf words spots position =
    Learns agreed (λ plan. rebuilding_bound plan.layouts (Named t)) t leaf words spots position
