-- Steps of code that saves parts of a value. A leaf is one of the forms in which a layout stores the values of data type
-- t, given by its number; its provenance is the pattern of these values. It takes a subvalue apart where it has the
-- subvalue's fields in place of its words: to save the subvalue, code rebuilds (mends) it. A position is the numbers of
-- the fields that lead from the whole value to a part of it, the outermost first; a path leads so from a part, or from
-- a pattern, to what stands below it. A source is a part whose leaf is known, from which parts are saved: the slots
-- `words` hold its words. A spot is slots for the part at a position. The facts `known` say which leaves parts have and
-- which spots hold theirs; `more` are the facts behind some code. A sheet is the code and the number of slots so far,
-- `old` before some code is appended and `new` behind it; of the slots the first n are kept. `agreed` is a program with
-- layouts that agree with its types; a plan of it has these, and the switches that its matches may cost. `clean` asks
-- that bits that no part of a value takes are 0.
use Rattle.std.specs.Prelude.{◌≡◌, ℕ, ◌<◌, ◌≤◌, List, Bool, Option, Some, None, length, drop, slice_get, slice_index}
use Rattle.std.specs.List.{sum_by}
use Rattle.rb_core.specs.declared.value.Value.{Value}
use Rattle.rb_core.specs.declared.types.Ty.{Ty}
use Rattle.rb_core.specs.declared.types.DataDecl.{DataDecl}
use Rattle.rb_core.specs.declared.types.Ty.TheVariants.{Named}
use Rattle.rb_core.specs.declared.pattern.Pat.{Pat, Con}
use Rattle.rb_core.specs.declared.types.ConRef.{ConRef}
use Rattle.rb_core.specs.Values.{part_at}
use Rattle.rb_target.specs.Growth.{Nowhere}
use Rattle.rb_target.specs.Meaning.{slots_at}
use Rattle.rb_target.specs.Sheet.{Sheet}
use Rattle.rb_layout.specs.declared.agreed.LaidOut.{LaidOut}
use Rattle.rb_layout.specs.declared.layout.Layout.{Layout}
use Rattle.rb_layout.specs.declared.layout.Leaf.{Leaf}
use Rattle.rb_layout.specs.Positions.{layout_of, leaf_of}
use Rattle.rb_fetch.specs.Positions.{found_at}
use Rattle.rb_rel.specs.Switches.{HeadAt, choose_of, heads_of}
use Rattle.rb_fragment.specs.Adding.{Adds}
use Rattle.rb_fragment.specs.Plan.{Plan, Rep, words_needed}
use Rattle.rb_fragment.specs.Pieces.{AtEnd, CodePiece}
use Rattle.rb_fragment.specs.Slots.{AllBelow, AllFrom, SlotsAreApart, IsDistinct, IsOneOf}
use Rattle.rb_fetch.specs.Finding.{IsPlanOf}
use Rattle.rb_facts.specs.declared.knowledge.Known.{Known}
use Rattle.rb_facts.specs.declared.knowledge.Spot.{Spot}
use Rattle.rb_facts.specs.declared.saving.Source.{Source}
use Rattle.rb_facts.specs.Saving.{HasPart, IsThere, Learns, mend_at, mends_at, prov_at}

-- some pattern of the list begins with a constructor
abbrev pub HasConstructor : List Pat → Type 0
HasConstructor subs =
    (k : ℕ) × (token : ℕ) × (c : ConRef) × (ps : List Pat) × (slice_get subs k ≡ Some (Con token c ps))

-- the switches that rebuild what a leaf took apart below where this part of its provenance stands, without what
-- stands right there; 0 where there is no such part
abbrev pub mend_inside : List Layout → Option Pat → ℕ
mend_inside layouts None = 0
mend_inside layouts (Some p) = sum_by (λ (h : HeadAt). choose_of layouts h.con.ty h.con.con) (drop 1 (heads_of p))

-- the switches that rebuild what leaf number `leaf` of data type t took apart below a path, without what stands at
-- the path itself
abbrev pub mend_below : List Layout → ℕ → ℕ → List ℕ → ℕ
mend_below layouts t leaf path = mend_inside layouts (prov_at layouts t leaf path)

-- at a path of a pattern of type t stands a pattern of type `at`
abbrev pub HasBelow : List DataDecl → Ty → Pat → List ℕ → Ty → Type 0
HasBelow types t pat path at = (sub : Pat) × (found_at types (Some (pat, t)) path ≡ Some (sub, at))

-- at a path of the provenance of leaf number `leaf` of data type t stands a pattern of type `at`
abbrev pub IsPositionOf : LaidOut → ℕ → ℕ → List ℕ → Ty → Type 0
IsPositionOf agreed t leaf path at =
    (layout : Layout) × (found : Leaf) × (layout_of agreed.layouts t ≡ Some layout)
    × (slice_get layout.leaves leaf ≡ Some found)
    × HasBelow agreed.covered.program.types (Named t) found.prov path at

-- of the first n slots, all but `dests` hold in s' what they hold in s
abbrev pub KeepsOthers : ℕ → List ℕ → List ℕ → List ℕ → Type 0
KeepsOthers n dests s s' = (x : ℕ) → x < n → (IsOneOf x dests → ⊥) → slice_index s' x ≡ slice_index s x

-- Where the value has leaf number `leaf` of data type t, the appended code leaves the words of its part at the path
-- in the slots of a spot, which are none of the value's, and keeps all others that there were.
pub record PartIsSaved (plan : Plan) (n t leaf : ℕ) (path words : List ℕ) (spot : Spot) (old new : Sheet) : Type 0 where
  pub has : HasPart plan t leaf path
  pub adds : Adds plan old new
  pub apart : SlotsAreApart spot.slots words
  pub runs : (clean : Bool) (v part : Value) (layout : Layout) (s0 : List ℕ) → layout_of plan.layouts t ≡ Some layout
      → leaf_of layout v ≡ Some leaf → part_at v path ≡ Some part
      → CodePiece plan n old new Nowhere (mend_at plan.layouts t leaf path)
      (λ s m. (s ≡ s0) × IsThere plan clean t v words s m)
      (AtEnd new (λ s m. KeepsOthers old.slots spot.slots s0 s × Rep plan m clean spot.ty part (slots_at s spot.slots)))

-- in each plan of the layouts the appended code saves the part at a path of the leaf in a spot, whose slots are from
-- n on, no two the same, and as many as its type has words
abbrev pub SavesPart : LaidOut → ℕ → ℕ → List ℕ → List ℕ → Spot → Sheet → Sheet → Type 0
SavesPart agreed t leaf path words spot old new =
    (plan : Plan) (n : ℕ) → IsPlanOf agreed plan → n ≤ old.slots → AllFrom n spot.slots → AllBelow old.slots spot.slots
    → IsDistinct spot.slots → length spot.slots ≡ words_needed plan spot.ty
    → AllBelow old.slots words → length words ≡ words_needed plan (Named t)
    → PartIsSaved plan n t leaf path words spot old new

-- the appended code goes from some facts to more on the part that a source tells of, with at most as many switches as
-- `most` says for the part's type and leaf
abbrev pub LearnsOf : LaidOut → (List Layout → ℕ → ℕ → ℕ) → Source → List Known → List Known → Sheet → Sheet → Type 0
LearnsOf agreed most source =
    Learns agreed (λ plan. most plan.layouts source.ty source.leaf) source.ty source.leaf source.words.now
    source.spots.now source.position.now

-- the appended code goes to more facts by saving what stands at and below a path of the source's leaf, with at most
-- the switches that rebuild it
abbrev pub SavesAt : LaidOut → Source → List ℕ → List Known → List Known → Sheet → Sheet → Type 0
SavesAt agreed source path = LearnsOf agreed (λ layouts t leaf. mend_at layouts t leaf path) source

-- the appended code goes to more facts by saving what stands below a path of the source's leaf, with at most the
-- switches that rebuild that, and not what stands at the path itself
abbrev pub SavesBelow : LaidOut → Source → List ℕ → List Known → List Known → Sheet → Sheet → Type 0
SavesBelow agreed source path = LearnsOf agreed (λ layouts t leaf. mend_below layouts t leaf path) source

-- the appended code goes to more facts by saving what stands at and below the first i fields of what stands at a path
-- of the source's leaf, with at most the switches that rebuild it
abbrev pub SavesSome : LaidOut → Source → List ℕ → ℕ → List Known → List Known → Sheet → Sheet → Type 0
SavesSome agreed source path i = LearnsOf agreed (λ layouts t leaf. mends_at layouts t leaf path i) source
