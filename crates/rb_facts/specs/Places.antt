-- Where the words of a part of a value are, and which places are looked at. A position is the numbers of the fields
-- that lead from a value to a part of it, the outermost first; a path leads so from a part to what stands below it. A
-- read says where a word is: bits of slots and of memory. A place is the type of a part and the reads of its words;
-- of a pattern, it is a position and the type there. A spot is slots in which a part is saved. A leaf is one of the
-- forms in which a layout stores values; its provenance is the pattern of the values that it stores. The facts
-- `known` say which leaves parts have and which spots hold theirs. The reads `words` are those of the whole value, of
-- type `ty`; a read fits n slots where it reads only slots below n and instructions can make it. `agreed` is a
-- program with layouts that agree with its types; a plan of it has these, and the switches that its matches may cost.
-- `clean` asks that bits that no part of a value takes are 0.
use Rattle.std.specs.Prelude.{◌≡◌, ℕ, List, Bool, Some, length, slice_get}
use Rattle.std.specs.List.{flat_map}
use Rattle.rb_core.specs.declared.value.Value.{Value}
use Rattle.rb_core.specs.declared.types.Ty.{Ty}
use Rattle.rb_core.specs.declared.types.DataDecl.{DataDecl}
use Rattle.rb_core.specs.declared.pattern.Pat.{Pat}
use Rattle.rb_bytes.specs.Memory.{Memory, IsGood}
use Rattle.rb_layout.specs.declared.agreed.LaidOut.{LaidOut}
use Rattle.rb_fragment.specs.declared.reads.Read.{Read}
use Rattle.rb_fragment.specs.Plan.{Plan, Rep, words_needed}
use Rattle.rb_fragment.specs.WordReads.{AreMeant, AllFit}
use Rattle.rb_fetch.specs.Fields.{IsPartMeant}
use Rattle.rb_fetch.specs.Finding.{IsPlanOf}
use Rattle.rb_facts.specs.declared.knowledge.Known.{Known}
use Rattle.rb_facts.specs.declared.knowledge.Spot.{Spot}
use Rattle.rb_facts.specs.declared.place.Place.{Place}
use Rattle.rb_facts.specs.Looks.{places_in}
use Rattle.rb_facts.specs.Looks as looks
use Rattle.rb_facts.specs.Knowing.{AreKnown, SpotsBelow, view_of}

-- each of these spots has as many slots as its type has words
abbrev pub HaveWords : Plan → List Spot → Type 0
HaveWords plan spots = (k : ℕ) (spot : Spot) → slice_get spots k ≡ Some spot → length spot.slots
    ≡ words_needed plan spot.ty

-- Where these facts are known of a value of type `ty`, over reads of its words and spots for its parts, the place has
-- the reads of its part at the position, one for each word. They fit as many slots as the value's reads do, if the
-- spots' slots are among these.
pub record ReadsPlace (plan : Plan) (ty : Ty) (words : List Read) (spots : List Spot) (known : List Known)
    (position : List ℕ) (place : Place) : Type 0 where
  pub count : length place.reads ≡ words_needed plan place.ty
  pub fit : (k : ℕ) → AllFit k words → SpotsBelow k spots → AllFit k place.reads
  pub means : (clean : Bool) (v : Value) (ws s : List ℕ) (m : Memory) → IsGood m → AreMeant words s m ws
      → Rep plan m clean ty v ws → AreKnown (view_of plan clean v spots s m) known
      → IsPartMeant plan clean place.ty v position place.reads s m

-- in each plan of the layouts the place is where the part of the value at the position is, if these facts are known
abbrev pub FindsPlace : LaidOut → Ty → List Read → List Spot → List Known → List ℕ → Place → Type 0
FindsPlace agreed ty words spots known position place =
    (plan : Plan) → IsPlanOf agreed plan → length words ≡ words_needed plan ty → HaveWords plan spots
    → ReadsPlace plan ty words spots known position place

-- the place is one of the list
abbrev pub IsPlaceIn : looks.TypedPosition → List looks.TypedPosition → Type 0
IsPlaceIn p ps = (k : ℕ) × (slice_get ps k ≡ Some p)

-- some pattern of the list, taken at type t, has a number or a constructor at the position, where the type is `at`
abbrev pub IsLookedAt : List DataDecl → Ty → List Pat → List ℕ → Ty → Type 0
IsLookedAt types t pats position at =
    IsPlaceIn (record { path = position; ty = at }) (flat_map (λ pat. places_in types pat t) pats)
