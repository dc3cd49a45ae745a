-- Steps to where the words of a part of a value are. A position is the numbers of the fields that lead from a value to a
-- part of it; a path leads so from a part to what stands below it. A read says where a word is: bits of slots and of
-- memory. A place is the type of a part and the reads of its words; of a pattern, it is a position and the type there.
-- A spot is slots in which a part is saved. A leaf is one of the forms in which a layout stores the values of a data
-- type; its provenance is the pattern of these values. The facts `known` say which leaves parts have and which spots
-- hold theirs. The reads `words` are those of the whole value, of type `ty`. `agreed` is a program with layouts that
-- agree with its types; a plan of it has these, and the switches that its matches may cost.
use Rattle.std.specs.Prelude.{ℕ, ◌≤◌, ◌++◌, ◌∷◌, [], List, take, length}
use Rattle.rb_core.specs.declared.types.Ty.{Ty}
use Rattle.rb_core.specs.declared.types.DataDecl.{DataDecl}
use Rattle.rb_core.specs.declared.pattern.Pat.{Pat}
use Rattle.rb_layout.specs.declared.agreed.LaidOut.{LaidOut}
use Rattle.rb_fragment.specs.declared.reads.Read.{Read}
use Rattle.rb_fragment.specs.Plan.{Plan}
use Rattle.rb_fetch.specs.Fields.{FieldAt}
use Rattle.rb_fetch.specs.Finding.{IsPlanOf}
use Rattle.rb_facts.specs.declared.knowledge.Known.{Known}
use Rattle.rb_facts.specs.declared.knowledge.Spot.{Spot}
use Rattle.rb_facts.specs.declared.place.Place.{Place}
use Rattle.rb_facts.specs.declared.place.Begun.{Begun}
use Rattle.rb_facts.specs.Looks.{places_in}
use Rattle.rb_facts.specs.Places.{FindsPlace, IsPlaceIn}

-- the path leads to an open position of leaf number `leaf` of data type t, that is, a wildcard of its provenance, at
-- which type ty is
abbrev pub IsFieldOf : LaidOut → ℕ → ℕ → List ℕ → Ty → Type 0
IsFieldOf agreed t leaf path ty = (plan : Plan) → IsPlanOf agreed plan → FieldAt plan t leaf path ty

-- the way to the part at a position begins at the place of the part at the first `from` fields of the position; where
-- that is none of them, the way begins at the whole value
abbrev pub BeginsPlace : LaidOut → Ty → List Read → List Spot → List Known → List ℕ → Begun → Type 0
BeginsPlace agreed ty words spots known position begun =
    (begun.from ≤ length position) × FindsPlace agreed ty words spots known (take begun.from position) begun.place

-- where `place` is that of the part at the position `prefix`, `next` is that of its field with this number
abbrev pub StepsPlace : LaidOut → Place → List Known → List ℕ → ℕ → Place → Type 0
StepsPlace agreed place known prefix field next =
    (ty : Ty) (words : List Read) (spots : List Spot) → FindsPlace agreed ty words spots known prefix place
    → FindsPlace agreed ty words spots known (prefix ++ field ∷ []) next

-- the place is that of the part at the position by spots and facts alone, whatever the reads of the whole value are
abbrev pub IsSpotOf : LaidOut → List Spot → List Known → List ℕ → Place → Type 0
IsSpotOf agreed spots known position place =
    (ty : Ty) (words : List Read) → FindsPlace agreed ty words spots known position place

-- a pattern, taken at type t, has a number or a constructor at the position, where the type is `at`
abbrev pub HasPlace : List DataDecl → Ty → Pat → List ℕ → Ty → Type 0
HasPlace types t pat position at = IsPlaceIn (record { path = position; ty = at }) (places_in types pat t)
