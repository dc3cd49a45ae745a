-- What is known of a value on its way through a decision graph, whose nodes are tests and clauses: facts, each of
-- which says which leaf a part has, or that a part is saved in a spot. A position is the numbers of the fields that
-- lead from the value to a part of it, the outermost first; that of the value itself is empty. A leaf is one of the
-- forms in which a layout stores the values of a data type, given by its number there. A spot is slots for the part
-- at a position, given by its number among the spots. An edge is a way out of the code to a node, given by its
-- number, with what is known of the value there. `known` are facts, `slots` the contents of all slots in a run. A
-- plan is a program with its layouts, and the switches that its matches may cost.
use Rattle.std.specs.Prelude.{◌≡◌, ℕ, List, Bool, Option, Some, None, slice_get}
use Rattle.rb_core.specs.declared.value.Value.{Value}
use Rattle.rb_core.specs.Values.{part_at}
use Rattle.rb_bytes.specs.Memory.{Memory}
use Rattle.rb_target.specs.Meaning.{slots_at}
use Rattle.rb_layout.specs.declared.layout.Layout.{Layout}
use Rattle.rb_layout.specs.Positions.{leaf_of, layout_of}
use Rattle.rb_fragment.specs.Plan.{Plan, Rep}
use Rattle.rb_fragment.specs.Slots.{AllBelow}
use Rattle.rb_facts.specs.declared.knowledge.Known.{Known}
use Rattle.rb_facts.specs.declared.knowledge.Known.TheVariants.{Leaf, Saved}
use Rattle.rb_facts.specs.declared.knowledge.Spot.{Spot}
use Rattle.rb_facts.specs.declared.knowledge.Edge.{Edge}

-- what facts are judged by: a value, the spots for its parts, and the contents of the slots and the memory of a run;
-- a saved part is represented cleanly, that is, with all bits 0 that no part takes, where `clean` says so
pub record View : Type 0 where
  pub plan : Plan
  pub clean : Bool
  pub value : Value
  pub spots : List Spot
  pub slots : List ℕ
  pub memory : Memory

-- the view of a value with these spots, in these slots and this memory
abbrev pub view_of : Plan → Bool → Value → List Spot → List ℕ → Memory → View
view_of plan clean v spots s m = record { plan = plan; clean = clean; value = v; spots = spots; slots = s; memory = m }

-- the slots of each of these spots are below n
abbrev pub SpotsBelow : ℕ → List Spot → Type 0
SpotsBelow n spots = (k : ℕ) (spot : Spot) → slice_get spots k ≡ Some spot → AllBelow n spot.slots

-- there is a part of value v at the position, and it has this leaf of data type ty
abbrev pub IsLeafAt : Plan → Value → List ℕ → ℕ → ℕ → Type 0
IsLeafAt plan v position ty leaf =
    (part : Value) × (layout : Layout) × (part_at v position ≡ Some part) × (layout_of plan.layouts ty ≡ Some layout)
    × (leaf_of layout part ≡ Some leaf)

-- the value has a part at the spot's position, and the spot's slots hold words that represent it
abbrev pub HoldsPart : View → Spot → Type 0
HoldsPart at spot =
    (part : Value) × (part_at at.value spot.position ≡ Some part)
    × Rep at.plan at.memory at.clean spot.ty part (slots_at at.slots spot.slots)

-- there is a spot with number k, and its slots hold the part of the value at its position
abbrev pub IsSaved : View → ℕ → Type 0
IsSaved at k = (spot : Spot) × (slice_get at.spots k ≡ Some spot) × HoldsPart at spot

-- a fact is so of the value: that the part at a position has a leaf, or that a spot holds its part
abbrev pub IsKnown : View → Known → Type 0
IsKnown at (Leaf position ty leaf) = IsLeafAt at.plan at.value position.now ty leaf
IsKnown at (Saved k) = IsSaved at k

-- each of these facts is so of the value in this view; so it is where there are none
abbrev pub AreKnown : View → List Known → Type 0
AreKnown at known = (i : ℕ) (x : Known) → slice_get known i ≡ Some x → IsKnown at x

-- wherever these facts are so, spot number k holds its part
abbrev pub FollowsSaved : List Known → ℕ → Type 0
FollowsSaved known k = (at : View) → AreKnown at known → IsSaved at k

-- the facts that were found at a node are so; where there is no list of them, since no edge leads there, that can't
-- be
abbrev pub AreFound : View → Option (List Known) → Type 0
AreFound at None = ⊥
AreFound at (Some known) = AreKnown at known

-- the edge is one of the list
abbrev pub IsEdge : Edge → List Edge → Type 0
IsEdge e es = (k : ℕ) × (slice_get es k ≡ Some e)

-- the facts r are so wherever those are that one of the edges to the node with this number carries; r is none only
-- where that is never
abbrev pub IsCommonKnowledge : List Edge → ℕ → Option (List Known) → Type 0
IsCommonKnowledge edges node r =
    (at : View) (e : Edge) → IsEdge e edges → e.hole.leaf ≡ node → AreKnown at e.known → AreFound at r
