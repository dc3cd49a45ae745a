-- The ways of a part whose fields are saved: made leaf by leaf. A way is code behind the code that finds the part's
-- leaf: for values of one leaf it saves fields, and leaves by an edge, an open target for a node. The part is tested:
-- by one of the `arms` its value is led to a node, or to node `other`, if there is one, where no arm is taken. What
-- is matched is `graph`: a type, patterns, and nodes with tests, perhaps none. The facts `known` are so where the
-- test stands; `found`, or an entry of `onward`, says where the values of a leaf go on behind it, if anywhere. A leaf
-- is one of the forms in which a layout stores the values of data type t, given by its number. A group is leaves that
-- the code doesn't tell apart: one leaf alone, or all that go on at one node and of which nothing is saved. A hole is
-- an open target, with the number of a group. A spot is slots in which the part at a position may be saved. A sheet
-- is the code and the number of slots so far: `mid` where a leaf is found, `b` behind some of the ways, `old` and
-- `new` before and behind all of what is appended. The slots `words` hold the part's words; the first n slots are
-- kept. A read says where a word is, by bits of slots and of memory. `agreed` is a program with layouts that agree
-- with its types; a plan of it has these, and the switches that its matches may cost.
use denote.Ref.{Bor}
use Rattle.std.specs.Prelude.{◌≡◌, ℕ, ◌+◌, ◌-◌, ◌<◌, ◌≤◌, nat_le, List, [], ◌∷◌, ◌++◌, map, length, Bool, true, Option, Some, None, slice_get, if◌then◌else◌}
use Rattle.rb_core.specs.declared.value.Value.{Value, out-Value}
use Rattle.rb_core.specs.declared.value.Value.TheOpen as V
use Rattle.rb_core.specs.declared.types.Ty.{Ty}
use Rattle.rb_core.specs.declared.types.Ty.TheVariants.{Named}
use Rattle.rb_core.specs.Values.{part_at}
use Rattle.rb_decide.specs.declared.decision_graph.GraphArm.{GraphArm}
use Rattle.rb_decide.specs.declared.decision_graph.GraphNode.{GraphNode}
use Rattle.rb_target.specs.declared.instr.Instr.{Instr}
use Rattle.rb_target.specs.declared.body.Hole.{Hole}
use Rattle.rb_target.specs.Growth.{Grows}
use Rattle.rb_target.specs.Laws.{Law}
use Rattle.rb_target.specs.Meaning.{World, Next, Callee}
use Rattle.rb_target.specs.Sheet.{Sheet, IsHole}
use Rattle.rb_target.specs.Targets.{Finishes, IsHoleAmong}
use Rattle.rb_layout.specs.declared.agreed.LaidOut.{LaidOut}
use Rattle.rb_layout.specs.declared.layout.Layout.{Layout}
use Rattle.rb_layout.specs.Positions.{layout_of, leaf_of}
use Rattle.rb_rel.specs.Switches.{depth_of}
use Rattle.rb_fragment.specs.Adding.{Adds}
use Rattle.rb_fragment.specs.Arms.{AreOfOneWay}
use Rattle.rb_fragment.specs.Plan.{Plan, words_needed}
use Rattle.rb_fragment.specs.Pieces.{GoesOutBy}
use Rattle.rb_fragment.specs.declared.reads.Read.{Read}
use Rattle.rb_fragment.specs.Slots.{AllBelow}
use Rattle.rb_fragment.specs.WordReads.{AllFit}
use Rattle.rb_fetch.specs.Finding.{IsPlanOf, leaf_count}
use Rattle.rb_fetch.specs.Pruning.{group_at}
use Rattle.rb_match.specs.declared.deep.Onward.{Onward}
use Rattle.rb_facts.specs.declared.knowledge.Known.{Known}
use Rattle.rb_facts.specs.declared.knowledge.Known.TheVariants as K
use Rattle.rb_facts.specs.declared.knowledge.Spot.{Spot}
use Rattle.rb_facts.specs.declared.knowledge.Edge.{Edge}
use Rattle.rb_match.specs.declared.asking.Whole.{Whole}
use Rattle.rb_facts.specs.Looks.{choosing_look}
use Rattle.rb_facts.specs.Knowing.{AreKnown, View, view_of}
use Rattle.rb_match.specs.inner.Asking.{AreGroups, Asked, AskedThere, LeavesWhere, edge_in, group_for}
use Rattle.rb_facts.specs.Edges.{AreOpen, LeadOneWay, StandOpen, holes_of}
use Rattle.rb_facts.specs.Saving.{AreSpots, IsThereWith}
use Rattle.rb_facts.specs.Links.{leaf_con, take_link}
use Rattle.rb_facts.specs.Threading.{AllFollow, LeadsOn, Threads}

-- those of the holes, in their order, whose `leaf`, the number of a group of leaves, is i or higher: no way is made
-- for them yet
abbrev pub holes_to_set : ℕ → List Hole → List Hole
holes_to_set i [] = []
holes_to_set i (h ∷ hs) = if nat_le i h.leaf then h ∷ holes_to_set i hs else holes_to_set i hs

-- those of the holes whose `leaf`, the number of a group of leaves, is i or higher are holes of the code
abbrev pub CanOpen : List Instr → List Hole → ℕ → Type 0
CanOpen code holes i = (h : Hole) → IsHoleAmong h (holes_to_set i holes) → IsHole code h

-- Behind code that finds a leaf, from the sheet `mid` up to instruction `top`, stand the ways of the groups below i,
-- and leave by these edges; the holes of the other groups are open. Each target of the edges leads to one node.
pub record WaysStand (mid : Sheet) (top : ℕ) (holes : List Hole) (i : ℕ) (b : Sheet) (edges : List Edge) : Type 0 where
  pub grows : Grows mid.code b.code
  pub high : top ≤ length b.code
  pub are_holes : (h : Hole) → IsHoleAmong h (holes_to_set i holes) → (length mid.code ≤ h.pc) × (h.pc < top)
      × IsHole b.code h
  pub are_open : AreOpen top b.code edges
  pub one : LeadOneWay edges

-- Where leaves lead on ---------------------------------------------------------------------------

-- what is known leads from a node on to node m; where there is no graph, m is the node itself
abbrev pub LeadsFrom : LaidOut → Whole → List Known → ℕ → ℕ → Type 0
LeadsFrom agreed graph known node m =
    LeadsOn agreed graph.ty graph.pats.now graph.nodes.now known node m × (graph.nodes.now ≡ [] → m ≡ node)

-- where a test leads the values of a leaf to a node, they go on at a node that `Leads` allows for it; where it leads
-- them to none, they go nowhere
abbrev pub GoOn : (ℕ → ℕ → Type 0) → Option ℕ → Option Onward → Type 0
GoOn Leads None None = Unit {0}
GoOn Leads None (Some found) = ⊥
GoOn Leads (Some node) None = ⊥
GoOn Leads (Some node) (Some found) = Leads node found.node

-- the facts that a leaf's values go on with are so where the facts `known` are; nothing is asked of a leaf that goes
-- nowhere
abbrev pub ShowOnward : LaidOut → List Known → Option Onward → Type 0
ShowOnward agreed known None = Unit {0}
ShowOnward agreed known (Some found) = AllFollow agreed known found.known

-- `found` says where the values of a leaf of data type t, all of constructor `con`, go on behind a test of the part
-- at a position, if they are led anywhere, and what is known then
pub record LeadsLeaf (agreed : LaidOut) (graph : Whole) (t : ℕ) (known : List Known) (position : Bor (List ℕ))
    (arms : List GraphArm) (other : Option ℕ) (leaf : ℕ) (found : Option Onward) : Type 0 where
  pub con : ℕ
  pub is_con : leaf_con agreed t leaf ≡ Some con
  pub goes : GoOn (LeadsFrom agreed graph (known ++ K.Leaf position t leaf ∷ []))
      (take_link arms other (V.Con con [])) found
  pub shows : ShowOnward agreed (known ++ K.Leaf position t leaf ∷ []) found

-- the list says for each leaf of data type t, in order, where its values go on behind a test
abbrev pub LeadLeaves : LaidOut → Whole → ℕ → List Known → Bor (List ℕ) → List GraphArm → Option ℕ
    → List (Option Onward) → Type 0
LeadLeaves agreed graph t known position arms other =
    AreGroups (LeadsLeaf agreed graph t known position arms other) (leaf_count agreed t)

-- the group of a leaf, by where its values go on: the leaf's own number where fields of it are saved, or else the
-- node's number behind those of the `count` leaves, which all such leaves share; none where they go nowhere
abbrev pub group_onward : ℕ → ℕ → Option Onward → Option ℕ
group_onward count leaf None = None
group_onward count leaf (Some found) = group_for count found.saves leaf (Some found.node)

-- the leaf has this group, by where its entry of the list says that its values go on; no leaf past the list has one
abbrev pub HasGroupOnward : List (Option Onward) → ℕ → Option ℕ → Type 0
HasGroupOnward onward leaf group =
    (found : Option Onward) × (slice_get onward leaf ≡ Some found) × (group ≡ group_onward (length onward) leaf found)

-- the edge by a hole of a group that is not one leaf alone: the group's number is that of the node, behind the
-- numbers of the `count` leaves
abbrev pub shared_edge : List GraphNode → ℕ → List Known → Hole → Edge
shared_edge nodes count known h = edge_in nodes h.pc h.arm (h.leaf - count) known

-- the edges by those of the holes that are of groups that are not one leaf alone, whose numbers are from `count` on
abbrev pub shared_edges : List GraphNode → ℕ → List Known → List Hole → List Edge
shared_edges nodes count known holes = map (shared_edge nodes count known) (holes_to_set count holes)

-- some facts lead from node number `node` on to node k that are so of the view's value, perhaps with other contents
-- of the slots than the view's, since those of spots may have been written on the way
abbrev pub IsOnward : LaidOut → Whole → ℕ → View → ℕ → Type 0
IsOnward agreed graph node view k =
    (told : List Known) × (s : List ℕ)
    × AreKnown (view_of view.plan view.clean view.value view.spots s view.memory) told
    × LeadsFrom agreed graph told node k

-- Ways ------------------------------------------------------------------------------------------

-- `Does` is so of each run of the code from mid to b over a part of data type t whose words stand in slots, where a
-- test leads the part to a node, in any finished code, whatever these holes lead to
abbrev pub OnLeaves : Plan → ℕ → List ℕ → List Spot → List Known → List ℕ → List GraphArm → Option ℕ → Sheet → Sheet
    → List Hole → (List Instr → Next → List ℕ → World → Bool → Value → ℕ → ℕ → Type 0) → Type 0
OnLeaves plan t words spots known position arms other mid b holes Does =
    (final : List Instr) (callee : Callee) (next : Next) → Law final callee next
    → Finishes final b.code holes (length mid.code) (length b.code)
    → (s : List ℕ) (w : World) (clean : Bool) (v part : Value) (layout : Layout) (leaf node : ℕ) → b.slots ≤ length s
    → IsThereWith plan clean t v part words spots known s w.memory
    → part_at v position ≡ Some part → layout_of plan.layouts t ≡ Some layout → leaf_of layout part ≡ Some leaf
    → take_link arms other (out-Value part) ≡ Some node → Does final next s w clean v leaf node

-- A run on a part that the test leads to a node leaves by an edge where the number of its leaf's group is below i, to
-- a node that `To` allows for that one, and else by a hole of the group.
pub record WaysLead (To : ℕ → View → ℕ → Type 0) (plan : Plan) (n t : ℕ) (words : List ℕ) (spots : List Spot)
    (known : List Known) (position : List ℕ) (arms : List GraphArm) (other : Option ℕ) (groups : List (Option ℕ))
    (mid : Sheet) (holes : List Hole) (i : ℕ) (b : Sheet) (edges : List Edge) : Type 0 where
  pub adds : Adds plan mid b
  pub leaves : OnLeaves plan t words spots known position arms other mid b (holes_to_set i holes ++ holes_of edges)
      (λ final next s w clean v leaf node. (group : ℕ) → group_at groups leaf ≡ Some group
      → (group < i → LeavesWhere (To node) plan final next edges n (choosing_look plan.layouts (Named t))
      (length mid.code) s w clean v spots)
      × (i ≤ group → GoesOutBy final next holes mid.slots (depth_of plan.layouts (Named t)) (length mid.code) s w group
      (λ s' m. Unit {0})))

-- only leaf i has the group i, and has fields to save; no leaf has it where leaf i goes nowhere
abbrev pub IsAlone : List (Option ℕ) → ℕ → Option Onward → Type 0
IsAlone groups i None = (leaf : ℕ) → group_at groups leaf ≡ Some i → ⊥
IsAlone groups i (Some found) = (leaf : ℕ) → group_at groups leaf ≡ Some i → (leaf ≡ i) × (found.saves ≡ true)

-- the code from old to new makes the way of leaf i: where the ways of the groups below i stood and led on, those
-- below i + 1 do
pub record StepsWay (agreed : LaidOut) (t : ℕ) (words : List ℕ) (spots : List Spot) (position : Bor (List ℕ))
    (holes : List Hole) (i : ℕ) (found : Option Onward) (old : Sheet) (edges : List Edge) (new : Sheet)
    (more : List Edge) : Type 0 where
  pub stands : (mid : Sheet) (top : ℕ) → WaysStand mid top holes i old edges → WaysStand mid top holes (i + 1) new more
  pub leads : (known : List Known) (graph : Whole) (arms : List GraphArm) (other : Option ℕ)
      (groups : List (Option ℕ)) (plan : Plan) (n : ℕ) (mid : Sheet) (top : ℕ)
      → LeadsLeaf agreed graph t known position arms other i found → IsAlone groups i found
      → IsPlanOf agreed plan → AreSpots plan n mid.slots spots → AllBelow mid.slots words
      → length words ≡ words_needed plan (Named t) → AreOfOneWay holes → WaysStand mid top holes i old edges
      → WaysLead (IsOnward agreed graph) plan n t words spots known position.now arms other groups mid holes i old edges
      → WaysLead (IsOnward agreed graph) plan n t words spots known position.now arms other groups mid holes (i + 1)
      new more

-- in each plan of the layouts the ways of the groups below i lead on, where each leaf has the group that is given
abbrev pub LeadsAll : LaidOut → Whole → ℕ → List ℕ → List Spot → List Known → Bor (List ℕ) → List GraphArm → Option ℕ
    → List (Option Onward) → List (Option ℕ) → ℕ → Sheet → List Hole → Sheet → List Edge → Type 0
LeadsAll agreed graph t words spots known position arms other onward groups i old holes new edges =
    (plan : Plan) (n : ℕ) → LeadLeaves agreed graph t known position arms other onward → IsPlanOf agreed plan
    → AreSpots plan n old.slots spots → AllBelow old.slots words → length words ≡ words_needed plan (Named t)
    → WaysLead (IsOnward agreed graph) plan n t words spots known position.now arms other groups old holes i new edges

-- the ways of the groups below i lead on, for groups of the leaves that follow from where their values go on
abbrev pub LeadsSome : LaidOut → ℕ → List ℕ → List Spot → List Known → Bor (List ℕ) → List (Option Onward) → ℕ → Sheet
    → List Hole → Sheet → List Edge → Type 0
LeadsSome agreed t words spots known position onward i old holes new edges =
    (groups : List (Option ℕ)) × AreGroups (HasGroupOnward onward) (length onward) groups
    × ((graph : Whole) (arms : List GraphArm) (other : Option ℕ)
    → LeadsAll agreed graph t words spots known position arms other onward groups i old holes new edges)

-- behind code that finds the leaf, and that ends at some instruction, stand the ways of the groups below i
abbrev pub StandBehind : Sheet → List Hole → ℕ → Sheet → List Edge → Type 0
StandBehind mid holes i b edges = (top : ℕ) × (length mid.code ≤ top) × WaysStand mid top holes i b edges

-- a run on a part, whose words stand in slots, leaves by an edge to a node that `To` allows for the one to which the
-- test leads it
pub record PartLeads (To : ℕ → View → ℕ → Type 0) (plan : Plan) (n t : ℕ) (words : List ℕ) (spots : List Spot)
    (known : List Known) (position : List ℕ) (arms : List GraphArm) (other : Option ℕ) (old new : Sheet)
    (edges : List Edge) : Type 0 where
  pub adds : Adds plan old new
  pub leaves : OnLeaves plan t words spots known position arms other old new (holes_of edges)
      (λ final next s w clean v leaf node. LeavesWhere (To node) plan final next edges n
      (choosing_look plan.layouts (Named t)) (length old.code) s w clean v spots)

-- the code finds the leaf of a part, and behind it stand the ways of all leaves: each run leaves by an edge to where
-- its leaf's values go on
abbrev pub LeadsWays : LaidOut → ℕ → List ℕ → List Spot → List Known → Bor (List ℕ) → List (Option Onward) → Sheet
    → Sheet → List Edge → Type 0
LeadsWays agreed t words spots known position onward old new edges =
    (graph : Whole) (arms : List GraphArm) (other : Option ℕ) (plan : Plan) (n : ℕ)
    → LeadLeaves agreed graph t known position arms other onward
    → IsPlanOf agreed plan → AreSpots plan n old.slots spots → AllBelow old.slots words
    → length words ≡ words_needed plan (Named t)
    → PartLeads (IsOnward agreed graph) plan n t words spots known position.now arms other old new edges

-- Tests -----------------------------------------------------------------------------------------

-- the code tests a part, of type ty, over reads of its words, and may save parts of it in spots: each run leaves by an
-- edge to a node to which what is known leads on from the one to which the test leads the part
abbrev pub AsksPart : LaidOut → Whole → Ty → List Spot → List Read → List Known → List ℕ → List GraphArm → Option ℕ
    → Sheet → Sheet → List Edge → Type 0
AsksPart agreed graph ty spots reads known position arms other old new edges =
    (plan : Plan) (n : ℕ) → IsPlanOf agreed plan → AreSpots plan n old.slots spots → AllFit old.slots reads
    → length reads ≡ words_needed plan ty
    → AskedThere (IsOnward agreed graph) plan ty n spots reads known position arms other old new edges

-- the code so tests a part of data type t
abbrev pub AsksDeep : LaidOut → Whole → ℕ → List Spot → List Read → List Known → List ℕ → List GraphArm → Option ℕ
    → Sheet → Sheet → List Edge → Type 0
AsksDeep agreed graph t = AsksPart agreed graph (Named t)

-- the code tests the part at a position over reads of the whole value that a graph is about: each run leaves by an
-- edge to a node to which what is known leads on from the one to which the test leads the part
abbrev pub Asks : LaidOut → Whole → List Read → List Spot → List Known → List ℕ → List GraphArm → Option ℕ → Sheet
    → Sheet → List Edge → Type 0
Asks agreed graph words spots known position arms other old new edges =
    (plan : Plan) (n : ℕ) → IsPlanOf agreed plan → AreSpots plan n old.slots spots → AllFit old.slots words
    → length words ≡ words_needed plan graph.ty
    → Asked (IsOnward agreed graph) plan graph.ty n words graph.pats.now spots known position arms other old new edges

-- the code makes such a test, and each of its edges is led on over tests that what is known decides, or left as it is
pub record AsksOnward (agreed : LaidOut) (graph : Whole) (words : List Read) (spots : List Spot) (known : List Known)
    (position : List ℕ) (arms : List GraphArm) (other : Option ℕ) (old new : Sheet) (more : List Edge) : Type 0 where
  pub asked : List Edge
  pub asks : Asks agreed graph words spots known position arms other old new asked
  pub stand : StandOpen old new asked
  pub threads : Threads agreed graph.ty graph.pats.now graph.nodes.now asked more
  pub grows : Grows old.code new.code
