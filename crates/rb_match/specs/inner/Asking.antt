-- The code of one test. A hole is a target of a jump or a switch that is still open. An edge is a way out of the
-- code: a hole, whose `leaf` is the number of the node to which it is to lead, with what is known of the value there.
-- A spot is slots in which the part of a value at a position may be saved. A position is the numbers of the fields
-- that lead from the value to a part of it. The part there is tested: its head, the constructor or number with which
-- it begins, takes it by one of the `arms` to a node, and other values go to node `other`, if there is one; a node is
-- a test or a clause. A leaf is one of the forms in which a layout stores the values of data type t, given by its
-- number; its provenance is the pattern of these values. A group is leaves that the code doesn't tell apart. The
-- facts `known` say what is known before the test: which leaves parts have, and which spots hold theirs. A sheet is
-- the code and the number of slots so far, `old` before the test's code and `new` behind it. A read says where a word
-- is, by bits of slots and of memory. `agreed` is a program with layouts that agree with its types; a plan of it has
-- these, and the switches that its matches may cost. `clean` asks that bits that no part of a value takes are 0. A
-- look is code that finds the leaf, or the number, of a part.
use denote.Ref.{Bor}
use Rattle.std.specs.Prelude.{◌≡◌, ℕ, ◌+◌, ◌-◌, ◌<◌, ◌≤◌, ◌^◌, List, [], ◌∷◌, ◌++◌, map, length, Bool, true, false, ◌&&◌, nat_lt, Option, Some, None, slice_get, if◌then◌else◌}
use Rattle.rb_core.specs.declared.value.Value.{Value, out-Value}
use Rattle.rb_core.specs.declared.value.Value.TheOpen as V
use Rattle.rb_core.specs.declared.types.Ty.{Ty}
use Rattle.rb_core.specs.declared.types.Ty.TheVariants.{Int, Named}
use Rattle.rb_core.specs.declared.pattern.Pat.{Pat}
use Rattle.rb_core.specs.Values.{part_at}
use Rattle.rb_matrix.specs.declared.matrix.Head.{Head}
use Rattle.rb_matrix.specs.declared.matrix.Head.TheVariants as H
use Rattle.rb_decide.specs.declared.decision_graph.GraphArm.{GraphArm}
use Rattle.rb_decide.specs.declared.decision_graph.GraphNode.{GraphNode}
use Rattle.rb_decide.specs.declared.decision_graph.GraphNode.TheVariants.{Test, Clause}
use Rattle.rb_bytes.specs.Memory.{IsGood}
use Rattle.rb_target.specs.declared.instr.SwitchArm.{SwitchArm}
use Rattle.rb_target.specs.declared.instr.Instr.{Instr}
use Rattle.rb_target.specs.declared.body.Hole.{Hole}
use Rattle.rb_target.specs.Growth.{Keeps}
use Rattle.rb_target.specs.Laws.{Law}
use Rattle.rb_target.specs.Meaning.{World, Next, Callee}
use Rattle.rb_target.specs.Sheet.{Sheet}
use Rattle.rb_target.specs.Targets.{target_in, Finishes}
use Rattle.rb_layout.specs.declared.agreed.LaidOut.{LaidOut}
use Rattle.rb_fragment.specs.declared.reads.Read.{Read}
use Rattle.rb_fragment.specs.Plan.{Plan, Rep, words_needed}
use Rattle.rb_fragment.specs.Adding.{Adds}
use Rattle.rb_fragment.specs.Pieces.{IsLater}
use Rattle.rb_fragment.specs.WordReads.{AreMeant, AllFit}
use Rattle.rb_fetch.specs.Finding.{IsPlanOf, leaf_count}
use Rattle.rb_facts.specs.declared.knowledge.Known.{Known}
use Rattle.rb_facts.specs.declared.knowledge.Known.TheVariants as K
use Rattle.rb_facts.specs.declared.knowledge.Spot.{Spot}
use Rattle.rb_facts.specs.Looks.{choosing_look}
use Rattle.rb_facts.specs.declared.knowledge.Edge.{Edge}
use Rattle.rb_facts.specs.Knowing.{AreKnown, IsEdge, SpotsBelow, View, view_of}
use Rattle.rb_facts.specs.Places.{IsLookedAt}
use Rattle.rb_facts.specs.Links.{take_link, leaf_con, link_at}
use Rattle.rb_facts.specs.Edges.{holes_of}
use Rattle.rb_facts.specs.Saving.{AreSpots}

-- What edges carry -----------------------------------------------------------------------------

-- whether there is a node here and it tests a position, as that of a clause does not
abbrev pub is_test : Option GraphNode → Bool
is_test None = false
is_test (Some (Clause k)) = false
is_test (Some (Test position arms other)) = true

-- what an edge to a node carries of what is known: all of it where the node is a test, and nothing where it is a
-- clause, at which nothing is asked any more
abbrev pub known_at_node : List GraphNode → ℕ → List Known → List Known
known_at_node nodes node known = if is_test (slice_get nodes node) then known else []

-- Numbers ---------------------------------------------------------------------------------------

-- the number of a head; 0 for a constructor
abbrev pub number_of_head : Head → ℕ
number_of_head (H.Num n) = n
number_of_head (H.Con c) = 0

-- whether a head is a number, of at most 64 bits
abbrev pub is_number : Head → Bool
is_number (H.Num n) = nat_lt n (2 ^ 64)
is_number (H.Con c) = false

-- the arm of a switch for the number of a head, with its target
abbrev pub number_arm : ℕ → Head → SwitchArm
number_arm next head = record { number = number_of_head head; target = next }

-- the arms of a switch, one for each of these arms of a test, all with one target
abbrev pub number_arms : ℕ → List GraphArm → List SwitchArm
number_arms next arms = map (λ (a : GraphArm). number_arm next a.head) arms

-- whether the head of each of these arms is a number of at most 64 bits
abbrev pub are_numbers : List GraphArm → Bool
are_numbers [] = true
are_numbers (a ∷ arms) = is_number a.head && are_numbers arms

-- an edge by its instruction, its arm, its node, and what is known there
abbrev pub edge_at : ℕ → Option ℕ → ℕ → List Known → Edge
edge_at pc arm node known = record { hole = record { pc = pc; arm = arm; leaf = node }; known = known }

-- the edge by an instruction and its arm to a node of a graph, which carries what is known only where that is a test
abbrev pub edge_in : List GraphNode → ℕ → Option ℕ → ℕ → List Known → Edge
edge_in nodes pc arm node known = edge_at pc arm node (known_at_node nodes node known)

-- the edges by the arms of the switch at instruction pc, counted from arm k, each to the node of one of these arms of
-- a test, and with these facts where that node is a test
abbrev pub arm_edges : List GraphNode → ℕ → List Known → List GraphArm → ℕ → List Edge
arm_edges nodes pc known [] k = []
arm_edges nodes pc known (a ∷ arms) k = edge_in nodes pc (Some k) a.under known ∷ arm_edges nodes pc known arms (k + 1)

-- the edge by the other target of the switch at instruction pc, where a test has a node for all other values; no edge
-- where it has none
abbrev pub else_edges : List GraphNode → ℕ → List Known → Option ℕ → List Edge
else_edges nodes pc known None = []
else_edges nodes pc known (Some link) = edge_in nodes pc None link known ∷ []

-- Constructors ----------------------------------------------------------------------------------

-- The group of a leaf that leads to a node, by which the code tells leaves apart: the leaf's own number where it is a
-- group by itself, or else the node's number behind those of the `count` leaves. A leaf that leads to none has none.
abbrev pub group_for : ℕ → Bool → ℕ → Option ℕ → Option ℕ
group_for count itself leaf None = None
group_for count itself leaf (Some node) = Some (if itself then leaf else count + node)

-- the node to which the leaves of a group lead, if they lead to one: the group is one leaf, or says the node itself
abbrev pub node_for : LaidOut → ℕ → List GraphArm → Option ℕ → ℕ → Option ℕ
node_for agreed t arms other group =
    if nat_lt group (leaf_count agreed t) then link_at arms other (leaf_con agreed t group)
    else Some (group - leaf_count agreed t)

-- what is known of values of a group behind a test: also the leaf of the part at the position, where the group is one
-- leaf by itself
abbrev pub facts_for : LaidOut → ℕ → Bor (List ℕ) → List Known → ℕ → List Known
facts_for agreed t position known group =
    if nat_lt group (leaf_count agreed t) then known ++ K.Leaf position t group ∷ [] else known

-- the group of a leaf of data type t: one of the two that the leaf may have where it leads to a node, or else none
pub record IsGrouped (agreed : LaidOut) (t : ℕ) (arms : List GraphArm) (other : Option ℕ) (leaf : ℕ)
    (group : Option ℕ) : Type 0 where
  pub con : ℕ
  pub is_con : leaf_con agreed t leaf ≡ Some con
  pub itself : Bool
  pub is_group : group ≡ group_for (leaf_count agreed t) itself leaf (take_link arms other (V.Con con []))

-- a list of so many items, one for each leaf in order, of which `IsGroup` says how it belongs to its leaf
pub record AreGroups {A : Type 0} (IsGroup : ℕ → A → Type 0) (count : ℕ) (groups : List A) : Type 0 where
  pub long : length groups ≡ count
  pub each : (leaf : ℕ) → leaf < count → (group : A) × (slice_get groups leaf ≡ Some group) × IsGroup leaf group

-- the edge by the target of a hole to a node, which carries these facts where that is a test; none without a node
abbrev pub edge_to : List GraphNode → Hole → List Known → Option ℕ → Option Edge
edge_to nodes h facts None = None
edge_to nodes h facts (Some node) = Some (edge_in nodes h.pc h.arm node facts)

-- the edge by a hole whose number is that of a group of leaves, to the node to which they lead; none where they lead
-- to none
abbrev pub edge_for : LaidOut → List GraphNode → ℕ → Bor (List ℕ) → List Known → List GraphArm → Option ℕ → Hole
    → Option Edge
edge_for agreed nodes t position known arms other h =
    edge_to nodes h (facts_for agreed t position known h.leaf) (node_for agreed t arms other h.leaf)

-- an edge, if there is one, in front of others
abbrev pub keep_edge : Option Edge → List Edge → List Edge
keep_edge None es = es
keep_edge (Some e) es = e ∷ es

-- the edges by these holes, in their order, each of which has the number of a group of leaves; a hole whose leaves
-- lead to no node gives no edge
abbrev pub leaf_edges_of : LaidOut → List GraphNode → ℕ → Bor (List ℕ) → List Known → List GraphArm → Option ℕ
    → List Hole → List Edge
leaf_edges_of agreed nodes t position known arms other [] = []
leaf_edges_of agreed nodes t position known arms other (h ∷ hs) =
    keep_edge (edge_for agreed nodes t position known arms other h)
    (leaf_edges_of agreed nodes t position known arms other hs)

-- Edges -----------------------------------------------------------------------------------------

-- The run from instruction `start`, with the slots s and the world w, goes out by an edge, whatever its target, to a
-- node of which `To` is so, with what the edge says is known of value v. It does at most `most` more switches, and
-- keeps the first n slots.
pub record LeavesWhere (To : View → ℕ → Type 0) (plan : Plan) (final : List Instr) (next : Next) (edges : List Edge)
    (n most start : ℕ) (s : List ℕ) (w : World) (clean : Bool) (v : Value) (spots : List Spot) : Type 0 where
  pub edge : Edge
  pub is_edge : IsEdge edge edges
  pub target : ℕ
  pub is_target : target_in (slice_get final edge.hole.pc) edge.hole.arm ≡ Some target
  pub slots : List ℕ
  pub world : World
  pub runs : next start s w ≡ next target slots world
  pub keeps : Keeps n s slots
  pub later : IsLater most w world
  pub known : AreKnown (view_of plan clean v spots slots w.memory) edge.known
  pub is_node : To (view_of plan clean v spots slots w.memory) edge.hole.leaf

-- the node that is reached, number k, is the given one, whatever is known of the value
abbrev pub IsNode : ℕ → View → ℕ → Type 0
IsNode node view k = k ≡ node

-- the run goes out by an edge to the node of this number, with what the edge says is known, and keeps the first n
-- slots
abbrev pub LeavesBy : Plan → List Instr → Next → List Edge → ℕ → ℕ → ℕ → List ℕ → World → Bool → Value → List Spot → ℕ
    → Type 0
LeavesBy plan final next edges n most start s w clean v spots node =
    LeavesWhere (IsNode node) plan final next edges n most start s w clean v spots

-- Tests -----------------------------------------------------------------------------------------

-- The code from old to new makes a test, over reads of the part that is tested: where the test leads the part to a
-- node, by an arm or as all other values, the run leaves by an edge to a node that `To` allows for that one.
pub record AskedThere (To : ℕ → View → ℕ → Type 0) (plan : Plan) (ty : Ty) (n : ℕ) (spots : List Spot)
    (reads : List Read) (known : List Known) (position : List ℕ) (arms : List GraphArm) (other : Option ℕ)
    (old new : Sheet) (edges : List Edge) : Type 0 where
  pub adds : Adds plan old new
  pub leaves : (final : List Instr) (callee : Callee) (next : Next) → Law final callee next
      → Finishes final new.code (holes_of edges) (length old.code) (length new.code)
      → (s : List ℕ) (w : World) (v part : Value) (clean : Bool) (ws : List ℕ) (node : ℕ) → new.slots ≤ length s
      → IsGood w.memory → AreMeant reads s w.memory ws → Rep plan w.memory clean ty part ws
      → AreKnown (view_of plan clean v spots s w.memory) known → part_at v position ≡ Some part
      → take_link arms other (out-Value part) ≡ Some node
      → LeavesWhere (To node) plan final next edges n (choosing_look plan.layouts ty) (length old.code)
      s w clean v spots

-- the code from old to new makes a test, over reads of the part that is tested: each run leaves it by an edge to the
-- very node to which the test leads the part
abbrev pub AskedAt : Plan → Ty → ℕ → List Spot → List Read → List Known → List ℕ → List GraphArm → Option ℕ → Sheet
    → Sheet → List Edge → Type 0
AskedAt = AskedThere IsNode

-- the code from old to new tests an integer, over reads of its word: each run leaves it by an edge to the node to
-- which the test leads the integer
abbrev pub AsksNumber : List Read → List Known → List GraphArm → Option ℕ → Sheet → Sheet → List Edge → Type 0
AsksNumber reads known arms other old new edges =
    (plan : Plan) (n bits : ℕ) (position : List ℕ) (spots : List Spot) → n ≤ old.slots → SpotsBelow old.slots spots
    → AllFit old.slots reads → AskedAt plan (Int bits) n spots reads known position arms other old new edges

-- the code from old to new tests the leaf of a value of data type t, over reads of its words, wherever parts are
-- saved: each run leaves it by an edge to the node to which the test leads the value
abbrev pub AsksLeaf : LaidOut → ℕ → List Read → List Known → List ℕ → List GraphArm → Option ℕ → Sheet → Sheet
    → List Edge → Type 0
AsksLeaf agreed t reads known position arms other old new edges =
    (plan : Plan) (n : ℕ) (spots : List Spot) → IsPlanOf agreed plan → AreSpots plan n old.slots spots
    → AllFit old.slots reads → length reads ≡ words_needed plan (Named t)
    → AskedAt plan (Named t) n spots reads known position arms other old new edges

-- The code from old to new tests the part at a position, at which some pattern looks, over reads of the whole value:
-- the run leaves by an edge to a node that `To` allows for the one to which the test leads the part.
pub record Asked (To : ℕ → View → ℕ → Type 0) (plan : Plan) (ty : Ty) (n : ℕ) (words : List Read)
    (pats : List Pat) (spots : List Spot) (known : List Known) (position : List ℕ) (arms : List GraphArm)
    (other : Option ℕ) (old new : Sheet) (edges : List Edge) : Type 0 where
  pub at : Ty
  pub looked : IsLookedAt plan.program.types ty pats position at
  pub adds : Adds plan old new
  pub leaves : (final : List Instr) (callee : Callee) (next : Next) → Law final callee next
      → Finishes final new.code (holes_of edges) (length old.code) (length new.code)
      → (s : List ℕ) (w : World) (v part : Value) (clean : Bool) (ws : List ℕ) (node : ℕ) → new.slots ≤ length s
      → IsGood w.memory → AreMeant words s w.memory ws → Rep plan w.memory clean ty v ws
      → AreKnown (view_of plan clean v spots s w.memory) known → part_at v position ≡ Some part
      → take_link arms other (out-Value part) ≡ Some node
      → LeavesWhere (To node) plan final next edges n (choosing_look plan.layouts at) (length old.code)
      s w clean v spots
