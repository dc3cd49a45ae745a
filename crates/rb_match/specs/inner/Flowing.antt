-- The code of a graph while it is made: the edges that are open, and what a run has done when it leaves by one. An
-- edge is a hole, that is, an open target of the code, for the node to which it is to lead, with what is known of the
-- value there. A way through the graph is the positions that are tested on it, one after another. A position is the
-- numbers of the fields that lead from the value to a part of it; a place is a position and the type there. A node of
-- the graph is a test or a clause, given by its number. A spot is slots in which a part of the value is saved. A
-- sheet is the code and the number of slots so far, `old` before some code is appended and `new` behind it. A job is
-- what is asked of a graph's code. A run in the finished code `final` begins with the slots s and the world w. A read
-- says where a word of the value is, by bits of slots and of memory. A look is code that finds the leaf, or the
-- number, of the part at a place. `agreed` is a program with layouts that agree with its types; a plan of it has
-- these, and the switches that its matches may cost. A memory is good where it is one that can come to be.
use Rattle.std.specs.Prelude.{◌≡◌, ℕ, ◌<◌, ◌≤◌, ◌⊎◌, ◌==◌, List, [], ◌∷◌, map, length, Bool, Some, slice_get, if◌then◌else◌}
use Rattle.rb_core.specs.declared.value.Value.{Value}
use Rattle.rb_core.specs.declared.types.Ty.{Ty}
use Rattle.rb_core.specs.declared.pattern.Pat.{Pat}
use Rattle.rb_decide.specs.declared.decision_graph.GraphNode.{GraphNode}
use Rattle.rb_decide.specs.declared.decision_graph.GraphNode.TheVariants.{Clause}
use Rattle.rb_decide.specs.Graphs.{LinksAreLower}
use Rattle.rb_decide.specs.Trees.{clause_taken, ways}
use Rattle.rb_bytes.specs.Memory.{Memory, IsGood}
use Rattle.rb_target.specs.declared.instr.Instr.{Instr}
use Rattle.rb_target.specs.declared.body.Hole.{Hole}
use Rattle.rb_target.specs.Growth.{Grows, Keeps}
use Rattle.rb_target.specs.Laws.{Law}
use Rattle.rb_target.specs.Meaning.{World, Next, Callee}
use Rattle.rb_target.specs.Sheet.{Sheet}
use Rattle.rb_target.specs.Targets.{target_in, Finishes}
use Rattle.rb_layout.specs.declared.agreed.LaidOut.{LaidOut}
use Rattle.rb_fragment.specs.declared.reads.Read.{Read}
use Rattle.rb_fragment.specs.Plan.{Plan, Rep, words_needed}
use Rattle.rb_fragment.specs.Adding.{Adds}
use Rattle.rb_fragment.specs.Pieces.{IsLater, GoesOutBy}
use Rattle.rb_fragment.specs.WordReads.{AreMeant, AllFit}
use Rattle.rb_fetch.specs.Finding.{IsPlanOf}
use Rattle.rb_facts.specs.declared.knowledge.Known.{Known}
use Rattle.rb_facts.specs.declared.knowledge.Edge.{Edge}
use Rattle.rb_facts.specs.declared.knowledge.Spot.{Spot}
use Rattle.rb_facts.specs.Looks.{TypedPosition}
use Rattle.rb_facts.specs.Knowing.{AreKnown, IsEdge, view_of}
use Rattle.rb_facts.specs.Saving.{AreSpots}
use Rattle.rb_facts.specs.Edges.{holes_of, StandOpen}
use Rattle.rb_facts.specs.Ways.{tree_from, HasWay, path_of, looks, Job, AllLookedAt, IsOn, job_of}

-- Edges -----------------------------------------------------------------------------------------

-- the holes of the edges to a node, each with number 0, since all of them get one target
abbrev pub landing_of : ℕ → List Edge → List Hole
landing_of node [] = []
landing_of node (e ∷ es) =
    if e.hole.leaf == node then record { pc = e.hole.pc; arm = e.hole.arm; leaf = 0 } ∷ landing_of node es
    else landing_of node es

-- the edges that lead to other nodes than this one, in their order
abbrev pub others_of : ℕ → List Edge → List Edge
others_of node [] = []
others_of node (e ∷ es) = if e.hole.leaf == node then others_of node es else e ∷ others_of node es

-- Runs ------------------------------------------------------------------------------------------

-- the run from where the job began goes out by an edge, whatever its target, to a node to which the value has come,
-- with at most the switches of the looks on the way
pub record Arrives (job : Job) (final : List Instr) (next : Next) (edges : List Edge) (s : List ℕ) (w : World)
    (clean : Bool) (v : Value) : Type 0 where
  pub edge : Edge
  pub is_edge : IsEdge edge edges
  pub target : ℕ
  pub is_target : target_in (slice_get final edge.hole.pc) edge.hole.arm ≡ Some target
  pub slots : List ℕ
  pub world : World
  pub runs : next (length job.first.code) s w ≡ next target slots world
  pub keeps : Keeps job.base s slots
  pub path : List TypedPosition
  pub later : IsLater (looks job.plan path) w world
  pub known : AreKnown (view_of job.plan clean v job.spots slots w.memory) edge.known
  pub on : IsOn job v edge.hole.leaf path

-- the run from where the job began comes to instruction `here`, at which the code of node n begins, with these facts
pub record Lands (job : Job) (next : Next) (here : ℕ) (known : List Known) (n : ℕ) (s : List ℕ) (w : World)
    (clean : Bool) (v : Value) : Type 0 where
  pub slots : List ℕ
  pub world : World
  pub runs : next (length job.first.code) s w ≡ next here slots world
  pub keeps : Keeps job.base s slots
  pub path : List TypedPosition
  pub later : IsLater (looks job.plan path) w world
  pub is_known : AreKnown (view_of job.plan clean v job.spots slots w.memory) known
  pub on : IsOn job v n path

-- the job's reads mean the words of a value of which the graph takes a clause, in a good memory
pub record IsGiven (job : Job) (s : List ℕ) (m : Memory) (clean : Bool) (v : Value) : Type 0 where
  pub good : IsGood m
  pub ws : List ℕ
  pub meant : AreMeant job.words s m ws
  pub represents : Rep job.plan m clean job.ty v ws
  pub clause : ℕ
  pub takes : clause_taken (tree_from job.nodes job.root) v ≡ Some clause

-- what may be said of a run: of the finished code, of what goes on in it, and of the slots, the world and the value
-- at its beginning
abbrev pub Run : Type 1
Run = List Instr → Next → List ℕ → World → Bool → Value → Type 0

-- `Does` holds of each run over a value that is given to the job, from its first slots and world on, in any finished
-- code that has the sheet `new` in its place, whatever the targets of the open `edges` become
abbrev pub Runs : Job → Sheet → List Edge → Run → Type 0
Runs job new edges Does =
    (final : List Instr) (callee : Callee) (next : Next) → Law final callee next
    → Finishes final new.code (holes_of edges) (length job.first.code) (length new.code)
    → (s : List ℕ) (w : World) (clean : Bool) (v : Value) → new.slots ≤ length s → IsGiven job s w.memory clean v
    → Does final next s w clean v

-- the code from the first on leads each given value out by an edge
pub record Flows (job : Job) (new : Sheet) (edges : List Edge) : Type 0 where
  pub adds : Adds job.plan job.first new
  pub arrives : Runs job new edges (λ final next s w clean v. Arrives job final next edges s w clean v)

-- the code from the first on leads each given value out by an edge, or to the end of the code, where that of node n
-- is to begin
pub record FlowsHere (job : Job) (new : Sheet) (edges : List Edge) (known : List Known) (n : ℕ) : Type 0 where
  pub adds : Adds job.plan job.first new
  pub arrives : Runs job new edges (λ final next s w clean v. Arrives job final next edges s w clean v
      ⊎ Lands job next (length new.code) known n s w clean v)

-- a job in a plan of the layouts, whose spots and reads fit, over nodes that link to lower ones
pub record IsFineJob (agreed : LaidOut) (job : Job) : Type 0 where
  pub of : IsPlanOf agreed job.plan
  pub spots : AreSpots job.plan job.base job.first.slots job.spots
  pub fit : (k : ℕ) → job.base ≤ k → AllFit k job.words
  pub count : length job.words ≡ words_needed job.plan job.ty
  pub lower : LinksAreLower job.nodes

-- Nodes -----------------------------------------------------------------------------------------

-- what holds of the code of any job: it is the first code and more, in which these edges are open
pub record JobStands (first new : Sheet) (edges : List Edge) : Type 0 where
  pub grows : Grows first.code new.code
  pub stand : StandOpen first new edges

-- one more node, number n, has its code: where the code led all values out by the old edges, it now does by the edges
-- `more`, and where the old edges were open, these are
pub record StepsNode (agreed : LaidOut) (ty : Ty) (words : List Read) (pats : List Pat) (spots : List Spot)
    (nodes : List GraphNode) (node : GraphNode) (n : ℕ) (old : Sheet) (edges : List Edge) (new : Sheet)
    (more : List Edge) : Type 0 where
  pub stands : (first : Sheet) → JobStands first old edges → JobStands first new more
  pub flows : (plan : Plan) (base : ℕ) (root : ℕ) (first : Sheet)
      → let job = job_of plan base spots ty words pats nodes root first in
      IsFineJob agreed job → slice_get nodes n ≡ Some node → JobStands first old edges → Flows job old edges
      → Flows job new more

-- the code so far stands, from the root's node on: it leads each value that is given to a fine job out by an edge
pub record RootStands (agreed : LaidOut) (ty : Ty) (words : List Read) (pats : List Pat) (spots : List Spot)
    (nodes : List GraphNode) (root : ℕ) (old new : Sheet) (edges : List Edge) : Type 0 where
  pub stands : JobStands old new edges
  pub flows : (plan : Plan) (base : ℕ)
      → let job = job_of plan base spots ty words pats nodes root old in IsFineJob agreed job → Flows job new edges

-- Clauses ---------------------------------------------------------------------------------------

-- the new hole is the same target as the old one, with the number of a clause, one of `count`, in place of the number
-- of the clause's node
pub record IsClauseHole (nodes : List GraphNode) (count : ℕ) (old new : Hole) : Type 0 where
  pub pc : new.pc ≡ old.pc
  pub arm : new.arm ≡ old.arm
  pub few : new.leaf < count
  pub node : slice_get nodes old.leaf ≡ Some (Clause new.leaf)

-- the holes are those of the edges, in their order, each with the number of its clause
pub record AreClauseHoles (nodes : List GraphNode) (count : ℕ) (edges : List Edge) (holes : List Hole) : Type 0 where
  pub long : length holes ≡ length edges
  pub each : (k : ℕ) (e : Edge) (h : Hole) → slice_get edges k ≡ Some e → slice_get holes k ≡ Some h
      → IsClauseHole nodes count e.hole h

-- There are places whose positions are one way through the graph, from its root to a clause, and at each of which some
-- clause has a number or a constructor; the run, from where the job's first code ends, leaves by a hole of clause k,
-- with at most the switches of one look at each of these places, and keeps the slots below the job's base, the memory
-- and the calls that are left.
pub record LeavesOn (job : Job) (final : List Instr) (next : Next) (holes : List Hole) (s : List ℕ) (w : World)
    (k : ℕ) : Type 0 where
  pub path : List TypedPosition
  pub is_way : HasWay (ways (tree_from job.nodes job.root)) (map path_of path)
  pub looked : AllLookedAt job path
  pub leaves : GoesOutBy final next holes job.base (looks job.plan path) (length job.first.code) s w k
      (λ s' m. Unit {0})

-- the code from the first on leads each value that is given to the job out by a hole of the clause that it takes
pub record TakesClause (job : Job) (new : Sheet) (holes : List Hole) : Type 0 where
  pub adds : Adds job.plan job.first new
  pub leaves : (final : List Instr) (callee : Callee) (next : Next) → Law final callee next
      → Finishes final new.code holes (length job.first.code) (length new.code)
      → (s : List ℕ) (w : World) (clean : Bool) (v : Value) → new.slots ≤ length s
      → (g : IsGiven job s w.memory clean v) → LeavesOn job final next holes s w g.clause

-- the code of a whole graph, from its root on, does what each fine job asks
abbrev pub TakesGraph : LaidOut → Ty → List Read → List Pat → List Spot → List GraphNode → ℕ → Sheet → Sheet → List Hole
    → Type 0
TakesGraph agreed ty words pats spots nodes root old new holes =
    (plan : Plan) (base : ℕ)
    → let job = job_of plan base spots ty words pats nodes root old in IsFineJob agreed job
    → TakesClause job new holes
