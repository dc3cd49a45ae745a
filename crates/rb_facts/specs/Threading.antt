-- Tests that what is known decides: an edge to such a test leads on to the node of its arm. An edge is an open target
-- of the code, for the node to which it is to lead, with what is known of the value there. The nodes, given by their
-- numbers, are those of a decision graph over values of type `ty` for the patterns `pats`: a clause, or a test of the
-- part at a position, whose `arms` lead to nodes by what the part begins with, and all other values to node `other`,
-- if there is one. A position is the numbers of the fields that lead from the value to a part of it. The facts
-- `known` say which leaves parts have and which spots, slots in which parts are saved, hold theirs. A leaf is one of
-- the forms in which a layout stores the values of a data type. A view is a value, and the run in which facts are so
-- of it. A place is a position and the type there; a look at it is code that finds its leaf or number. `agreed` is a
-- program with layouts that agree with its types; a plan of it has these, and the switches that its matches may cost.
use Rattle.std.specs.Prelude.{◌≡◌, ℕ, ◌≤◌, List, [], ◌∷◌, Bool, Some}
use Rattle.rb_core.specs.declared.value.Value.{Value}
use Rattle.rb_core.specs.declared.types.Ty.{Ty}
use Rattle.rb_core.specs.declared.pattern.Pat.{Pat}
use Rattle.rb_decide.specs.declared.decision_graph.GraphNode.{GraphNode}
use Rattle.rb_decide.specs.Graphs.{LinksAreLower}
use Rattle.rb_decide.specs.Trees.{clause_taken}
use Rattle.rb_bytes.specs.Memory.{Memory}
use Rattle.rb_target.specs.Sheet.{Sheet}
use Rattle.rb_layout.specs.declared.agreed.LaidOut.{LaidOut}
use Rattle.rb_fragment.specs.declared.reads.Read.{Read}
use Rattle.rb_fragment.specs.Plan.{Plan}
use Rattle.rb_fetch.specs.Finding.{IsPlanOf}
use Rattle.rb_facts.specs.declared.knowledge.Known.{Known}
use Rattle.rb_facts.specs.declared.knowledge.Edge.{Edge}
use Rattle.rb_facts.specs.declared.knowledge.Spot.{Spot}
use Rattle.rb_facts.specs.Looks.{TypedPosition}
use Rattle.rb_facts.specs.Knowing.{AreKnown, View, view_of}
use Rattle.rb_facts.specs.Edges.{StandOpen}
use Rattle.rb_facts.specs.Ways.{IsOn, job_of, looks, tree_from}

-- all facts of the list `more` are known wherever all of the list `known` are
abbrev pub AllFollow : LaidOut → List Known → List Known → Type 0
AllFollow agreed known more = (at : View) → IsPlanOf agreed at.plan → AreKnown at known → AreKnown at more

-- each value at node n of which these facts are known is at node m as well: the graph takes the same clause of it
-- from there, after looks at places that cost no less than those on the way to n, since tests that are passed over
-- count
abbrev pub LeadsOn : LaidOut → Ty → List Pat → List GraphNode → List Known → ℕ → ℕ → Type 0
LeadsOn agreed ty pats nodes known n m =
    (plan : Plan) (base : ℕ) (spots : List Spot) (words : List Read) (root : ℕ) (first : Sheet)
    → let job = job_of plan base spots ty words pats nodes root first in
    IsPlanOf agreed plan → LinksAreLower nodes
    → (clean : Bool) (v : Value) (s : List ℕ) (w : Memory) (clause : ℕ) (path : List TypedPosition)
    → AreKnown (view_of plan clean v spots s w) known → clause_taken (tree_from nodes root) v ≡ Some clause
    → IsOn job v n path
    → (longer : List TypedPosition) × (looks plan path ≤ looks plan longer) × IsOn job v m longer

-- the new edge is open where the old one was, to a node to which the old one's leads on, and carries only what
-- follows from what the old one carried
pub record IsThreaded (agreed : LaidOut) (ty : Ty) (pats : List Pat) (nodes : List GraphNode)
    (old new : Edge) : Type 0 where
  pub pc : new.hole.pc ≡ old.hole.pc
  pub arm : new.hole.arm ≡ old.hole.arm
  pub known : AllFollow agreed old.known new.known
  pub leads : LeadsOn agreed ty pats nodes old.known old.hole.leaf new.hole.leaf

-- each of the new edges is the old one in its place, led on or left as it is; there are as many of them
abbrev pub AreThreaded : LaidOut → Ty → List Pat → List GraphNode → List Edge → List Edge → Type 0
AreThreaded agreed ty pats nodes [] [] = Unit {0}
AreThreaded agreed ty pats nodes [] (f ∷ fs) = ⊥
AreThreaded agreed ty pats nodes (e ∷ es) [] = ⊥
AreThreaded agreed ty pats nodes (e ∷ es) (f ∷ fs) =
    IsThreaded agreed ty pats nodes e f × AreThreaded agreed ty pats nodes es fs

-- the new edges are the old ones, each to where it leads on; where the old ones are open in some code, and each
-- target of theirs leads to one node, so it is of the new
pub record Threads (agreed : LaidOut) (ty : Ty) (pats : List Pat) (nodes : List GraphNode)
    (old new : List Edge) : Type 0 where
  pub threaded : AreThreaded agreed ty pats nodes old new
  pub stand : (before after : Sheet) → StandOpen before after old → StandOpen before after new
