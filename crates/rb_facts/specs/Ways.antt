-- Ways through a decision graph. A way is the positions that are tested on it, one after another. A position is the
-- numbers of the fields that lead from the value to a part of it; a place is a position and the type there. A node of
-- the graph is a test or a clause, given by its number. A spot is slots in which a part of the value is saved. A sheet
-- is the code and the number of slots so far. A job is what is asked of a graph's code. A read says where a word of the
-- value is, by bits of slots and of memory. A look is code that finds the leaf, or the number, of the part at a place. A
-- plan is a program with its layouts, and the switches that its matches may cost.
use Rattle.std.specs.Prelude.{◌≡◌, ℕ, ◌++◌, List, map, Some, slice_get}
use Rattle.rb_core.specs.declared.value.Value.{Value}
use Rattle.rb_core.specs.declared.types.Ty.{Ty}
use Rattle.rb_core.specs.declared.pattern.Pat.{Pat}
use Rattle.rb_decide.specs.declared.decision_tree.Tree.{Tree}
use Rattle.rb_decide.specs.declared.decision_graph.GraphNode.{GraphNode}
use Rattle.rb_decide.specs.Graphs.{node_trees, tree_under}
use Rattle.rb_decide.specs.Trees.{Way, clause_taken, ways}
use Rattle.rb_target.specs.Sheet.{Sheet}
use Rattle.rb_fragment.specs.declared.reads.Read.{Read}
use Rattle.rb_fragment.specs.Plan.{Plan}
use Rattle.rb_facts.specs.declared.knowledge.Spot.{Spot}
use Rattle.rb_facts.specs.Looks.{TypedPosition, choosing_look, looks_with}
use Rattle.rb_facts.specs.Places.{IsLookedAt, IsPlaceIn}

-- the decision tree to which the graph unfolds from node n on
abbrev pub tree_from : List GraphNode → ℕ → Tree
tree_from nodes n = tree_under (node_trees nodes) n

-- the way, a list of positions, is one of those in the list
abbrev pub HasWay : List Way → Way → Type 0
HasWay ws way = (k : ℕ) × (slice_get ws k ≡ Some way)

-- the position of a place
abbrev pub path_of : TypedPosition → List ℕ
path_of p = p.path

-- the switches that one look at each of some places costs at most when a clause is chosen
abbrev pub looks : Plan → List TypedPosition → ℕ
looks plan path = looks_with (choosing_look plan.layouts) path

-- what is asked of the code of a graph, and the code `first` behind which it begins; the slots below the base are
-- kept, and parts are saved in spots whose slots are from it on; the value is of type ty, the reads `words` give its
-- words, and the clauses have the patterns pats; the graph has these nodes, of which `root` is where it begins
pub record Job : Type 0 where
  pub base : ℕ
  pub spots : List Spot
  pub plan : Plan
  pub ty : Ty
  pub words : List Read
  pub pats : List Pat
  pub nodes : List GraphNode
  pub root : ℕ
  pub first : Sheet

-- at each of these places some clause of the job has a number or a constructor
abbrev pub AllLookedAt : Job → List TypedPosition → Type 0
AllLookedAt job path = (p : TypedPosition) → IsPlaceIn p path
    → IsLookedAt job.plan.program.types job.ty job.pats p.path p.ty

-- a value that came from the root to node n, at which these places were looked at on the way: the graph takes the
-- same clause of it from there as from the root, and each way from there to a clause, behind these places, is one
-- from the root
pub record IsOn (job : Job) (v : Value) (n : ℕ) (path : List TypedPosition) : Type 0 where
  pub same : (k : ℕ) → clause_taken (tree_from job.nodes job.root) v ≡ Some k → clause_taken (tree_from job.nodes n) v
      ≡ Some k
  pub onward : (tail : Way) → HasWay (ways (tree_from job.nodes n)) tail
      → HasWay (ways (tree_from job.nodes job.root)) (map path_of path ++ tail)
  pub looked : AllLookedAt job path

-- the job of these parts: a graph's code, to be made behind the code `first`
abbrev pub job_of : Plan → ℕ → List Spot → Ty → List Read → List Pat → List GraphNode → ℕ → Sheet → Job
job_of plan base spots ty words pats nodes root first = record {
  base = base;
  spots = spots;
  plan = plan;
  ty = ty;
  words = words;
  pats = pats;
  nodes = nodes;
  root = root;
  first = first;
}
