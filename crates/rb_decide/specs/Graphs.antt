-- Decision graphs, whose nodes have links, that is, numbers of other nodes, in the place of subtrees: the tree that a
-- graph unfolds to, and what it shares. An arm is the branch of a test for one head, which is a number or a
-- constructor. Nodes are numbered by their place, from 0 on.
use Rattle.std.specs.Prelude.{◌≡◌, ◌<◌, ◌⊎◌, ℕ, List, [], ◌∷◌, ◌++◌, map, length, Option, Some, None, unwrap_or, option_map, slice_get}
use Rattle.std.specs.List.{AllByRecursion}
use Rattle.rb_decide.specs.declared.decision_tree.Tree.{Tree}
use Rattle.rb_decide.specs.declared.decision_tree.Tree as Trees
use Rattle.rb_decide.specs.declared.decision_tree.TreeArm.{TreeArm}
use Rattle.rb_decide.specs.declared.decision_graph.Graph.{Graph}
use Rattle.rb_decide.specs.declared.decision_graph.GraphNode.{GraphNode}
use Rattle.rb_decide.specs.declared.decision_graph.GraphNode.TheVariants.{Test, Clause}
use Rattle.rb_decide.specs.declared.decision_graph.GraphArm.{GraphArm}

-- The unfolding -------------------------------------------------------------------------------------

-- the tree with number i among the trees of lower nodes; clause 0 where there is none
abbrev pub tree_under : List Tree → ℕ → Tree
tree_under lower i = unwrap_or (slice_get lower i) (Trees.Clause 0)

-- an arm of a graph as an arm of a tree: its head, with the tree of its link among those of lower nodes
abbrev pub arm_under : List Tree → GraphArm → TreeArm
arm_under lower a = record { head = a.head; under = tree_under lower a.under }

-- the tree of a node: in the place of each link stands the tree of the lower node to which it leads
abbrev pub node_tree : List Tree → GraphNode → Tree
node_tree lower (Test position arms other) =
    Trees.Test position (map (arm_under lower) arms) (option_map (tree_under lower) other)
node_tree lower (Clause k) = Trees.Clause k

-- the trees of lower nodes, and behind them those of these nodes in order, each made over all trees before it
abbrev pub trees_onto : List Tree → List GraphNode → List Tree
trees_onto lower [] = lower
trees_onto lower (n ∷ ns) = trees_onto (lower ++ node_tree lower n ∷ []) ns

-- the trees of all nodes of a graph, in the nodes' order
abbrev pub node_trees : List GraphNode → List Tree
node_trees nodes = trees_onto [] nodes

-- the tree to which a graph unfolds, that of its root; none where it has no such node
abbrev pub unfolding_of : Graph → Option Tree
unfolding_of g = slice_get (node_trees g.nodes) g.root

-- Sharing -------------------------------------------------------------------------------------------

-- the link of an arm: the number of the node to which it leads
abbrev pub arm_link : GraphArm → ℕ
arm_link a = a.under

-- the link of a test for values that no arm takes, as a list of one number; empty where there is no such link
abbrev pub other_link : Option ℕ → List ℕ
other_link None = []
other_link (Some i) = i ∷ []

-- the links of a node: those of its arms, then that for values that no arm takes, if there is one; a clause has none
abbrev pub links : GraphNode → List ℕ
links (Test position arms other) = map arm_link arms ++ other_link other
links (Clause k) = []

-- each link of each node is a lower number than the node's own
abbrev pub LinksAreLower : List GraphNode → Type 0
LinksAreLower nodes = (i : ℕ) (n : GraphNode) → slice_get nodes i ≡ Some n → AllByRecursion (λ j. j < i) (links n)

-- no two nodes of a graph are equal
abbrev pub NodesDiffer : List GraphNode → Type 0
NodesDiffer nodes = (i j : ℕ) (n : GraphNode) → slice_get nodes i ≡ Some n → slice_get nodes j ≡ Some n → i ≡ j

-- i is one of these numbers
abbrev pub IsAmong : ℕ → List ℕ → Type 0
IsAmong i is = (place : ℕ) × (slice_get is place ≡ Some i)

-- some node of these links to node i
pub record IsLinked (nodes : List GraphNode) (i : ℕ) : Type 0 where
  pub from : ℕ
  pub node : GraphNode
  pub there : slice_get nodes from ≡ Some node
  pub link : IsAmong i (links node)

-- each node is the root, or some node links to it; where links go to lower numbers, all are reached from the root
abbrev pub NodesAreReached : Graph → Type 0
NodesAreReached g = (i : ℕ) → i < length g.nodes → (i ≡ g.root) ⊎ IsLinked g.nodes i
