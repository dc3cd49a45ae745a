-- What sharing keeps while it adds nodes. The number of each node is kept for its key, a list of numbers that tells
-- the node from all others, so that an equal node is found and not added again.
use Rattle.std.specs.Prelude.{◌≡◌, ◌<◌, ◌≤◌, ◌⊎◌, ℕ, List, [], ◌∷◌, ◌++◌, map, length, Option, Some, None, slice_get, if◌then◌else◌}
use Rattle.std.specs.List.{flat_map}
use Rattle.std.specs.Map.{lookup}
use Rattle.std.specs.Str.{bytes_eq}
use Rattle.rb_matrix.specs.declared.matrix.Head.{Head}
use Rattle.rb_matrix.specs.declared.matrix.Head.TheVariants as H
use Rattle.rb_decide.specs.declared.decision_tree.Tree.{Tree}
use Rattle.rb_decide.specs.declared.decision_tree.TreeArm.{TreeArm}
use Rattle.rb_decide.specs.declared.decision_graph.GraphNode.{GraphNode}
use Rattle.rb_decide.specs.declared.decision_graph.GraphNode.TheVariants.{Test, Clause}
use Rattle.rb_decide.specs.declared.decision_graph.GraphArm.{GraphArm}
use Rattle.rb_decide.specs.declared.sharing.Sharing.{Sharing}
use Rattle.rb_decide.specs.Graphs.{node_trees, arm_link, other_link, LinksAreLower, IsAmong, IsLinked}

-- Keys ----------------------------------------------------------------------------------------------

-- the key of a head: three numbers that tell it from other heads
abbrev pub head_key : Head → List ℕ
head_key (H.Num n) = 0 ∷ n ∷ 0 ∷ []
head_key (H.Con c) = 1 ∷ c.ty ∷ c.con ∷ []

-- the key of an arm: the three numbers of its head, and its link
abbrev pub arm_key : GraphArm → List ℕ
arm_key a = head_key a.head ++ a.under ∷ []

-- the key of the link for values that no arm takes: 1 and its number, or 0 alone where there is none
abbrev pub other_key : Option ℕ → List ℕ
other_key None = 0 ∷ []
other_key (Some i) = 1 ∷ i ∷ []

-- the key of a node: a list of numbers that tells it from other nodes
abbrev pub node_key : GraphNode → List ℕ
node_key (Test position arms other) = 1 ∷ length position ∷ (position ++ (other_key other ++ flat_map arm_key arms))
node_key (Clause k) = 0 ∷ k ∷ []

-- Nodes with their numbers --------------------------------------------------------------------------

-- the number that is kept for a key, if there is one
abbrev pub number_at : Sharing → List ℕ → Option ℕ
number_at s key = lookup (λ k. bytes_eq key k.items) s.numbers.entries

-- nodes whose links are lower numbers; each node's number is kept for its key, and no other key has a number
pub record SharingIsFine (s : Sharing) : Type 0 where
  pub lower : LinksAreLower s.nodes
  pub known : (i : ℕ) (n : GraphNode) → slice_get s.nodes i ≡ Some n → number_at s (node_key n) ≡ Some i
  pub sound : (key : List ℕ) (i : ℕ) → number_at s key ≡ Some i
      → (n : GraphNode) × (slice_get s.nodes i ≡ Some n) × (node_key n ≡ key)

-- after a step number i is kept for this key, and for each other key what was kept before
abbrev pub AddsKey : Sharing → Sharing → List ℕ → ℕ → Type 0
AddsKey old new key i = (q : List ℕ) → number_at new q ≡ (if bytes_eq q key then Some i else number_at old q)

-- a step only adds nodes, behind those that were there
abbrev pub Grows : Sharing → Sharing → Type 0
Grows old new = (more : List GraphNode) × (new.nodes ≡ old.nodes ++ more)

-- each node that a step adds is an end, as `IsEnd` says of its number, or some node links to it
abbrev pub AddsReached : Sharing → Sharing → (ℕ → Type 0) → Type 0
AddsReached old new IsEnd = (k : ℕ) → length old.nodes ≤ k → k < length new.nodes → IsEnd k ⊎ IsLinked new.nodes k

-- after a step node n has number i, and no other node was added
pub record IsAdded (old new : Sharing) (n : GraphNode) (i : ℕ) : Type 0 where
  pub fine : SharingIsFine new
  pub grown : Grows old new
  pub there : slice_get new.nodes i ≡ Some n
  pub alone : (k : ℕ) → length old.nodes ≤ k → k < length new.nodes → k ≡ i

-- after a step node i unfolds to tree t, and each node that was added is this one, or some node links to it
pub record IsShared (t : Tree) (old new : Sharing) (i : ℕ) : Type 0 where
  pub fine : SharingIsFine new
  pub grown : Grows old new
  pub there : slice_get (node_trees new.nodes) i ≡ Some t
  pub reached : AddsReached old new (λ k. k ≡ i)

-- arms of a graph stand for these arms of a tree: as many, each with the same head, and with a link to the number
-- that the arm's tree has among `trees`
abbrev pub Linked : List Tree → List TreeArm → List GraphArm → Type 0
Linked trees [] [] = Unit {0}
Linked trees [] (l ∷ ls) = ⊥
Linked trees (a ∷ as') [] = ⊥
Linked trees (a ∷ as') (l ∷ ls) = (l.head ≡ a.head) × (slice_get trees l.under ≡ Some a.under) × Linked trees as' ls

-- after a step `ls` stand for these arms of a tree, and each node that was added is one to which they link, or some
-- node links to it
pub record AreShared (arms : List TreeArm) (old new : Sharing) (ls : List GraphArm) : Type 0 where
  pub fine : SharingIsFine new
  pub grown : Grows old new
  pub there : Linked (node_trees new.nodes) arms ls
  pub reached : AddsReached old new (λ k. IsAmong k (map arm_link ls))

-- the tree for values that no arm takes has the number of its link among `trees`; there is a link exactly where there
-- is such a tree
abbrev pub OtherLinked : List Tree → Option Tree → Option ℕ → Type 0
OtherLinked trees None None = Unit {0}
OtherLinked trees None (Some i) = ⊥
OtherLinked trees (Some t) None = ⊥
OtherLinked trees (Some t) (Some i) = slice_get trees i ≡ Some t

-- after a step the tree for values that no arm takes, if there is one, has the number that its link says, and each
-- node that was added is this one, or some node links to it
pub record IsOtherShared (other : Option Tree) (old new : Sharing) (link : Option ℕ) : Type 0 where
  pub fine : SharingIsFine new
  pub grown : Grows old new
  pub there : OtherLinked (node_trees new.nodes) other link
  pub reached : AddsReached old new (λ k. IsAmong k (other_link link))
