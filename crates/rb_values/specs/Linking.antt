-- Nodes that are linked by numbers: the values that they stand for. A node is a number, or a construction of earlier
-- nodes, which its links name by number.
use Rattle.std.specs.Prelude.{◌≡◌, ℕ, zero, suc, ◌+◌, ◌<◌, ◌≤◌, List, [], ◌∷◌, ◌++◌, length, map, slice_index_or, flat_map, All}
use Rattle.rb_core.specs.declared.value.Value.{Value, Num, Con}
use Rattle.rb_values.specs.declared.nodes.Node.{Node}
use Rattle.rb_values.specs.declared.nodes.Node.TheVariants.{Number, Build}
use Rattle.rb_values.specs.Nodes.{at, posts}

-- the values of the nodes that `count` links from link `first` on name; a link that is not there names node 0
abbrev pub children : List Value → List ℕ → ℕ → ℕ → List Value
children vs links first zero = []
children vs links first (suc n) = at vs (slice_index_or links first 0) ∷ children vs links (suc first) n

-- the value of a node, given all links and the values `vs` of the nodes before it
abbrev pub node_value : List ℕ → List Value → Node → Value
node_value links vs (Number n) = Num n
node_value links vs (Build k first count) = Con k (children vs links first count)

-- the values of nodes: `vs`, which are those of the first nodes, and behind them those of the nodes that follow
abbrev pub values_from : List ℕ → List Node → List Value → List Value
values_from links [] vs = vs
values_from links (n ∷ ns) vs = values_from links ns (vs ++ node_value links vs n ∷ [])

-- the links of node i are there and lead to nodes before it; a number has none
abbrev pub IsLinkedBack : List ℕ → ℕ → Node → Type 0
IsLinkedBack links i (Number n) = Unit {0}
IsLinkedBack links i (Build k first count) = (first + count ≤ length links)
    × ((j : ℕ) → j < count → slice_index_or links (first + j) 0 < i)

-- the links of each of these nodes, the first of which is node `low`, are there and lead to nodes before it
abbrev pub AreLinkedBack : List ℕ → ℕ → List Node → Type 0
AreLinkedBack links low ns = (i : ℕ) (d : Node) → i < length ns → IsLinkedBack links (low + i) (slice_index_or ns i d)

-- the nodes of a builder are the subterms of its finished values, value by value; `done` has
-- the node of each such value
pub record IsBuilt (nodes : List Value) (done : List ℕ) : Type 0 where
  pub below : All (λ k. k < length nodes) done
  pub order : nodes ≡ flat_map posts (map (at nodes) done)
