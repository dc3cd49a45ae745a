-- What the tree of a match is for: it takes the chosen clause by few tests. A position is a list of field numbers
-- from the scrutinee's root. A way lists the positions that are tested from the root of a tree to a clause.
use Rattle.std.specs.Prelude.{◌≡◌, ◌<◌, ◌≤◌, ℕ, List, [], ◌∷◌, Bool, true, false, ◌||◌, Option, Some, None, is_some, slice_get}
use Rattle.std.specs.List.{AllByRecursion}
use Rattle.rb_core.specs.declared.value.Value.{Value}
use Rattle.rb_core.specs.declared.types.Ty.{Ty}
use Rattle.rb_core.specs.declared.types.DataDecl.{DataDecl}
use Rattle.rb_core.specs.declared.pattern.Pat.{Pat, out-Pat}
use Rattle.rb_core.specs.declared.pattern.Pat.TheOpen as P
use Rattle.rb_core.specs.declared.pattern.Pat.TheOpen.{Pat-F}
use Rattle.rb_core.specs.Matching.{chosen_clause}
use Rattle.rb_core.specs.Values.{is_of_type}
use Rattle.rb_matrix.specs.Heads.{layer_head}
use Rattle.rb_decide.specs.declared.decision_tree.Tree.{Tree}
use Rattle.rb_decide.specs.declared.decision_tree.Tried.{Tried}
use Rattle.rb_decide.specs.declared.decision_tree.Tried.TheVariants.{Built, Over}
use Rattle.rb_decide.specs.declared.decision_graph.Graph.{Graph}
use Rattle.rb_decide.specs.Graphs.{unfolding_of}
use Rattle.rb_decide.specs.Trees.{clause_taken, size, Way, ways, match_tree}

-- Heads at positions --------------------------------------------------------------------------------

-- the patterns in the fields of a pattern that is a constructor, in order; none in any other pattern
abbrev pub subpatterns : Pat-F Pat → List Pat
subpatterns (P.Wild at) = []
subpatterns (P.Var at x) = []
subpatterns (P.Num at n) = []
subpatterns (P.Con at c ps) = ps

-- the pattern in field i of a pattern; none where there is no pattern, or it is no constructor with such a field
abbrev pub subpattern : Option Pat → ℕ → Option Pat
subpattern None i = None
subpattern (Some p) i = slice_get (subpatterns (out-Pat p)) i

-- the pattern that stands at a position of a pattern; none where there is no pattern, or it does not reach there
abbrev pub pattern_from : Option Pat → List ℕ → Option Pat
pattern_from p [] = p
pattern_from p (i ∷ is) = pattern_from (subpattern p i) is

-- whether there is a pattern, and it is a number or a constructor
abbrev pub is_head : Option Pat → Bool
is_head None = false
is_head (Some p) = is_some (layer_head (out-Pat p))

-- whether some pattern of a list has a number or a constructor at a position
abbrev pub any_head_at : List Pat → List ℕ → Bool
any_head_at [] position = false
any_head_at (p ∷ ps) position = is_head (pattern_from (Some p) position) || any_head_at ps position

-- Laws of the tree ----------------------------------------------------------------------------------

-- what tree t takes of each value of type ty is the clause chosen among those with patterns ps, the first that
-- matches
abbrev pub TakesChosen : List DataDecl → Ty → List Pat → Tree → Type 0
TakesChosen types ty ps t = (v : Value) → is_of_type types v ty ≡ true → clause_taken t v ≡ chosen_clause ps v

-- no position stands twice on a way
abbrev pub AreDistinct : Way → Type 0
AreDistinct [] = Unit {0}
AreDistinct (q ∷ qs) = AllByRecursion (λ r. q ≡ r → ⊥) qs × AreDistinct qs

-- no way of a tree tests a position twice
abbrev pub TestsOnce : Tree → Type 0
TestsOnce t = AllByRecursion AreDistinct (ways t)

-- at each position on a way some pattern of a list has a number or a constructor
abbrev pub HaveHeads : List Pat → Way → Type 0
HaveHeads ps way = AllByRecursion (λ q. any_head_at ps q ≡ true) way

-- each position that a tree tests is one at which some pattern of a list has a number or a constructor
abbrev pub TestsHeads : List Pat → Tree → Type 0
TestsHeads ps t = AllByRecursion (HaveHeads ps) (ways t)

-- The answer ----------------------------------------------------------------------------------------

-- the answer for a match on type ty by patterns ps is its tree, of at most `limit` nodes, or that it has more
abbrev pub IsTried : List DataDecl → Ty → List Pat → ℕ → Tried → Type 0
IsTried types ty ps limit (Built t) = (t ≡ match_tree types ty ps) × (size t ≤ limit)
IsTried types ty ps limit Over = limit < size (match_tree types ty ps)

-- P holds of the tree that was built; nothing is said where none was
abbrev pub OnBuilt : Tried → (Tree → Type 0) → Type 0
OnBuilt (Built t) P = P t
OnBuilt Over P = Unit {0}

-- P holds of the tree to which a graph unfolds, if it unfolds to one
abbrev pub OnUnfolded : Graph → (Tree → Type 0) → Type 0
OnUnfolded g P = (t : Tree) → unfolding_of g ≡ Some t → P t
