-- What the building of a match's tree gives.
use Rattle.std.proofs.Common.{◌≡◌, ℕ, ◌≤◌, List, [], ◌∷◌, Option, Some, ap, ◌∙◌, arith, subst}
use Rattle.rb_core.specs.declared.types.DataDecl.{DataDecl}
use Rattle.rb_core.specs.declared.types.Ty.{Ty}
use Rattle.rb_core.specs.declared.pattern.Pat.{Pat}
use Rattle.rb_decide.specs.declared.clause_matrix.Column.{Column}
use Rattle.rb_decide.specs.declared.clause_matrix.Row.{Row}
use Rattle.rb_decide.specs.declared.decision_tree.Tree.{Tree}
use Rattle.rb_decide.specs.ClauseMatrices.{match_rows, match_column}
use Rattle.rb_decide.specs.Trees.{tree_within, count_of_heads, tree_of, match_tree}
use Rattle.rb_decide.specs.inner.Building.{IsBuilt}

pub built-tree : (types : List DataDecl) (ty : Ty) (ps : List Pat) (cols : List Column) (rows : List Row) (old new : ℕ) (r : Option Tree) (t : Tree)
    → cols ≡ match_column ty ∷ [] → rows ≡ match_rows 0 ps → ((n : ℕ) → count_of_heads rows ≤ n → IsBuilt (tree_within types n cols rows) old new r) → r ≡ Some t
    → t ≡ match_tree types ty ps
built-tree types ty ps cols rows old new r t columns clauses h is =
    let built = subst (IsBuilt (tree_within types (count_of_heads rows) cols rows) old new) is (h (count_of_heads rows) (omega arith)) in
    built.0 ∙ ap (λ l. tree_within types (count_of_heads rows) l rows) columns ∙ ap (λ l. tree_of types (match_column ty ∷ []) l) clauses
