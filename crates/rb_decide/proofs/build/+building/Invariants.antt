use Rattle.std.proofs.Common.{◌≡◌, ℕ, suc, ◌+◌, ◌*◌, ◌≤◌, ◌++◌, drop}
use Rattle.rb_decide.specs.Trees.{count_of_heads, arms_of, tree_within}
use Rattle.rb_decide.specs.inner.Building.{arms_size}
use Rattle.rb_decide.proofs.build.+building.Given as goal

abbrev pub decreases-build : goal.decreases-build
decreases-build l = 3 * count_of_heads l.rows.now + 2

abbrev pub decreases-build_test : goal.decreases-build_test
decreases-build_test l = 3 * count_of_heads l.rows.now + 1

abbrev pub decreases-build_arms : goal.decreases-build_arms
decreases-build_arms l = 3 * count_of_heads l.rows.now

abbrev pub invariant-build_arms-loop-head : goal.invariant-build_arms-loop-head
invariant-build_arms-loop-head l = record {
  arms : (n : ℕ) → count_of_heads l.rows ≤ suc n → l.arms ++ arms_of l.types (tree_within l.types n) l.column l.rest l.rows (drop l.head-index l.heads) ≡ arms_of l.types (tree_within l.types n) l.column l.rest l.rows l.heads;
  left : arms_size l.arms + l.left ≡ l.initial.left;
}
