use Rattle.std.proofs.Common.{◌≡◌, drop}
use Rattle.rb_layout.specs.inner.Finding.{with_leaves}
use Rattle.rb_layout.proofs.finding.add_leaves.Given as goal

abbrev pub invariant-loop-leaf : goal.invariant-loop-leaf
invariant-loop-leaf l = with_leaves l.types l.goal l.fn.entries l.leaves ≡ with_leaves l.types l.goal l.entries (drop l.leaf-index l.leaves)
