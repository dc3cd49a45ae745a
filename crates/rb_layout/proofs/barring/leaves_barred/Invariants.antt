use Rattle.std.proofs.Common.{◌≡◌, drop}
use Rattle.rb_layout.specs.inner.Barring.{knows, leaves_barred}
use Rattle.rb_layout.proofs.barring.leaves_barred.Given as goal

abbrev pub invariant-loop-leaf : goal.invariant-loop-leaf
invariant-loop-leaf l = leaves_barred (knows l.entries) l.types l.goal l.leaves ≡ leaves_barred (knows l.entries) l.types l.goal (drop l.leaf-index l.leaves)
