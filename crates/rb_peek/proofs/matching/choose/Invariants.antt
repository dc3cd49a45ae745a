use Rattle.std.proofs.Common.{◌≡◌, drop}
use Rattle.rb_peek.specs.Rebuilds.{leaf_chosen}
use Rattle.rb_peek.specs.inner.Standing.{or_before, position_shown}
use Rattle.rb_peek.proofs.matching.choose.Given as goal

abbrev pub invariant-loop-leaf : goal.invariant-loop-leaf
invariant-loop-leaf l =
    let types = l.agreed.covered.program.types in
    let m = l.image.blocks in
    leaf_chosen types l.agreed.layouts m l.leaves (position_shown l.view) ≡ or_before l.before (leaf_chosen types l.agreed.layouts m (drop l.leaf-index l.leaves) (position_shown l.view))
