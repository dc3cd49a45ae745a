use Rattle.std.proofs.Common.{◌≡◌, ◌++◌, drop}
use Rattle.std.specs.List.{flat_map}
use Rattle.rb_core.specs.Layouts.{leaves_under}
use Rattle.rb_agree.specs.inner.Leaves.{items_under, shown_leaves}
use Rattle.rb_agree.proofs.leaves.+reading.Given as goal

abbrev pub invariant-add_arms-loop-arm : goal.invariant-add_arms-loop-arm
invariant-add_arms-loop-arm l =
    shown_leaves l.out ++ items_under (flat_map leaves_under (drop l.arm-index l.arms)) ≡ shown_leaves l.fn.out ++ items_under (flat_map leaves_under l.arms)
