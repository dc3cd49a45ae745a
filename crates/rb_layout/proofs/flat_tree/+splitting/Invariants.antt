use Rattle.std.proofs.Common.{◌≡◌, ◌++◌, length, map, drop}
use Rattle.std.specs.List.{flat_map}
use Rattle.rb_core.specs.Layouts.{leaves_under}
use Rattle.rb_layout.specs.Flattening.{arm_numbering, arms_from, flat_leaf}
use Rattle.rb_layout.proofs.flat_tree.+splitting.Given as goal

abbrev pub invariant-flat_arms-loop-arm : goal.invariant-flat_arms-loop-arm
invariant-flat_arms-loop-arm l =
    (l.flats ++ arms_from (map arm_numbering (drop l.arm-index l.arms)) (length l.flat) ≡ arms_from (map arm_numbering l.arms) (length l.fn.flat))
    × (l.flat ++ map (flat_leaf l.program.types l.program.layouts) (flat_map leaves_under (drop l.arm-index l.arms))
    ≡ l.fn.flat ++ map (flat_leaf l.program.types l.program.layouts) (flat_map leaves_under l.arms))
