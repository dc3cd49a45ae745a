use Rattle.std.proofs.Common.{◌≡◌, ◌++◌, take}
use Rattle.rb_show.specs.inner.Ways.{ways_behind}
use Rattle.rb_show.proofs.Leading.{arms_routes}
use Rattle.rb_show.proofs.ways.+leading.Given as goal

abbrev pub invariant-loop-arm : goal.invariant-loop-arm
invariant-loop-arm l = record {
  ways : l.ways ≡ l.fn.ways ++ ways_behind l.fn.above.items (arms_routes l.loc (take l.arm-index l.arm-items));
  above : l.above.items ≡ l.fn.above.items;
}
