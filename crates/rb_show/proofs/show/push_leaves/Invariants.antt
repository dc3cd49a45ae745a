use Rattle.std.proofs.Common.{◌≡◌, ◌++◌, take}
use Rattle.std.specs.List.{flat_map}
use Rattle.rb_show.specs.inner.Ways.{way_lines}
use Rattle.rb_show.proofs.show.push_leaves.Given as goal

abbrev pub invariant-loop-way : goal.invariant-loop-way
invariant-loop-way l = l.text.items ≡ l.initial.text.items ++ flat_map (way_lines l.types l.leaves) (take l.way-index l.ways)
