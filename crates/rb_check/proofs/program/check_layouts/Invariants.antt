use Rattle.std.proofs.Common.{◌≡◌, map, drop}
use Rattle.rb_core.specs.TypedPrograms.{first_fault, layout_fault}
use Rattle.rb_check.proofs.program.check_layouts.Given as goal

abbrev pub invariant-loop-layout : goal.invariant-loop-layout
invariant-loop-layout l = first_fault (map (layout_fault l.types) (drop l.layout-index l.layouts)) ≡ first_fault (map (layout_fault l.types) l.layouts)
