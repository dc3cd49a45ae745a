use Rattle.std.proofs.Common.{◌≡◌, ◌++◌, drop}
use Rattle.std.specs.List.{flat_map}
use Rattle.rb_agree.specs.inner.Rows.{part_holds}
use Rattle.rb_agree.proofs.graphs.add_parts.Given as goal

abbrev pub invariant-loop-part : goal.invariant-loop-part
invariant-loop-part l = l.row ++ flat_map (part_holds l.types l.prov) (drop l.part-index l.parts) ≡ l.fn.row ++ flat_map (part_holds l.types l.prov) l.parts
