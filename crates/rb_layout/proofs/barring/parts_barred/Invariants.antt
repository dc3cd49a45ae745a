use Rattle.std.proofs.Common.{◌≡◌, drop}
use Rattle.rb_layout.specs.inner.Barring.{knows, position_type, parts_barred}
use Rattle.rb_layout.proofs.barring.parts_barred.Given as goal

abbrev pub invariant-loop-part : goal.invariant-loop-part
invariant-loop-part l =
    parts_barred (knows l.entries) (position_type l.types l.prov) l.literal l.parts
    ≡ parts_barred (knows l.entries) (position_type l.types l.prov) l.literal (drop l.part-index l.parts)
