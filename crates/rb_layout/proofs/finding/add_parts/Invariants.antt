use Rattle.std.proofs.Common.{◌≡◌, drop}
use Rattle.rb_layout.specs.inner.Barring.{position_type}
use Rattle.rb_layout.specs.inner.Finding.{with_parts}
use Rattle.rb_layout.proofs.finding.add_parts.Given as goal

abbrev pub invariant-loop-part : goal.invariant-loop-part
invariant-loop-part l =
    with_parts (position_type l.types l.prov) l.literal l.fn.entries l.parts
    ≡ with_parts (position_type l.types l.prov) l.literal l.entries (drop l.part-index l.parts)
