use Rattle.std.proofs.Common.{ℕ, ◌<◌}
use Rattle.rb_layout.specs.Positions.{open_positions}
use Rattle.rb_agree.specs.inner.Parts.{IsApartBefore}
use Rattle.rb_agree.proofs.parts.overlap_fault.Given as goal

abbrev pub invariant-loop-k : goal.invariant-loop-k
invariant-loop-k l = (j : ℕ) → j < l.k → IsApartBefore (open_positions l.types l.prov) l.parts j
