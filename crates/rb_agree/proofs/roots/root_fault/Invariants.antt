use Rattle.std.proofs.Common.{◌≡◌, ℕ, ◌<◌}
use Rattle.std.specs.Prelude.{slice_get}
use Rattle.rb_layout.specs.A2.{widths_of}
use Rattle.rb_agree.proofs.roots.root_fault.Given as goal

abbrev pub invariant-loop-i : goal.invariant-loop-i
invariant-loop-i l = (k : ℕ) → k < l.i → slice_get (widths_of l.root) k ≡ slice_get l.shape k
