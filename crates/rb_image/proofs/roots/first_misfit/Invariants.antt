use Rattle.std.proofs.Common.{ℕ, ◌<◌}
use Rattle.rb_image.specs.Roots.{FitsAt}
use Rattle.rb_image.proofs.roots.first_misfit.Given as goal

abbrev pub invariant-loop-i : goal.invariant-loop-i
invariant-loop-i l = (j : ℕ) → j < l.i → FitsAt l.widths l.words j
