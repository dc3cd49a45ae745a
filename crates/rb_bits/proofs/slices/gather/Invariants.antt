use Rattle.std.proofs.Common.{◌≡◌, drop}
use Rattle.rb_bits.proofs.SliceLemmas.{gathered}
use Rattle.rb_bits.proofs.slices.gather.Given as goal

-- the slices to come, onto the number so far, give what all give
abbrev pub invariant-loop-slice : goal.invariant-loop-slice
invariant-loop-slice l = gathered l.w 0 l.slices ≡ gathered l.w l.number (drop l.slice-index l.slices)
