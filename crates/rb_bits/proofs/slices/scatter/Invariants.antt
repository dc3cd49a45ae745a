use Rattle.std.proofs.Common.{◌≡◌, drop}
use Rattle.rb_bits.proofs.SliceLemmas.{scattered}
use Rattle.rb_bits.proofs.slices.scatter.Given as goal

-- the slices to come, into the word so far, give what all give
abbrev pub invariant-loop-slice : goal.invariant-loop-slice
invariant-loop-slice l = scattered l.number l.w l.slices ≡ scattered l.number l.word (drop l.slice-index l.slices)
