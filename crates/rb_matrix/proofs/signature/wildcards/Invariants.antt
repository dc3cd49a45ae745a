use Rattle.std.proofs.Common.{◌≡◌}
use Rattle.rb_matrix.specs.Specialize.{wilds}
use Rattle.rb_matrix.proofs.signature.wildcards.Given as goal

abbrev pub invariant-loop-i : goal.invariant-loop-i
invariant-loop-i l = l.row ≡ wilds l._i
