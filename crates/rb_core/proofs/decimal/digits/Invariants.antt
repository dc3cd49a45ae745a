use Rattle.std.proofs.Common.{◌+◌, ◌≡◌, ◌≤◌, ◌^◌, ◌<◌, ◌++◌, length}
use Rattle.std.specs.Fmt.{decimal}
use Rattle.arrayvec.specs.ArrayVec.{array_vec_len}
use Rattle.rb_core.proofs.decimal.digits.Given as goal

-- the digits of what is left, followed by those so far, are the number's
abbrev pub invariant-loop-rest : goal.invariant-loop-rest
invariant-loop-rest l = record {
  written : decimal l.rest ++ l.digits.items ≡ decimal l.number;
  small : l.rest < 2 ^ 64;
  room : array_vec_len l.digits + length (decimal l.rest) ≤ 20;
}

abbrev pub decreases-loop-rest : goal.decreases-loop-rest
decreases-loop-rest l = l.rest
