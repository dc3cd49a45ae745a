use Rattle.std.proofs.Common.{◌≡◌, ℕ, ◌<◌, ◌^◌, ◌≤◌}
use Rattle.rb_agree.proofs.blocks.bits_saved.Given as goal

abbrev pub invariant-loop-k : goal.invariant-loop-k
invariant-loop-k l = record {
  power : l.power ≡ 2 ^ l.k;
  small : l.power ≤ 128;
  before : (j : ℕ) → j < l.k → l.align ≡ 2 ^ j → ⊥;
}
