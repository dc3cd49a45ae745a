use Rattle.std.proofs.Common.{◌≡◌, ℕ, ◌<◌, ◌≤◌, ◌-◌, true}
use Rattle.rb_core.specs.declared.value.Value.TheOpen as V
use Rattle.rb_matrix.specs.Heads.{any_begins}
use Rattle.rb_matrix.proofs.signature.least_missing.Given as goal

abbrev pub invariant-loop-known : goal.invariant-loop-known
invariant-loop-known l = record { within : l.number ≤ l.most; before : (m : ℕ) → m < l.number → any_begins l.heads (V.Num m) ≡ true }

abbrev pub decreases-loop-known : goal.decreases-loop-known
decreases-loop-known l = l.most - l.number
