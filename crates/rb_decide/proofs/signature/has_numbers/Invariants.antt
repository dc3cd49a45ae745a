use Rattle.std.proofs.Common.{◌≡◌, ◌-◌, ◌≤◌, true}
use Rattle.rb_core.specs.declared.value.Value.TheOpen as V
use Rattle.rb_matrix.specs.Heads.{any_begins}
use Rattle.rb_decide.specs.ClauseMatrices.{all_below}
use Rattle.rb_decide.proofs.signature.has_numbers.Given as goal

abbrev pub invariant-loop-most : goal.invariant-loop-most
invariant-loop-most l = record { within : l.number ≤ l.most; before : all_below l.number (λ n. any_begins l.heads (V.Num n)) ≡ true }

abbrev pub decreases-loop-most : goal.decreases-loop-most
decreases-loop-most l = l.most - l.number
