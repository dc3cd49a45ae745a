use Rattle.std.proofs.Common.{◌≡◌, ◌+◌, drop}
use Rattle.std.specs.Prelude.{option_map}
use Rattle.rb_decide.specs.ClauseMatrices.{first_test}
use Rattle.rb_decide.proofs.clause_matrix.first_tested.Given as goal

abbrev pub invariant-loop-i : goal.invariant-loop-i
invariant-loop-i l = first_test l.pats ≡ option_map (λ k. l.i + k) (first_test (drop l.i l.pats))
