use Rattle.std.proofs.Common.{◌≡◌, [], true}
use Rattle.rb_core.specs.declared.value.Value.TheOpen as V
use Rattle.rb_matrix.specs.Heads.{any_begins}
use Rattle.rb_decide.specs.ClauseMatrices.{all_below}
use Rattle.rb_decide.proofs.signature.has_constructors.Given as goal

abbrev pub invariant-loop-k : goal.invariant-loop-k
invariant-loop-k l = all_below l.k (λ k. any_begins l.heads (V.Con k [])) ≡ true
