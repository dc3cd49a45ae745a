use Rattle.std.proofs.Common.{◌≡◌, ℕ, ◌<◌, [], true}
use Rattle.rb_core.specs.declared.value.Value.TheOpen as V
use Rattle.rb_matrix.specs.Heads.{any_begins}
use Rattle.rb_matrix.proofs.signature.missing_con.Given as goal

abbrev pub invariant-loop-k : goal.invariant-loop-k
invariant-loop-k l = (j : ℕ) → j < l.k → any_begins l.heads (V.Con j []) ≡ true
