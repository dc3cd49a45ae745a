use Rattle.std.proofs.Common.{◌≡◌, ◌++◌, drop}
use Rattle.rb_agree.specs.inner.Values.{provenances_in}
use Rattle.rb_agree.proofs.values.provenances.Given as goal

abbrev pub invariant-loop-leaf : goal.invariant-loop-leaf
invariant-loop-leaf l = l.pats ++ provenances_in (drop l.leaf-index l.leaves) ≡ provenances_in l.leaves
