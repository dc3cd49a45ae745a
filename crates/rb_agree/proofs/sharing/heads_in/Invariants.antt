use Rattle.std.proofs.Common.{◌≡◌, ◌++◌, drop}
use Rattle.rb_agree.specs.inner.Sharing.{heads_in}
use Rattle.rb_agree.proofs.sharing.heads_in.Given as goal

abbrev pub invariant-loop-leaf : goal.invariant-loop-leaf
invariant-loop-leaf l = l.heads ++ heads_in l.path (drop l.leaf-index l.leaves) ≡ heads_in l.path l.leaves
