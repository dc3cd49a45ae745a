use Rattle.std.proofs.Common.{◌≡◌, drop}
use Rattle.rb_fetch.specs.inner.Heads.{take_apart}
use Rattle.rb_fetch.proofs.heads.take_apart.Given as goal

abbrev pub invariant-loop-leaf : goal.invariant-loop-leaf
invariant-loop-leaf l = take_apart l.layouts l.ty l.path (drop l.leaf-index l.leaves) ≡ take_apart l.layouts l.ty l.path l.leaves
