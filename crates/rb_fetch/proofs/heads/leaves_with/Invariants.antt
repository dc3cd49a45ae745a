use Rattle.std.proofs.Common.{◌≡◌, ◌++◌, drop}
use Rattle.rb_fetch.specs.inner.Heads.{leaves_that_can_be}
use Rattle.rb_fetch.proofs.heads.leaves_with.Given as goal

abbrev pub invariant-loop-leaf : goal.invariant-loop-leaf
invariant-loop-leaf l =
    l.kept ++ leaves_that_can_be l.layouts l.ty l.path l.con (drop l.leaf-index l.leaves) ≡ leaves_that_can_be l.layouts l.ty l.path l.con l.leaves
