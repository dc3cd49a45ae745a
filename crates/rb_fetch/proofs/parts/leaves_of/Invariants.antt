use Rattle.std.proofs.Common.{◌≡◌, ◌++◌, drop}
use Rattle.rb_fetch.specs.inner.Heads.{leaves_for}
use Rattle.rb_fetch.proofs.parts.leaves_of.Given as goal

abbrev pub invariant-loop-n : goal.invariant-loop-n
invariant-loop-n l = l.found ++ leaves_for l.con (drop l.n l.leaves) l.n ≡ leaves_for l.con l.leaves 0
