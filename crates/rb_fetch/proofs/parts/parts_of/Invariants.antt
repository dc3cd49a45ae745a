use Rattle.std.proofs.Common.{◌≡◌, ◌++◌, drop}
use Rattle.rb_fetch.specs.inner.Choosing.{parts_from}
use Rattle.rb_fetch.proofs.parts.parts_of.Given as goal

abbrev pub invariant-loop-i : goal.invariant-loop-i
invariant-loop-i l = l.parts ++ parts_from l.i (drop l.i l.args) ≡ parts_from 0 l.args
