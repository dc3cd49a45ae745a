use Rattle.std.proofs.Common.{◌≡◌, ◌++◌, drop}
use Rattle.rb_fetch.specs.inner.Choosing.{parts_under}
use Rattle.rb_fetch.proofs.parts.add_parts.Given as goal

abbrev pub invariant-loop-i : goal.invariant-loop-i
invariant-loop-i l = l.parts ++ parts_under l.path l.i (drop l.i l.fields) ≡ l.fn.parts ++ parts_under l.path 0 l.fields
