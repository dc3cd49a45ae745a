use Rattle.std.proofs.Common.{◌≡◌, Some, take}
use Rattle.rb_target.specs.inner.Reading.{start, run}
use Rattle.rb_target.proofs.read.text.read_bytes.Given as goal

abbrev pub invariant-loop-at : goal.invariant-loop-at
invariant-loop-at l = run (Some start) (take l.at l.bytes) ≡ Some l.reader
