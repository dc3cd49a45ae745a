use Rattle.std.proofs.Common.{◌≡◌, ◌+◌, ◌≤◌, drop}
use Rattle.rb_agree.specs.inner.Held.{times}
use Rattle.rb_agree.proofs.held.times.Given as goal

abbrev pub invariant-loop-run : goal.invariant-loop-run
invariant-loop-run l = record {
  rest : l.count + times (drop l.run-index l.runs) l.unit ≡ times l.runs l.unit;
  few : l.count ≤ l.run-index;
}
