use Rattle.std.proofs.Common.{◌≡◌, drop}
use Rattle.rb_fetch.specs.inner.Reads.{span_on}
use Rattle.rb_fetch.proofs.span.span_behind.Given as goal

abbrev pub invariant-loop-step : goal.invariant-loop-step
invariant-loop-step l = span_on l.fn.first l.steps ≡ span_on l.span (drop l.step-index l.steps)
