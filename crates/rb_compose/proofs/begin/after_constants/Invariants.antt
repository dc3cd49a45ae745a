use Rattle.std.proofs.Common.{◌≡◌, drop}
use Rattle.rb_compose.specs.inner.Code.{after_constants}
use Rattle.rb_compose.proofs.begin.after_constants.Given as goal

abbrev pub invariant-loop-i : goal.invariant-loop-i
invariant-loop-i l = after_constants (drop l.i l.parts) ≡ after_constants l.parts
