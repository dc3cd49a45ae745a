use Rattle.std.proofs.Common.{◌≡◌, drop}
use Rattle.rb_compose.specs.inner.Code.{constants}
use Rattle.rb_compose.proofs.word.constants.Given as goal

abbrev pub invariant-loop-part : goal.invariant-loop-part
invariant-loop-part l = constants l.word (drop l.part-index l.parts) ≡ constants 0 l.parts
