use Rattle.std.proofs.Common.{◌≡◌, []}
use Rattle.rb_command.specs.inner.Parsing.{steps_from}
use Rattle.rb_command.proofs.PathsRead.{prepended, steps_left}
use Rattle.rb_command.proofs.path.parse_steps.Given as goal

-- the steps so far and those of what is left are all
abbrev pub invariant-loop-digits : goal.invariant-loop-digits
invariant-loop-digits l = prepended l.path (steps_left l.digits-iterator.done l.digits-iterator.rest.now) ≡ steps_from [] l.text
