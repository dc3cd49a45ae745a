use Rattle.std.proofs.Common.{◌≡◌, ◌+◌, drop}
use Rattle.rb_command.specs.inner.Parsing.{numbers_from}
use Rattle.rb_command.proofs.WordsRead.{prepended}
use Rattle.rb_command.proofs.command.parse_numbers.Given as goal

-- the numbers so far and those of what is left are all
abbrev pub invariant-loop-i : goal.invariant-loop-i
invariant-loop-i l = prepended l.numbers (numbers_from (6 + l.i) (drop l.i l.words)) ≡ numbers_from 6 l.words
