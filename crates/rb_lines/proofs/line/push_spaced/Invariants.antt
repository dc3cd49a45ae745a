use Rattle.std.proofs.Common.{◌≡◌, ◌++◌, take}
use Rattle.rb_lines.specs.Lines.{numbers_after_blanks}
use Rattle.rb_lines.proofs.line.push_spaced.Given as goal

abbrev pub invariant-loop-number : goal.invariant-loop-number
invariant-loop-number l = l.text.items ≡ l.initial.text.items ++ numbers_after_blanks (take l.number-index l.numbers)
