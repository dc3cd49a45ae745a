use Rattle.std.proofs.Common.{◌≡◌, ◌++◌}
use Rattle.ribbit_tool.specs.Generate.{sum_lines}
use Rattle.ribbit_tool.proofs.generate.push_sums.Given as goal

abbrev pub invariant-loop-i : goal.invariant-loop-i
invariant-loop-i l = l.text.items ≡ l.initial.text.items ++ sum_lines l.functions.count 0 l.i
