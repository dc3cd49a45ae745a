use Rattle.std.proofs.Common.{append_assoc, rules}
use Rattle.rb_lines.proofs.line.at_instruction.Goals as goal

pub returns : goal.returns
returns c = simp append_assoc (search rules)
