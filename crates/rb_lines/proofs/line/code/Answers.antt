use Rattle.std.proofs.Common.{append_assoc, rules}
use Rattle.rb_lines.proofs.line.code.Goals as goal

pub returns-in_ok-line-in-CodeSyntax : goal.returns-in_ok-line-in-CodeSyntax
returns-in_ok-line-in-CodeSyntax c = rw c.in-CodeSyntax.is (simp append_assoc (search rules))
