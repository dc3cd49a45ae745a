use Rattle.std.proofs.Common.{append_assoc, rules}
use Rattle.rb_lines.proofs.line.trap.Goals as goal

pub returns-in_ok-line-in-Astray : goal.returns-in_ok-line-in-Astray
returns-in_ok-line-in-Astray c = rw c.in-Astray.is (simp append_assoc (search rules))

pub returns-in_ok-line-in-Unwritten : goal.returns-in_ok-line-in-Unwritten
returns-in_ok-line-in-Unwritten c = rw c.in-Unwritten.is (simp append_assoc (search rules))

pub returns-in_ok-line-in-Unmatched : goal.returns-in_ok-line-in-Unmatched
returns-in_ok-line-in-Unmatched c = rw c.in-Unmatched.is (simp append_assoc (search rules))
