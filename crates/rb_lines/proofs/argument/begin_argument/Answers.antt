use Rattle.std.proofs.Common.{append_assoc, ap, ◌∙◌, Vec, Global, ℕ}
use Rattle.rb_lines.proofs.argument.begin_argument.Goals as goal

pub returns : goal.returns
returns c = simp append_assoc (ap (λ (v : Vec ℕ Global). v.items) c.into_bytes.ensures.value ∙ c.in_ok-format.ensures.ok)
