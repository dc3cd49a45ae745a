use Rattle.std.proofs.Common.{List, ℕ, rules}
use Rattle.rb_command.specs.Command.{gen}
use Rattle.rb_command.specs.inner.Parsing.{alone}
use Rattle.rb_command.proofs.command.parse_gen.Goals as goal

pub returns-in_err-functions : goal.returns-in_err-functions
returns-in_err-functions c =
    let known = c.in_err-functions.ensures (λ (functions : ℕ) (ws : List (List ℕ)). alone 3 (gen functions) ws) in
    search rules
