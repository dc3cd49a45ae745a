use Rattle.std.proofs.Common.{List, ℕ, Ok, rules}
use Rattle.rb_command.specs.Command.{Limits}
use Rattle.rb_command.proofs.command.parse_call.Goals as goal

pub returns-in_err-limits : goal.returns-in_err-limits
returns-in_err-limits c command =
    let known = c.in_err-limits.ensures (λ (limits : Limits) (values : List (List ℕ)). Ok (command c.file-item.result limits values)) in
    search rules
