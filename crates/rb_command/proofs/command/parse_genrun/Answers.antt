use Rattle.std.proofs.Common.{List, ℕ, rules}
use Rattle.rb_command.specs.Command.{Limits, Parsed, genrun}
use Rattle.rb_command.specs.inner.Parsing.{alone, with_calls_and_region}
use Rattle.rb_command.proofs.command.parse_genrun.Goals as goal

abbrev behind : ℕ → List (List ℕ) → Parsed
behind functions ws = with_calls_and_region 3 ws (λ (limits : Limits) (rest : List (List ℕ)). alone 5 (genrun functions limits) rest)

pub returns-in_err-functions : goal.returns-in_err-functions
returns-in_err-functions c = let known = c.in_err-functions.ensures behind in search rules

pub returns-in_err-limits : goal.returns-in_err-limits
returns-in_err-limits c =
    let first = c.in_ok-functions.ensures behind in
    let known = c.in_err-limits.ensures (λ (limits : Limits) (rest : List (List ℕ)). alone 5 (genrun c.in_ok-functions.functions.count limits) rest) in
    search rules
