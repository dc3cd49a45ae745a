use Rattle.std.proofs.Common.{◌-◌, ◌≤◌, ℕ, List, [], ◌∷◌, length, take, drop, subst, arith, rules}
use Rattle.std.proofs.lemmas.List.{take_all}
use Rattle.rb_command.specs.Command.{Limits, Parsed}
use Rattle.rb_command.specs.inner.Parsing.{with_calls_and_region, function_words, exec_of, numbers_from, StopsAs}
use Rattle.rb_command.specs.declared.command.CommandFault.{CommandFault}
use Rattle.rb_command.proofs.command.parse_function.Goals as goal

-- limits that are at fault behind the function's name
limits_at_fault : (code : List ℕ) (words : List (List ℕ)) (fault : CommandFault) → 1 ≤ length words
    → ((go : Limits → List (List ℕ) → Parsed) → StopsAs (with_calls_and_region 4 (take (length words - 1) (drop 1 words)) go) fault)
    → StopsAs (function_words code words) fault
limits_at_fault code [] fault some known = absurd (omega (arith, some))
limits_at_fault code (function ∷ ws) fault some known =
    subst (λ (rest : List (List ℕ)). StopsAs (with_calls_and_region 4 rest (λ limits vs. exec_of code function limits (numbers_from 6 vs))) fault)
    (take_all (length (function ∷ ws) - 1) ws (omega arith)) (known (λ limits vs. exec_of code function limits (numbers_from 6 vs)))

pub returns-in_err-limits : goal.returns-in_err-limits
returns-in_err-limits c =
    let known = limits_at_fault c.args.code.now c.args.words.now c.in_err-limits.field-0.0 c.in-len1-up.len_at_least c.in_err-limits.ensures in
    search rules
