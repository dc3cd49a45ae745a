use Rattle.std.proofs.Common.{◌≤◌, ◌<◌, ◌^◌, ℕ, arith, sym}
use Rattle.std.specs.Str.Parse.{digits_value}
use Rattle.std.proofs.lemmas.Str.{IsUtf8-from_ascii}
use Rattle.std.proofs.lemmas.Fmt.{IsAscii-from_digits}
use Rattle.std.proofs.lemmas.Str.Parse.{parse_digits}
use Rattle.rb_core.proofs.Decimals.{own, digits-numeral, some-numeral}
use Rattle.rb_core.proofs.decimal.value_of.Goals as goal

by_refusal : (n : ℕ) → (n < 2 ^ 64 → ⊥) → 2 ^ 64 ≤ n
by_refusal n refused = grind (arith, refused)

pub returns-in-Err-parse : goal.returns-in-Err-parse
returns-in-Err-parse c =
    let all_digits = digits-numeral c.args.numeral.now c.requires in
    let read = parse_digits own 64 c.args.numeral.now c.parse.result (rw (sym c.in-Ok.ensures.cases.0) c.parse.ensures.value.0) all_digits in
    let refused = rw c.in-Err-parse.is at read in
    by_refusal (digits_value 10 c.args.numeral.now) (λ lt. refused (some-numeral c.args.numeral.now c.requires, lt))

pub returns-in-Err : goal.returns-in-Err
returns-in-Err c =
    absurd (c.in-Err.ensures.cases.0 (IsUtf8-from_ascii c.args.numeral.now (IsAscii-from_digits c.args.numeral.now (own.to c.args.numeral.now (digits-numeral c.args.numeral.now c.requires)))))
