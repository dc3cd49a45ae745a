use Rattle.std.proofs.Common.{sym, ap, ◌∙◌, ◌^◌, Some, ◌<◌, arith}
use Rattle.std.specs.Fmt.{decimal}
use Rattle.std.specs.Str.Parse.{digits_value}
use Rattle.rb_core.proofs.Decimals.{numeral_spelled, numeral-decimal, value-decimal}
use Rattle.rb_core.proofs.decimal.number_in.Goals as goal

pub returns-then-not-is_numeral-clause-only : goal.returns-then-not-is_numeral-clause-only
returns-then-not-is_numeral-clause-only c n low high e =
    absurd (cc (c.if-not-is_numeral.ensures, e, numeral-decimal n (omega (arith, high, c.ranges.high.fits))))

-- the number read is below 2 ^ 64, as `high` is
pub returns-then-number-high-clause-spelled : goal.returns-then-number-high-clause-spelled
returns-then-number-high-clause-spelled c =
    sym (ap decimal c.in-Some.ensures ∙ numeral_spelled c.args.word.now (sym c.if-not-is_numeral.ensures)
    (rw (sym c.in-Some.ensures) (omega (arith, c.if-number-high.true, c.ranges.high.fits))))

pub returns-then-number-high-clause-only : goal.returns-then-number-high-clause-only
returns-then-number-high-clause-only c n low high e =
    ap Some (c.in-Some.ensures ∙ ap (digits_value 10) e ∙ value-decimal n (omega (arith, high, c.ranges.high.fits)))

pub returns-else-low-number-clause-only : goal.returns-else-low-number-clause-only
returns-else-low-number-clause-only c n low high e =
    let same = c.in-Some.ensures ∙ ap (digits_value 10) e ∙ value-decimal n (omega (arith, high, c.ranges.high.fits)) in
    absurd (omega (arith, same, low, high, c.else-low-number.either))

pub returns-in-None-clause-only : goal.returns-in-None-clause-only
returns-in-None-clause-only c n low high e =
    let small : n < 2 ^ 64 = omega (arith, high, c.ranges.high.fits) in
    absurd (omega (arith, c.in-None.ensures, small, ap (digits_value 10) e ∙ value-decimal n small))
