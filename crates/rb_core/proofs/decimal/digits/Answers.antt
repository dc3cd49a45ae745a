use Rattle.std.proofs.Common.{length, ◌/◌, ◌++◌, ◌∙◌, ap, arith, lit<}
use Rattle.std.specs.Fmt.{decimal}
use Rattle.std.proofs.lemmas.Fmt.{decimal_nonempty}
use Rattle.rb_core.proofs.Decimals.{none_written, digit_written, last_written, length-decimal_step, length-decimal-le_20}
use Rattle.rb_core.proofs.decimal.digits.Goals as goal

pub loop-rest-init : goal.loop-rest-init
loop-rest-init c = record {
  written = none_written c.args.number _ c.new-digits.ensures;
  small = c.ranges.number.fits;
  room = omega (arith, ap (λ xs. length xs) c.new-digits.ensures, length-decimal-le_20 c.args.number c.ranges.number.fits);
}

pub insert-requires : goal.insert-requires
insert-requires c =
    (lit< tt, (omega arith, omega (arith, c.loop-rest.invariant.room, decimal_nonempty c.loop-rest.rest c.loop-rest.invariant.small)))

pub loop-rest-preserved : goal.loop-rest-preserved
loop-rest-preserved c = record {
  written = ap (λ xs. decimal (c.loop-rest.rest / 10) ++ xs) c.insert.ensures.items
      ∙ digit_written c.loop-rest.rest _ c.loop-rest-test.true c.loop-rest.invariant.small ∙ c.loop-rest.invariant.written;
  small = omega (arith, c.loop-rest.invariant.small);
  room = omega (arith, c.loop-rest.invariant.room, c.insert.ensures.len, length-decimal_step c.loop-rest.rest c.loop-rest-test.true c.loop-rest.invariant.small);
}

pub insert-requires-2 : goal.insert-requires-2
insert-requires-2 c =
    (lit< tt, (omega arith, omega (arith, c.loop-rest.invariant.room, decimal_nonempty c.loop-rest.rest c.loop-rest.invariant.small)))

pub returns : goal.returns
returns c = c.insert-2.ensures.items ∙ last_written c.loop-rest.rest _ c.loop-rest-test.false ∙ c.loop-rest.invariant.written
