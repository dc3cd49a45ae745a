use Rattle.std.proofs.Common.{◌∙◌}
use Rattle.rb_machine.proofs.Modulo.{narrow, wrapped_sub}
use Rattle.rb_machine.proofs.alu.alu.Goals as goal

pub returns-in-Add : goal.returns-in-Add
returns-in-Add c = rw c.in-Add.is (c.low_bits.ensures ∙ narrow _ c.args.bits c.requires.1)

pub returns-in-Sub : goal.returns-in-Sub
returns-in-Sub c = rw c.in-Sub.is (c.low_bits-in-Sub.ensures ∙ wrapped_sub c.args.left c.args.right c.args.bits c.requires.1 c.ranges.right.fits)

pub returns-in-Mul : goal.returns-in-Mul
returns-in-Mul c = rw c.in-Mul.is (c.low_bits-in-Mul.ensures ∙ narrow _ c.args.bits c.requires.1)
