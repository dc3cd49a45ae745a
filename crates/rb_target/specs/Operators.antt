-- The machine's operation for each of the language's operators.
use Rattle.rb_core.specs.declared.expression.Op.{Op}
use Rattle.rb_target.specs.declared.instr.AluOp.{AluOp}
use Rattle.rb_target.specs.declared.instr.AluOp.TheVariants as A

-- the machine's operation that gives an operator's value
abbrev pub alu_op_of : Op → AluOp
alu_op_of Op.Add = A.Add
alu_op_of Op.Sub = A.Sub
alu_op_of Op.Mul = A.Mul
alu_op_of Op.And = A.And
alu_op_of Op.Or = A.Or
alu_op_of Op.Xor = A.Xor
alu_op_of Op.Eq = A.Eq
alu_op_of Op.Lt = A.Lt
