-- The machine's operations are the language's operators.
use Rattle.std.proofs.Common.{◌≡◌, ℕ, refl}
use Rattle.rb_core.specs.declared.expression.Op.{Op}
use Rattle.rb_core.specs.Meaning.{op_value}
use Rattle.rb_target.specs.Meaning.{alu_of}
use Rattle.rb_target.specs.Operators.{alu_op_of}

pub same_operator : (op : Op) (width a b : ℕ) → alu_of (alu_op_of op) width a b ≡ op_value op width a b
same_operator Op.Add width a b = refl
same_operator Op.Sub width a b = refl
same_operator Op.Mul width a b = refl
same_operator Op.And width a b = refl
same_operator Op.Or width a b = refl
same_operator Op.Xor width a b = refl
same_operator Op.Eq width a b = refl
same_operator Op.Lt width a b = refl
