-- What operators give is of their type.
use Rattle.std.proofs.Common.{◌≡◌, ◌==◌, ℕ, ◌%◌, ◌^◌, ◌<◌, ◌≤◌, Bool, true, false, refl, ap, arith, min}
use Rattle.std.proofs.Math.Nat.{pow-le-pow_right, mod-lt}
use Rattle.std.specs.Prelude.{if◌then◌else◌, nat_lt}
use Rattle.rb_core.specs.declared.value.Value.{Num}
use Rattle.rb_core.specs.declared.value.Value.TheVariants.{outs-Num}
use Rattle.rb_core.specs.declared.types.Ty.TheVariants.{Int}
use Rattle.rb_core.specs.declared.expression.Op.{Op}
use Rattle.rb_core.specs.Typing.{operator_type}
use Rattle.rb_core.specs.Inference.{width_of}
use Rattle.rb_core.specs.Meaning.{op_value, number_in_value, number_of}

pow-pos : (k : ℕ) → 0 < 2 ^ k
pow-pos k = let two : 0 < 2 = omega arith in let none : 0 ≤ k = omega arith in let room = pow-le-pow_right two none in omega (arith, room)

below_width : (n k : ℕ) → n % 2 ^ min k 64 < 2 ^ k
below_width n k =
    let two : 0 < 2 = omega arith in
    let positive : 0 < 2 ^ min k 64 = pow-pos (min k 64) in
    let below = mod-lt n positive in
    let most : min k 64 ≤ k = omega arith in
    let room = pow-le-pow_right two most in
    omega (arith, below, room)

bit_below : (b : Bool) → (if b then 1 else 0) < 2 ^ 1
bit_below true = omega arith
bit_below false = omega arith

-- an operator's value is of its type
pub op_fits : (op : Op) (bits a b : ℕ) → (k : ℕ) × (operator_type op (Int bits) ≡ Int k) × (op_value op (width_of (Int bits)) a b < 2 ^ k)
op_fits Op.Add bits a b = (bits, refl, below_width _ bits)
op_fits Op.Sub bits a b = (bits, refl, below_width _ bits)
op_fits Op.Mul bits a b = (bits, refl, below_width _ bits)
op_fits Op.And bits a b = (bits, refl, below_width _ bits)
op_fits Op.Or bits a b = (bits, refl, below_width _ bits)
op_fits Op.Xor bits a b = (bits, refl, below_width _ bits)
op_fits Op.Eq bits a b = (1, refl, bit_below (a == b))
op_fits Op.Lt bits a b = (1, refl, bit_below (nat_lt a b))

pub number_of-Num : (n : ℕ) → number_of (Num n) ≡ n
number_of-Num n = ap number_in_value (outs-Num n)
