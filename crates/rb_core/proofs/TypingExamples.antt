-- Typing at examples, each computed: types, and the first fault with its token.
use Rattle.std.proofs.Common.{◌≡◌, refl, List, [], ◌∷◌, Some, None, Ok, Err}
use Rattle.rb_core.specs.declared.types.Ty.{Ty}
use Rattle.rb_core.specs.declared.types.Ty.TheVariants.{Int, Named}
use Rattle.rb_core.specs.declared.types.ConRef.{ConRef}
use Rattle.rb_core.specs.declared.types.DataDecl.{DataDecl}
use Rattle.rb_core.specs.declared.program.Fun.{Fun}
use Rattle.rb_core.specs.declared.typing.TypeFault.TheVariants.{Mismatch, Arity, VariableTwice}
use Rattle.rb_core.specs.declared.typing.Binder.{Binder}
use Rattle.rb_core.specs.declared.pattern.Pat as Q
use Rattle.rb_core.specs.declared.pattern.Pat.{Pat}
use Rattle.rb_core.specs.declared.expression.Op.TheVariants.{Add, Mul, Eq}
use Rattle.rb_core.specs.declared.expression.Clause.{Clause}
use Rattle.rb_core.specs.declared.expression.Expr as X
use Rattle.rb_core.specs.declared.expression.Expr.{Expr}
use Rattle.rb_core.specs.Typing.{type_of, pattern_binders, least_width, width_from}
use Rattle.rb_core.specs.TypedPrograms.{function_fault, provenance_fault}
use Rattle.rb_core.proofs.TypingLemmas.{type_rules}

-- type Bit = Off | On; type List = Nil | Cons(u64, List);
abbrev bit_and_list : List DataDecl
bit_and_list =
    record { name = []; cons = record { name = []; fields = [] } ∷ record { name = []; fields = [] } ∷ [] }
    ∷ record { name = []; cons = record { name = []; fields = [] } ∷ record { name = []; fields = Int 64 ∷ Named 1 ∷ [] } ∷ [] }
    ∷ []

abbrev off : ConRef
off = record { ty = 0; con = 0 }

abbrev cons : ConRef
cons = record { ty = 1; con = 1 }

abbrev x_and_y : List Binder
x_and_y = record { var = 0; ty = Int 8 } ∷ record { var = 1; ty = Int 8 } ∷ []

-- a list and a bit
abbrev l_and_b : List Binder
l_and_b = record { var = 0; ty = Named 1 } ∷ record { var = 1; ty = Named 0 } ∷ []

-- a function of the parameters x: u8, at token 3, with this result and body
abbrev of_byte : Ty → Expr → Fun
of_byte result body = record { name = []; params = record { at = 3; var = 0; ty = Int 8 } ∷ []; result = result; body = body }

-- a case of a match
abbrev case : Pat → Expr → Clause
case p e = record { pat = p; body = e }

-- Numbers and variables

-- 255 at u8
byte_fits : type_of [] [] (X.Num 4 255) (Some (Int 8)) [] ≡ Ok (Int 8)
byte_fits = simp type_rules

-- 256 at u8: the least type that holds it is u9
number_is_wide : type_of [] [] (X.Num 4 256) (Some (Int 8)) [] ≡ Err (Mismatch 4 (Int 8) (Int 9))
unfolding least_width width_from
number_is_wide = simp type_rules

-- 0 at List: 0 and 1 are found as u1
number_is_no_list : type_of bit_and_list [] (X.Num 4 0) (Some (Named 1)) [] ≡ Err (Mismatch 4 (Named 1) (Int 1))
unfolding least_width width_from
number_is_no_list = simp type_rules

-- 3 with none wanted
number_alone : type_of [] [] (X.Num 4 3) None [] ≡ Ok (Int 64)
number_alone = simp type_rules

-- fun main(x: u8): u16 = x;
variable_is_narrow : function_fault [] [] (of_byte (Int 16) (X.Var 10 0)) ≡ Some (Mismatch 10 (Int 16) (Int 8))
variable_is_narrow = simp type_rules

-- let x: u16 = 0 in x, within x: u8: the innermost binder counts
inner_hides_outer : type_of [] [] (X.Let 4 0 (Int 16) (X.Num 9 0) (X.Var 11 0)) None x_and_y ≡ Ok (Int 16)
inner_hides_outer = simp type_rules

-- Operators

-- add(x, mul(y, 3)) at u8
sum_is_byte : type_of [] [] (X.Binary 12 Add (X.Var 14 0) (X.Binary 16 Mul (X.Var 18 1) (X.Num 20 3))) (Some (Int 8)) x_and_y ≡ Ok (Int 8)
sum_is_byte = simp type_rules

-- add(1, 2) at u8: both operands have u8 wanted
operands_are_wanted : type_of [] [] (X.Binary 12 Add (X.Num 14 1) (X.Num 16 2)) (Some (Int 8)) [] ≡ Ok (Int 8)
operands_are_wanted = simp type_rules

-- eq(x, 256) with u1 wanted: the second operand has the first's type wanted
second_operand_is_wide : type_of [] [] (X.Binary 12 Eq (X.Var 14 0) (X.Num 16 256)) (Some (Int 1)) x_and_y ≡ Err (Mismatch 16 (Int 8) (Int 9))
unfolding least_width width_from
second_operand_is_wide = simp type_rules

-- eq(x, y) at u8: what is found is u1, after both operands were typed
comparison_is_one_bit : type_of [] [] (X.Binary 12 Eq (X.Var 14 0) (X.Var 16 1)) (Some (Int 8)) x_and_y ≡ Err (Mismatch 12 (Int 8) (Int 1))
comparison_is_one_bit = simp type_rules

-- add(l, b) at List: the fault stands at the operand, of which u64 is wanted
operand_is_no_integer : type_of bit_and_list [] (X.Binary 12 Add (X.Var 14 0) (X.Var 16 1)) (Some (Named 1)) l_and_b ≡ Err (Mismatch 14 (Int 64) (Named 1))
operand_is_no_integer = simp type_rules

-- to u16(x) with none wanted; to u16(l)
widened : type_of [] [] (X.To 12 16 (X.Var 15 0)) None x_and_y ≡ Ok (Int 16)
widened = simp type_rules

list_is_not_widened : type_of bit_and_list [] (X.To 12 16 (X.Var 15 0)) None l_and_b ≡ Err (Mismatch 15 (Int 64) (Named 1))
list_is_not_widened = simp type_rules

-- Calls and constructions

-- f(300, x) where f has one parameter: the number is checked before the arguments
arguments_are_counted : type_of [] (of_byte (Int 8) (X.Var 10 0) ∷ []) (X.Call 20 0 (X.Num 22 300 ∷ X.Var 24 0 ∷ [])) None x_and_y ≡ Err (Arity 20 1 2)
arguments_are_counted = simp type_rules

-- f(300): then each argument has its parameter's type wanted
argument_is_wide : type_of [] (of_byte (Int 8) (X.Var 10 0) ∷ []) (X.Call 20 0 (X.Num 22 300 ∷ [])) None x_and_y ≡ Err (Mismatch 22 (Int 8) (Int 9))
unfolding least_width width_from
argument_is_wide = simp type_rules

-- f(x) at u16: what is found is the result type
result_is_narrow : type_of [] (of_byte (Int 8) (X.Var 10 0) ∷ []) (X.Call 20 0 (X.Var 22 0 ∷ [])) (Some (Int 16)) x_and_y ≡ Err (Mismatch 20 (Int 16) (Int 8))
result_is_narrow = simp type_rules

-- Cons(1, l), Cons(1) and Cons(1, b)
list_is_built : type_of bit_and_list [] (X.Build 20 cons (X.Num 22 1 ∷ X.Var 24 0 ∷ [])) (Some (Named 1)) l_and_b ≡ Ok (Named 1)
list_is_built = simp type_rules

fields_are_counted : type_of bit_and_list [] (X.Build 20 cons (X.Num 22 1 ∷ [])) (Some (Named 1)) l_and_b ≡ Err (Arity 20 2 1)
fields_are_counted = simp type_rules

field_is_no_list : type_of bit_and_list [] (X.Build 20 cons (X.Num 22 1 ∷ X.Var 24 1 ∷ [])) (Some (Named 1)) l_and_b ≡ Err (Mismatch 24 (Named 1) (Named 0))
field_is_no_list = simp type_rules

-- Matches and patterns

-- match l { Nil => 0, Cons(h, t) => h } with none wanted: the first clause's type is wanted of the other
clauses_agree : type_of bit_and_list [] (X.Match 20 (X.Var 21 0)
    (case (Q.Con 23 (record { ty = 1; con = 0 }) []) (X.Num 25 0) ∷ case (Q.Con 27 cons (Q.Var 29 2 ∷ Q.Var 31 3 ∷ [])) (X.Var 34 2) ∷ [])) None l_and_b
    ≡ Ok (Int 64)
clauses_agree = simp type_rules

-- match x { 0 => x, _ => 256 } with none wanted
second_clause_is_wide : type_of [] [] (X.Match 20 (X.Var 21 0) (case (Q.Num 23 0) (X.Var 25 0) ∷ case (Q.Wild 27) (X.Num 29 256) ∷ [])) None x_and_y
    ≡ Err (Mismatch 29 (Int 8) (Int 9))
unfolding least_width width_from
second_clause_is_wide = simp type_rules

-- 256 as a pattern at u8, and Off at List
number_pattern_is_wide : pattern_binders [] (Q.Num 23 256) (Int 8) ≡ Err (Mismatch 23 (Int 8) (Int 9))
unfolding least_width width_from
number_pattern_is_wide = simp type_rules

pattern_is_no_list : pattern_binders bit_and_list (Q.Con 23 off []) (Named 1) ≡ Err (Mismatch 23 (Named 1) (Named 0))
pattern_is_no_list = simp type_rules

-- Cons(Off) at List: the subpatterns are counted before they are typed
subpatterns_are_counted : pattern_binders bit_and_list (Q.Con 23 cons (Q.Con 25 off [] ∷ [])) (Named 1) ≡ Err (Arity 23 2 1)
subpatterns_are_counted = simp type_rules

-- Cons(h, h) at List
variable_stands_twice : pattern_binders bit_and_list (Q.Con 23 cons (Q.Var 25 2 ∷ Q.Var 27 2 ∷ [])) (Named 1) ≡ Err (VariableTwice 27)
variable_stands_twice = simp type_rules

-- Cons(h, Cons(h, 0)) at List: that comes after the whole pattern was typed
pattern_is_typed_first : pattern_binders bit_and_list (Q.Con 23 cons (Q.Var 25 2 ∷ Q.Con 27 cons (Q.Var 29 2 ∷ Q.Num 31 0 ∷ []) ∷ [])) (Named 1)
    ≡ Err (Mismatch 31 (Named 1) (Int 1))
unfolding least_width width_from
pattern_is_typed_first = simp type_rules

-- fun main(x: u8, x: u8): u8 = x;
parameter_stands_twice : function_fault [] [] (record {
  name = [];
  params = record { at = 3; var = 0; ty = Int 8 } ∷ record { at = 7; var = 0; ty = Int 8 } ∷ [];
  result = Int 8;
  body = X.Var 14 0;
}) ≡ Some (VariableTwice 7)
parameter_stands_twice = refl

-- the provenances Nil of a layout of List, and Cons(_)
provenance_is_typed : provenance_fault bit_and_list 1 (Q.Con 9 (record { ty = 1; con = 0 }) []) ≡ None
provenance_is_typed = simp type_rules

provenance_is_counted : provenance_fault bit_and_list 1 (Q.Con 9 cons (Q.Wild 11 ∷ [])) ≡ Some (Arity 9 2 1)
provenance_is_counted = simp type_rules
