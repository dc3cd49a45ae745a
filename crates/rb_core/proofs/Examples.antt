-- Values, matching and the source meaning at worked examples, each computed.
use Rattle.std.proofs.Common.{◌≡◌, List, [], ◌∷◌, refl, true, false, Some}
use Rattle.rb_core.specs.declared.value.Value.{Value, Num, Con}
use Rattle.rb_core.specs.declared.types.Ty.TheVariants.{Int, Named}
use Rattle.rb_core.specs.declared.types.DataDecl.{DataDecl}
use Rattle.rb_core.specs.declared.pattern.Pat.{Pat}
use Rattle.rb_core.specs.declared.pattern.Pat as Q
use Rattle.rb_core.specs.declared.program.Program.{Program}
use Rattle.rb_core.specs.declared.outcome.SourceEnd.TheVariants.{Done, Spent}
use Rattle.rb_core.specs.declared.expression.Op.TheVariants.{Add, Mul}
use Rattle.rb_core.specs.declared.expression.Expr as X
use Rattle.rb_core.specs.Values.{node_count, is_of_type, part_at}
use Rattle.rb_core.specs.Matching.{matches_of, bindings, chosen_clause}
use Rattle.rb_core.specs.Meaning.{then_do, then_with, call_of}
use Rattle.rb_core.proofs.ValueLaws.{value_rules}
use Rattle.rb_core.proofs.MatchingForms.{matching_rules}
use Rattle.rb_core.proofs.MeaningForms.{meaning-Num, meaning-Var, meaning-Binary}

-- type List = Nil | Cons(u64, List);
abbrev list : List DataDecl
list = record { name = []; cons = record { name = []; fields = [] } ∷ record { name = []; fields = Int 64 ∷ Named 0 ∷ [] } ∷ [] } ∷ []

-- Cons(1, Cons(2, Nil))
abbrev one_two : Value
one_two = Con 1 (Num 1 ∷ Con 1 (Num 2 ∷ Con 0 [] ∷ []) ∷ [])

five_nodes : node_count one_two ≡ 5
five_nodes = simp value_rules

is_a_list : is_of_type list one_two (Named 0) ≡ true
is_a_list = simp value_rules

-- Cons(1)
is_no_list : is_of_type list (Con 1 (Num 1 ∷ [])) (Named 0) ≡ false
is_no_list = simp value_rules

second_item : part_at one_two (1 ∷ 0 ∷ []) ≡ Some (Num 2)
second_item = simp value_rules

-- Cons(x, Cons(2, _))
abbrev two_second : Pat
two_second = Q.Con 0 (record { ty = 0; con = 1 }) (Q.Var 1 5 ∷ Q.Con 2 (record { ty = 0; con = 1 }) (Q.Num 3 2 ∷ Q.Wild 4 ∷ []) ∷ [])

matches_list : matches_of two_second one_two ≡ true
matches_list = simp (value_rules, matching_rules)

binds_first : bindings two_second one_two ≡ record { var = 5; value = Num 1 } ∷ []
binds_first = simp (value_rules, matching_rules)

-- of the clauses `7`, `_` and `6`, at 6
takes_the_first : chosen_clause (Q.Num 0 7 ∷ Q.Wild 1 ∷ Q.Num 2 6 ∷ []) (Num 6) ≡ Some 1
takes_the_first = simp (value_rules, matching_rules)

-- fun main(x: u8, y: u8): u8 = add(x, mul(y, 3));
abbrev triple_and_add : Program
triple_and_add = record {
  types = [];
  layouts = [];
  funs = record {
    name = [];
    params = record { at = 0; var = 0; ty = Int 8 } ∷ record { at = 0; var = 1; ty = Int 8 } ∷ [];
    result = Int 8;
    body = X.Binary 0 Add (X.Var 1 0) (X.Binary 2 Mul (X.Var 3 1) (X.Num 4 3));
  } ∷ [];
  main = 0;
}

-- 250 + 6 modulo 256
sum_is_zero : call_of triple_and_add 0 1 (Num 250 ∷ Num 2 ∷ []) ≡ record { log = []; end = Done (Num 0) 0 }
unfolding then_do then_with
sum_is_zero = simp (value_rules, meaning-Num, meaning-Var, meaning-Binary)

no_call_left : call_of triple_and_add 0 0 (Num 250 ∷ Num 2 ∷ []) ≡ record { log = []; end = Spent }
no_call_left = refl
