-- Constructors of numbered types have few fields.
use Rattle.std.proofs.Common.{◌≡◌, ℕ, ◌≤◌, ◌&&◌, length, nat_le, List, true, Option, Some, None, refl, arith}
use Rattle.std.specs.Prelude.{slice_get}
use Rattle.std.specs.List.{list_all}
use Rattle.std.proofs.lemmas.Bool.{and_parts}
use Rattle.std.proofs.lemmas.Grind.{common_steps}
use Rattle.rb_core.specs.declared.types.Con.{Con}
use Rattle.rb_core.specs.declared.types.DataDecl.{DataDecl}
use Rattle.rb_core.specs.Values.{fields_in, fields_of_con}
use Rattle.rb_core.specs.WellNumbered.{is_between, is_type, is_upper, con_is_numbered, type_is_numbered}
use Rattle.rb_core.proofs.MatchingLemmas.{all_at}
use Rattle.rb_layout.specs.Positions.{types_or_none}
use Rattle.rb_coding.specs.FewFields.{AreFew, HaveFewFields}

le_is : (a b : ℕ) → nat_le a b ≡ true → a ≤ b
le_is a b e = grind (arith, common_steps)

module _ (types : List DataDecl) (numbered : list_all (type_is_numbered types) types ≡ true) where
  con_few : (cons : List Con) (k : ℕ) → list_all (con_is_numbered types) cons ≡ true → (o : Option Con) → slice_get cons k ≡ o → AreFew (types_or_none (fields_of_con o))
  con_few cons k all None e = omega arith
  con_few cons k all (Some c) e =
      let a = and_parts (is_upper c.name) (nat_le (length c.fields) 32 && list_all (is_type types) c.fields) (all_at (con_is_numbered types) cons k c all e) in
      let b = and_parts (nat_le (length c.fields) 32) (list_all (is_type types) c.fields) a.1 in
      let l = le_is (length c.fields) 32 b.0 in
      omega (arith, l)

  type_few : (t k : ℕ) (o : Option DataDecl) → slice_get types t ≡ o → AreFew (types_or_none (fields_in o k))
  type_few t k None e = omega arith
  type_few t k (Some d) e =
      let a = and_parts (is_upper d.name) (is_between 1 256 (length d.cons) && list_all (con_is_numbered types) d.cons) (all_at (type_is_numbered types) types t d numbered e) in
      let b = and_parts (is_between 1 256 (length d.cons)) (list_all (con_is_numbered types) d.cons) a.1 in
      con_few d.cons k b.1 (slice_get d.cons k) refl

  pub few_fields : HaveFewFields types
  few_fields t k = type_few t k (slice_get types t) refl
