-- Values of types, where each type has one.
use Rattle.std.proofs.Common.{◌≡◌, ℕ, ◌^◌, ◌≤◌, List, [], ◌∷◌, length, true, ◌&&◌, Some, refl, ap, ◌∙◌}
use Rattle.std.specs.Prelude.{slice_get, nat_le}
use Rattle.std.specs.List.{list_all}
use Rattle.std.proofs.lemmas.Bool.{lt-ltb, ltb-true, leb-true}
use Rattle.std.proofs.lemmas.Nat.{pow_pos}
use Rattle.rb_core.specs.declared.value.Value.{Value, Num, out-Value}
use Rattle.rb_core.specs.declared.value.Value.TheOpen as V
use Rattle.rb_core.specs.declared.types.Con as Cons
use Rattle.rb_core.specs.declared.types.DataDecl.{DataDecl}
use Rattle.rb_core.specs.declared.types.Ty.{Ty}
use Rattle.rb_core.specs.declared.types.Ty.TheVariants.{Int, Named}
use Rattle.rb_core.specs.Values.{is_of_type}
use Rattle.rb_core.specs.WellNumbered.{is_type, is_upper, is_between, con_is_numbered, type_is_numbered}
use Rattle.rb_core.proofs.MatchingLemmas.{all_at}
use Rattle.rb_matrix.specs.Rows.{vector_of}
use Rattle.rb_matrix.specs.Search.{IsTypeIn, AreTypesIn, AreInhabited}
use Rattle.rb_matrix.proofs.Vectors.{and-left, and-right, num-of_int}

pub out-num : (n : ℕ) → out-Value (Num n) ≡ V.Num n
unfolding out-Value denote.Hole.Carrier.out
out-num n = refl

module _ (types : List DataDecl) where
  types-in : (ts : List Ty) → list_all (is_type types) ts ≡ true → AreTypesIn types ts
  types-in [] h = tt
  types-in (t ∷ ts) h = (and-left (is_type types t) (list_all (is_type types) ts) h, types-in ts (and-right (is_type types t) (list_all (is_type types) ts) h))

  pub wide : (bits : ℕ) → IsTypeIn types (Int bits) → bits ≤ 64
  wide bits h = leb-true bits 64 (and-right (nat_le 1 bits) (nat_le bits 64) h)

  module _ (i : AreInhabited types) where
    declared : (t : ℕ) (d : DataDecl) → slice_get types t ≡ Some d → type_is_numbered types d ≡ true
    declared t d e = all_at (type_is_numbered types) types t d i.numbered e

    pub con-count : (t : ℕ) (d : DataDecl) → slice_get types t ≡ Some d → length d.cons ≤ 256
    con-count t d e =
        let counts = and-right (is_upper d.name) (is_between 1 256 (length d.cons) && list_all (con_is_numbered types) d.cons) (declared t d e) in
        leb-true (length d.cons) 256 (and-right (nat_le 1 (length d.cons)) (nat_le (length d.cons) 256) (and-left (is_between 1 256 (length d.cons)) (list_all (con_is_numbered types) d.cons) counts))

    pub con-types : (t k : ℕ) (d : DataDecl) (c : Cons.Con) → slice_get types t ≡ Some d → slice_get d.cons k ≡ Some c → AreTypesIn types c.fields
    con-types t k d c e f =
        let counts = and-right (is_upper d.name) (is_between 1 256 (length d.cons) && list_all (con_is_numbered types) d.cons) (declared t d e) in
        let con = all_at (con_is_numbered types) d.cons k c (and-right (is_between 1 256 (length d.cons)) (list_all (con_is_numbered types) d.cons) counts) f in
        types-in c.fields (and-right (nat_le (length c.fields) 32) (list_all (is_type types) c.fields) (and-right (is_upper c.name) (nat_le (length c.fields) 32 && list_all (is_type types) c.fields) con))

    -- a value of a type of the program
    pub live : (t : Ty) → IsTypeIn types t → (v : Value) × (is_of_type types v t ≡ true)
    live (Int bits) h = (Num 0, num-of_int types (Num 0) 0 bits (out-num 0) ∙ lt-ltb 0 (2 ^ bits) (pow_pos bits))
    live (Named t) h = i.values t (ltb-true t (length types) h)

    pub lives : (ts : List Ty) → AreTypesIn types ts → (vs : List Value) × (vector_of types ts vs ≡ true)
    lives [] h = ([], refl)
    lives (t ∷ ts) h = let v = live t h.0 in let vs = lives ts h.1 in (v.0 ∷ vs.0, ap (λ b. b && vector_of types ts vs.0) v.1 ∙ vs.1)
