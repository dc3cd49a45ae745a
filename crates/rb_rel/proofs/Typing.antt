-- What words represent is of the type.
use Rattle.std.proofs.Common.{◌≡◌, ℕ, suc, ◌+◌, ◌<◌, ◌^◌, ◌==◌, nat_lt, map, List, [], ◌∷◌, Bool, true, Option, Some, None, refl, sym, subst, ap, ◌∙◌, arith}
use Rattle.std.specs.Prelude.{slice_get}
use Rattle.std.proofs.lemmas.Bool.{and_parts}
use Rattle.std.proofs.lemmas.Option.{same_Some}
use Rattle.std.proofs.lemmas.Grind.{common_steps}
use Rattle.rb_core.specs.declared.value.Value.{Value, map-Value, out-Value, fold_out-Value}
use Rattle.rb_core.specs.declared.value.Value.TheOpen as V
use Rattle.rb_core.specs.declared.value.Value.TheOpen.{Value-F}
use Rattle.rb_core.specs.declared.types.Ty.{Ty}
use Rattle.rb_core.specs.declared.types.Ty.TheVariants.{Int, Named}
use Rattle.rb_core.specs.declared.types.ConRef.{ConRef}
use Rattle.rb_core.specs.declared.types.DataDecl.{DataDecl}
use Rattle.rb_core.specs.declared.pattern.Pat.{Pat, Wild, Var, Con}
use Rattle.rb_core.specs.Matching.{matches_of, is_con, is_number, all_pass}
use Rattle.rb_core.specs.Typing.{type_holds}
use Rattle.rb_core.specs.Values.{is_of_type, of_type_step, all_of_types, are_of, fields_of, fields_in, subs_in, sub_at, part_from}
use Rattle.rb_core.proofs.PatternLaws.{Each, induction}
use Rattle.rb_core.proofs.MatchingForms.{matches-Num, matches-Con}
use Rattle.rb_core.proofs.ValueLaws.{is_of_type-Num}
use Rattle.rb_bytes.specs.Memory.{Memory}
use Rattle.rb_layout.specs.declared.layout.Layout.{Layout}
use Rattle.rb_layout.specs.Positions.{Open, below, opens_below, opens_of, types_or_none}
use Rattle.rb_rel.proofs.Lawful.{ProvenancesFit}
use Rattle.rb_rel.specs.Provenances.{fits_type, is_named}
use Rattle.rb_rel.specs.Relation.{Represents, number, built}
use Rattle.rb_rel.proofs.Leaves.{leaf_matches}
use Rattle.rb_rel.proofs.Lists.{and_true, get-left, get-right, get-mapped}
use Rattle.rb_rel.proofs.Opens.{fits-Con, fits-Num, opens-Con, opens-Wild, opens-Var, fitting}
use Rattle.rb_rel.proofs.Reading.{same_nat}

module _ (types : List DataDecl) where
  abbrev AreTyped : List Open → Value → Type 0
  AreTyped opens v = (k : ℕ) (o : Open) → slice_get opens k ≡ Some o → (u : Value) × (part_from (Some v) o.path ≡ Some u) × (is_of_type types u o.ty ≡ true)

  abbrev Types : Pat → Type 0
  Types p = (ty : Ty) (v : Value) → fits_type types p ty ≡ true → matches_of p v ≡ true → AreTyped (opens_of types p ty) v → is_of_type types v ty ≡ true

  fields_typed : (ps : List Pat) → Each Types ps → (ts : List Ty) (vs : List Value) (i : ℕ) (v : Value)
      → ((j : ℕ) → sub_at (Some v) (i + j) ≡ slice_get vs j)
      → all_of_types (map (fits_type types) ps) ts ≡ true → all_pass (map matches_of ps) vs ≡ true
      → AreTyped (opens_below (map (opens_of types) ps) ts i) v → all_of_types (map (is_of_type types) vs) ts ≡ true
  fields_typed [] each [] [] i v av f pv s = refl
  fields_typed [] each [] (x ∷ vs) i v av f pv s = absurd cc
  fields_typed [] each (t ∷ ts) vs i v av f pv s = absurd cc
  fields_typed (p ∷ ps) each [] vs i v av f pv s = absurd cc
  fields_typed (p ∷ ps) each (t ∷ ts) [] i v av f pv s = absurd cc
  fields_typed (p ∷ ps) each (t ∷ ts) (x ∷ vs) i v av f pv s =
      let bf = and_parts (fits_type types p t) (all_of_types (map (fits_type types) ps) ts) f in
      let bv = and_parts (matches_of p x) (all_pass (map matches_of ps) vs) pv in
      let z : i + 0 ≡ i = omega arith in
      let hv : sub_at (Some v) i ≡ Some x = ap (sub_at (Some v)) (sym z) ∙ av 0 in
      let first : is_of_type types x t ≡ true = each.0 t x bf.0 bv.0 (λ k o e.
      let h = s k (below i o) (get-left (map (below i) (opens_of types p t)) (opens_below (map (opens_of types) ps) ts (i + 1)) k (below i o) (get-mapped (below i) (opens_of types p t) k o e)) in
      (h.0, ap (λ w. part_from w o.path) (sym hv) ∙ h.1, h.2)) in
      let shift : (j : ℕ) → i + 1 + j ≡ i + suc j = λ j. omega arith in
      and_true (is_of_type types x t) (all_of_types (map (is_of_type types) vs) ts) first
      (fields_typed ps each.1 ts vs (i + 1) v (λ j. ap (sub_at (Some v)) (shift j) ∙ av (suc j)) bf.1 bv.1
      (λ k o e. let r = get-right (map (below i) (opens_of types p t)) (opens_below (map (opens_of types) ps) ts (i + 1)) k o e in s r.0 o r.1))

  abbrev L : Value-F Value → Ty → Bool
  L x ty = of_type_step types (map-Value Value (Ty → Bool) (is_of_type types) x) ty

  type-out : (v : Value) (ty : Ty) → is_of_type types v ty ≡ L (out-Value v) ty
  type-out v ty = ap (λ (f : Ty → Bool). f ty) (fold_out-Value (Ty → Bool) (of_type_step types) v)

  are_fields : (vs : List (Ty → Bool)) (ps : List (Ty → Bool)) (o : Option (List Ty)) → are_of ps o ≡ true → all_of_types vs (types_or_none o) ≡ true → are_of vs o ≡ true
  are_fields vs ps None f e = absurd cc
  are_fields vs ps (Some ts) f e = e

  layer_typed : (c : ConRef) (ps : List Pat) → Each Types ps → (x : Value-F Value) (v : Value) (ty : Ty) → out-Value v ≡ x
      → is_named c.ty ty ≡ true → are_of (map (fits_type types) ps) (fields_of types c) ≡ true
      → is_con c.con (map matches_of ps) x ≡ true → AreTyped (opens_below (map (opens_of types) ps) (types_or_none (fields_of types c)) 0) v → L x ty ≡ true
  layer_typed c ps each (V.Num n) v ty e nm f mv s = absurd cc
  layer_typed c ps each (V.Con k vs) v (Int bits) e nm f mv s = absurd cc
  layer_typed c ps each (V.Con k vs) v (Named t) e nm f mv s =
      let bv = and_parts (c.con == k) (all_pass (map matches_of ps) vs) mv in
      let sk = same_nat c.con k bv.0 in
      let st = same_nat t c.ty nm in
      let zs : (i : ℕ) → 0 + i ≡ i = λ i. omega arith in
      let inner = fields_typed ps each (types_or_none (fields_of types c)) vs 0 v (λ i. ap (sub_at (Some v)) (zs i) ∙ ap (λ (l : Value-F Value). slice_get (subs_in l) i) e)
      (fitting types (map (fits_type types) ps) (fields_of types c) f) bv.1 s in
      let all : are_of (map (is_of_type types) vs) (fields_of types c) ≡ true = are_fields (map (is_of_type types) vs) (map (fits_type types) ps) (fields_of types c) f inner in
      subst (λ j. are_of (map (is_of_type types) vs) (fields_in (slice_get types t) j) ≡ true) sk
      (subst (λ u. are_of (map (is_of_type types) vs) (fields_in (slice_get types u) c.con) ≡ true) (sym st) all)

  con_types : (at : ℕ) (c : ConRef) (ps : List Pat) → Each Types ps → Types (Con at c ps)
  con_types at c ps each ty v f mv s =
      let b = and_parts (is_named c.ty ty) (are_of (map (fits_type types) ps) (fields_of types c)) (sym (fits-Con types at c ps ty) ∙ f) in
      type-out v ty ∙ layer_typed c ps each (out-Value v) v ty refl b.0 b.1 (sym (matches-Con v at c ps) ∙ mv)
      (λ k o e. s k o (ap (λ (os : List Open). slice_get os k) (opens-Con types at c ps ty) ∙ e))

  num_typed : (n : ℕ) (x : Value-F Value) (ty : Ty) → type_holds ty n ≡ true → is_number n x ≡ true → L x ty ≡ true
  num_typed n (V.Con k vs) ty f m = absurd cc
  num_typed n (V.Num a) (Named t) f m = absurd cc
  num_typed n (V.Num a) (Int bits) f m = ap (λ k. nat_lt k (2 ^ bits)) (sym (same_nat n a m)) ∙ f

  open_typed : (os : List Open) (ty : Ty) (v : Value) → os ≡ record { path = []; ty = ty } ∷ [] → AreTyped os v → is_of_type types v ty ≡ true
  open_typed os ty v is s = let h = s 0 (record { path = []; ty = ty }) (ap (λ (xs : List Open). slice_get xs 0) is) in ap (λ u. is_of_type types u ty) (same_Some _ _ h.1) ∙ h.2

  pub typed_by : (p : Pat) → Types p
  typed_by = induction Types (record {
    wild = λ at ty v f mv s. open_typed (opens_of types (Wild at) ty) ty v (opens-Wild types at ty) s;
    var = λ at x ty v f mv s. open_typed (opens_of types (Var at x) ty) ty v (opens-Var types at x ty) s;
    num = λ at n ty v f mv s. type-out v ty ∙ num_typed n (out-Value v) ty (sym (fits-Num types at n ty) ∙ f) (sym (matches-Num v at n) ∙ mv);
    con = con_types;
  })

below_is : (a b : ℕ) → a < b → nat_lt a b ≡ true
below_is a b lt = grind (arith, common_steps)

module _ (types : List DataDecl) (layouts : List Layout) (m : Memory) (clean : Bool) (fit : ProvenancesFit types layouts) where
  pub Represents-typed : {ty : Ty} {v : Value} {ws : List ℕ} → Represents types layouts m clean ty v ws → is_of_type types v ty ≡ true
  Represents-typed (number bits x lt) = is_of_type-Num types x (Int bits) ∙ below_is x (2 ^ bits) lt
  Represents-typed (built t v ws b below) =
      let root = ap (λ (ty : Ty). opens_of types b.leaf.prov ty) (sym (fit.root t b.layout b.number b.leaf b.is_layout b.is_number)) in
      typed_by types b.leaf.prov (Named t) v (fit.fits t b.layout b.number b.leaf b.is_layout b.is_number)
      (leaf_matches b.layout.leaves v 0 b.number b.leaf b.is_leaf b.number (omega arith) b.is_number)
      (λ k o e0.
      let e = ap (λ (os : List Open). slice_get os k) (sym root) ∙ e0 in
      (b.at o.path, b.is_at k o e, Represents-typed (below k o e)))
