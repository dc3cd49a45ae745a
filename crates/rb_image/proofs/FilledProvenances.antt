-- A provenance that is filled with values at its open positions: the value that it matches and that has them there; and its leaf.
use Rattle.std.proofs.Common.{◌≡◌, ℕ, zero, suc, ◌+◌, ◌==◌, inl, inr, map, List, [], ◌∷◌, true, Some, refl, sym, subst, ap, ◌∙◌, arith}
use Rattle.std.specs.Prelude.{slice_get}
use Rattle.std.proofs.lemmas.Bool.{cases_lt, and_parts}
use Rattle.std.proofs.lemmas.Grind.{common_steps}
use Rattle.std.proofs.lemmas.Option.{same_Some}
use Rattle.rb_core.specs.declared.pattern.Pat.{Pat, Wild, Var, Num, Con}
use Rattle.rb_core.specs.declared.program.Program.{Program}
use Rattle.rb_core.specs.declared.types.ConRef.{ConRef}
use Rattle.rb_core.specs.declared.types.DataDecl.{DataDecl}
use Rattle.rb_core.specs.declared.types.Ty.{Ty}
use Rattle.rb_core.specs.declared.types.Ty.TheVariants.{Named}
use Rattle.rb_core.specs.declared.value.Value.{Value}
use Rattle.rb_core.specs.declared.value.Value as X
use Rattle.rb_core.specs.declared.value.Value.TheVariants.{outs-Num, outs-Con}
use Rattle.rb_core.specs.Matching.{all_pass, is_con, is_number, matches_of}
use Rattle.rb_core.specs.Values.{are_of, all_of_types, fields_of, is_of_type, part_from}
use Rattle.rb_core.proofs.MatchingForms.{matches-Wild, matches-Var, matches-Num, matches-Con}
use Rattle.rb_core.proofs.PatternLaws.{Each, induction, fold-Num}
use Rattle.rb_core.proofs.ValueLaws.{subs-Con}
use Rattle.rb_layout.specs.Agreement.{Agrees}
use Rattle.rb_layout.specs.Flattening.{flat_layouts}
use Rattle.rb_layout.specs.Positions.{Open, below, leaf_of, layout_of, opens_below, opens_of, opens_step, types_or_none}
use Rattle.rb_layout.specs.declared.layout.Layout.{Layout}
use Rattle.rb_layout.specs.declared.layout.Leaf.{Leaf}
use Rattle.rb_rel.proofs.Existence.{first_leaf}
use Rattle.rb_rel.specs.Provenances.{fits_type, is_named}
use Rattle.rb_rel.proofs.Lists.{and_true, get-append, get-map}
use Rattle.rb_rel.proofs.Opens.{fits-Con, fitting, opens-Con, opens-Wild, opens-Var}

same_is : (a : ℕ) → (a == a) ≡ true
same_is a = grind (arith, common_steps)

module _ (types : List DataDecl) where
  -- a value that the pattern matches, with these values at its open positions
  pub record Filled (q : Pat) (ty : Ty) (values : List ℕ → Value) : Type 0 where
    pub value : Value
    pub matches : matches_of q value ≡ true
    pub at : (k : ℕ) (o : Open) → slice_get (opens_of types q ty) k ≡ Some o → part_from (Some value) o.path ≡ Some (values o.path)

  abbrev Fills : Pat → Type 0
  Fills q = (ty : Ty) → fits_type types q ty ≡ true → (values : List ℕ → Value) → Filled q ty values

  -- an open position below field i + field
  record Below (vs : List Value) (i : ℕ) (o : Open) (values : List ℕ → Value) : Type 0 where
    pub field : ℕ
    pub path : List ℕ
    pub value : Value
    pub is_path : o.path ≡ (i + field) ∷ path
    pub is_value : slice_get vs field ≡ Some value
    pub part : part_from (Some value) path ≡ Some (values o.path)

  -- the values of fields, the first of which is field i
  record FilledFields (ps : List Pat) (ts : List Ty) (i : ℕ) (values : List ℕ → Value) : Type 0 where
    pub vs : List Value
    pub pass : all_pass (map matches_of ps) vs ≡ true
    pub at : (k : ℕ) (o : Open) → slice_get (opens_below (map (opens_of types) ps) ts i) k ≡ Some o → Below vs i o values

  fill_fields : (ps : List Pat) → Each Fills ps → (ts : List Ty) (i : ℕ) → all_of_types (map (fits_type types) ps) ts ≡ true → (values : List ℕ → Value) → FilledFields ps ts i values
  fill_fields [] each ts i f values = record { vs = []; pass = refl; at = λ k o e. absurd cc }
  fill_fields (p ∷ ps) each [] i f values = absurd cc
  fill_fields (p ∷ ps) each (t ∷ ts) i f values =
      let b = and_parts (fits_type types p t) (all_of_types (map (fits_type types) ps) ts) f in
      let first = each.0 t b.0 (λ path. values (i ∷ path)) in
      let rest = fill_fields ps each.1 ts (i + 1) b.1 values in
      record {
        vs = first.value ∷ rest.vs;
        pass = and_true (matches_of p first.value) (all_pass (map matches_of ps) rest.vs) first.matches rest.pass;
        at = λ k o e. elim (get-append (map (below i) (opens_of types p t)) (opens_below (map (opens_of types) ps) ts (i + 1)) k o e) [
          | inl h ↦
              let g = get-map (below i) (opens_of types p t) k o h in
              let path : o.path ≡ i ∷ g.0.path = ap (λ (y : Open). y.path) g.2 in
              let z : i ≡ i + 0 = omega arith in
              record {
                field = 0;
                path = g.0.path;
                value = first.value;
                is_path = path ∙ ap (λ j. j ∷ g.0.path) z;
                is_value = refl;
                part = first.at k g.0 g.1 ∙ ap (λ x. Some (values x)) (sym path);
              }
          | inr h ↦
              let r = rest.at h.0 o h.1 in
              let z : i + 1 + r.field ≡ i + suc r.field = omega arith in
              record { field = suc r.field; path = r.path; value = r.value; is_path = r.is_path ∙ ap (λ j. j ∷ r.path) z; is_value = r.is_value; part = r.part }
        ];
      }

  fill_con : (at : ℕ) (c : ConRef) (ps : List Pat) → Each Fills ps → Fills (Con at c ps)
  fill_con at c ps each ty f values =
      let b = and_parts (is_named c.ty ty) (are_of (map (fits_type types) ps) (fields_of types c)) (sym (fits-Con types at c ps ty) ∙ f) in
      let fields = fill_fields ps each (types_or_none (fields_of types c)) 0 (fitting types (map (fits_type types) ps) (fields_of types c) b.1) values in
      let v = X.Con c.con fields.vs in
      record {
        value = v;
        matches = matches-Con v at c ps ∙ ap (is_con c.con (map matches_of ps)) (outs-Con c.con fields.vs) ∙ and_true (c.con == c.con) (all_pass (map matches_of ps) fields.vs) (same_is c.con) fields.pass;
        at = λ k o e.
            let r = fields.at k o (ap (λ (os : List Open). slice_get os k) (sym (opens-Con types at c ps ty)) ∙ e) in
            let z : 0 + r.field ≡ r.field = omega arith in
            ap (part_from (Some v)) (r.is_path ∙ ap (λ j. j ∷ r.path) z) ∙ ap (λ xs. part_from (slice_get xs r.field) r.path) (subs-Con c.con fields.vs)
            ∙ ap (λ x. part_from x r.path) r.is_value ∙ r.part;
      }

  one_open : (os : List Open) (ty : Ty) (values : List ℕ → Value) → os ≡ record { path = []; ty = ty } ∷ [] → (k : ℕ) (o : Open) → slice_get os k ≡ Some o → part_from (Some (values [])) o.path ≡ Some (values o.path)
  one_open os ty values is zero o e =
      let s = same_Some _ o (sym (ap (λ (xs : List Open). slice_get xs 0) is) ∙ e) in
      subst (λ (y : Open). part_from (Some (values [])) y.path ≡ Some (values y.path)) s refl
  one_open os ty values is (suc k) o e = let h = sym (ap (λ (xs : List Open). slice_get xs (suc k)) is) ∙ e in absurd cc

  no_open : (os : List Open) (A : Type 0) → os ≡ [] → (k : ℕ) (o : Open) → slice_get os k ≡ Some o → A
  no_open os A is k o e = let h = sym (ap (λ (xs : List Open). slice_get xs k) is) ∙ e in absurd cc

  pub fill : (q : Pat) → Fills q
  fill = induction Fills (record {
    wild = λ at ty f values. record { value = values []; matches = matches-Wild (values []) at; at = one_open (opens_of types (Wild at) ty) ty values (opens-Wild types at ty) };
    var = λ at x ty f values. record { value = values []; matches = matches-Var (values []) at x; at = one_open (opens_of types (Var at x) ty) ty values (opens-Var types at x ty) };
    num = λ at n ty f values. record {
      value = X.Num n;
      matches = matches-Num (X.Num n) at n ∙ ap (is_number n) (outs-Num n) ∙ same_is n;
      at = λ k o e. no_open (opens_of types (Num at n) ty) (part_from (Some (X.Num n)) o.path ≡ Some (values o.path)) (ap (λ (g : Ty → List Open). g ty) (fold-Num (Ty → List Open) (opens_step types) at n)) k o e;
    };
    con = fill_con;
  })

-- The leaf of a value ------------------------------------------------------------------------
-- a value is matched by one leaf of its type at most, so that leaf is its own
pub own_leaf : (p : Program) → Agrees p → (t : ℕ) (layout : Layout) (n : ℕ) (leaf : Leaf) → layout_of (flat_layouts p) t ≡ Some layout → slice_get layout.leaves n ≡ Some leaf
    → (v : Value) → is_of_type p.types v (Named t) ≡ true → matches_of leaf.prov v ≡ true → leaf_of layout v ≡ Some n
own_leaf p agrees t layout n leaf is at v typed matches =
    let f = first_leaf layout.leaves v n leaf at matches 0 in
    let z : 0 + f.0 ≡ f.0 = omega arith in
    let apart = agrees.a5.apart in
    let same : f.0 ≡ n = elim (cases_lt f.0 n) [
      | inl lt ↦ absurd (apart t layout f.0 f.1 is f.3 n leaf lt at (v, typed, f.4, matches))
      | inr le ↦ elim (cases_lt n f.0) [
        | inl lt ↦ absurd (apart t layout n leaf is at f.0 f.1 lt f.3 (v, typed, matches, f.4))
        | inr ge ↦ omega (arith, le, ge)
      ]
    ] in
    f.2 ∙ ap Some (z ∙ same)
