-- A value that a pattern matches has the pattern's constructors at their positions, and a value of its type that
-- has them is matched.
use Rattle.std.proofs.Common.{◌≡◌, ℕ, zero, suc, ◌+◌, ◌==◌, ◌&&◌, map, List, [], ◌∷◌, ◌++◌, true, Option, Some, None, refl, sym, subst, ap, ◌∙◌, arith, inl, inr}
use Rattle.std.specs.Prelude.{slice_get}
use Rattle.std.specs.List.{list_all}
use Rattle.std.proofs.lemmas.Bool.{and_parts}
use Rattle.std.proofs.lemmas.Option.{same_Some}
use Rattle.rb_core.specs.declared.value.Value.{Value, out-Value, roll-Value, roll-out-Value}
use Rattle.rb_core.specs.declared.value.Value as Values
use Rattle.rb_core.specs.declared.value.Value.TheOpen as V
use Rattle.rb_core.specs.declared.value.Value.TheOpen.{Value-F}
use Rattle.rb_core.specs.declared.types.Ty.{Ty}
use Rattle.rb_core.specs.declared.types.Ty.TheVariants.{Int, Named}
use Rattle.rb_core.specs.declared.types.ConRef.{ConRef}
use Rattle.rb_core.specs.declared.types.DataDecl.{DataDecl}
use Rattle.rb_core.specs.declared.pattern.Pat.{Pat, Con}
use Rattle.rb_core.specs.declared.pattern.Pat.TheFolds.{fold-Pat}
use Rattle.rb_core.specs.Matching.{matches_of, is_con, all_pass}
use Rattle.rb_core.specs.Values.{subs_in, sub_at, part_at, part_from, all_of_types, are_of, fields_in, fields_of, is_of_type}
use Rattle.rb_core.specs.WellNumbered.{Below, below_step, may_be_below}
use Rattle.rb_core.proofs.PatternLaws as PL
use Rattle.rb_core.proofs.MatchingForms.{matches-Wild, matches-Var, matches-Con}
use Rattle.rb_core.proofs.ValueLaws.{is_of_type-Con}
use Rattle.rb_rel.specs.Switches.{HeadAt, head_below, heads_below, heads_of, heads_step}
use Rattle.rb_rel.specs.Provenances.{fits_type, is_named}
use Rattle.rb_rel.proofs.Lists.{and_true, get-append, get-map, get-left, get-right, get-mapped}
use Rattle.rb_rel.proofs.Opens.{fits-Con}
use Rattle.rb_rel.proofs.Reading.{same_nat}
use Rattle.rb_fetch.specs.inner.Choosing.{HasAll, HasCon, root_con}

pub heads-Con : (at : ℕ) (c : ConRef) (ps : List Pat) → heads_of (Con at c ps) ≡ record { path = []; con = c } ∷ heads_below (map heads_of ps) 0
heads-Con at c ps = PL.fold-Con (List HeadAt) heads_step at c ps

pub part-append : (o : Option Value) (p q : List ℕ) → part_from o (p ++ q) ≡ part_from (part_from o p) q
part-append o [] q = refl
part-append o (i ∷ p) q = part-append (sub_at o i) p q

pub same-self : (n : ℕ) → (n == n) ≡ true
same-self n = grind arith

-- the subvalues of a layer
part-sub : (v : Value) (lv : Value-F Value) → out-Value v ≡ lv → (i : ℕ) (rest : List ℕ) (x : Value) → slice_get (subs_in lv) i ≡ Some x → part_at v (i ∷ rest) ≡ part_at x rest
part-sub v lv e i rest x at = ap (λ (l : Value-F Value). part_from (slice_get (subs_in l) i) rest) e ∙ ap (λ o. part_from o rest) at

-- a layer is rolled into a construction
rolled : (k : ℕ) (us : List Value) → roll-Value (V.Con k us) ≡ Values.Con k us
unfolding roll-Value denote.Hole.Carrier.roll
rolled k us = refl

-- From matching -----------------------------------------------------------------------------------

abbrev Shows : Pat → Type 0
Shows p = (v : Value) → matches_of p v ≡ true → HasAll (heads_of p) v

-- a head below the fields from i on is one of some field's
record InField (vs : List Value) (i : ℕ) (h : HeadAt) : Type 0 where
  number : ℕ
  value : Value
  rest : List ℕ
  is_path : h.path ≡ (i + number) ∷ rest
  is_value : slice_get vs number ≡ Some value
  has : HasCon value rest h.con.con

in_fields : (ps : List Pat) → PL.Each Shows ps → (vs : List Value) → all_pass (map matches_of ps) vs ≡ true → (i k : ℕ) (h : HeadAt) → slice_get (heads_below (map heads_of ps) i) k ≡ Some h → InField vs i h
in_fields [] each vs pass i k h e = absurd cc
in_fields (p ∷ ps) each [] pass i k h e = absurd cc
in_fields (p ∷ ps) each (v ∷ vs) pass i k h e =
    let b = and_parts (matches_of p v) (all_pass (map matches_of ps) vs) pass in
    elim (get-append (map (head_below i) (heads_of p)) (heads_below (map heads_of ps) (i + 1)) k h e) [
      | inl a ↦
          let g = get-map (head_below i) (heads_of p) k h a in
          let c = each.0 v b.0 k g.0 g.1 in
          let z : i ≡ i + 0 = omega arith in
          record {
            number = 0;
            value = v;
            rest = g.0.path;
            is_path = ap (λ (x : HeadAt). x.path) g.2 ∙ ap (λ n. n ∷ g.0.path) z;
            is_value = refl;
            has = subst (λ (x : HeadAt). HasCon v g.0.path x.con.con) (sym g.2) c;
          }
      | inr a ↦
          let r = in_fields ps each.1 vs b.1 (i + 1) a.0 h a.1 in
          let z : i + 1 + r.number ≡ i + suc r.number = omega arith in
          record { number = suc r.number; value = r.value; rest = r.rest; is_path = r.is_path ∙ ap (λ n. n ∷ r.rest) z; is_value = r.is_value; has = r.has }
    ]

con_shows : (at : ℕ) (c : ConRef) (ps : List Pat) → PL.Each Shows ps → (v : Value) (lv : Value-F Value) → out-Value v ≡ lv → is_con c.con (map matches_of ps) lv ≡ true
    → HasAll (record { path = []; con = c } ∷ heads_below (map heads_of ps) 0) v
con_shows at c ps each v (V.Num n) e m k h is = absurd cc
con_shows at c ps each v (V.Con j vs) e m zero h is =
    let b = and_parts (c.con == j) (all_pass (map matches_of ps) vs) m in
    let same : c.con ≡ j = same_nat c.con j b.0 in
    let here : record { path = []; con = c } ≡ h = same_Some _ h is in
    subst (λ (x : HeadAt). HasCon v x.path x.con.con) here (v, refl, ap root_con e ∙ ap Some (sym same))
con_shows at c ps each v (V.Con j vs) e m (suc k) h is =
    let b = and_parts (c.con == j) (all_pass (map matches_of ps) vs) m in
    let f = in_fields ps each vs b.1 0 k h is in
    let z : 0 + f.number ≡ f.number = omega arith in
    let to : part_at v h.path ≡ Some f.has.0 =
    ap (part_at v) (f.is_path ∙ ap (λ n. n ∷ f.rest) z) ∙ part-sub v (V.Con j vs) e f.number f.rest f.value f.is_value ∙ f.has.1 in
    (f.has.0, to, f.has.2)

pub shows : (p : Pat) → Shows p
shows = PL.induction Shows (record {
  wild = λ at v m k h e. absurd (let z = ap (λ (hs : List HeadAt). slice_get hs k) (sym (PL.fold-Wild (List HeadAt) heads_step at)) ∙ e in cc);
  var = λ at x v m k h e. absurd (let z = ap (λ (hs : List HeadAt). slice_get hs k) (sym (PL.fold-Var (List HeadAt) heads_step at x)) ∙ e in cc);
  num = λ at n v m k h e. absurd (let z = ap (λ (hs : List HeadAt). slice_get hs k) (sym (PL.fold-Num (List HeadAt) heads_step at n)) ∙ e in cc);
  con = λ at c ps each v m.
      subst (λ (hs : List HeadAt). HasAll hs v) (sym (heads-Con at c ps)) (con_shows at c ps each v (out-Value v) refl (sym (matches-Con v at c ps) ∙ m));
})

-- To matching -------------------------------------------------------------------------------------

module _ (types : List DataDecl) where
  abbrev Is : Pat → Type 0
  Is p = (v : Value) (ty : Ty) → may_be_below (fold-Pat Below below_step p) ≡ true → fits_type types p ty ≡ true → is_of_type types v ty ≡ true → HasAll (heads_of p) v → matches_of p v ≡ true

  -- what a value has below field i, the field has
  fields_match : (ps : List Pat) → PL.Each Is ps → (vs : List Value) (ts : List Ty) (i : ℕ) (v : Value) → ((j : ℕ) → sub_at (Some v) (i + j) ≡ slice_get vs j)
      → list_all may_be_below (map (fold-Pat Below below_step) ps) ≡ true → all_of_types (map (fits_type types) ps) ts ≡ true → all_of_types (map (is_of_type types) vs) ts ≡ true
      → HasAll (heads_below (map heads_of ps) i) v → all_pass (map matches_of ps) vs ≡ true
  fields_match [] each [] ts i v at below fits typed has = refl
  fields_match [] each (x ∷ vs) [] i v at below fits typed has = absurd cc
  fields_match [] each (x ∷ vs) (t ∷ ts) i v at below fits typed has = absurd cc
  fields_match (p ∷ ps) each vs [] i v at below fits typed has = absurd cc
  fields_match (p ∷ ps) each [] (t ∷ ts) i v at below fits typed has = absurd cc
  fields_match (p ∷ ps) each (x ∷ vs) (t ∷ ts) i v at below fits typed has =
      let b = and_parts (may_be_below (fold-Pat Below below_step p)) (list_all may_be_below (map (fold-Pat Below below_step) ps)) below in
      let f = and_parts (fits_type types p t) (all_of_types (map (fits_type types) ps) ts) fits in
      let g = and_parts (is_of_type types x t) (all_of_types (map (is_of_type types) vs) ts) typed in
      let z : i + 0 ≡ i = omega arith in
      let here : sub_at (Some v) i ≡ Some x = ap (sub_at (Some v)) (sym z) ∙ at 0 in
      let first : matches_of p x ≡ true = each.0 x t b.0 f.0 g.0 (λ k h e.
      let c = has k (head_below i h) (get-left (map (head_below i) (heads_of p)) (heads_below (map heads_of ps) (i + 1)) k (head_below i h) (get-mapped (head_below i) (heads_of p) k h e)) in
      (c.0, ap (λ o. part_from o h.path) (sym here) ∙ c.1, c.2)) in
      let shift : (j : ℕ) → i + 1 + j ≡ i + suc j = λ j. omega arith in
      let rest : all_pass (map matches_of ps) vs ≡ true = fields_match ps each.1 vs ts (i + 1) v (λ j. ap (sub_at (Some v)) (shift j) ∙ at (suc j)) b.1 f.1 g.1
      (λ k h e. let r = get-right (map (head_below i) (heads_of p)) (heads_below (map heads_of ps) (i + 1)) k h e in has r.0 h r.1) in
      and_true (matches_of p x) (all_pass (map matches_of ps) vs) first rest

  named_type : (t s k : ℕ) (ty : Ty) → is_named s ty ≡ true → ty ≡ Named s
  named_type t s k (Int bits) e = absurd cc
  named_type t s k (Named u) e = ap Named (same_nat u s e)

  con_is : (at : ℕ) (c : ConRef) (ps : List Pat) → PL.Each Is ps → (v : Value) (lv : Value-F Value) → out-Value v ≡ lv → (ty : Ty)
      → list_all may_be_below (map (fold-Pat Below below_step) ps) ≡ true → (is_named c.ty ty && are_of (map (fits_type types) ps) (fields_of types c)) ≡ true
      → is_of_type types v ty ≡ true → HasAll (record { path = []; con = c } ∷ heads_below (map heads_of ps) 0) v → is_con c.con (map matches_of ps) lv ≡ true
  con_is at c ps each v (V.Num n) e ty below fits typed has =
      let h = has 0 (record { path = []; con = c }) refl in
      let same : v ≡ h.0 = same_Some v h.0 h.1 in
      absurd (let q = ap root_con (sym e) ∙ ap (λ u. root_con (out-Value u)) same ∙ h.2 in cc)
  con_is at c ps each v (V.Con j vs) e ty below fits typed has =
      let h = has 0 (record { path = []; con = c }) refl in
      let same : v ≡ h.0 = same_Some v h.0 h.1 in
      let con : j ≡ c.con = same_Some j c.con (ap root_con (sym e) ∙ ap (λ u. root_con (out-Value u)) same ∙ h.2) in
      let f = and_parts (is_named c.ty ty) (are_of (map (fits_type types) ps) (fields_of types c)) fits in
      let is : ty ≡ Named c.ty = named_type 0 c.ty 0 ty f.0 in
      let made : v ≡ Values.Con j vs = sym (roll-out-Value v) ∙ ap roll-Value e ∙ rolled j vs in
      let of : are_of (map (is_of_type types) vs) (fields_of types c) ≡ true =
      ap (λ k. are_of (map (is_of_type types) vs) (fields_in (slice_get types c.ty) k)) (sym con) ∙ sym (is_of_type-Con types j vs (Named c.ty)) ∙ ap (λ u. is_of_type types u (Named c.ty)) (sym made) ∙ ap (is_of_type types v) (sym is) ∙ typed in
      let pass : all_pass (map matches_of ps) vs ≡ true = go (fields_of types c) refl f.1 of in
      and_true (c.con == j) (all_pass (map matches_of ps) vs) (ap (λ k. c.con == k) con ∙ self c.con) pass
    where
      self : (n : ℕ) → (n == n) ≡ true
      self n = grind arith

      go : (o : Option (List Ty)) → fields_of types c ≡ o → are_of (map (fits_type types) ps) (fields_of types c) ≡ true → are_of (map (is_of_type types) vs) (fields_of types c) ≡ true → all_pass (map matches_of ps) vs ≡ true
      go None e1 a b = absurd (let q = ap (are_of (map (fits_type types) ps)) (sym e1) ∙ a in cc)
      go (Some ts) e1 a b =
          let zs : (i : ℕ) → 0 + i ≡ i = λ i. omega arith in
          fields_match ps each vs ts 0 v (λ i. ap (sub_at (Some v)) (zs i) ∙ ap (λ (l : Value-F Value). slice_get (subs_in l) i) e) below
          (ap (are_of (map (fits_type types) ps)) (sym e1) ∙ a) (ap (are_of (map (is_of_type types) vs)) (sym e1) ∙ b)
          (λ k h x. has (suc k) h x)

  pub is_matched : (p : Pat) → Is p
  is_matched = PL.induction Is (record {
    wild = λ at v ty b f t h. matches-Wild v at;
    var = λ at x v ty b f t h. matches-Var v at x;
    num = λ at n v ty b f t h. absurd (let e = sym (ap may_be_below (PL.fold-Num Below below_step at n)) ∙ b in cc);
    con = λ at c ps each v ty b f t h.
        matches-Con v at c ps
        ∙ con_is at c ps each v (out-Value v) refl ty (sym (ap may_be_below (PL.fold-Con Below below_step at c ps)) ∙ b) (sym (fits-Con types at c ps ty) ∙ f) t
        (subst (λ (hs : List HeadAt). HasAll hs v) (heads-Con at c ps) h);
  })
