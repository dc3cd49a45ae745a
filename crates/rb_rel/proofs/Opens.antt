-- Two values that a pattern matches, and that agree at its open positions, are equal.
use Rattle.std.proofs.Common.{◌≡◌, ℕ, suc, ◌+◌, ◌==◌, ◌&&◌, map, List, [], ◌∷◌, Bool, true, Option, Some, None, refl, sym, ap, ◌∙◌, arith}
use Rattle.std.specs.Prelude.{slice_get}
use Rattle.std.proofs.lemmas.Bool.{and_parts}
use Rattle.std.proofs.lemmas.Option.{same_Some}
use Rattle.rb_core.specs.declared.value.Value.{Value, out-Value, roll-Value, roll-out-Value}
use Rattle.rb_core.specs.declared.value.Value.TheOpen as V
use Rattle.rb_core.specs.declared.value.Value.TheOpen.{Value-F}
use Rattle.rb_core.specs.declared.types.Ty.{Ty}
use Rattle.rb_core.specs.declared.types.ConRef.{ConRef}
use Rattle.rb_core.specs.declared.types.DataDecl.{DataDecl}
use Rattle.rb_core.specs.declared.pattern.Pat.{Pat, Wild, Var, Num, Con}
use Rattle.rb_core.specs.declared.pattern.Pat.TheOpen as P
use Rattle.rb_core.specs.Matching.{matches_of, is_con, is_number, all_pass}
use Rattle.rb_core.specs.Values.{subs_in, sub_at, part_from, all_of_types, are_of, fields_of}
use Rattle.rb_core.proofs.PatternLaws.{Each, induction, fold-Wild, fold-Var, fold-Num, fold-Con}
use Rattle.rb_core.proofs.MatchingForms.{matches-Num, matches-Con}
use Rattle.rb_layout.specs.Positions.{Open, below, opens_below, opens_of, opens_step, types_or_none}
use Rattle.rb_rel.specs.Provenances.{fits_type, fits_step, is_named}
use Rattle.rb_rel.proofs.Lists.{get-left, get-right, get-mapped}
use Rattle.rb_rel.proofs.Reading.{same_nat}

module _ (types : List DataDecl) where
  abbrev Same : List Open → Option Value → Option Value → Type 0
  Same opens v u = (k : ℕ) (o : Open) → slice_get opens k ≡ Some o → part_from v o.path ≡ part_from u o.path

  abbrev Fixes : Pat → Type 0
  Fixes p = (ty : Ty) (v u : Value) → fits_type types p ty ≡ true → matches_of p v ≡ true → matches_of p u ≡ true
      → Same (opens_of types p ty) (Some v) (Some u) → v ≡ u

  -- the equations of folds
  pub fits-Con : (at : ℕ) (c : ConRef) (ps : List Pat) (ty : Ty) → fits_type types (Con at c ps) ty ≡ (is_named c.ty ty && are_of (map (fits_type types) ps) (fields_of types c))
  fits-Con at c ps ty = ap (λ (f : Ty → Bool). f ty) (fold-Con (Ty → Bool) (fits_step types) at c ps)

  pub fits-Num : (at n : ℕ) (ty : Ty) → fits_type types (Num at n) ty ≡ fits_step types (P.Num at n) ty
  fits-Num at n ty = ap (λ (f : Ty → Bool). f ty) (fold-Num (Ty → Bool) (fits_step types) at n)

  pub opens-Con : (at : ℕ) (c : ConRef) (ps : List Pat) (ty : Ty) → opens_of types (Con at c ps) ty ≡ opens_below (map (opens_of types) ps) (types_or_none (fields_of types c)) 0
  opens-Con at c ps ty = ap (λ (f : Ty → List Open). f ty) (fold-Con (Ty → List Open) (opens_step types) at c ps)

  pub opens-Wild : (at : ℕ) (ty : Ty) → opens_of types (Wild at) ty ≡ record { path = []; ty = ty } ∷ []
  opens-Wild at ty = ap (λ (f : Ty → List Open). f ty) (fold-Wild (Ty → List Open) (opens_step types) at)

  pub opens-Var : (at x : ℕ) (ty : Ty) → opens_of types (Var at x) ty ≡ record { path = []; ty = ty } ∷ []
  opens-Var at x ty = ap (λ (f : Ty → List Open). f ty) (fold-Var (Ty → List Open) (opens_step types) at x)

  -- subpatterns that fit fields are as many
  pub fitting : (ps : List (Ty → Bool)) (o : Option (List Ty)) → are_of ps o ≡ true → all_of_types ps (types_or_none o) ≡ true
  fitting ps None e = absurd cc
  fitting ps (Some ts) e = e

  -- the fields behind the first i
  fields_same : (ps : List Pat) → Each Fixes ps → (ts : List Ty) (vs us : List Value) (i : ℕ) (v u : Value)
      → ((j : ℕ) → sub_at (Some v) (i + j) ≡ slice_get vs j) → ((j : ℕ) → sub_at (Some u) (i + j) ≡ slice_get us j)
      → all_of_types (map (fits_type types) ps) ts ≡ true
      → all_pass (map matches_of ps) vs ≡ true → all_pass (map matches_of ps) us ≡ true
      → Same (opens_below (map (opens_of types) ps) ts i) (Some v) (Some u) → vs ≡ us
  fields_same [] each ts [] [] i v u av au f pv pu s = refl
  fields_same [] each ts [] (y ∷ us) i v u av au f pv pu s = absurd cc
  fields_same [] each ts (x ∷ vs) us i v u av au f pv pu s = absurd cc
  fields_same (p ∷ ps) each [] vs us i v u av au f pv pu s = absurd cc
  fields_same (p ∷ ps) each (t ∷ ts) [] us i v u av au f pv pu s = absurd cc
  fields_same (p ∷ ps) each (t ∷ ts) (x ∷ vs) [] i v u av au f pv pu s = absurd cc
  fields_same (p ∷ ps) each (t ∷ ts) (x ∷ vs) (y ∷ us) i v u av au f pv pu s =
      let bf = and_parts (fits_type types p t) (all_of_types (map (fits_type types) ps) ts) f in
      let bv = and_parts (matches_of p x) (all_pass (map matches_of ps) vs) pv in
      let bu = and_parts (matches_of p y) (all_pass (map matches_of ps) us) pu in
      let z : i + 0 ≡ i = omega arith in
      let hv : sub_at (Some v) i ≡ Some x = ap (sub_at (Some v)) (sym z) ∙ av 0 in
      let hu : sub_at (Some u) i ≡ Some y = ap (sub_at (Some u)) (sym z) ∙ au 0 in
      let first : x ≡ y = each.0 t x y bf.0 bv.0 bu.0 (λ k o e.
      ap (λ w. part_from w o.path) (sym hv) ∙ s k (below i o) (get-left _ _ k (below i o) (get-mapped (below i) (opens_of types p t) k o e)) ∙ ap (λ w. part_from w o.path) hu) in
      let shift : (j : ℕ) → i + 1 + j ≡ i + suc j = λ j. omega arith in
      let rest : vs ≡ us = fields_same ps each.1 ts vs us (i + 1) v u (λ j. ap (sub_at (Some v)) (shift j) ∙ av (suc j)) (λ j. ap (sub_at (Some u)) (shift j) ∙ au (suc j)) bf.1 bv.1 bu.1
      (λ k o e. let r = get-right (map (below i) (opens_of types p t)) (opens_below (map (opens_of types) ps) ts (i + 1)) k o e in s r.0 o r.1) in
      cc

  layers_same : (c : ConRef) (ps : List Pat) → Each Fixes ps → (lv lu : Value-F Value) (v u : Value) → out-Value v ≡ lv → out-Value u ≡ lu
      → are_of (map (fits_type types) ps) (fields_of types c) ≡ true
      → is_con c.con (map matches_of ps) lv ≡ true → is_con c.con (map matches_of ps) lu ≡ true
      → Same (opens_below (map (opens_of types) ps) (types_or_none (fields_of types c)) 0) (Some v) (Some u) → lv ≡ lu
  layers_same c ps each (V.Num n) lu v u ev eu f mv mu s = absurd cc
  layers_same c ps each (V.Con k vs) (V.Num n) v u ev eu f mv mu s = absurd cc
  layers_same c ps each (V.Con k vs) (V.Con j us) v u ev eu f mv mu s =
      let bv = and_parts (c.con == k) (all_pass (map matches_of ps) vs) mv in
      let bu = and_parts (c.con == j) (all_pass (map matches_of ps) us) mu in
      let kv = same_nat c.con k bv.0 in
      let ku = same_nat c.con j bu.0 in
      let zs : (i : ℕ) → 0 + i ≡ i = λ i. omega arith in
      let fs = fields_same ps each (types_or_none (fields_of types c)) vs us 0 v u
      (λ i. ap (sub_at (Some v)) (zs i) ∙ ap (λ (l : Value-F Value). slice_get (subs_in l) i) ev) (λ i. ap (sub_at (Some u)) (zs i) ∙ ap (λ (l : Value-F Value). slice_get (subs_in l) i) eu)
      (fitting (map (fits_type types) ps) (fields_of types c) f) bv.1 bu.1 s in
      cc

  con_fixes : (at : ℕ) (c : ConRef) (ps : List Pat) → Each Fixes ps → Fixes (Con at c ps)
  con_fixes at c ps each ty v u f mv mu s =
      let bf = and_parts (is_named c.ty ty) (are_of (map (fits_type types) ps) (fields_of types c)) (sym (fits-Con at c ps ty) ∙ f) in
      let l = layers_same c ps each (out-Value v) (out-Value u) v u refl refl bf.1 (sym (matches-Con v at c ps) ∙ mv) (sym (matches-Con u at c ps) ∙ mu)
      (λ k o e. s k o (ap (λ (os : List Open). slice_get os k) (opens-Con at c ps ty) ∙ e)) in
      sym (roll-out-Value v) ∙ ap roll-Value l ∙ roll-out-Value u

  num_same : (n : ℕ) (lv lu : Value-F Value) → is_number n lv ≡ true → is_number n lu ≡ true → lv ≡ lu
  num_same n (V.Num a) (V.Num b) ev eu = let x = same_nat n a ev in let y = same_nat n b eu in cc
  num_same n (V.Num a) (V.Con k vs) ev eu = absurd cc
  num_same n (V.Con k vs) lu ev eu = absurd cc

  open_same : (os : List Open) (ty : Ty) (v u : Value) → os ≡ record { path = []; ty = ty } ∷ [] → Same os (Some v) (Some u) → v ≡ u
  open_same os ty v u is s = same_Some v u (s 0 (record { path = []; ty = ty }) (ap (λ (xs : List Open). slice_get xs 0) is))

  pub fixes : (p : Pat) → Fixes p
  fixes = induction Fixes (record {
    wild = λ at ty v u f mv mu s. open_same (opens_of types (Wild at) ty) ty v u (opens-Wild at ty) s;
    var = λ at x ty v u f mv mu s. open_same (opens_of types (Var at x) ty) ty v u (opens-Var at x ty) s;
    num = λ at n ty v u f mv mu s. sym (roll-out-Value v) ∙ ap roll-Value (num_same n (out-Value v) (out-Value u) (sym (matches-Num v at n) ∙ mv) (sym (matches-Num u at n) ∙ mu)) ∙ roll-out-Value u;
    con = con_fixes;
  })
