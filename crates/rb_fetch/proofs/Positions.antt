-- Positions of provenances: the patterns and types there, the parts of values, and what it takes to rebuild them.
use Rattle.std.proofs.Common.{◌≡◌, ℕ, zero, suc, ◌+◌, ◌≤◌, ◌==◌, map, length, List, [], ◌∷◌, ◌++◌, Bool, true, false, Option, Some, None, refl, sym, subst, ap, ◌∙◌, arith}
use Rattle.std.specs.Prelude.{slice_get, drop, if◌then◌else◌}
use Rattle.std.specs.List.{list_all, sum_by}
use Rattle.std.proofs.lemmas.Bool.{and_parts}
use Rattle.std.proofs.lemmas.List.Sums.{sum_by-cons}
use Rattle.std.proofs.lemmas.Option.{same_Some}
use Rattle.std.proofs.lemmas.List.Folds.{list_all-map}
use Rattle.rb_core.specs.declared.value.Value.{Value, out-Value, roll-Value, roll-out-Value}
use Rattle.rb_core.specs.declared.value.Value as Values
use Rattle.rb_core.specs.declared.value.Value.TheOpen as V
use Rattle.rb_core.specs.declared.value.Value.TheOpen.{Value-F}
use Rattle.rb_core.specs.declared.types.Ty.{Ty}
use Rattle.rb_core.specs.declared.types.Ty.TheVariants.{Int, Named}
use Rattle.rb_core.specs.declared.types.ConRef.{ConRef}
use Rattle.rb_core.specs.declared.types.DataDecl.{DataDecl}
use Rattle.rb_core.specs.declared.pattern.Pat.{Pat, Wild, Var, Con, out-Pat}
use Rattle.rb_core.specs.declared.pattern.Pat.TheVariants.{outs-Wild, outs-Var, outs-Num, outs-Con}
use Rattle.rb_core.specs.declared.pattern.Pat.TheOpen as P
use Rattle.rb_core.specs.declared.pattern.Pat.TheOpen.{Pat-F}
use Rattle.rb_core.specs.declared.pattern.Pat.TheFolds.{fold-Pat}
use Rattle.rb_core.specs.declared.program.Program.{Program}
use Rattle.rb_core.specs.Matching.{matches_of, is_con, all_pass}
use Rattle.rb_core.specs.TypedPrograms.{IsTyped}
use Rattle.rb_core.specs.Values.{subs, subs_in, sub_at, part_at, part_from, all_of_types, are_of, fields_of}
use Rattle.rb_core.specs.WellNumbered.{Below, below_step, either, may_be_below}
use Rattle.rb_core.proofs.PatternLaws as PL
use Rattle.rb_core.proofs.MatchingForms.{matches-Con}
use Rattle.rb_core.proofs.MatchingLemmas.{all_at}
use Rattle.rb_layout.specs.declared.layout.Layout.{Layout}
use Rattle.rb_layout.specs.declared.layout.Leaf.{Leaf}
use Rattle.rb_layout.specs.Agreement.{Agrees, AreAgreed}
use Rattle.rb_layout.specs.Flattening.{flat_layouts, type_at}
use Rattle.rb_layout.specs.Positions.{Open, leaf_from, leaf_of, layout_of, leaves_of_layout, open_positions, pair_of, root_type, sub_in, sub_pattern, types_or_none}
use Rattle.rb_layout.specs.inner.Walking.{open_type, type_along}
use Rattle.rb_layout.proofs.OpenPositions.{position-typed, type-open}
use Rattle.rb_layout.proofs.Walks.{type_at_walked}
use Rattle.rb_rel.specs.Switches.{HeadAt, choose_of, greatest, head_below, heads_below, heads_of, heads_step, mend_leaf, mend_of}
use Rattle.rb_rel.proofs.Agreeing.{lawful}
use Rattle.rb_rel.specs.Provenances.{fits_type, is_named}
use Rattle.rb_rel.proofs.Lists.{get-mapped}
use Rattle.rb_rel.proofs.Mending.{mending_recurs}
use Rattle.rb_rel.proofs.Opens.{fits-Con}
use Rattle.rb_rel.proofs.Reading.{same_nat}
use Rattle.rb_fragment.specs.Plan.{Plan}
use Rattle.rb_fetch.specs.Fields.{FieldAt}
use Rattle.rb_fetch.specs.Positions.{PositionAt, found_at, mend_under}

either_right : (b : Bool) → either b true ≡ true
either_right true = refl
either_right false = refl

-- Patterns -----------------------------------------------------------------------------------------

module _ (types : List DataDecl) where
  abbrev shape_of : Pat → Below
  shape_of = fold-Pat Below below_step

  -- a step more
  pub found-append : (x : Option (Pat × Ty)) (path : List ℕ) (j : ℕ) → found_at types x (path ++ j ∷ []) ≡ found_at types (found_at types x path) (j ∷ [])
  found-append None path j = refl
  found-append (Some p) [] j = refl
  found-append (Some p) (i ∷ path) j = found-append (sub_pattern types p.0 i) path j

  pub sub-Con : (at : ℕ) (c : ConRef) (ps : List Pat) (j : ℕ) → sub_pattern types (Con at c ps) j ≡ pair_of (slice_get ps j) (slice_get (types_or_none (fields_of types c)) j)
  sub-Con at c ps j = ap (λ (l : Pat-F Pat). sub_in types l j) (outs-Con at c ps)

  -- a pattern of its type: a wildcard, or a constructor whose subpatterns are such
  pub record IsPlace (p : Pat) (ty : Ty) : Type 0 where
    pub fits : fits_type types p ty ≡ true
    pub shaped : may_be_below (shape_of p) ≡ true

  types_at : (ps : List Pat) (ts : List Ty) (j : ℕ) (q : Pat) (u : Ty) → all_of_types (map (fits_type types) ps) ts ≡ true → slice_get ps j ≡ Some q → slice_get ts j ≡ Some u → fits_type types q u ≡ true
  types_at [] ts j q u all e h = absurd cc
  types_at (p ∷ ps) [] j q u all e h = absurd cc
  types_at (p ∷ ps) (t ∷ ts) zero q u all e h =
      let b = and_parts (fits_type types p t) (all_of_types (map (fits_type types) ps) ts) all in
      ap (λ x. fits_type types x u) (sym (same_Some p q e)) ∙ ap (fits_type types p) (sym (same_Some t u h)) ∙ b.0
  types_at (p ∷ ps) (t ∷ ts) (suc j) q u all e h = types_at ps ts j q u (and_parts (fits_type types p t) (all_of_types (map (fits_type types) ps) ts) all).1 e h

  as_many : (ps : List Pat) (ts : List Ty) → all_of_types (map (fits_type types) ps) ts ≡ true → length ps ≡ length ts
  as_many [] [] e = refl
  as_many [] (t ∷ ts) e = absurd cc
  as_many (p ∷ ps) [] e = absurd cc
  as_many (p ∷ ps) (t ∷ ts) e = ap suc (as_many ps ts (and_parts (fits_type types p t) (all_of_types (map (fits_type types) ps) ts) e).1)

  -- a constructor at its place
  pub record IsConPlace (c : ConRef) (ps : List Pat) (ty : Ty) : Type 0 where
    pub kind : ty ≡ Named c.ty
    pub fields : List Ty
    pub is_fields : fields_of types c ≡ Some fields
    pub fit : all_of_types (map (fits_type types) ps) fields ≡ true
    pub many : length ps ≡ length fields
    pub shaped : list_all may_be_below (map shape_of ps) ≡ true

  pub con_place : (at : ℕ) (c : ConRef) (ps : List Pat) (ty : Ty) → IsPlace (Con at c ps) ty → IsConPlace c ps ty
  con_place at c ps ty good =
      let b = and_parts (is_named c.ty ty) (are_of (map (fits_type types) ps) (fields_of types c)) (sym (fits-Con types at c ps ty) ∙ good.fits) in
      let shaped : list_all may_be_below (map shape_of ps) ≡ true = sym (ap may_be_below (PL.fold-Con Below below_step at c ps)) ∙ good.shaped in
      by (fields_of types c) refl (named ty b.0) b.1 shaped
    where
      named : (u : Ty) → is_named c.ty u ≡ true → u ≡ Named c.ty
      named (Int bits) e = absurd cc
      named (Named s) e = ap Named (same_nat s c.ty e)

      by : (o : Option (List Ty)) → fields_of types c ≡ o → ty ≡ Named c.ty → are_of (map (fits_type types) ps) o ≡ true → list_all may_be_below (map shape_of ps) ≡ true → IsConPlace c ps ty
      by None is kind fit shaped = absurd cc
      by (Some ts) is kind fit shaped = record { kind = kind; fields = ts; is_fields = is; fit = fit; many = as_many ps ts fit; shaped = shaped }

  -- the subpattern at a field
  pub field_place : (c : ConRef) (ps : List Pat) (ty : Ty) (x : IsConPlace c ps ty) (j : ℕ) (q : Pat) (u : Ty) → slice_get ps j ≡ Some q → slice_get x.fields j ≡ Some u → IsPlace q u
  field_place c ps ty x j q u e h = record { fits = types_at ps x.fields j q u x.fit e h; shaped = all_at (λ p. may_be_below (shape_of p)) ps j q (sym (list_all-map may_be_below shape_of ps) ∙ x.shaped) e }

  abbrev Steps : Pat → Type 0
  Steps p = (ty : Ty) (i : ℕ) (q : Pat) (u : Ty) → IsPlace p ty → sub_pattern types p i ≡ Some (q, u) → IsPlace q u

  con_steps : (at : ℕ) (c : ConRef) (ps : List Pat) → Steps (Con at c ps)
  con_steps at c ps ty i q u good e =
      let x = con_place at c ps ty good in
      pick x (slice_get ps i) (slice_get x.fields i) refl refl (sym (ap (λ o. pair_of (slice_get ps i) (slice_get (types_or_none o) i)) x.is_fields) ∙ sym (sub-Con at c ps i) ∙ e)
    where
      pick : (x : IsConPlace c ps ty) (a : Option Pat) (b : Option Ty) → slice_get ps i ≡ a → slice_get x.fields i ≡ b → pair_of a b ≡ Some (q, u) → IsPlace q u
      pick x None b ea eb h = absurd cc
      pick x (Some p) None ea eb h = absurd cc
      pick x (Some p) (Some t) ea eb h =
          let s : (p, t) ≡ (q, u) = same_Some (p, t) (q, u) h in
          subst (λ (y : Pat × Ty). IsPlace y.0 y.1) s (field_place c ps ty x i p t ea eb)

  steps : (p : Pat) → Steps p
  steps = PL.induction Steps (record {
    wild = λ at ty i q u good e. absurd (let h = sym (ap (λ (l : Pat-F Pat). sub_in types l i) (outs-Wild at)) ∙ e in cc);
    var = λ at x ty i q u good e. absurd (let h = sym (ap (λ (l : Pat-F Pat). sub_in types l i) (outs-Var at x)) ∙ e in cc);
    num = λ at n ty i q u good e. absurd (let h = sym (ap (λ (l : Pat-F Pat). sub_in types l i) (outs-Num at n)) ∙ e in cc);
    con = λ at c ps each. con_steps at c ps;
  })

  pub place_at : (path : List ℕ) (p : Pat) (ty : Ty) (q : Pat) (u : Ty) → IsPlace p ty → found_at types (Some (p, ty)) path ≡ Some (q, u) → IsPlace q u
  place_at [] p ty q u good e = let s : (p, ty) ≡ (q, u) = same_Some (p, ty) (q, u) e in subst (λ (y : Pat × Ty). IsPlace y.0 y.1) s good
  place_at (i ∷ path) p ty q u good e = go (sub_pattern types p i) refl e (λ x h. place_at path x.0 x.1 q u h)
    where
      go : (o : Option (Pat × Ty)) → sub_pattern types p i ≡ o → found_at types o path ≡ Some (q, u) → ((x : Pat × Ty) → IsPlace x.0 x.1 → found_at types (Some x) path ≡ Some (q, u) → IsPlace q u) → IsPlace q u
      go None is h rest = absurd cc
      go (Some x) is h rest = rest x (steps p ty i x.0 x.1 good is) h

  -- Values -----------------------------------------------------------------------------------------

  -- a layer is rolled into a construction
  rolled : (k : ℕ) (us : List Value) → roll-Value (V.Con k us) ≡ Values.Con k us
  unfolding roll-Value denote.Hole.Carrier.roll
  rolled k us = refl

  -- what a constructor matches is a construction
  pub record IsConOf (c : ConRef) (ps : List Pat) (v : Value) : Type 0 where
    pub fields : List Value
    pub is_con : v ≡ Values.Con c.con fields
    pub are_fields : subs v ≡ fields
    pub pass : all_pass (map matches_of ps) fields ≡ true

  pub con_value : (at : ℕ) (c : ConRef) (ps : List Pat) (v : Value) → matches_of (Con at c ps) v ≡ true → IsConOf c ps v
  con_value at c ps v e = go (out-Value v) refl (sym (matches-Con v at c ps) ∙ e)
    where
      go : (l : Value-F Value) → out-Value v ≡ l → is_con c.con (map matches_of ps) l ≡ true → IsConOf c ps v
      go (V.Num n) is h = absurd cc
      go (V.Con k us) is h =
          let b = and_parts (c.con == k) (all_pass (map matches_of ps) us) h in
          let same : k ≡ c.con = sym (same_nat c.con k b.0) in
          record {
            fields = us;
            is_con = sym (roll-out-Value v) ∙ ap roll-Value is ∙ rolled k us ∙ ap (λ i. Values.Con i us) same;
            are_fields = ap subs_in is;
            pass = b.1;
          }

  passed_at : (ps : List Pat) (us : List Value) (j : ℕ) (q : Pat) (x : Value) → all_pass (map matches_of ps) us ≡ true → slice_get ps j ≡ Some q → slice_get us j ≡ Some x → matches_of q x ≡ true
  passed_at [] us j q x pass e h = absurd cc
  passed_at (p ∷ ps) [] j q x pass e h = absurd cc
  passed_at (p ∷ ps) (u ∷ us) zero q x pass e h =
      ap (λ y. matches_of y x) (sym (same_Some p q e)) ∙ ap (matches_of p) (sym (same_Some u x h)) ∙ (and_parts (matches_of p u) (all_pass (map matches_of ps) us) pass).0
  passed_at (p ∷ ps) (u ∷ us) (suc j) q x pass e h = passed_at ps us j q x (and_parts (matches_of p u) (all_pass (map matches_of ps) us) pass).1 e h

  pub passed_many : (ps : List Pat) (us : List Value) → all_pass (map matches_of ps) us ≡ true → length us ≡ length ps
  passed_many [] [] e = refl
  passed_many [] (u ∷ us) e = absurd cc
  passed_many (p ∷ ps) [] e = absurd cc
  passed_many (p ∷ ps) (u ∷ us) e = ap suc (passed_many ps us (and_parts (matches_of p u) (all_pass (map matches_of ps) us) e).1)

  abbrev Matches : Pat → Type 0
  Matches p = (i : ℕ) (q : Pat) (u : Ty) (v x : Value) → sub_pattern types p i ≡ Some (q, u) → matches_of p v ≡ true → slice_get (subs v) i ≡ Some x → matches_of q x ≡ true

  con_matches : (at : ℕ) (c : ConRef) (ps : List Pat) → Matches (Con at c ps)
  con_matches at c ps i q u v x e m h =
      let k = con_value at c ps v m in
      pick k (slice_get ps i) (slice_get (types_or_none (fields_of types c)) i) refl (sym (sub-Con at c ps i) ∙ e) (ap (λ us. slice_get us i) (sym k.are_fields) ∙ h)
    where
      pick : (k : IsConOf c ps v) (a : Option Pat) (b : Option Ty) → slice_get ps i ≡ a → pair_of a b ≡ Some (q, u) → slice_get k.fields i ≡ Some x → matches_of q x ≡ true
      pick k None b ea h at1 = absurd cc
      pick k (Some p) None ea h at1 = absurd cc
      pick k (Some p) (Some t) ea h at1 =
          let s : p ≡ q = ap (λ (y : Pat × Ty). y.0) (same_Some (p, t) (q, u) h) in passed_at ps k.fields i q x k.pass (ea ∙ ap Some s) at1

  sub_matches : (p : Pat) → Matches p
  sub_matches = PL.induction Matches (record {
    wild = λ at i q u v x e m h. absurd (let z = sym (ap (λ (l : Pat-F Pat). sub_in types l i) (outs-Wild at)) ∙ e in cc);
    var = λ at y i q u v x e m h. absurd (let z = sym (ap (λ (l : Pat-F Pat). sub_in types l i) (outs-Var at y)) ∙ e in cc);
    num = λ at n i q u v x e m h. absurd (let z = sym (ap (λ (l : Pat-F Pat). sub_in types l i) (outs-Num at n)) ∙ e in cc);
    con = λ at c ps each. con_matches at c ps;
  })

  part-none : (path : List ℕ) (x : Value) → part_from None path ≡ Some x → ⊥
  part-none [] x e = cc
  part-none (i ∷ path) x e = part-none path x e

  -- the pattern at a position matches the part there
  pub part_matches : (path : List ℕ) (p : Pat) (ty : Ty) (q : Pat) (u : Ty) (v x : Value) → found_at types (Some (p, ty)) path ≡ Some (q, u) → matches_of p v ≡ true → part_at v path ≡ Some x → matches_of q x ≡ true
  part_matches [] p ty q u v x e m h =
      let s : p ≡ q = ap (λ (y : Pat × Ty). y.0) (same_Some (p, ty) (q, u) e) in ap (λ y. matches_of y x) (sym s) ∙ ap (matches_of p) (sym (same_Some v x h)) ∙ m
  part_matches (i ∷ path) p ty q u v x e m h = go (sub_pattern types p i) refl e (slice_get (subs v) i) refl h (λ y z a b c. part_matches path y.0 y.1 q u z x a b c)
    where
      go : (o : Option (Pat × Ty)) → sub_pattern types p i ≡ o → found_at types o path ≡ Some (q, u) → (w : Option Value) → slice_get (subs v) i ≡ w → part_from w path ≡ Some x
          → ((y : Pat × Ty) (z : Value) → found_at types (Some y) path ≡ Some (q, u) → matches_of y.0 z ≡ true → part_at z path ≡ Some x → matches_of q x ≡ true) → matches_of q x ≡ true
      go None is f w ew at rest = absurd cc
      go (Some y) is f None ew at rest = absurd (part-none path x at)
      go (Some y) is f (Some z) ew at rest = rest y z f (sub_matches p i y.0 y.1 v z is m ew) at

  part-from-append : (o : Option Value) (path : List ℕ) (j : ℕ) → part_from o (path ++ j ∷ []) ≡ sub_at (part_from o path) j
  part-from-append o [] j = refl
  part-from-append o (i ∷ path) j = part-from-append (sub_at o i) path j

  -- a field of the part at a position
  pub field_part : (v x : Value) (path : List ℕ) (j : ℕ) → part_at v path ≡ Some x → part_at v (path ++ j ∷ []) ≡ slice_get (subs x) j
  field_part v x path j e = part-from-append (Some v) path j ∙ ap (λ o. sub_at o j) e

  -- Open positions ---------------------------------------------------------------------------------

  pub record IsFoundOpen (x : Option (Pat × Ty)) (path : List ℕ) (ty : Ty) : Type 0 where
    pub pat : Pat
    pub is_found : found_at types x path ≡ Some (pat, ty)
    pub is_open : open_type (out-Pat pat) ty ≡ Some ty

  opened : (p : Pat) (u ty : Ty) (l : Pat-F Pat) → out-Pat p ≡ l → open_type l u ≡ Some ty → (u ≡ ty) × (open_type l ty ≡ Some ty)
  opened p u ty (P.Wild at) is e = (same_Some u ty e, refl)
  opened p u ty (P.Var at x) is e = (same_Some u ty e, refl)
  opened p u ty (P.Num at n) is e = absurd cc
  opened p u ty (P.Con at c ps) is e = absurd cc

  pub walked_found : (x : Option (Pat × Ty)) (path : List ℕ) (ty : Ty) → type_along types x path ≡ Some ty → IsFoundOpen x path ty
  walked_found None path ty e = absurd cc
  walked_found (Some (p, u)) [] ty e =
      let o = opened p u ty (out-Pat p) refl e in record { pat = p; is_found = ap (λ z. Some (p, z)) o.0; is_open = o.1 }
  walked_found (Some (p, u)) (i ∷ path) ty e =
      let r = walked_found (sub_pattern types p i) path ty e in record { pat = r.pat; is_found = r.is_found; is_open = r.is_open }

  pub found_walked : (x : Option (Pat × Ty)) (path : List ℕ) (q : Pat) (ty : Ty) → found_at types x path ≡ Some (q, ty) → type_along types x path ≡ open_type (out-Pat q) ty
  found_walked None path q ty e = absurd cc
  found_walked (Some (p, u)) [] q ty e =
      let s : (p, u) ≡ (q, ty) = same_Some (p, u) (q, ty) e in ap (λ (y : Pat × Ty). open_type (out-Pat y.0) y.1) s
  found_walked (Some (p, u)) (i ∷ path) q ty e = found_walked (sub_pattern types p i) path q ty e

-- Costs --------------------------------------------------------------------------------------------

module _ (layouts : List Layout) where
  abbrev cost : HeadAt → ℕ
  cost h = choose_of layouts h.con.ty h.con.con

  cost-append : (xs ys : List HeadAt) → sum_by cost (xs ++ ys) ≡ sum_by cost xs + sum_by cost ys
  cost-append [] ys = let z : sum_by cost ys ≡ 0 + sum_by cost ys = omega arith in z
  cost-append (x ∷ xs) ys =
      let a = sum_by-cons cost x (xs ++ ys) in let b = sum_by-cons cost x xs in let r = cost-append xs ys in omega (arith, a, b, r)

  cost-below : (i : ℕ) (hs : List HeadAt) → sum_by cost (map (head_below i) hs) ≡ sum_by cost hs
  cost-below i [] = refl
  cost-below i (h ∷ hs) =
      let a = sum_by-cons cost (head_below i h) (map (head_below i) hs) in let b = sum_by-cons cost h hs in let r = cost-below i hs in omega (arith, a, b, r)

  cost-fields : (ps : List Pat) (i : ℕ) → sum_by cost (heads_below (map heads_of ps) i) ≡ sum_by (mend_under layouts) ps
  cost-fields [] i = refl
  cost-fields (p ∷ ps) i =
      let a = cost-append (map (head_below i) (heads_of p)) (heads_below (map heads_of ps) (i + 1)) in
      let b = cost-below i (heads_of p) in
      let r = cost-fields ps (i + 1) in
      let c = sum_by-cons (mend_under layouts) p ps in omega (arith, a, b, r, c)

  pub mend-Wild : (at : ℕ) → mend_under layouts (Wild at) ≡ 0
  mend-Wild at = ap (sum_by cost) (PL.fold-Wild (List HeadAt) heads_step at)

  pub mend-Var : (at x : ℕ) → mend_under layouts (Var at x) ≡ 0
  mend-Var at x = ap (sum_by cost) (PL.fold-Var (List HeadAt) heads_step at x)

  pub mend-Con : (at : ℕ) (c : ConRef) (ps : List Pat) → mend_under layouts (Con at c ps) ≡ choose_of layouts c.ty c.con + sum_by (mend_under layouts) ps
  mend-Con at c ps =
      ap (sum_by cost) (PL.fold-Con (List HeadAt) heads_step at c ps) ∙ sum_by-cons cost (record { path = []; con = c }) (heads_below (map heads_of ps) 0)
      ∙ ap (λ n. choose_of layouts c.ty c.con + n) (cost-fields ps 0)

  -- the fields below the root of a leaf cost what it takes to mend the leaf
  pub mend_fields : (leaf : Leaf) (at : ℕ) (c : ConRef) (ps : List Pat) → leaf.prov ≡ Con at c ps → mend_leaf (choose_of layouts) leaf ≡ sum_by (mend_under layouts) ps
  mend_fields leaf at c ps is =
      ap (λ p. sum_by cost (drop 1 (heads_of p))) is ∙ ap (λ hs. sum_by cost (drop 1 hs)) (PL.fold-Con (List HeadAt) heads_step at c ps) ∙ cost-fields ps 0

  abbrev IsFree : Pat → Type 0
  IsFree p = (ty : Ty) → open_type (out-Pat p) ty ≡ Some ty → mend_under layouts p ≡ 0

  -- nothing is rebuilt at a wildcard
  pub mend_open : (p : Pat) → IsFree p
  mend_open = PL.induction IsFree (record {
    wild = λ at ty e. mend-Wild at;
    var = λ at x ty e. mend-Var at x;
    num = λ at n ty e. absurd (let z = sym (ap (λ (l : Pat-F Pat). open_type l ty) (outs-Num at n)) ∙ e in cc);
    con = λ at c ps each ty e. absurd (let z = sym (ap (λ (l : Pat-F Pat). open_type l ty) (outs-Con at c ps)) ∙ e in cc);
  })

greatest-at : (ns : List ℕ) (k n : ℕ) → slice_get ns k ≡ Some n → n ≤ greatest ns
greatest-at [] k n e = absurd cc
greatest-at (m ∷ ns) zero n e = let s = same_Some m n e in omega (arith, s)
greatest-at (m ∷ ns) (suc k) n e = let r = greatest-at ns k n e in omega (arith, r)

-- mending a leaf takes no more than mending its type
pub mend_leaf-low : (p : Program) → Agrees p → (t : ℕ) (layout : Layout) (n : ℕ) (leaf : Leaf) → layout_of (flat_layouts p) t ≡ Some layout → slice_get layout.leaves n ≡ Some leaf
    → mend_leaf (choose_of (flat_layouts p)) leaf ≤ mend_of (flat_layouts p) t
mend_leaf-low p agrees t layout n leaf is at =
    let layouts = flat_layouts p in
    let e = mending_recurs layouts agrees.a9 t in
    let l : slice_get (leaves_of_layout (layout_of layouts t)) n ≡ Some leaf = ap (λ o. slice_get (leaves_of_layout o) n) is ∙ at in
    let g = greatest-at (map (mend_leaf (choose_of layouts)) (leaves_of_layout (layout_of layouts t))) n (mend_leaf (choose_of layouts) leaf) (get-mapped (mend_leaf (choose_of layouts)) (leaves_of_layout (layout_of layouts t)) n leaf l) in
    omega (arith, e, g)

-- Leaves -------------------------------------------------------------------------------------------

matched_from : (leaves : List Leaf) (v : Value) (at n k : ℕ) (leaf : Leaf) → leaf_from leaves v at ≡ Some n → n ≡ at + k → slice_get leaves k ≡ Some leaf → matches_of leaf.prov v ≡ true
matched_from [] v at n k leaf e s h = absurd cc
matched_from (x ∷ leaves) v at n k leaf e s h = go (matches_of x.prov v) refl e k s h (λ j a b c. matched_from leaves v (at + 1) n j leaf a b c)
  where
    past : (ls : List Leaf) (i : ℕ) → leaf_from ls v i ≡ Some n → i ≤ n
    past [] i e1 = absurd cc
    past (y ∷ ls) i e1 = by (matches_of y.prov v) e1 (past ls (i + 1))
      where
        by : (b : Bool) → (if b then Some i else leaf_from ls v (i + 1)) ≡ Some n → (leaf_from ls v (i + 1) ≡ Some n → i + 1 ≤ n) → i ≤ n
        by true h1 rest = let z = same_Some i n h1 in omega (arith, z)
        by false h1 rest = let z = rest h1 in omega (arith, z)

    go : (b : Bool) → matches_of x.prov v ≡ b → (if b then Some at else leaf_from leaves v (at + 1)) ≡ Some n → (j : ℕ) → n ≡ at + j → slice_get (x ∷ leaves) j ≡ Some leaf
        → ((i : ℕ) → leaf_from leaves v (at + 1) ≡ Some n → n ≡ at + 1 + i → slice_get leaves i ≡ Some leaf → matches_of leaf.prov v ≡ true) → matches_of leaf.prov v ≡ true
    go true is e1 zero s1 h1 rest = ap (λ (y : Leaf). matches_of y.prov v) (sym (same_Some x leaf h1)) ∙ is
    go true is e1 (suc j) s1 h1 rest = absurd (let z = same_Some at n e1 in omega (arith, z, s1))
    go false is e1 zero s1 h1 rest = absurd (let z = past leaves (at + 1) e1 in omega (arith, z, s1))
    go false is e1 (suc j) s1 h1 rest = rest j e1 (omega (arith, s1)) h1

-- the leaf of a value matches it
pub leaf_matches : (layout : Layout) (v : Value) (n : ℕ) (leaf : Leaf) → leaf_of layout v ≡ Some n → slice_get layout.leaves n ≡ Some leaf → matches_of leaf.prov v ≡ true
leaf_matches layout v n leaf e h = matched_from layout.leaves v 0 n n leaf e (omega arith) h

module _ (plan : Plan) (typed : IsTyped plan.program) (agreed : AreAgreed plan.program plan.layouts) (t n : ℕ) (layout : Layout) (leaf : Leaf) (is_layout : layout_of plan.layouts t ≡ Some layout)
    (is_leaf : slice_get layout.leaves n ≡ Some leaf) where
  flat_layout : layout_of (flat_layouts plan.program) t ≡ Some layout
  flat_layout = ap (λ ls. layout_of ls t) (sym agreed.0) ∙ is_layout

  pub root_is : root_type (out-Pat leaf.prov) ≡ Named t
  root_is = (lawful plan.program agreed.1 typed).provenances.root t layout n leaf flat_layout is_leaf

  -- the root of a provenance
  pub root_place : IsPlace plan.program.types leaf.prov (Named t)
  root_place =
      let law = (lawful plan.program agreed.1 typed).provenances in
      record {
        fits = law.fits t layout n leaf flat_layout is_leaf;
        shaped = ap (either (fold-Pat Below below_step leaf.prov).wild) (law.shaped t layout n leaf flat_layout is_leaf) ∙ either_right (fold-Pat Below below_step leaf.prov).wild;
      }

  -- a field of the constructor at the root
  pub field_position : (at : ℕ) (c : ConRef) (ps : List Pat) → leaf.prov ≡ Con at c ps → (fields : List Ty) → fields_of plan.program.types c ≡ Some fields → (j : ℕ) (q : Pat) (ty : Ty)
      → slice_get ps j ≡ Some q → slice_get fields j ≡ Some ty → PositionAt plan t n (j ∷ []) ty
  field_position at c ps is fields are j q ty e h = record {
    layout = layout;
    leaf = leaf;
    pat = q;
    is_layout = is_layout;
    is_leaf = is_leaf;
    is_position =
        ap (λ o. found_at plan.program.types o [])
        (ap (λ p. sub_pattern plan.program.types p j) is ∙ sub-Con plan.program.types at c ps j ∙ ap (λ o. pair_of o (slice_get (types_or_none (fields_of plan.program.types c)) j)) e
        ∙ ap (pair_of (Some q)) (ap (λ o. slice_get (types_or_none o) j) are ∙ h));
  }

-- an open position is one, and costs nothing
module _ (plan : Plan) (typed : IsTyped plan.program) (agreed : AreAgreed plan.program plan.layouts) (t n : ℕ) (path : List ℕ) (ty : Ty) where
  pub open_position : (f : FieldAt plan t n path ty) → (x : PositionAt plan t n path ty) × (x.layout ≡ f.layout) × (mend_under plan.layouts x.pat ≡ 0)
  open_position f =
      let types = plan.program.types in
      let root = root_is plan typed agreed t n f.layout f.leaf f.is_layout f.is_leaf in
      let w : type_along types (Some (f.leaf.prov, Named t)) path ≡ Some ty =
      ap (λ u. type_along types (Some (f.leaf.prov, u)) path) (sym root) ∙ sym (type_at_walked types f.leaf.prov path) ∙ position-typed types f.leaf.prov f.number (record { path = path; ty = ty }) f.is_open in
      let r = walked_found types (Some (f.leaf.prov, Named t)) path ty w in
      (record { layout = f.layout; leaf = f.leaf; pat = r.pat; is_layout = f.is_layout; is_leaf = f.is_leaf; is_position = r.is_found }, refl, mend_open plan.layouts r.pat ty r.is_open)

  -- a wildcard is an open position
  pub position_open : (f : PositionAt plan t n path ty) → open_type (out-Pat f.pat) ty ≡ Some ty → (x : FieldAt plan t n path ty) × (x.layout ≡ f.layout)
  position_open f is_open =
      let types = plan.program.types in
      let root = root_is plan typed agreed t n f.layout f.leaf f.is_layout f.is_leaf in
      let w : type_at (open_positions types f.leaf.prov) path ≡ Some ty =
      type_at_walked types f.leaf.prov path ∙ ap (λ u. type_along types (Some (f.leaf.prov, u)) path) root ∙ found_walked types (Some (f.leaf.prov, Named t)) path f.pat ty f.is_position ∙ is_open in
      let o = type-open (open_positions types f.leaf.prov) path ty w in
      let same : o.1 ≡ record { path = path; ty = ty } = pair_is o.1 o.3 o.4 in
      (record { layout = f.layout; leaf = f.leaf; number = o.0; is_layout = f.is_layout; is_leaf = f.is_leaf; is_open = o.2 ∙ ap Some same }, refl)
    where
      pair_is : (o : Open) → o.path ≡ path → o.ty ≡ ty → o ≡ record { path = path; ty = ty }
      pair_is o e h = ap (λ q. let r : Open = record { path = q; ty = o.ty } in r) e ∙ ap (λ u. let r : Open = record { path = path; ty = u } in r) h
