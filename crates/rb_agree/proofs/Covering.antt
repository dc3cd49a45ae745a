-- Leaves for values, from what a search of patterns answers.
use Rattle.std.proofs.Common.{◌≡◌, ℕ, zero, suc, inl, inr, get_or, ◌+◌, ◌<◌, ◌≤◌, List, [], ◌∷◌, map, length, Bool, true, false, Option, Some, None, Ok, Err, refl, sym, ap, subst, ◌∙◌, arith}
use Rattle.std.specs.Prelude.{slice_get, IsSome, unwrap_or, ◌&&◌, ◌==◌, if◌then◌else◌}
use Rattle.std.specs.Bool.{MatchBool}
use Rattle.std.proofs.lemmas.Option.{same_Some, slice_get_within}
use Rattle.std.proofs.lemmas.Bool.{eqb-true, eq-eqb, cases_lt, and_parts}
use Rattle.rb_agree.proofs.Lists.{at-item}
use Rattle.rb_core.specs.declared.value.Value.{Value}
use Rattle.rb_core.specs.declared.types.Ty.{Ty}
use Rattle.rb_core.specs.declared.types.Ty.TheVariants.{Int, Named}
use Rattle.rb_core.specs.declared.types.ConRef.{ConRef}
use Rattle.rb_core.specs.declared.types.DataDecl.{DataDecl}
use Rattle.rb_core.specs.declared.pattern.Pat.{Pat, Wild, Var, Num, Con}
use Rattle.rb_core.specs.declared.pattern.Pat.TheOpen as P
use Rattle.rb_core.specs.declared.typing.TypeFault.TheVariants.{Arity, Mismatch}
use Rattle.rb_core.specs.Values.{is_of_type, all_of_types, are_of, fields_of}
use Rattle.rb_core.specs.Matching.{IsExhaustive, chosen_clause, matches_of, next_clause}
use Rattle.rb_core.specs.Typing.{PatternRule, also_bound, and_then, number_type, distinct_binders, field_params, field_types, pattern_binders, pattern_params, pattern_step, subpatterns}
use Rattle.rb_core.proofs.PatternLaws.{fold-Wild, fold-Var, fold-Num, fold-Con, Each, induction}
use Rattle.rb_layout.specs.declared.layout.Layout.{Layout}
use Rattle.rb_layout.specs.declared.layout.Leaf.{Leaf}
use Rattle.rb_layout.specs.A5.{HaveCommon, IsComplete, IsWithoutLeaf, Matches}
use Rattle.rb_matrix.specs.Search.{is_plain, plain_step}
use Rattle.rb_matrix.specs.Exhaust.{IsCommon, IsMissing, both_match}
use Rattle.rb_agree.specs.inner.Values.{provenances_in}

-- Leaves by the chosen pattern ----------------------------------------------------------------------

abbrev LeafIn : List Leaf → Value → Type 0
LeafIn ls v = (n : ℕ) × (leaf : Leaf) × (slice_get ls n ≡ Some leaf) × Matches leaf.prov v

leaf-later : (l : Leaf) (ls : List Leaf) (v : Value) → LeafIn ls v → LeafIn (l ∷ ls) v
leaf-later l ls v h = (suc h.0, h.1, h.2, h.3)

some-next : (x : Option ℕ) → IsSome (next_clause x) → IsSome x
some-next None h = h
some-next (Some i) h = refl

chosen-case : (l : Leaf) (ls : List Leaf) (v : Value) (b : Bool) → matches_of l.prov v ≡ b → IsSome (if b then Some 0 else next_clause (chosen_clause (provenances_in ls) v))
    → (IsSome (chosen_clause (provenances_in ls) v) → LeafIn ls v) → LeafIn (l ∷ ls) v
chosen-case l ls v true is h rest = (0, l, refl, is)
chosen-case l ls v false is h rest = leaf-later l ls v (rest (some-next (chosen_clause (provenances_in ls) v) h))

leaf-chosen : (ls : List Leaf) (v : Value) → IsSome (chosen_clause (provenances_in ls) v) → LeafIn ls v
leaf-chosen [] v h = absurd (cc h)
leaf-chosen (l ∷ ls) v h = chosen-case l ls v (matches_of l.prov v) refl h (leaf-chosen ls v)

none-next : (x : Option ℕ) → next_clause x ≡ None → x ≡ None
none-next None e = refl
none-next (Some i) e = absurd cc

none-case : (l : Leaf) (x : Option ℕ) (b : Bool) → (if b then Some 0 else next_clause x) ≡ None → (b ≡ false) × (x ≡ None)
none-case l x true e = absurd cc
none-case l x false e = (refl, none-next x e)

no-leaf : (ls : List Leaf) (v : Value) → chosen_clause (provenances_in ls) v ≡ None → (n : ℕ) (leaf : Leaf) → slice_get ls n ≡ Some leaf → Matches leaf.prov v → ⊥
no-leaf [] v none n leaf e m = absurd cc
no-leaf (l ∷ ls) v none zero leaf e m =
    let h = none-case l (chosen_clause (provenances_in ls) v) (matches_of l.prov v) none in
    let here : matches_of l.prov v ≡ true = ap (λ (x : Leaf). matches_of x.prov v) (same_Some l leaf e) ∙ m in absurd (cc (h.0, here))
no-leaf (l ∷ ls) v none (suc n) leaf e m = no-leaf ls v (none-case l (chosen_clause (provenances_in ls) v) (matches_of l.prov v) none).1 n leaf e m

-- Plain patterns bind nothing -----------------------------------------------------------------------

module _ (types : List DataDecl) where
  abbrev Binds : Pat → Type 0
  Binds p = (t : Ty) → is_plain types p t ≡ true → pattern_params types p t ≡ Ok []

  plain-wild : (at : ℕ) → Binds (Wild at)
  plain-wild at t e = ap (λ (f : PatternRule). f t) (fold-Wild PatternRule (pattern_step types) at)

  plain-var : (at x : ℕ) → Binds (Var at x)
  plain-var at x t e = absurd (cc (ap (λ (f : Ty → Bool). f t) (fold-Var (Ty → Bool) (plain_step types) at x)))

  num-case : (at n : ℕ) (t : Ty) → plain_step types (P.Num at n) t ≡ true → pattern_step types (P.Num at n) t ≡ Ok []
  num-case at n (Int bits) e = ap (λ b. if b then Ok [] else Err (Mismatch at (Int bits) (number_type n))) e
  num-case at n (Named t) e = absurd cc

  plain-num : (at n : ℕ) → Binds (Num at n)
  plain-num at n t e =
      ap (λ (f : PatternRule). f t) (fold-Num PatternRule (pattern_step types) at n)
      ∙ num-case at n t (sym (ap (λ (f : Ty → Bool). f t) (fold-Num (Ty → Bool) (plain_step types) at n)) ∙ e)

  abbrev rules : List Pat → List PatternRule
  rules ps = map (pattern_params types) ps

  subs-plain : (ps : List Pat) (ts : List Ty) → Each Binds ps → all_of_types (map (is_plain types) ps) ts ≡ true
      → (length (rules ps) ≡ length ts) × (subpatterns (rules ps) ts ≡ Ok [])
  subs-plain [] [] each e = (refl, refl)
  subs-plain [] (t ∷ ts) each e = absurd cc
  subs-plain (p ∷ ps) [] each e = absurd cc
  subs-plain (p ∷ ps) (t ∷ ts) each e =
      let h = and_parts (is_plain types p t) (all_of_types (map (is_plain types) ps) ts) e in
      let rest = subs-plain ps ts each.1 h.1 in
      (ap suc rest.0, ap (λ r. and_then r (λ bound. also_bound bound (subpatterns (rules ps) ts))) (each.0 t h.0) ∙ ap (λ r. also_bound [] r) rest.1)

  fields-plain : (at : ℕ) (ps : List Pat) → Each Binds ps → (x : Option (List Ty)) → are_of (map (is_plain types) ps) x ≡ true → field_params at (rules ps) (unwrap_or x []) ≡ Ok []
  fields-plain at ps each None e = absurd cc
  fields-plain at ps each (Some ts) e =
      let h = subs-plain ps ts each e in
      ap (λ b. if b then subpatterns (rules ps) ts else Err (Arity at (length ts) (length (rules ps)))) (eq-eqb (length (rules ps)) (length ts) h.0) ∙ h.1

  con-case : (at : ℕ) (c : ConRef) (ps : List Pat) → Each Binds ps → (t : Ty) → plain_step types (P.Con at c (map (is_plain types) ps)) t ≡ true
      → pattern_step types (P.Con at c (rules ps)) t ≡ Ok []
  con-case at c ps each (Int bits) e = absurd cc
  con-case at c ps each (Named t) e =
      let h = and_parts (c.ty == t) (are_of (map (is_plain types) ps) (fields_of types c)) e in
      let same : (t == c.ty) ≡ true = eq-eqb t c.ty (sym (eqb-true c.ty t h.0)) in
      ap (λ b. if b then field_params at (rules ps) (field_types types c) else Err (Mismatch at (Named t) (Named c.ty))) same ∙ fields-plain at ps each (fields_of types c) h.1

  plain-con : (at : ℕ) (c : ConRef) (ps : List Pat) → Each Binds ps → Binds (Con at c ps)
  plain-con at c ps each t e =
      ap (λ (f : PatternRule). f t) (fold-Con PatternRule (pattern_step types) at c ps)
      ∙ con-case at c ps each t (sym (ap (λ (f : Ty → Bool). f t) (fold-Con (Ty → Bool) (plain_step types) at c ps)) ∙ e)

  binds-none : (p : Pat) → Binds p
  binds-none p = induction Binds (record { wild = plain-wild; var = plain-var; num = plain-num; con = plain-con }) p

  pub plain-binders : (p : Pat) (t : Ty) → is_plain types p t ≡ true → pattern_binders types p t ≡ Ok []
  plain-binders p t e = ap (λ r. and_then r distinct_binders) (binds-none p t e)

  -- What a layout answers
  pub is-complete : (t : ℕ) (layout : Layout) → IsExhaustive types (Named t) (provenances_in layout.leaves) → IsComplete types t layout
  is-complete t layout all = λ v typed. leaf-chosen layout.leaves v (all v typed)

  pub is-without : (t : ℕ) (layout : Layout) (q : Pat) → IsMissing types (Named t) (provenances_in layout.leaves) q → IsWithoutLeaf types t layout q
  is-without t layout q m = record {
    plain = plain-binders q (Named t) m.plain;
    value = m.value;
    typed = m.typed;
    matched = m.matched;
    none = λ v typed matched has. no-leaf layout.leaves v (m.none v typed matched) has.0 has.1 has.2 has.3;
  }

  pub have-common : (t : ℕ) (p q r : Pat) → IsCommon types (Named t) p q r → HaveCommon types t p q
  have-common t p q r c =
      let h = and_parts (matches_of p c.value) (matches_of q c.value) (c.all c.value c.typed c.matched) in (c.value, c.typed, h.0, h.1)

  and_true : (a b : Bool) → a ≡ true → b ≡ true → (a && b) ≡ true
  and_true true b e f = f
  and_true false b e f = absurd cc

  pub no-common : (t : ℕ) (p q : Pat) → ((v : Value) → is_of_type types v (Named t) ≡ true → both_match p q v ≡ false) → HaveCommon types t p q → ⊥
  no-common t p q none h = absurd (cc (none h.0 h.1, and_true (matches_of p h.0) (matches_of q h.0) h.2 h.3))

-- Leaves apart ------------------------------------------------------------------------------------------

module _ (types : List DataDecl) (t n : ℕ) (leaf : Leaf) (leaves : List Leaf) where
  abbrev pub ApartBefore : ℕ → Type 0
  ApartBefore m = (k : ℕ) (later : Leaf) → n < k → k < m → slice_get leaves k ≡ Some later → HaveCommon types t leaf.prov later.prov → ⊥

  abbrev Answer : Leaf → Bool → Type 0
  Answer later b = MatchBool b (HaveCommon types t leaf.prov later.prov) (HaveCommon types t leaf.prov later.prov → ⊥)

  pub common-at : (m k : ℕ) (later : Leaf) (b : Bool) → n + 1 ≤ m → m < length leaves → later ≡ get_or leaves m later → Answer (get_or leaves m later) b → b ≡ true → k ≡ m
      → (n < k) × (x : Leaf) × (slice_get leaves k ≡ Some x) × HaveCommon types t leaf.prov x.prov
  common-at m k later b le lt is h e same = (
    omega (arith, le, same),
    later,
    ap (λ j. slice_get leaves j) same ∙ at-item leaves m later lt is,
    subst (λ x. Answer later x) e (subst (λ (x : Leaf). Answer x b) (sym is) h),
  )

  pub apart-more : (m : ℕ) (later : Leaf) (b : Bool) → m < length leaves → later ≡ get_or leaves m later → Answer (get_or leaves m later) b → b ≡ false → ApartBefore m → ApartBefore (m + 1)
  apart-more m later b lt is h e before = λ k x less le at. elim (cases_lt k m) [
    | inl sooner ↦ before k x less sooner at
    | inr here ↦ (let same : k ≡ m = omega (arith, here, le) in
        let one : later ≡ x = same_Some later x (sym (at-item leaves m later lt is) ∙ ap (λ j. slice_get leaves j) (sym same) ∙ at) in
        subst (λ (y : Leaf). HaveCommon types t leaf.prov y.prov → ⊥) one (subst (λ z. Answer later z) e (subst (λ (y : Leaf). Answer y b) (sym is) h)))
  ]

  pub all-apart : (m k : ℕ) (later : Leaf) → length leaves ≤ m → ApartBefore m → n < k → slice_get leaves k ≡ Some later → HaveCommon types t leaf.prov later.prov → ⊥
  all-apart m k later le before less at = let within = slice_get_within leaves k later at in before k later less (omega (arith, within, le)) at
