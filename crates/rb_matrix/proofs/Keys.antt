-- What stands in patterns and values at a path, and which numbers an index keeps.
use Rattle.std.proofs.Common.{◌≡◌, ℕ, zero, suc, ◌+◌, ◌<◌, List, [], ◌∷◌, ◌++◌, map, length, true, ◌==◌, Option, Some, None, refl, sym, ap, ◌∙◌, subst, arith, Bor, ◌⊎◌, inl, inr}
use Rattle.std.specs.Prelude.{slice_get, slice_index_or, IfSome, Contains, unwrap_or}
use Rattle.std.specs.Option.{option_copied}
use Rattle.std.specs.Ordering.{nat_cmp}
use Rattle.std.specs.BTreeMap as tree
use Rattle.std.proofs.lemmas.Bool.{false≢true, cases_eq, cases_lt}
use Rattle.std.proofs.lemmas.Option.{same_Some, slice_get_within, get_or_from_slice_get}
use Rattle.std.proofs.lemmas.List.Elements.{Contains-append_left, Contains-append_right, Contains-push}
use Rattle.rb_core.specs.declared.value.Value.{Value, out-Value}
use Rattle.rb_core.specs.declared.value.Value.TheOpen as V
use Rattle.rb_core.specs.declared.types.ConRef.{ConRef}
use Rattle.rb_core.specs.declared.pattern.Pat.{Pat}
use Rattle.rb_core.specs.declared.pattern.Pat as Pats
use Rattle.rb_core.specs.Matching.{all_pass, is_con, matches_of}
use Rattle.rb_core.specs.Values.{subs, subs_in}
use Rattle.rb_matrix.specs.declared.index.Index.{Index}
use Rattle.rb_matrix.specs.Apart.{PatternsAreApart}
use Rattle.rb_matrix.specs.inner.Groups.{numbers_with, IsGrouped, IsNumberAdded}
use Rattle.rb_matrix.specs.inner.Index.{key_of, HasKey, IsInGroup, ExtendsIndex, AreNear}
use Rattle.rb_matrix.proofs.Differing.{at-con, pass-at}
use Rattle.rb_matrix.proofs.Vectors.{and-right}

-- Fields -----------------------------------------------------------------------------------------

field-layer : (c : ℕ) (ps : List Pat) (i : ℕ) (q : Pat) → slice_get ps i ≡ Some q → (d : Value) (l : V.Value-F Value) → is_con c (map matches_of ps) l ≡ true
    → matches_of q (slice_index_or (subs_in l) i d) ≡ true
field-layer c ps i q at d (V.Num m) h = absurd (false≢true h)
field-layer c ps i q at d (V.Con k us) h =
    let a = pass-at ps us i q (and-right (c == k) (all_pass (map matches_of ps) us) h) at in
    ap (matches_of q) (get_or_from_slice_get us i a.0 d a.1) ∙ a.2

pub field-there : (p : Pat) (at : ℕ) (c : ConRef) (ps : List Pat) (i : ℕ) (r : Option (Bor Pat)) → p ≡ Pats.Con at c ps → option_copied r ≡ slice_get ps i
    → IfSome r (λ sub. (v : Value) → matches_of p v ≡ true → matches_of sub.now (slice_index_or (subs v) i v) ≡ true)
field-there p at c ps i None is there = tt
field-there p at c ps i (Some sub) is there = λ v m. field-layer c.con ps i sub.now (sym there) v (out-Value v) (at-con p at c ps v is m)

-- Paths ------------------------------------------------------------------------------------------

-- where a value matches, what stands in it matches here, and the rest of the path leads on from there
pub record IsPart (here : Pat) (path rest : List ℕ) (v : Value) : Type 0 where
  pub part : Value
  pub matched : matches_of here part ≡ true
  pub key : key_of v path ≡ key_of part rest

abbrev pub Leads : Pat → List ℕ → Pat → List ℕ → Type 0
Leads p path here rest = (v : Value) → matches_of p v ≡ true → IsPart here path rest v

pub leads-more : (p : Pat) (path : List ℕ) (here sub : Pat) (rest more : List ℕ) (i : ℕ) → rest ≡ i ∷ more → Leads p path here rest
    → ((v : Value) → matches_of here v ≡ true → matches_of sub (slice_index_or (subs v) i v) ≡ true) → Leads p path sub more
leads-more p path here sub rest more i is h down = λ v m. let a = h v m in record {
  part = slice_index_or (subs a.part) i a.part;
  matched = down a.part a.matched;
  key = a.key ∙ ap (key_of a.part) is;
}

pub leads-end : (p : Pat) (path : List ℕ) (here : Pat) (rest : List ℕ) (r : Option ℕ) → rest ≡ [] → Leads p path here rest → IfSome r (HasKey here []) → IfSome r (HasKey p path)
leads-end p path here rest None is h k = tt
leads-end p path here rest (Some n) is h k = λ v m. let a = h v m in a.key ∙ ap (key_of a.part) is ∙ k a.part a.matched

-- patterns with different keys
pub keys-apart : (p q : Pat) (path : List ℕ) (a b : ℕ) → HasKey p path a → HasKey q path b → (a ≡ b → ⊥) → PatternsAreApart p q
keys-apart p q path a b h k ne = λ v m w. ne (sym (h v m) ∙ k v w)

-- Indexes ----------------------------------------------------------------------------------------

pub get-push : (ps : List Pat) (p : Pat) (j : ℕ) (q : Pat) → slice_get (ps ++ p ∷ []) j ≡ Some q → (slice_get ps j ≡ Some q) ⊎ ((j ≡ length ps) × (p ≡ q))
get-push [] p zero q e = inr (refl, same_Some p q e)
get-push [] p (suc j) q e = absurd cc
get-push (r ∷ ps) p zero q e = inl e
get-push (r ∷ ps) p (suc j) q e = elim (get-push ps p j q e) [ inl l ↦ inl l | inr s ↦ inr (ap suc s.0, s.1) ]

-- a number is added to its group, or to those without a key
module _ (i : ℕ) (p : Pat) (old new : Index) (path : new.path ≡ old.path) where
  extends-keyless : (new.numbers.keyless ≡ old.numbers.keyless ++ i ∷ []) × (new.numbers.by_key ≡ old.numbers.by_key) → ExtendsIndex i p old new
  extends-keyless a = λ ps len h j q at. elim (get-push ps p j q at) [
    | inl l ↦ elim (h j q l) [
      | inl c ↦ inl (subst (λ (l : List ℕ). Contains l j) (sym a.0) (Contains-append_left old.numbers.keyless (i ∷ []) j c))
      | inr m ↦ inr (m.0, subst (λ path. HasKey q path m.0) (sym path) m.1, subst (λ b. Contains (unwrap_or (tree.get nat_cmp b m.0) []) j) (sym a.1) m.2)
    ]
    | inr s ↦ inl (subst (λ (l : List ℕ). Contains l j) (sym a.0) (subst (Contains (old.numbers.keyless ++ i ∷ [])) (sym (s.0 ∙ len)) (Contains-push old.numbers.keyless i)))
  ]

  module _ (k : ℕ) (has : HasKey p old.path k) (g : IsGrouped k i old.numbers new.numbers) where
    kept : (q j : ℕ) → IsInGroup old q j → IsInGroup new q j
    kept q j c = elim (cases_eq q k) [
      | inl e ↦ subst (λ (l : List ℕ). Contains l j) (sym (subst (λ q. numbers_with new.numbers q ≡ numbers_with old.numbers q ++ i ∷ []) (sym e) g.here))
          (Contains-append_left (numbers_with old.numbers q) (i ∷ []) j c)
      | inr ne ↦ subst (λ (l : List ℕ). Contains l j) (sym (g.others q ne)) c
    ]

    here : IsInGroup new k i
    here = subst (λ (l : List ℕ). Contains l i) (sym g.here) (Contains-push (numbers_with old.numbers k) i)

    extends-grouped : ExtendsIndex i p old new
    extends-grouped = λ ps len h j q at. elim (get-push ps p j q at) [
      | inl l ↦ elim (h j q l) [
        | inl c ↦ inl (subst (λ (l : List ℕ). Contains l j) (sym g.keyless) c)
        | inr m ↦ inr (m.0, subst (λ path. HasKey q path m.0) (sym path) m.1, kept m.0 j m.2)
      ]
      | inr s ↦ inr (k, subst (λ path. HasKey q path k) (sym path) (subst (λ (x : Pat). HasKey x old.path k) s.1 has), subst (IsInGroup new k) (sym (s.0 ∙ len)) here)
    ]

  pub extends-added : (key : Option ℕ) → IfSome key (HasKey p old.path) → IsNumberAdded key i old.numbers new.numbers → ExtendsIndex i p old new
  extends-added None has a = extends-keyless a
  extends-added (Some k) has a = extends-grouped k has a

-- all numbers
pub near-all : (p : Pat) (n : ℕ) (x : Index) (js : List ℕ) → ((j : ℕ) → j < n → Contains js j) → AreNear p n x js
near-all p n x js all = λ ps len h j q at. inl (all j (let w = slice_get_within ps j q at in omega (arith, w, len)))

pub below-push : (js more : List ℕ) (n : ℕ) → more ≡ js ++ n ∷ [] → ((j : ℕ) → j < n → Contains js j) → (j : ℕ) → j < n + 1 → Contains more j
below-push js more n is h j lt = subst (λ (l : List ℕ). Contains l j) (sym is) (elim (cases_lt j n) [
  | inl l ↦ Contains-append_left js (n ∷ []) j (h j l)
  | inr g ↦ let same : n ≡ j = omega (arith, lt, g) in subst (Contains (js ++ n ∷ [])) same (Contains-push js n)
])

module _ (p : Pat) (n : ℕ) (x : Index) (js : List ℕ) (key : ℕ) (has : HasKey p x.path key) where
  -- those without a key and those of this one
  near-some : ((j : ℕ) → Contains x.numbers.keyless j → Contains js j) → ((j : ℕ) → IsInGroup x key j → Contains js j) → AreNear p n x js
  near-some keyless same = λ ps len h j q at. elim (h j q at) [
    | inl c ↦ inl (keyless j c)
    | inr m ↦ elim (cases_eq m.0 key) [
      | inl e ↦ inl (same j (subst (λ k. IsInGroup x k j) e m.2))
      | inr ne ↦ inr (keys-apart q p x.path m.0 key m.1 has ne)
    ]
  ]

  pub near-group : js ≡ x.numbers.keyless ++ numbers_with x.numbers key → AreNear p n x js
  near-group is = near-some (λ j c. subst (λ (l : List ℕ). Contains l j) (sym is) (Contains-append_left x.numbers.keyless (numbers_with x.numbers key) j c))
      (λ j c. subst (λ (l : List ℕ). Contains l j) (sym is) (Contains-append_right x.numbers.keyless (numbers_with x.numbers key) j c))
