-- Rows grouped by the heads that they begin with.
use Rattle.std.proofs.Common.{◌≡◌, ℕ, ◌+◌, ◌<◌, ◌≤◌, List, [], ◌∷◌, ◌++◌, take, length, get_or, Bool, true, false, ◌&&◌, ◌==◌, Option, Some, None, refl, sym, ap, ◌∙◌, subst, arith, inl, inr, append-nil}
use Rattle.std.specs.Prelude.{nat_lt, if◌then◌else◌, option_map}
use Rattle.std.proofs.lemmas.Bool.{eqb-true, cases_eq, lt-ltb, le-ltb}
use Rattle.std.proofs.lemmas.Option.{none-some, same_Some}
use Rattle.std.proofs.lemmas.List.{map-append, take_more, take_all}
use Rattle.rb_core.specs.declared.pattern.Pat.{Pat, out-Pat}
use Rattle.rb_core.specs.declared.pattern.Pat.TheOpen as P
use Rattle.rb_core.specs.declared.pattern.Pat.TheOpen.{Pat-F}
use Rattle.rb_matrix.specs.declared.matrix.Head.{Head}
use Rattle.rb_matrix.specs.declared.matrix.Head.TheVariants as H
use Rattle.rb_matrix.specs.declared.groups.Groups.{Groups}
use Rattle.rb_matrix.specs.Heads.{layer_head}
use Rattle.rb_matrix.specs.Specialize.{special_of_layer, special_row, special, keep}
use Rattle.rb_matrix.specs.inner.Groups.{insertion, merge_of, numbers_with, near, HasNoNumber, IsGrouped, IsNumberAdded, key_of_head, row_key, rows_at, AreGrouped}

-- Merged numbers ----------------------------------------------------------------------------------

-- all numbers are below i
abbrev pub AreBelow : ℕ → List ℕ → Type 0
AreBelow i [] = Unit {0}
AreBelow i (n ∷ ns) = (n < i) × AreBelow i ns

below-more : (i : ℕ) (ns : List ℕ) → AreBelow i ns → AreBelow (i + 1) ns
below-more i [] h = tt
below-more i (n ∷ ns) h = (let a = h.0 in omega (arith, a), below-more i ns h.1)

below-push : (i : ℕ) (ns : List ℕ) → AreBelow i ns → AreBelow (i + 1) (ns ++ i ∷ [])
below-push i [] h = (omega arith, tt)
below-push i (n ∷ ns) h = (let a = h.0 in omega (arith, a), below-push i ns h.1)

-- numbers and none beside them
pub merge-none : (ns : List ℕ) → merge_of ns [] ≡ ns
merge-none [] = refl
merge-none (n ∷ ns) = ap (λ l. n ∷ l) (merge-none ns)

-- a number above all comes last, in either list
module _ (i : ℕ) where
  module _ (n : ℕ) (rest : List ℕ → List ℕ) (less : n < i) (on : (ms : List ℕ) → rest (ms ++ i ∷ []) ≡ rest ms ++ i ∷ []) where
    insertion-push : (ms : List ℕ) → insertion n rest (ms ++ i ∷ []) ≡ insertion n rest ms ++ i ∷ []
    insertion-push [] = ap (λ b. if b then n ∷ rest (i ∷ []) else i ∷ insertion n rest []) (lt-ltb n i less) ∙ ap (λ l. n ∷ l) (on [])
    insertion-push (m ∷ ms) = by (nat_lt n m) (insertion-push ms)
      where
        by : (b : Bool) → insertion n rest (ms ++ i ∷ []) ≡ insertion n rest ms ++ i ∷ [] → (if b then n ∷ rest (m ∷ ms ++ i ∷ []) else m ∷ insertion n rest (ms ++ i ∷ [])) ≡ (if b then n ∷ rest (m ∷ ms) else m ∷ insertion n rest ms) ++ i ∷ []
        by true e = ap (λ l. n ∷ l) (on (m ∷ ms))
        by false e = ap (λ l. m ∷ l) e

  pub merge-right : (ns ms : List ℕ) → AreBelow i ns → merge_of ns (ms ++ i ∷ []) ≡ merge_of ns ms ++ i ∷ []
  merge-right [] ms below = refl
  merge-right (n ∷ ns) ms below = insertion-push n (merge_of ns) below.0 (λ l. merge-right ns l below.1) ms

  module _ (n : ℕ) (more rest : List ℕ → List ℕ) (on : (ms : List ℕ) → AreBelow i ms → more ms ≡ rest ms ++ i ∷ []) where
    insertion-more : (ms : List ℕ) → AreBelow i ms → insertion n more ms ≡ insertion n rest ms ++ i ∷ []
    insertion-more [] below = ap (λ l. n ∷ l) (on [] tt)
    insertion-more (m ∷ ms) below = by (nat_lt n m) (insertion-more ms below.1)
      where
        by : (b : Bool) → insertion n more ms ≡ insertion n rest ms ++ i ∷ [] → (if b then n ∷ more (m ∷ ms) else m ∷ insertion n more ms) ≡ (if b then n ∷ rest (m ∷ ms) else m ∷ insertion n rest ms) ++ i ∷ []
        by true e = ap (λ l. n ∷ l) (on (m ∷ ms) below)
        by false e = ap (λ l. m ∷ l) e

  merge-last : (ms : List ℕ) → AreBelow i ms → merge_of (i ∷ []) ms ≡ ms ++ i ∷ []
  merge-last [] below = refl
  merge-last (m ∷ ms) below = ap (λ b. if b then i ∷ m ∷ ms else m ∷ merge_of (i ∷ []) ms) (le-ltb i m (let less = below.0 in omega (arith, less))) ∙ ap (λ l. m ∷ l) (merge-last ms below.1)

  pub merge-left : (ns ms : List ℕ) → AreBelow i ms → merge_of (ns ++ i ∷ []) ms ≡ merge_of ns ms ++ i ∷ []
  merge-left [] ms below = merge-last ms below
  merge-left (n ∷ ns) ms below = insertion-more n (merge_of (ns ++ i ∷ [])) (merge_of ns) (λ l b. merge-left ns l b) ms below

-- Specialised rows --------------------------------------------------------------------------------

keep-append : (o : Option (List Pat)) (rs ss : List (List Pat)) → keep o (rs ++ ss) ≡ keep o rs ++ ss
keep-append None rs ss = refl
keep-append (Some r) rs ss = refl

special-append : (h : Head) (n : ℕ) (rs ss : List (List Pat)) → special h n (rs ++ ss) ≡ special h n rs ++ special h n ss
special-append h n [] ss = refl
special-append h n (r ∷ rs) ss = ap (keep (special_row h n r)) (special-append h n rs ss) ∙ keep-append (special_row h n r) (special h n rs) (special h n ss)

-- a row with another key has no specialised row
layer-other : (h : Head) (n : ℕ) (rest : List Pat) (l : Pat-F Pat) (q : ℕ) → option_map key_of_head (layer_head l) ≡ Some q → (q ≡ key_of_head h → ⊥) → special_of_layer h n rest l ≡ None
layer-other h n rest (P.Wild at) q e ne = absurd (none-some q e)
layer-other h n rest (P.Var at x) q e ne = absurd (none-some q e)
layer-other (H.Num m) n rest (P.Num at k) q e ne = by (k == m) refl
  where
    by : (b : Bool) → (k == m) ≡ b → (if b then Some rest else None) ≡ None
    by true is = absurd (ne (sym (same_Some k q e) ∙ eqb-true k m is))
    by false is = refl
layer-other (H.Con d) n rest (P.Num at k) q e ne = refl
layer-other (H.Num m) n rest (P.Con at c ps) q e ne = refl
layer-other (H.Con d) n rest (P.Con at c ps) q e ne = by (c.con == d.con) refl
  where
    by : (b : Bool) → (c.con == d.con) ≡ b → (if b && (length ps == n) then Some (ps ++ rest) else None) ≡ None
    by true is = absurd (ne (sym (same_Some c.con q e) ∙ eqb-true c.con d.con is))
    by false is = refl

other-row : (h : Head) (n : ℕ) (r : List Pat) (q : ℕ) → row_key r ≡ Some q → (q ≡ key_of_head h → ⊥) → special_row h n r ≡ None
other-row h n [] q e ne = refl
other-row h n (p ∷ ps) q e ne = layer-other h n ps (out-Pat p) q e ne

-- Rows added one by one ---------------------------------------------------------------------------

-- the first i rows stand in the groups
pub record AreFirst (rows : List (List Pat)) (i : ℕ) (x : Groups) : Type 0 where
  pub same : (h : Head) (n : ℕ) → special h n (rows_at rows (near x (key_of_head h))) ≡ special h n (take i rows)
  pub keyless : AreBelow i x.keyless
  pub groups : (k : ℕ) → AreBelow i (numbers_with x k)

pub first-none : (rows : List (List Pat)) (x : Groups) → HasNoNumber x → AreFirst rows 0 x
first-none rows x none = record {
  same = λ h n. ap (λ ns. special h n (rows_at rows (merge_of ns x.keyless))) (none.1 (key_of_head h)) ∙ ap (λ ns. special h n (rows_at rows ns)) none.0;
  keyless = subst (AreBelow 0) (sym none.0) tt;
  groups = λ k. subst (AreBelow 0) (sym (none.1 k)) tt;
}

pub first-all : (rows : List (List Pat)) (i : ℕ) (x : Groups) → length rows ≤ i → AreFirst rows i x → AreGrouped rows x
first-all rows i x le f = λ h n. f.same h n ∙ ap (special h n) (take_all i rows le)

module _ (rows : List (List Pat)) (i : ℕ) (x y : Groups) (within : i < length rows) (f : AreFirst rows i x) where
  abbrev row : List Pat
  row = get_or rows i []

  one-more : (h : Head) (n : ℕ) → special h n (take (i + 1) rows) ≡ special h n (take i rows) ++ special h n (row ∷ [])
  one-more h n = ap (special h n) (take_more rows i [] within) ∙ special-append h n (take i rows) (row ∷ [])

  with-row : (h : Head) (n : ℕ) → near y (key_of_head h) ≡ near x (key_of_head h) ++ i ∷ [] → special h n (rows_at rows (near y (key_of_head h))) ≡ special h n (take (i + 1) rows)
  with-row h n e =
      ap (λ ns. special h n (rows_at rows ns)) e ∙ ap (special h n) (map-append (λ n. get_or rows n []) (near x (key_of_head h)) (i ∷ []))
      ∙ special-append h n (rows_at rows (near x (key_of_head h))) (row ∷ []) ∙ ap (λ l. l ++ special h n (row ∷ [])) (f.same h n) ∙ sym (one-more h n)

  without-row : (h : Head) (n : ℕ) → near y (key_of_head h) ≡ near x (key_of_head h) → special_row h n row ≡ None → special h n (rows_at rows (near y (key_of_head h))) ≡ special h n (take (i + 1) rows)
  without-row h n e none =
      ap (λ ns. special h n (rows_at rows ns)) e ∙ f.same h n
      ∙ sym (one-more h n ∙ ap (λ o. special h n (take i rows) ++ keep o []) none ∙ append-nil (special h n (take i rows)))

  first-keyless : (y.keyless ≡ x.keyless ++ i ∷ []) × (y.by_key ≡ x.by_key) → AreFirst rows (i + 1) y
  first-keyless a =
      let group : (k : ℕ) → numbers_with y k ≡ numbers_with x k = λ k. ap (λ m. numbers_with (record { keyless = x.keyless; by_key = m }) k) a.1 in
      record {
        same = λ h n. with-row h n (ap (λ l. merge_of l y.keyless) (group (key_of_head h)) ∙ ap (merge_of (numbers_with x (key_of_head h))) a.0
            ∙ merge-right i (numbers_with x (key_of_head h)) x.keyless (f.groups (key_of_head h)));
        keyless = subst (AreBelow (i + 1)) (sym a.0) (below-push i x.keyless f.keyless);
        groups = λ k. subst (AreBelow (i + 1)) (sym (group k)) (below-more i (numbers_with x k) (f.groups k));
      }

  first-keyed : (q : ℕ) → row_key row ≡ Some q → IsGrouped q i x y → AreFirst rows (i + 1) y
  first-keyed q e g = record {
    same = λ h n. elim (cases_eq (key_of_head h) q) [
      | inl is ↦ with-row h n (ap (merge_of (numbers_with y (key_of_head h))) g.keyless
          ∙ ap (λ l. merge_of l x.keyless) (subst (λ k. numbers_with y k ≡ numbers_with x k ++ i ∷ []) (sym is) g.here)
          ∙ merge-left i (numbers_with x (key_of_head h)) x.keyless f.keyless)
      | inr ne ↦ without-row h n (ap (merge_of (numbers_with y (key_of_head h))) g.keyless ∙ ap (λ l. merge_of l x.keyless) (g.others (key_of_head h) ne))
          (other-row h n row q e (λ is. ne (sym is)))
    ];
    keyless = subst (AreBelow (i + 1)) (sym g.keyless) (below-more i x.keyless f.keyless);
    groups = λ k. elim (cases_eq k q) [
      | inl is ↦ subst (λ j. AreBelow (i + 1) (numbers_with y j)) (sym is) (subst (AreBelow (i + 1)) (sym g.here) (below-push i (numbers_with x q) (f.groups q)))
      | inr ne ↦ subst (AreBelow (i + 1)) (sym (g.others k ne)) (below-more i (numbers_with x k) (f.groups k))
    ];
  }

  pub first-more : (key : Option ℕ) → key ≡ row_key row → IsNumberAdded key i x y → AreFirst rows (i + 1) y
  first-more None e a = first-keyless a
  first-more (Some q) e a = first-keyed q (sym e) a
