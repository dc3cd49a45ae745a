-- The tree of a derived layout: one split of the tag, with an arm for each constructor.
use Rattle.std.proofs.Common.{◌≡◌, ℕ, zero, suc, ◌+◌, ◌^◌, ◌<◌, ◌≤◌, inl, List, [], ◌∷◌, ◌++◌, length, map, false, Some, None, refl, sym, ap, subst, ◌∙◌, arith}
use Rattle.std.specs.Prelude.{slice_get}
use Rattle.std.specs.List.{flat_map}
use Rattle.std.proofs.lemmas.Option.{same_Some}
use Rattle.std.proofs.lemmas.List.{append-nil}
use Rattle.rb_core.specs.declared.types.Con.{Con}
use Rattle.rb_core.specs.declared.program.Program.{Program}
use Rattle.rb_core.specs.declared.layout_decl.Loc.{Loc}
use Rattle.rb_core.specs.declared.layout_decl.Arm.{Arm}
use Rattle.rb_layout.specs.declared.layout.FlatTree.TheVariants as Flat
use Rattle.rb_layout.specs.declared.layout.FlatTree.TheFolds.{fold_out-FlatArm}
use Rattle.rb_layout.specs.declared.layout.FlatArm.{FlatArm}
use Rattle.rb_layout.specs.Splits.{SplitAt, Test, Is, Route, Under, arm_routes, literals_of, routes_arm, routes_of, routes_step, routes_under, splits_arm, splits_of, splits_step, splits_under}
use Rattle.rb_layout.specs.Flattening.{LeafNumbering, arm_numbering, flat_tree}
use Rattle.rb_layout.specs.Flattening as F
use Rattle.rb_layout.specs.A8.{SplitsWell}
use Rattle.rb_layout.proofs.TreeLemmas.{arm_numbering-is}
use Rattle.rb_layout.proofs.FlatForms.{fold-Leaf, fold-Split}
use Rattle.rb_layout.proofs.Computing.{from-Leaf, from-Split, numbering-Leaf}
use Rattle.rb_auto.specs.declared.form.Form.{Form}
use Rattle.rb_auto.specs.declared.room.Room.{Room}
use Rattle.rb_auto.specs.Fields.{cons_of}
use Rattle.rb_auto.specs.FieldWords.{constructor_words}
use Rattle.rb_auto.specs.Items.{form_tag, leaf_items}
use Rattle.rb_auto.specs.Derived.{arms_from, leaf, provenance, tag_loc, tree_of}
use Rattle.rb_auto.specs.inner.Rules.{SplitsItsTag}

-- the arm of leaf k
abbrev tag_arms : ℕ → List Con → List FlatArm
tag_arms k [] = []
tag_arms k (c ∷ cs) = record { literal = k; under = Flat.Leaf k } ∷ tag_arms (k + 1) cs

abbrev numbers_from : ℕ → List Con → List ℕ
numbers_from k [] = []
numbers_from k (c ∷ cs) = k ∷ numbers_from (k + 1) cs

numbers-count : (k : ℕ) (cs : List Con) → length (numbers_from k cs) ≡ length cs
numbers-count k [] = refl
numbers-count k (c ∷ cs) = ap suc (numbers-count (k + 1) cs)

-- number n of them is k + n
numbers-get : (k : ℕ) (cs : List Con) (n x : ℕ) → slice_get (numbers_from k cs) n ≡ Some x → (x ≡ k + n) × (n < length cs)
numbers-get k [] n x e = absurd cc
numbers-get k (c ∷ cs) zero x e = let s = same_Some k x e in (omega (arith, s), omega arith)
numbers-get k (c ∷ cs) (suc n) x e = let rest = numbers-get (k + 1) cs n x e in (omega (arith, rest.0), omega (arith, rest.1))

module _ (p : Program) (rooms : List Room) (t : ℕ) (form : Form) where
  flat-arms : (k : ℕ) (cs : List Con) → F.arms_from (map arm_numbering (arms_from p rooms t form k cs)) k ≡ tag_arms k cs
  flat-arms k [] = refl
  flat-arms k (c ∷ cs) =
      let a : Arm = record { literal = k; under = leaf p rooms t form k c } in
      let prov = provenance t k c in
      let items = leaf_items form k (constructor_words p rooms c.fields) in
      let of : arm_numbering a ≡ record { literal = k; of = record { count = 1; from = λ n. Flat.Leaf n } } =
      arm_numbering-is a ∙ ap (λ (n : LeafNumbering). record { literal = k; of = n }) (numbering-Leaf 0 prov items) in
      ap (λ (u : Under LeafNumbering). record { literal = u.literal; under = u.of.from k } ∷ F.arms_from (map arm_numbering (arms_from p rooms t form (k + 1) cs)) (k + u.of.count)) of
      ∙ ap (λ (arms : List FlatArm). record { literal = k; under = Flat.Leaf k } ∷ arms) (flat-arms (k + 1) cs)

  -- without a tag it is the leaf
  pub tree-one : (c : Con) → flat_tree (tree_of p rooms t form zero (c ∷ [])) ≡ Flat.Leaf 0
  tree-one c = from-Leaf 0 (provenance t 0 c) (leaf_items form 0 (constructor_words p rooms c.fields)) 0

  pub tree-split : (tag : ℕ) (cs : List Con) → flat_tree (tree_of p rooms t form (suc tag) cs) ≡ Flat.Split (tag_loc (suc tag)) (tag_arms 0 cs) None
  tree-split tag cs = from-Split (tag_loc (suc tag)) (arms_from p rooms t form 0 cs) 0 ∙ ap (λ (arms : List FlatArm). Flat.Split (tag_loc (suc tag)) arms None) (flat-arms 0 cs)

-- Splits -----------------------------------------------------------------------------------------------

abbrev no_splits : ℕ → List Con → List (Under (List SplitAt))
no_splits k [] = []
no_splits k (c ∷ cs) = record { literal = k; of = [] } ∷ no_splits (k + 1) cs

leaf-splits : (n : ℕ) → splits_of (Flat.Leaf n) ≡ []
leaf-splits n = fold-Leaf (List SplitAt) (Under (List SplitAt)) splits_step splits_arm n

arms-splits : (k : ℕ) (cs : List Con) → map splits_under (tag_arms k cs) ≡ no_splits k cs
arms-splits k [] = refl
arms-splits k (c ∷ cs) =
    let here : splits_under (record { literal = k; under = Flat.Leaf k }) ≡ record { literal = k; of = [] } =
    fold_out-FlatArm (List SplitAt) (Under (List SplitAt)) splits_step splits_arm (record { literal = k; under = Flat.Leaf k })
    ∙ ap (λ (ss : List SplitAt). record { literal = k; of = ss }) (leaf-splits k) in
    ap (λ (u : Under (List SplitAt)). u ∷ map splits_under (tag_arms (k + 1) cs)) here ∙ ap (λ (us : List (Under (List SplitAt))). record { literal = k; of = [] } ∷ us) (arms-splits (k + 1) cs)

literals-are : (k : ℕ) (cs : List Con) → literals_of (no_splits k cs) ≡ numbers_from k cs
literals-are k [] = refl
literals-are k (c ∷ cs) = ap (λ (ns : List ℕ). k ∷ ns) (literals-are (k + 1) cs)

none-inside : (k : ℕ) (cs : List Con) → flat_map (λ (u : Under (List SplitAt)). u.of) (no_splits k cs) ≡ []
none-inside k [] = refl
none-inside k (c ∷ cs) = none-inside (k + 1) cs

abbrev tag_split : ℕ → List Con → SplitAt
tag_split tag cs = record { loc = tag_loc tag; literals = numbers_from 0 cs; other = false }

split-is : (tag : ℕ) (cs : List Con) → splits_of (Flat.Split (tag_loc tag) (tag_arms 0 cs) None) ≡ tag_split tag cs ∷ []
split-is tag cs =
    fold-Split (List SplitAt) (Under (List SplitAt)) splits_step splits_arm (tag_loc tag) (tag_arms 0 cs)
    ∙ ap (λ (us : List (Under (List SplitAt))). record { loc = tag_loc tag; literals = literals_of us; other = false } ∷ (flat_map (λ (u : Under (List SplitAt)). u.of) us ++ [])) (arms-splits 0 cs)
    ∙ ap (λ (ss : List SplitAt). record { loc = tag_loc tag; literals = literals_of (no_splits 0 cs); other = false } ∷ (ss ++ [])) (none-inside 0 cs)
    ∙ ap (λ (ns : List ℕ). record { loc = tag_loc tag; literals = ns; other = false } ∷ []) (literals-are 0 cs)

splits-well : (tag : ℕ) (cs : List Con) → 0 < length cs → length cs ≤ 2 ^ tag → SplitsWell (tag_split tag cs)
splits-well tag cs some told = record {
  distinct = λ j k x lt a b. (let h = numbers-get 0 cs j x a in let g = numbers-get 0 cs k x b in omega (arith, lt, h.0, g.0));
  fit = λ k x e. (let h = numbers-get 0 cs k x e in omega (arith, h.0, h.1, told));
  arm = inl (let n = numbers-count 0 cs in omega (arith, n, some));
}

one-split : (a : SplitAt) (k : ℕ) (b : SplitAt) → SplitsWell a → slice_get (a ∷ []) k ≡ Some b → SplitsWell b
one-split a zero b well e = subst SplitsWell (same_Some a b e) well
one-split a (suc k) b well e = absurd cc

no-split : (xs : List SplitAt) (k : ℕ) (b : SplitAt) → xs ≡ [] → slice_get xs k ≡ Some b → ⊥
no-split [] k b none e = absurd cc
no-split (x ∷ xs) k b none e = absurd cc

module _ (p : Program) (rooms : List Room) (t : ℕ) (form : Form) where
  all-split : (tag : ℕ) (cs : List Con) → 0 < length cs → length cs ≤ 2 ^ tag → (k : ℕ) (split : SplitAt) → slice_get (splits_of (flat_tree (tree_of p rooms t form tag cs))) k ≡ Some split → SplitsWell split
  all-split zero [] some told k split e = absurd (omega (arith, some))
  all-split zero (c ∷ []) some told k split e =
      absurd (no-split (splits_of (flat_tree (tree_of p rooms t form zero (c ∷ [])))) k split (ap splits_of (tree-one p rooms t form c) ∙ leaf-splits 0) e)
  all-split zero (c ∷ d ∷ cs) some told k split e = absurd (omega (arith, told))
  all-split (suc tag) cs some told k split e =
      one-split (tag_split (suc tag) cs) k split (splits-well (suc tag) cs some told)
      (ap (λ (ss : List SplitAt). slice_get ss k) (sym (ap splits_of (tree-split p rooms t form tag cs) ∙ split-is (suc tag) cs)) ∙ e)

pub splits-its-tag : SplitsItsTag
splits-its-tag p decls rooms t form fits k split e = all-split p rooms t form (form_tag form) (cons_of p.types t) fits.some fits.told k split e

-- Routes -----------------------------------------------------------------------------------------------

abbrev leaf_routes : ℕ → List Con → List (Under (List Route))
leaf_routes k [] = []
leaf_routes k (c ∷ cs) = record { literal = k; of = record { leaf = k; tests = [] } ∷ [] } ∷ leaf_routes (k + 1) cs

abbrev tag_routes : Loc → ℕ → List Con → List Route
tag_routes loc k [] = []
tag_routes loc k (c ∷ cs) = record { leaf = k; tests = Is loc k ∷ [] } ∷ tag_routes loc (k + 1) cs

leaf-route : (n : ℕ) → routes_of (Flat.Leaf n) ≡ record { leaf = n; tests = [] } ∷ []
leaf-route n = fold-Leaf (List Route) (Under (List Route)) routes_step routes_arm n

arms-routes : (k : ℕ) (cs : List Con) → map routes_under (tag_arms k cs) ≡ leaf_routes k cs
arms-routes k [] = refl
arms-routes k (c ∷ cs) =
    let here : routes_under (record { literal = k; under = Flat.Leaf k }) ≡ record { literal = k; of = record { leaf = k; tests = [] } ∷ [] } =
    fold_out-FlatArm (List Route) (Under (List Route)) routes_step routes_arm (record { literal = k; under = Flat.Leaf k })
    ∙ ap (λ (rs : List Route). record { literal = k; of = rs }) (leaf-route k) in
    ap (λ (u : Under (List Route)). u ∷ map routes_under (tag_arms (k + 1) cs)) here
    ∙ ap (λ (us : List (Under (List Route))). record { literal = k; of = record { leaf = k; tests = [] } ∷ [] } ∷ us) (arms-routes (k + 1) cs)

routes-behind : (loc : Loc) (k : ℕ) (cs : List Con) → flat_map (arm_routes loc) (leaf_routes k cs) ≡ tag_routes loc k cs
routes-behind loc k [] = refl
routes-behind loc k (c ∷ cs) = ap (λ (rs : List Route). record { leaf = k; tests = Is loc k ∷ [] } ∷ rs) (routes-behind loc (k + 1) cs)

routes-are : (tag : ℕ) (cs : List Con) → routes_of (Flat.Split (tag_loc tag) (tag_arms 0 cs) None) ≡ tag_routes (tag_loc tag) 0 cs
routes-are tag cs =
    fold-Split (List Route) (Under (List Route)) routes_step routes_arm (tag_loc tag) (tag_arms 0 cs)
    ∙ ap (λ (us : List (Under (List Route))). flat_map (arm_routes (tag_loc tag)) us ++ []) (arms-routes 0 cs)
    ∙ append-nil (flat_map (arm_routes (tag_loc tag)) (leaf_routes 0 cs)) ∙ routes-behind (tag_loc tag) 0 cs

route-get : (loc : Loc) (k : ℕ) (cs : List Con) (n : ℕ) (r : Route) → slice_get (tag_routes loc k cs) n ≡ Some r → r ≡ record { leaf = k + n; tests = Is loc (k + n) ∷ [] }
route-get loc k [] n r e = absurd cc
route-get loc k (c ∷ cs) zero r e =
    sym (same_Some (record { leaf = k; tests = Is loc k ∷ [] }) r e) ∙ ap (λ j. record { leaf = j; tests = Is loc j ∷ [] }) (plus_none k)
  where
    plus_none : (m : ℕ) → m ≡ m + 0
    plus_none m = omega arith
route-get loc k (c ∷ cs) (suc n) r e = route-get loc (k + 1) cs n r e ∙ ap (λ j. record { leaf = j; tests = Is loc j ∷ [] }) (shift k n)
  where
    shift : (m i : ℕ) → m + 1 + i ≡ m + suc i
    shift m i = omega arith

one-test : (loc : Loc) (j k : ℕ) (test : Test) → slice_get (Is loc j ∷ []) k ≡ Some test → test ≡ Is loc j
one-test loc j zero test e = sym (same_Some (Is loc j) test e)
one-test loc j (suc k) test e = absurd cc

no-test : (r : Route) (n : ℕ) (s : Route) (k : ℕ) (test : Test) → r.tests ≡ [] → slice_get (r ∷ []) n ≡ Some s → slice_get s.tests k ≡ Some test → ⊥
no-test r zero s k test none e at = absurd (cc (ap (λ (x : Route). slice_get x.tests k) (same_Some r s e), ap (λ (ts : List Test). slice_get ts k) none, at))
no-test r (suc n) s k test none e at = absurd cc

module _ (p : Program) (rooms : List Room) (t : ℕ) (form : Form) where
  -- the tests above leaf n: that of its tag alone
  pub test-is : (tag : ℕ) (cs : List Con) → 0 < length cs → length cs ≤ 2 ^ tag → (i : ℕ) (route : Route) (k n : ℕ) (test : Test)
      → slice_get (routes_of (flat_tree (tree_of p rooms t form tag cs))) i ≡ Some route → route.leaf ≡ n → slice_get route.tests k ≡ Some test
      → (0 < tag) × (test ≡ Is (tag_loc tag) n)
  test-is zero [] some told i route k n test e leads at = absurd (omega (arith, some))
  test-is zero (c ∷ []) some told i route k n test e leads at =
      absurd (no-test (record { leaf = 0; tests = [] }) i route k test refl (ap (λ (rs : List Route). slice_get rs i) (sym (ap routes_of (tree-one p rooms t form c) ∙ leaf-route 0)) ∙ e) at)
  test-is zero (c ∷ d ∷ cs) some told i route k n test e leads at = absurd (omega (arith, told))
  test-is (suc tag) cs some told i route k n test e leads at =
      let r = route-get (tag_loc (suc tag)) 0 cs i route
      (ap (λ (rs : List Route). slice_get rs i) (sym (ap routes_of (tree-split p rooms t form tag cs) ∙ routes-are (suc tag) cs)) ∙ e) in
      let one : test ≡ Is (tag_loc (suc tag)) (0 + i) = one-test (tag_loc (suc tag)) (0 + i) k test (ap (λ (x : Route). slice_get x.tests k) (sym r) ∙ at) in
      let number : 0 + i ≡ n = sym (ap (λ (x : Route). x.leaf) r) ∙ leads in
      (omega arith, one ∙ ap (λ j. Is (tag_loc (suc tag)) j) number)
