-- The leaves of a construction that can still be its value's, where some constructors of the value are known.
use Rattle.std.proofs.Common.{◌≡◌, ℕ, zero, suc, ◌+◌, ◌==◌, List, [], ◌∷◌, Bool, true, false, Some, refl, sym, subst, ap, ◌∙◌, arith}
use Rattle.std.specs.Prelude.{slice_get, if◌then◌else◌}
use Rattle.std.proofs.lemmas.Bool.{and_parts}
use Rattle.std.proofs.lemmas.Option.{same_Some}
use Rattle.rb_core.specs.declared.value.Value.{Value}
use Rattle.rb_core.specs.declared.types.DataDecl.{DataDecl}
use Rattle.rb_layout.specs.declared.layout.Layout.{Layout}
use Rattle.rb_layout.specs.declared.layout.Leaf.{Leaf}
use Rattle.rb_layout.specs.Flattening.{same_path}
use Rattle.rb_layout.specs.Positions.{leaf_of, layout_of}
use Rattle.rb_rel.specs.Switches.{HeadAt, inner_heads, is_leaf_for}
use Rattle.rb_rel.proofs.Lists.{and_true}
use Rattle.rb_rel.proofs.Reading.{same_nat}
use Rattle.rb_fetch.specs.inner.Choosing.{HasAll, HasCon}
use Rattle.rb_fetch.specs.Finding.{leaf_within}
use Rattle.rb_fetch.specs.inner.Fields.{leaf_at}
use Rattle.rb_fetch.specs.inner.Heads.{bare_paths, can_be, can_be_leaf, is_among, is_at, is_bare, leaves_beside, leaves_for, leaves_that_can_be}
use Rattle.rb_fetch.proofs.Chosen.{con_same, inner_shows, matched_leaf}
use Rattle.rb_fetch.proofs.Costs.{path_same, path_self}

-- The leaves of a constructor ---------------------------------------------------------------------

pub record IsLeafFor (k : ℕ) (leaves : List Leaf) (at n : ℕ) : Type 0 where
  pub number : ℕ
  pub leaf : Leaf
  pub is_number : slice_get leaves number ≡ Some leaf
  pub at_number : n ≡ at + number
  pub is_for : is_leaf_for k leaf ≡ true

pub for-of : (k : ℕ) (leaves : List Leaf) (at i n : ℕ) → slice_get (leaves_for k leaves at) i ≡ Some n → IsLeafFor k leaves at n
for-of k [] at i n e = absurd cc
for-of k (x ∷ leaves) at i n e = go (is_leaf_for k x) refl i e (for-of k leaves (at + 1))
  where
    behind : IsLeafFor k leaves (at + 1) n → IsLeafFor k (x ∷ leaves) at n
    behind r = let z : at + 1 + r.number ≡ at + suc r.number = omega arith in record { number = suc r.number; leaf = r.leaf; is_number = r.is_number; at_number = r.at_number ∙ z; is_for = r.is_for }

    go : (b : Bool) → is_leaf_for k x ≡ b → (i : ℕ) → slice_get (if b then at ∷ leaves_for k leaves (at + 1) else leaves_for k leaves (at + 1)) i ≡ Some n
        → ((i n : ℕ) → slice_get (leaves_for k leaves (at + 1)) i ≡ Some n → IsLeafFor k leaves (at + 1) n) → IsLeafFor k (x ∷ leaves) at n
    go true is zero e1 rest = let z : at ≡ at + 0 = omega arith in record { number = 0; leaf = x; is_number = refl; at_number = sym (same_Some at n e1) ∙ z; is_for = is }
    go true is (suc j) e1 rest = behind (rest j n e1)
    go false is j e1 rest = behind (rest j n e1)

pub for-from : (k : ℕ) (leaves : List Leaf) (at j : ℕ) (leaf : Leaf) → slice_get leaves j ≡ Some leaf → is_leaf_for k leaf ≡ true → (i : ℕ) × (slice_get (leaves_for k leaves at) i ≡ Some (at + j))
for-from k [] at j leaf e root = absurd cc
for-from k (x ∷ leaves) at zero leaf e root =
    let z : at ≡ at + 0 = omega arith in
    (0, ap (λ b. slice_get (if b then at ∷ leaves_for k leaves (at + 1) else leaves_for k leaves (at + 1)) 0) (ap (is_leaf_for k) (same_Some x leaf e) ∙ root) ∙ ap Some z)
for-from k (x ∷ leaves) at (suc j) leaf e root =
    let z : at + 1 + j ≡ at + suc j = omega arith in
    let r = for-from k leaves (at + 1) j leaf e root in
    go (is_leaf_for k x) (r.0, r.1 ∙ ap Some z)
  where
    go : (b : Bool) → (i : ℕ) × (slice_get (leaves_for k leaves (at + 1)) i ≡ Some (at + suc j))
        → (i : ℕ) × (slice_get (if b then at ∷ leaves_for k leaves (at + 1) else leaves_for k leaves (at + 1)) i ≡ Some (at + suc j))
    go true r = (suc r.0, r.1)
    go false r = r

-- Leaves that can still be here -------------------------------------------------------------------

at-of : (path : List ℕ) (con : ℕ) (h : HeadAt) → is_at path con h ≡ true → h.path ≡ path → h.con.con ≡ con
at-of path con h e same = go (same_path h.path path) (ap (λ p. same_path p path) same ∙ path_self path) e
  where
    go : (b : Bool) → b ≡ true → (if b then h.con.con == con else true) ≡ true → h.con.con ≡ con
    go true is x = same_nat h.con.con con x
    go false is x = absurd cc

at-from : (path : List ℕ) (con : ℕ) (h : HeadAt) → (h.path ≡ path → h.con.con ≡ con) → is_at path con h ≡ true
at-from path con h f = go (same_path h.path path) refl
  where
    self : (n : ℕ) → (n == n) ≡ true
    self n = grind arith

    go : (b : Bool) → same_path h.path path ≡ b → (if b then h.con.con == con else true) ≡ true
    go true is = ap (λ n. n == con) (f (path_same h.path path is)) ∙ self con
    go false is = refl

pub can-of : (path : List ℕ) (con : ℕ) (hs : List HeadAt) → can_be path con hs ≡ true → (k : ℕ) (h : HeadAt) → slice_get hs k ≡ Some h → h.path ≡ path → h.con.con ≡ con
can-of path con [] e k h is same = absurd cc
can-of path con (x ∷ hs) e zero h is same =
    let b = and_parts (is_at path con x) (can_be path con hs) e in at-of path con h (ap (is_at path con) (sym (same_Some x h is)) ∙ b.0) same
can-of path con (x ∷ hs) e (suc k) h is same = can-of path con hs (and_parts (is_at path con x) (can_be path con hs) e).1 k h is same

pub can-from : (path : List ℕ) (con : ℕ) (hs : List HeadAt) → ((k : ℕ) (h : HeadAt) → slice_get hs k ≡ Some h → h.path ≡ path → h.con.con ≡ con) → can_be path con hs ≡ true
can-from path con [] f = refl
can-from path con (x ∷ hs) f = and_true (is_at path con x) (can_be path con hs) (at-from path con x (f 0 x refl)) (can-from path con hs (λ k h e. f (suc k) h e))

module _ (layouts : List Layout) (t : ℕ) (path : List ℕ) (con : ℕ) where
  abbrev Can : ℕ → Type 0
  Can n = can_be_leaf path con (leaf_at layouts t n) ≡ true

  pub kept-of : (ns : List ℕ) (i n : ℕ) → slice_get (leaves_that_can_be layouts t path con ns) i ≡ Some n → ((j : ℕ) × (slice_get ns j ≡ Some n)) × Can n
  kept-of [] i n e = absurd cc
  kept-of (x ∷ ns) i n e = go (can_be_leaf path con (leaf_at layouts t x)) refl i e (kept-of ns)
    where
      go : (b : Bool) → can_be_leaf path con (leaf_at layouts t x) ≡ b → (i : ℕ) → slice_get (if b then x ∷ leaves_that_can_be layouts t path con ns else leaves_that_can_be layouts t path con ns) i ≡ Some n
          → ((i n : ℕ) → slice_get (leaves_that_can_be layouts t path con ns) i ≡ Some n → ((j : ℕ) × (slice_get ns j ≡ Some n)) × Can n) → ((j : ℕ) × (slice_get (x ∷ ns) j ≡ Some n)) × Can n
      go true is zero e1 rest = ((0, e1), subst Can (same_Some x n e1) is)
      go true is (suc i1) e1 rest = let r = rest i1 n e1 in ((suc r.0.0, r.0.1), r.1)
      go false is i1 e1 rest = let r = rest i1 n e1 in ((suc r.0.0, r.0.1), r.1)

  pub kept-from : (ns : List ℕ) (j n : ℕ) → slice_get ns j ≡ Some n → Can n → (i : ℕ) × (slice_get (leaves_that_can_be layouts t path con ns) i ≡ Some n)
  kept-from [] j n e can = absurd cc
  kept-from (x ∷ ns) zero n e can =
      (0, ap (λ b. slice_get (if b then x ∷ leaves_that_can_be layouts t path con ns else leaves_that_can_be layouts t path con ns) 0) (subst Can (sym (same_Some x n e)) can) ∙ e)
  kept-from (x ∷ ns) (suc j) n e can = go (can_be_leaf path con (leaf_at layouts t x)) (kept-from ns j n e can)
    where
      go : (b : Bool) → (i : ℕ) × (slice_get (leaves_that_can_be layouts t path con ns) i ≡ Some n)
          → (i : ℕ) × (slice_get (if b then x ∷ leaves_that_can_be layouts t path con ns else leaves_that_can_be layouts t path con ns) i ≡ Some n)
      go true r = (suc r.0, r.1)
      go false r = r

-- Leaves that stay ----------------------------------------------------------------------------------

module _ (layouts : List Layout) (t : ℕ) where
  -- each of the constructors can be in the leaf
  abbrev pub CanAll : List HeadAt → ℕ → Type 0
  CanAll hs n = (k : ℕ) (h : HeadAt) → slice_get hs k ≡ Some h → can_be_leaf h.path h.con.con (leaf_at layouts t n) ≡ true

  can-cons : (h : HeadAt) (hs : List HeadAt) (n : ℕ) → can_be_leaf h.path h.con.con (leaf_at layouts t n) ≡ true → CanAll hs n → CanAll (h ∷ hs) n
  can-cons h hs n one rest zero g e = ap (λ (x : HeadAt). can_be_leaf x.path x.con.con (leaf_at layouts t n)) (sym (same_Some h g e)) ∙ one
  can-cons h hs n one rest (suc k) g e = rest k g e

  pub stays-of : (hs : List HeadAt) (ns : List ℕ) (i n : ℕ) → slice_get (leaves_beside layouts t hs ns) i ≡ Some n → ((j : ℕ) × (slice_get ns j ≡ Some n)) × CanAll hs n
  stays-of [] ns i n e = ((i, e), λ k h at. absurd cc)
  stays-of (h ∷ hs) ns i n e =
      let r = stays-of hs (leaves_that_can_be layouts t h.path h.con.con ns) i n e in
      let s = kept-of layouts t h.path h.con.con ns r.0.0 n r.0.1 in
      (s.0, can-cons h hs n s.1 r.1)

  pub stays-from : (hs : List HeadAt) (ns : List ℕ) (j n : ℕ) → slice_get ns j ≡ Some n → CanAll hs n → (i : ℕ) × (slice_get (leaves_beside layouts t hs ns) i ≡ Some n)
  stays-from [] ns j n e can = (j, e)
  stays-from (h ∷ hs) ns j n e can =
      let r = kept-from layouts t h.path h.con.con ns j n e (can 0 h refl) in
      stays-from hs (leaves_that_can_be layouts t h.path h.con.con ns) r.0 n r.1 (λ k g at. can (suc k) g at)

-- Places that need no look --------------------------------------------------------------------------

-- one of the constructors stands at the path
abbrev pub IsShownAt : List HeadAt → List ℕ → Type 0
IsShownAt hs path = (k : ℕ) × (h : HeadAt) × (slice_get hs k ≡ Some h) × (h.path ≡ path)

pub bare-of : (types : List DataDecl) (hs : List HeadAt) (path : List ℕ) → is_among (bare_paths types hs) path ≡ true → IsShownAt hs path
bare-of types [] path e = absurd cc
bare-of types (h ∷ hs) path e = go (is_bare types h.con) (bare-of types hs path) e
  where
    behind : IsShownAt hs path → IsShownAt (h ∷ hs) path
    behind r = (suc r.0, r.1, r.2, r.3)

    here : (b : Bool) → same_path h.path path ≡ b → (is_among (bare_paths types hs) path ≡ true → IsShownAt hs path) → (if b then true else is_among (bare_paths types hs) path) ≡ true → IsShownAt (h ∷ hs) path
    here true is rest x = (0, h, refl, path_same h.path path is)
    here false is rest x = behind (rest x)

    go : (b : Bool) → (is_among (bare_paths types hs) path ≡ true → IsShownAt hs path) → is_among (if b then h.path ∷ bare_paths types hs else bare_paths types hs) path ≡ true → IsShownAt (h ∷ hs) path
    go true rest x = here (same_path h.path path) refl rest x
    go false rest x = behind (rest x)

-- Values --------------------------------------------------------------------------------------------

module _ (layouts : List Layout) (t : ℕ) (layout : Layout) (there : layout_of layouts t ≡ Some layout) (hs : List HeadAt) (v : Value) (has : HasAll hs v) where
  leaf_in : (n : ℕ) (x : Leaf) → slice_get layout.leaves n ≡ Some x → leaf_at layouts t n ≡ Some x
  leaf_in n x e = ap (λ o. leaf_within o n) there ∙ e

  -- the leaf of a value that has the constructors stays
  pub own_stays : (n : ℕ) (leaf : Leaf) → leaf_of layout v ≡ Some n → slice_get layout.leaves n ≡ Some leaf → CanAll layouts t hs n
  own_stays n leaf is at k g e =
      let m = matched_leaf layout v n leaf is at in
      let can : can_be g.path g.con.con (inner_heads leaf) ≡ true = can-from g.path g.con.con (inner_heads leaf)
      (λ j h eh same. con_same v g.path h.con.con g.con.con (subst (λ q. HasCon v q h.con.con) same (inner_shows leaf v m j h eh)) (has k g e)) in
      ap (can_be_leaf g.path g.con.con) (leaf_in n leaf at) ∙ can

  -- where one of them stands, a leaf that stays has the value's
  pub stays_so : (ns : List ℕ) (i n : ℕ) (x : Leaf) (j : ℕ) (h : HeadAt) → slice_get (leaves_beside layouts t hs ns) i ≡ Some n → slice_get layout.leaves n ≡ Some x → slice_get (inner_heads x) j ≡ Some h
      → IsShownAt hs h.path → HasCon v h.path h.con.con
  stays_so ns i n x j h en el eh f =
      let s = stays-of layouts t hs ns i n en in
      let can : can_be f.1.path f.1.con.con (inner_heads x) ≡ true = ap (can_be_leaf f.1.path f.1.con.con) (sym (leaf_in n x el)) ∙ s.1 f.0 f.1 f.2 in
      let same : h.con.con ≡ f.1.con.con = can-of f.1.path f.1.con.con (inner_heads x) can j h eh (sym f.3) in
      subst (λ c. HasCon v h.path c) (sym same) (subst (λ q. HasCon v q f.1.con.con) f.3 (has f.0 f.1 f.2))
