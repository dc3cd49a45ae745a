-- Each place is looked at once: what the looks cost that are left.
use Rattle.std.proofs.Common.{◌≡◌, ℕ, zero, suc, ◌+◌, ◌≤◌, ◌==◌, map, List, [], ◌∷◌, ◌++◌, ◌⊎◌, inl, inr, Bool, true, false, Some, refl, sym, ap, ◌∙◌, arith}
use Rattle.std.specs.Prelude.{slice_get, not, if◌then◌else◌}
use Rattle.std.specs.List.{filter, flat_map, sum_by}
use Rattle.std.proofs.lemmas.Bool.{and_parts}
use Rattle.std.proofs.lemmas.Option.{same_Some}
use Rattle.std.proofs.lemmas.List.Sums.{sum_by-cons}
use Rattle.rb_core.specs.declared.program.Program.{Program}
use Rattle.rb_layout.specs.Agreement.{Agrees}
use Rattle.rb_layout.specs.declared.layout.Leaf.{Leaf}
use Rattle.rb_layout.specs.declared.layout.Layout.{Layout}
use Rattle.rb_layout.specs.Flattening.{flat_layouts, same_path}
use Rattle.rb_layout.specs.Positions.{layout_of, leaves_of_layout}
use Rattle.rb_rel.specs.Switches.{HeadAt, choose_of, distinct_places, greatest, inner_heads, is_leaf_for, mend_leaf, mend_of, places_of, same_place}
use Rattle.rb_rel.proofs.Lists.{and_true, get-left, get-right}
use Rattle.rb_rel.proofs.Mending.{mending_recurs}
use Rattle.rb_rel.proofs.Reading.{same_nat}
use Rattle.rb_fetch.specs.inner.Choosing.{is_left, left_of, look_cost}
use Rattle.rb_fetch.specs.inner.Heads.{is_among}

-- Paths

self : (n : ℕ) → (n == n) ≡ true
self n = grind arith

pub path_same : (p q : List ℕ) → same_path p q ≡ true → p ≡ q
path_same [] [] e = refl
path_same [] (j ∷ q) e = absurd cc
path_same (i ∷ p) [] e = absurd cc
path_same (i ∷ p) (j ∷ q) e =
    let b = and_parts (i == j) (same_path p q) e in
    ap (λ n. n ∷ p) (same_nat i j b.0) ∙ ap (λ r. j ∷ r) (path_same p q b.1)

pub path_self : (p : List ℕ) → same_path p p ≡ true
path_self [] = refl
path_self (i ∷ p) = and_true (i == i) (same_path p p) (self i) (path_self p)

pub among-left : (ps qs : List (List ℕ)) (p : List ℕ) → is_among ps p ≡ true → is_among (ps ++ qs) p ≡ true
among-left [] qs p e = absurd cc
among-left (x ∷ ps) qs p e = go (same_path x p) (λ h. among-left ps qs p h) e
  where
    go : (b : Bool) → (is_among ps p ≡ true → is_among (ps ++ qs) p ≡ true) → (if b then true else is_among ps p) ≡ true → (if b then true else is_among (ps ++ qs) p) ≡ true
    go true f h = refl
    go false f h = f h

pub among-last : (ps : List (List ℕ)) (q : List ℕ) → is_among (ps ++ q ∷ []) q ≡ true
among-last [] q = ap (λ b. if b then true else false) (path_self q)
among-last (x ∷ ps) q = go (same_path x q) (among-last ps q)
  where
    go : (b : Bool) → is_among (ps ++ q ∷ []) q ≡ true → (if b then true else is_among (ps ++ q ∷ []) q) ≡ true
    go true h = refl
    go false h = h

-- what is among two lists is among one of them
pub among-append : (ps qs : List (List ℕ)) (p : List ℕ) → is_among (ps ++ qs) p ≡ true → (is_among ps p ≡ true) ⊎ (is_among qs p ≡ true)
among-append [] qs p e = inr e
among-append (x ∷ ps) qs p e = go (same_path x p) (λ h. among-append ps qs p h) e
  where
    go : (b : Bool) → (is_among (ps ++ qs) p ≡ true → (is_among ps p ≡ true) ⊎ (is_among qs p ≡ true)) → (if b then true else is_among (ps ++ qs) p) ≡ true → ((if b then true else is_among ps p) ≡ true) ⊎ (is_among qs p ≡ true)
    go true f h = inl refl
    go false f h = f h

-- Lists

pub has-filter : {A : Type 0} (f : A → Bool) (xs : List A) (k : ℕ) (x : A) → slice_get xs k ≡ Some x → f x ≡ true → (j : ℕ) × (slice_get (filter f xs) j ≡ Some x)
has-filter f [] k x e t = absurd cc
has-filter {A = A} f (y ∷ xs) zero x e t =
    (0, ap (λ b. slice_get (if b then y ∷ filter f xs else filter f xs) 0) (ap f (same_Some y x e) ∙ t) ∙ e)
has-filter {A = A} f (y ∷ xs) (suc k) x e t = go (f y) (has-filter f xs k x e t)
  where
    go : (b : Bool) → (j : ℕ) × (slice_get (filter f xs) j ≡ Some x) → (j : ℕ) × (slice_get (if b then y ∷ filter f xs else filter f xs) j ≡ Some x)
    go true r = (suc r.0, r.1)
    go false r = r

pub has-flat : {A B : Type 0} (f : A → List B) (xs : List A) (k j : ℕ) (x : A) (y : B) → slice_get xs k ≡ Some x → slice_get (f x) j ≡ Some y → (i : ℕ) × (slice_get (flat_map f xs) i ≡ Some y)
has-flat f [] k j x y e h = absurd cc
has-flat f (z ∷ xs) zero j x y e h = (j, get-left (f z) (flat_map f xs) j y (ap (λ q. slice_get (f q) j) (same_Some z x e) ∙ h))
has-flat f (z ∷ xs) (suc k) j x y e h = let r = has-flat f xs k j x y e h in get-right (f z) (flat_map f xs) r.0 y r.1

module _ {A : Type 0} (c : A → ℕ) (f g : A → Bool) (stricter : (x : A) → g x ≡ true → f x ≡ true) where
  pub sum_less : (xs : List A) → sum_by c (filter g xs) ≤ sum_by c (filter f xs)
  sum_less [] = omega arith
  sum_less (x ∷ xs) = go (g x) refl (f x) refl (sum_less xs)
    where
      go : (b : Bool) → g x ≡ b → (d : Bool) → f x ≡ d → sum_by c (filter g xs) ≤ sum_by c (filter f xs)
          → sum_by c (if b then x ∷ filter g xs else filter g xs) ≤ sum_by c (if d then x ∷ filter f xs else filter f xs)
      go true e true h le = let p = sum_by-cons c x (filter g xs) in let q = sum_by-cons c x (filter f xs) in omega (arith, p, q, le)
      go true e false h le = absurd (let z = sym h ∙ stricter x e in cc)
      go false e true h le = let q = sum_by-cons c x (filter f xs) in omega (arith, q, le)
      go false e false h le = le

  pub sum_drops : (xs : List A) (k : ℕ) (h : A) → slice_get xs k ≡ Some h → f h ≡ true → g h ≡ false → c h + sum_by c (filter g xs) ≤ sum_by c (filter f xs)
  sum_drops [] k h e t u = absurd cc
  sum_drops (x ∷ xs) zero h e t u =
      let same : x ≡ h = same_Some x h e in
      let p : filter g (x ∷ xs) ≡ filter g xs = ap (λ b. if b then x ∷ filter g xs else filter g xs) (ap g same ∙ u) in
      let q : filter f (x ∷ xs) ≡ x ∷ filter f xs = ap (λ b. if b then x ∷ filter f xs else filter f xs) (ap f same ∙ t) in
      let r = sum_by-cons c x (filter f xs) in
      let s = ap (sum_by c) p in
      let v = ap (sum_by c) q in
      let w = ap c same in
      let le = sum_less xs in
      omega (arith, r, s, v, w, le)
  sum_drops (x ∷ xs) (suc k) h e t u = go (g x) refl (f x) refl (sum_drops xs k h e t u)
    where
      go : (b : Bool) → g x ≡ b → (d : Bool) → f x ≡ d → c h + sum_by c (filter g xs) ≤ sum_by c (filter f xs)
          → c h + sum_by c (if b then x ∷ filter g xs else filter g xs) ≤ sum_by c (if d then x ∷ filter f xs else filter f xs)
      go true e1 true h1 le = let p = sum_by-cons c x (filter g xs) in let q = sum_by-cons c x (filter f xs) in omega (arith, p, q, le)
      go true e1 false h1 le = absurd (let z = sym h1 ∙ stricter x e1 in cc)
      go false e1 true h1 le = let q = sum_by-cons c x (filter f xs) in omega (arith, q, le)
      go false e1 false h1 le = le

pub filter_all : {A : Type 0} (f : A → Bool) (xs : List A) → ((x : A) → f x ≡ true) → filter f xs ≡ xs
filter_all f [] all = refl
filter_all f (x ∷ xs) all = ap (λ b. if b then x ∷ filter f xs else filter f xs) (all x) ∙ ap (λ ys. x ∷ ys) (filter_all f xs all)

-- Places

-- a place of a list with one of its distinct places
record IsPlaced (hs : List HeadAt) (h : HeadAt) : Type 0 where
  number : ℕ
  head : HeadAt
  is_head : slice_get (distinct_places hs) number ≡ Some head
  path : head.path ≡ h.path
  kind : head.con.ty ≡ h.con.ty

same_place_is : (a b : HeadAt) → same_place a b ≡ true → (a.path ≡ b.path) × (a.con.ty ≡ b.con.ty)
same_place_is a b e =
    let p = and_parts (same_path a.path b.path) (a.con.ty == b.con.ty) e in
    (path_same a.path b.path p.0, same_nat a.con.ty b.con.ty p.1)

placed : (hs : List HeadAt) (k : ℕ) (h : HeadAt) → slice_get hs k ≡ Some h → IsPlaced hs h
placed [] k h e = absurd cc
placed (x ∷ hs) zero h e =
    let same : x ≡ h = same_Some x h e in
    record { number = 0; head = x; is_head = refl; path = ap (λ (y : HeadAt). y.path) same; kind = ap (λ (y : HeadAt). y.con.ty) same }
placed (x ∷ hs) (suc k) h e =
    let r = placed hs k h e in go r (same_place x r.head) refl
  where
    go : (r : IsPlaced hs h) (b : Bool) → same_place x r.head ≡ b → IsPlaced (x ∷ hs) h
    go r true is =
        let s = same_place_is x r.head is in
        record { number = 0; head = x; is_head = refl; path = s.0 ∙ r.path; kind = s.1 ∙ r.kind }
    go r false is =
        let f = has-filter (λ other. not (same_place x other)) (distinct_places hs) r.number r.head r.is_head (ap not is) in
        record { number = suc f.0; head = r.head; is_head = f.1; path = r.path; kind = r.kind }

-- where more is among the looks, less is left
fewer : (a b : List (List ℕ)) → ((p : List ℕ) → is_among a p ≡ true → is_among b p ≡ true) → (x : HeadAt) → is_left b x ≡ true → is_left a x ≡ true
fewer a b more x y = go (is_among a x.path) refl
  where
    go : (c : Bool) → is_among a x.path ≡ c → not (is_among a x.path) ≡ true
    go true is = absurd (let q = ap not (sym (more x.path is)) ∙ y in cc)
    go false is = ap not is

module _ (layouts : List Layout) (t k : ℕ) where
  pub left_fewer : (a b : List (List ℕ)) → ((p : List ℕ) → is_among a p ≡ true → is_among b p ≡ true) → left_of layouts t k b ≤ left_of layouts t k a
  left_fewer a b more = sum_less (look_cost layouts) (is_left a) (is_left b) (fewer a b more) (places_of layouts t k)

  -- with no look behind it, all are left
  pub left_none : left_of layouts t k [] ≡ choose_of layouts t k
  left_none = ap (sum_by (look_cost layouts)) (filter_all (is_left []) (places_of layouts t k) (λ h. refl))

  -- some looks that are left are at most all
  pub left_most : (looked : List (List ℕ)) → left_of layouts t k looked ≤ choose_of layouts t k
  left_most looked =
      let le = sum_less (look_cost layouts) (is_left []) (is_left looked) (λ h e. refl) (places_of layouts t k) in
      let all = left_none in
      omega (arith, le, all)

  -- a look at a constructor of one of the leaves is one of those that are left
  pub left_less : (layout : Layout) → layout_of layouts t ≡ Some layout → (n : ℕ) (leaf : Leaf) → slice_get layout.leaves n ≡ Some leaf → is_leaf_for k leaf ≡ true
      → (i : ℕ) (h : HeadAt) → slice_get (inner_heads leaf) i ≡ Some h → (looked : List (List ℕ)) → is_among looked h.path ≡ false
      → look_cost layouts h + left_of layouts t k (looked ++ h.path ∷ []) ≤ left_of layouts t k looked
  left_less layout is n leaf at root i h e looked new =
      let leaves = leaves_of_layout (layout_of layouts t) in
      let there : slice_get leaves n ≡ Some leaf = ap (λ o. slice_get (leaves_of_layout o) n) is ∙ at in
      let f = has-filter (is_leaf_for k) leaves n leaf there root in
      let g = has-flat inner_heads (filter (is_leaf_for k) leaves) f.0 i leaf h f.1 e in
      let p = placed (flat_map inner_heads (filter (is_leaf_for k) leaves)) g.0 h g.1 in
      let cost : look_cost layouts p.head ≡ look_cost layouts h = ap (λ s. look_cost layouts (record { path = p.head.path; con = record { ty = s; con = p.head.con.con } })) p.kind in
      let le = sum_drops (look_cost layouts) (is_left looked) (is_left (looked ++ h.path ∷ [])) (fewer looked (looked ++ h.path ∷ []) (λ q. among-left looked (h.path ∷ []) q)) (places_of layouts t k) p.number p.head p.is_head
      (ap (λ q. not (is_among looked q)) p.path ∙ ap not new) (ap (λ q. not (is_among (looked ++ h.path ∷ []) q)) p.path ∙ ap not (among-last looked h.path)) in
      omega (arith, le, cost)

-- Mending

pub at_most_greatest : {A : Type 0} (f : A → ℕ) (xs : List A) (k : ℕ) (x : A) → slice_get xs k ≡ Some x → f x ≤ greatest (map f xs)
at_most_greatest f [] k x e = absurd cc
at_most_greatest f (y ∷ xs) zero x e = let s = ap f (same_Some y x e) in omega (arith, s)
at_most_greatest f (y ∷ xs) (suc k) x e = let h = at_most_greatest f xs k x e in omega (arith, h)

-- rebuilding what one leaf has taken apart is part of mending
pub mend_less : (p : Program) → Agrees p → (t : ℕ) (layout : Layout) → layout_of (flat_layouts p) t ≡ Some layout → (n : ℕ) (leaf : Leaf) → slice_get layout.leaves n ≡ Some leaf
    → mend_leaf (choose_of (flat_layouts p)) leaf ≤ mend_of (flat_layouts p) t
mend_less p agrees t layout is n leaf at =
    let le = at_most_greatest (mend_leaf (choose_of (flat_layouts p))) (leaves_of_layout (layout_of (flat_layouts p) t)) n leaf (ap (λ o. slice_get (leaves_of_layout o) n) is ∙ at) in
    let e = mending_recurs (flat_layouts p) agrees.a9 t in
    omega (arith, le, e)
