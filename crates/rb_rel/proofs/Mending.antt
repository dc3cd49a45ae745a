-- The numbers of choosing and mending meet their recursion, since flattening has no cycle.
use Rattle.std.proofs.Common.{◌≡◌, ℕ, zero, suc, ◌+◌, ◌<◌, ◌≤◌, ◌||◌, inl, inr, eqb, length, map, List, [], ◌∷◌, ◌++◌, Bool, true, false, Option, Some, None, refl, sym, subst, ap, ◌∙◌, arith}
use Rattle.std.specs.Prelude.{slice_get, drop, max, not, if◌then◌else◌}
use Rattle.std.specs.List.{flat_map, filter, sum_by, list_any, IsDistinct, AllByRecursion}
use Rattle.std.proofs.lemmas.Bool.Decides.{eqb_tells}
use Rattle.std.proofs.lemmas.List.Sums.{sum_by-cons}
use Rattle.std.proofs.lemmas.Map.Steps.{length-le_from_distinct_below}
use Rattle.std.proofs.lemmas.Option.{same_Some, slice_get_within}
use Rattle.rb_core.specs.declared.types.Ty.TheVariants.{Named}
use Rattle.rb_core.specs.declared.types.ConRef.{ConRef}
use Rattle.rb_core.specs.declared.pattern.Pat.{Pat}
use Rattle.rb_core.specs.declared.pattern.Pat.TheVariants.{outs-Con, outs-Wild, outs-Var, outs-Num}
use Rattle.rb_core.proofs.PatternLaws as Q
use Rattle.rb_layout.specs.declared.layout.Leaf.{Leaf}
use Rattle.rb_layout.specs.declared.layout.Layout.{Layout}
use Rattle.rb_layout.specs.A9.{A9, Flattens, LeafFlattens, cons_step, pattern_cons, cons_below, cons_below_root}
use Rattle.rb_layout.specs.Cycles.{IsChain}
use Rattle.rb_layout.specs.Positions.{layout_of, leaves_of_layout}
use Rattle.rb_rel.specs.Switches.{HeadAt, head_below, heads_below, heads_step, heads_of, inner_heads, is_leaf_for, same_place, distinct_places, places_of, depth_of, greatest, choose_with, mend_leaf, mend_within, mend_of, choose_of}
use Rattle.rb_rel.proofs.Lists.{get-append, get-mapped}

-- Constructors below the root --------------------------------------------------------------------
abbrev the_cons : List HeadAt → List ConRef
the_cons hs = map (λ (h : HeadAt). h.con) hs

cons-append : (xs ys : List HeadAt) → the_cons (xs ++ ys) ≡ the_cons xs ++ the_cons ys
cons-append [] ys = refl
cons-append (x ∷ xs) ys = ap (λ zs. x.con ∷ zs) (cons-append xs ys)

cons-below : (i : ℕ) (hs : List HeadAt) → the_cons (map (head_below i) hs) ≡ the_cons hs
cons-below i [] = refl
cons-below i (h ∷ hs) = ap (λ zs. h.con ∷ zs) (cons-below i hs)

abbrev SameCons : Pat → Type 0
SameCons q = the_cons (heads_of q) ≡ pattern_cons q

list_cons : (ps : List Pat) → Q.Each SameCons ps → (i : ℕ) → the_cons (heads_below (map heads_of ps) i) ≡ flat_map pattern_cons ps
list_cons [] each i = refl
list_cons (q ∷ ps) each i =
    cons-append (map (head_below i) (heads_of q)) (heads_below (map heads_of ps) (i + 1)) ∙ ap (λ x. x ++ the_cons (heads_below (map heads_of ps) (i + 1))) (cons-below i (heads_of q) ∙ each.0)
    ∙ ap (λ x. pattern_cons q ++ x) (list_cons ps each.1 (i + 1))

flat_cons : (ps : List Pat) → flat_map (λ cs. cs) (map pattern_cons ps) ≡ flat_map pattern_cons ps
flat_cons [] = refl
flat_cons (q ∷ ps) = ap (λ x. pattern_cons q ++ x) (flat_cons ps)

same_cons : (q : Pat) → SameCons q
same_cons = Q.induction SameCons (record {
  wild = λ at. ap the_cons (Q.fold-Wild (List HeadAt) heads_step at) ∙ sym (Q.fold-Wild (List ConRef) cons_step at);
  var = λ at x. ap the_cons (Q.fold-Var (List HeadAt) heads_step at x) ∙ sym (Q.fold-Var (List ConRef) cons_step at x);
  num = λ at n. ap the_cons (Q.fold-Num (List HeadAt) heads_step at n) ∙ sym (Q.fold-Num (List ConRef) cons_step at n);
  con = λ at c ps each. ap the_cons (Q.fold-Con (List HeadAt) heads_step at c ps) ∙ ap (λ x. c ∷ x) (list_cons ps each 0 ∙ sym (flat_cons ps)) ∙ sym (Q.fold-Con (List ConRef) cons_step at c ps);
})

all_same : (ps : List Pat) → Q.Each SameCons ps
all_same [] = tt
all_same (q ∷ ps) = (same_cons q, all_same ps)

inner_cons : (q : Pat) → the_cons (drop 1 (heads_of q)) ≡ cons_below q
inner_cons = Q.induction (λ q. the_cons (drop 1 (heads_of q)) ≡ cons_below q) (record {
  wild = λ at. ap (λ hs. the_cons (drop 1 hs)) (Q.fold-Wild (List HeadAt) heads_step at) ∙ sym (ap cons_below_root (outs-Wild at));
  var = λ at x. ap (λ hs. the_cons (drop 1 hs)) (Q.fold-Var (List HeadAt) heads_step at x) ∙ sym (ap cons_below_root (outs-Var at x));
  num = λ at n. ap (λ hs. the_cons (drop 1 hs)) (Q.fold-Num (List HeadAt) heads_step at n) ∙ sym (ap cons_below_root (outs-Num at n));
  con = λ at c ps each. ap (λ hs. the_cons (drop 1 hs)) (Q.fold-Con (List HeadAt) heads_step at c ps) ∙ list_cons ps (all_same ps) 0 ∙ sym (ap cons_below_root (outs-Con at c ps));
})

-- a constructor below the root flattens its type
inner_flattens : (leaf : Leaf) (k : ℕ) (h : HeadAt) → slice_get (inner_heads leaf) k ≡ Some h → LeafFlattens leaf h.con.ty
inner_flattens leaf k h is = record {
  number = k;
  con = h.con;
  is_below = ap (λ cs. slice_get cs k) (sym (inner_cons leaf.prov)) ∙ get-mapped (λ (x : HeadAt). x.con) (inner_heads leaf) k h is;
  is_type = refl;
}

-- Members -----------------------------------------------------------------------------------------
filtered : {A : Type 0} (f : A → Bool) (xs : List A) (k : ℕ) (x : A) → slice_get (filter f xs) k ≡ Some x → (j : ℕ) × (slice_get xs j ≡ Some x)
filtered f [] k x e = absurd cc
filtered {A = A} f (y ∷ xs) k x e = go (f y) k e (filtered f xs)
  where
    go : (b : Bool) (k : ℕ) → slice_get (if b then y ∷ filter f xs else filter f xs) k ≡ Some x → ((k : ℕ) (x : A) → slice_get (filter f xs) k ≡ Some x → (j : ℕ) × (slice_get xs j ≡ Some x)) → (j : ℕ) × (slice_get (y ∷ xs) j ≡ Some x)
    go true zero h rest = (0, h)
    go true (suc k) h rest = let r = rest k x h in (suc r.0, r.1)
    go false k h rest = let r = rest k x h in (suc r.0, r.1)

placed_once : (hs : List HeadAt) (k : ℕ) (h : HeadAt) → slice_get (distinct_places hs) k ≡ Some h → (j : ℕ) × (slice_get hs j ≡ Some h)
placed_once [] k h e = absurd cc
placed_once (x ∷ hs) zero h e = (0, e)
placed_once (x ∷ hs) (suc k) h e =
    let f = filtered (λ other. not (same_place x other)) (distinct_places hs) k h e in
    let r = placed_once hs f.0 h f.1 in (suc r.0, r.1)

gathered : {A B : Type 0} (f : A → List B) (xs : List A) (k : ℕ) (y : B) → slice_get (flat_map f xs) k ≡ Some y → (j : ℕ) × (x : A) × (i : ℕ) × (slice_get xs j ≡ Some x) × (slice_get (f x) i ≡ Some y)
gathered f [] k y e = absurd cc
gathered f (x ∷ xs) k y e = elim (get-append (f x) (flat_map f xs) k y e) [
  | inl h ↦ (0, x, k, refl, h)
  | inr h ↦ let r = gathered f xs h.0 y h.1 in (suc r.0, r.1, r.2, r.3, r.4)
]

sums_same : {A : Type 0} (f g : A → ℕ) (xs : List A) → ((k : ℕ) (x : A) → slice_get xs k ≡ Some x → f x ≡ g x) → sum_by f xs ≡ sum_by g xs
sums_same f g [] h = refl
sums_same f g (x ∷ xs) h = sum_by-cons f x xs ∙ ap (λ n. n + sum_by f xs) (h 0 x refl) ∙ ap (λ n. g x + n) (sums_same f g xs (λ k y e. h (suc k) y e)) ∙ sym (sum_by-cons g x xs)

greatest_same : {A : Type 0} (f g : A → ℕ) (xs : List A) → ((k : ℕ) (x : A) → slice_get xs k ≡ Some x → f x ≡ g x) → greatest (map f xs) ≡ greatest (map g xs)
greatest_same f g [] h = refl
greatest_same f g (x ∷ xs) h = let a = h 0 x refl in let b = greatest_same f g xs (λ k y e. h (suc k) y e) in ap (λ n. max n (greatest (map f xs))) a ∙ ap (max (g x)) b

module _ (layouts : List Layout) where
  abbrev R : ℕ → ℕ → Type 0
  R = Flattens layouts

  leaf_in : (t : ℕ) (k : ℕ) (leaf : Leaf) (o : Option Layout) → layout_of layouts t ≡ o → slice_get (leaves_of_layout o) k ≡ Some leaf → (s : ℕ) → LeafFlattens leaf s → R t s
  leaf_in t k leaf None is at s f = absurd cc
  leaf_in t k leaf (Some layout) is at s f = record { layout = layout; number = k; leaf = leaf; is_layout = is; is_leaf = at; flattens = f }

  -- a place of a type is of a type that it flattens
  place_flattens : (t k i : ℕ) (h : HeadAt) → slice_get (places_of layouts t k) i ≡ Some h → R t h.con.ty
  place_flattens t k i h e =
      let a = placed_once (flat_map inner_heads (filter (is_leaf_for k) (leaves_of_layout (layout_of layouts t)))) i h e in
      let b = gathered inner_heads (filter (is_leaf_for k) (leaves_of_layout (layout_of layouts t))) a.0 h a.1 in
      let c = filtered (is_leaf_for k) (leaves_of_layout (layout_of layouts t)) b.0 b.1 b.3 in
      leaf_in t c.0 b.1 (layout_of layouts t) refl c.1 h.con.ty (inner_flattens b.1 b.2 h b.4)

  -- how many types can be flattened one after the other
  abbrev Rank : ℕ → ℕ → Type 0
  Rank zero t = (s : ℕ) → R t s → ⊥
  Rank (suc n) t = (s : ℕ) → R t s → Rank n s

  choose_same : (f g : ℕ → ℕ) (t k : ℕ) → ((u : ℕ) → R t u → f u ≡ g u) → choose_with f layouts t k ≡ choose_with g layouts t k
  choose_same f g t k h =
      sums_same (λ (x : HeadAt). depth_of layouts (Named x.con.ty) + f x.con.ty) (λ (x : HeadAt). depth_of layouts (Named x.con.ty) + g x.con.ty) (places_of layouts t k)
      (λ i x e. ap (λ n. depth_of layouts (Named x.con.ty) + n) (h x.con.ty (place_flattens t k i x e)))

  mend_same : (f g : ℕ → ℕ) (t : ℕ) → ((s : ℕ) → R t s → (u : ℕ) → R s u → f u ≡ g u)
      → greatest (map (mend_leaf (choose_with f layouts)) (leaves_of_layout (layout_of layouts t))) ≡ greatest (map (mend_leaf (choose_with g layouts)) (leaves_of_layout (layout_of layouts t)))
  mend_same f g t h =
      greatest_same (mend_leaf (choose_with f layouts)) (mend_leaf (choose_with g layouts)) (leaves_of_layout (layout_of layouts t))
      (λ k leaf at. sums_same (λ (x : HeadAt). choose_with f layouts x.con.ty x.con.con) (λ (x : HeadAt). choose_with g layouts x.con.ty x.con.con) (inner_heads leaf)
      (λ i x e. choose_same f g x.con.ty x.con.con (h x.con.ty (leaf_in t k leaf (layout_of layouts t) refl at x.con.ty (inner_flattens leaf i x e)))))

  abbrev twice : ℕ → ℕ
  twice zero = 0
  twice (suc n) = suc (suc (twice n))

  -- with bounds from half the rank on, mending is the same
  steady : (n t : ℕ) → Rank (suc (twice n)) t → (m : ℕ) → mend_within layouts (suc (n + m)) t ≡ mend_within layouts (suc n) t
  steady zero t rank m = mend_same (mend_within layouts (0 + m)) (mend_within layouts 0) t (λ s r u q. absurd (rank s r u q))
  steady (suc n) t rank m = mend_same (mend_within layouts (suc n + m)) (mend_within layouts (suc n)) t
      (λ s r u q. let z : suc n + m ≡ suc (n + m) = omega arith in ap (λ k. mend_within layouts k u) z ∙ steady n u (rank s r u q) m)

  up : (n t : ℕ) → Rank n t → Rank (suc n) t
  up zero t rank s r = absurd (rank s r)
  up (suc n) t rank s r = up n s (rank s r)

  raised : (n t : ℕ) → Rank (suc n) t → Rank (suc (twice n)) t
  raised zero t rank = rank
  raised (suc n) t rank = λ s r. up (suc (twice n)) s (raised n s (rank s r))

  -- Flattening has no cycle ---------------------------------------------------------------------
  record Seen (seen : List ℕ) (t : ℕ) : Type 0 where
    small : (k s : ℕ) → slice_get seen k ≡ Some s → s < length layouts
    reaches : (k s : ℕ) → slice_get seen k ≡ Some s → (ts : List ℕ) × IsChain R s ts t

  chain_on : (s : ℕ) (ts : List ℕ) (t u : ℕ) → IsChain R s ts t → R t u → IsChain R s (ts ++ t ∷ []) u
  chain_on s [] t u c r = (c, r)
  chain_on s (x ∷ ts) t u c r = (c.0, chain_on x ts t u c.1 r)

  distinct_more : (t : ℕ) (seen : List ℕ) → ((k s : ℕ) → slice_get seen k ≡ Some s → t ≡ s → ⊥) → IsDistinct eqb seen → IsDistinct eqb (t ∷ seen)
  unfolding IsDistinct
  distinct_more t seen ne d = (others seen ne, d)
    where
      others : (xs : List ℕ) → ((k s : ℕ) → slice_get xs k ≡ Some s → t ≡ s → ⊥) → AllByRecursion (λ y. eqb t y ≡ false) xs
      others [] h = tt
      others (x ∷ xs) h = (elim (eqb_tells t x) [ inl e ↦ absurd (h 0 x refl e.1) | inr e ↦ e.0 ], others xs (λ k s e. h (suc k) s e))

  none_distinct : IsDistinct eqb []
  unfolding IsDistinct
  none_distinct = tt

  any_small : (xs : List ℕ) (n : ℕ) → ((k s : ℕ) → slice_get xs k ≡ Some s → s < n) → (q : ℕ) → list_any (eqb q) xs ≡ true → q < n
  any_small [] n h q e = absurd cc
  any_small (x ∷ xs) n h q e = elim (eqb_tells q x) [
    | inl t ↦ (let lt = h 0 x refl in let same = t.1 in omega (arith, lt, same))
    | inr f ↦ any_small xs n (λ k s a. h (suc k) s a) q (sym (ap (λ b. b || list_any (eqb q) xs) f.0) ∙ e)
  ]

  module _ (a9 : A9 layouts) where
    has_layout : (t s : ℕ) → R t s → t < length layouts
    has_layout t s r = slice_get_within layouts t r.layout r.is_layout

    -- a type that flattens another is not among those that lead to it
    fresh : (seen : List ℕ) (t s : ℕ) → Seen seen t → R t s → (k x : ℕ) → slice_get seen k ≡ Some x → t ≡ x → ⊥
    fresh seen t s h r k x at same =
        let c = h.reaches k x at in
        let here : slice_get seen k ≡ Some t = at ∙ ap Some (sym same) in
        let d = h.reaches k t here in
        a9.no_cycle t r.layout r.is_layout d.0 d.1

    seen_more : (seen : List ℕ) (t s : ℕ) → Seen seen t → R t s → Seen (t ∷ seen) s
    seen_more seen t s h r = record { small = small; reaches = reaches }
      where
        small : (k x : ℕ) → slice_get (t ∷ seen) k ≡ Some x → x < length layouts
        small zero x e = subst (λ y. y < length layouts) (same_Some t x e) (has_layout t s r)
        small (suc k) x e = h.small k x e

        reaches : (k x : ℕ) → slice_get (t ∷ seen) k ≡ Some x → (ts : List ℕ) × IsChain R x ts s
        reaches zero x e = subst (λ y. (ts : List ℕ) × IsChain R y ts s) (same_Some t x e) ([], r)
        reaches (suc k) x e = let c = h.reaches k x e in (c.0 ++ t ∷ [], chain_on x c.0 t s c.1 r)

    rank_of : (fuel : ℕ) (seen : List ℕ) (t : ℕ) → IsDistinct eqb seen → Seen seen t → length layouts ≤ fuel + length seen → Rank fuel t
    rank_of zero seen t d h le = λ s r.
        let all = seen_more seen t s h r in
        let short = length-le_from_distinct_below (t ∷ seen) (length layouts) (distinct_more t seen (fresh seen t s h r) d) (any_small (t ∷ seen) (length layouts) all.small) in
        omega (arith, short, le)
    rank_of (suc fuel) seen t d h le = λ s r.
        rank_of fuel (t ∷ seen) s (distinct_more t seen (fresh seen t s h r) d) (seen_more seen t s h r) (omega (arith, le))

    pub rank : (t : ℕ) → Rank (length layouts) t
    rank t = rank_of (length layouts) [] t none_distinct (record { small = λ k s e. absurd cc; reaches = λ k s e. absurd cc }) (omega arith)

    enough : (n t : ℕ) → length layouts ≡ n → Rank n t → mend_within layouts n t ≡ mend_within layouts (suc n) t
    enough zero t none r = go (layout_of layouts t) refl
      where
        go : (o : Option Layout) → layout_of layouts t ≡ o → 0 ≡ greatest (map (mend_leaf (choose_with (mend_within layouts 0) layouts)) (leaves_of_layout o))
        go None is = refl
        go (Some l) is = absurd (let lt = slice_get_within layouts t l is in omega (arith, lt, none))
    enough (suc n) t is r = let z : n + 1 ≡ suc n = omega arith in sym (ap (λ k. mend_within layouts (suc k) t) (sym z) ∙ steady n t (raised n t r) 1)

    -- mending by its recursion
    pub mending_recurs : (t : ℕ) → mend_of layouts t ≡ greatest (map (mend_leaf (choose_of layouts)) (leaves_of_layout (layout_of layouts t)))
    mending_recurs t = enough (length layouts) t refl (rank t)
