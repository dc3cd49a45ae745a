-- Spans meet their recursion, since flattening has no cycle.
use Rattle.std.proofs.Common.{◌≡◌, ℕ, zero, suc, ◌+◌, ◌<◌, ◌≤◌, ◌||◌, inl, inr, eqb, length, List, [], ◌∷◌, ◌++◌, true, false, Option, Some, None, refl, sym, subst, ap, ◌∙◌, arith}
use Rattle.std.specs.Prelude.{slice_get}
use Rattle.std.specs.List.{sum_by, list_any, IsDistinct, AllByRecursion}
use Rattle.std.proofs.lemmas.Bool.Decides.{eqb_tells}
use Rattle.std.proofs.lemmas.List.Sums.{sum_by-cons}
use Rattle.std.proofs.lemmas.Map.Steps.{length-le_from_distinct_below}
use Rattle.std.proofs.lemmas.Option.{same_Some, slice_get_within}
use Rattle.rb_core.specs.declared.types.ConRef.{ConRef}
use Rattle.rb_layout.specs.declared.layout.Leaf.{Leaf}
use Rattle.rb_layout.specs.declared.layout.Layout.{Layout}
use Rattle.rb_layout.specs.A9.{A9, Flattens, cons_below}
use Rattle.rb_layout.specs.Cycles.{IsChain}
use Rattle.rb_layout.specs.Positions.{layout_of}
use Rattle.rb_image.specs.Spans.{data_span, inner_span, layout_span, span_within, tree_span, word_span}

sums_same : {A : Type 0} (f g : A → ℕ) (xs : List A) → ((k : ℕ) (x : A) → slice_get xs k ≡ Some x → f x ≡ g x) → sum_by f xs ≡ sum_by g xs
sums_same f g [] h = refl
sums_same f g (x ∷ xs) h = sum_by-cons f x xs ∙ ap (λ n. n + sum_by f xs) (h 0 x refl) ∙ ap (λ n. g x + n) (sums_same f g xs (λ k y e. h (suc k) y e)) ∙ sym (sum_by-cons g x xs)

module _ (layouts : List Layout) where
  abbrev R : ℕ → ℕ → Type 0
  R = Flattens layouts

  -- how many types with layouts can be flattened one after the other
  abbrev Rank : ℕ → ℕ → Type 0
  Rank zero t = layout_of layouts t ≡ None
  Rank (suc n) t = (s : ℕ) → R t s → Rank n s

  span_same : (f g : ℕ → ℕ) (t : ℕ) → ((s : ℕ) → R t s → f s ≡ g s) → layout_span f (layout_of layouts t) ≡ layout_span g (layout_of layouts t)
  span_same f g t h = go (layout_of layouts t) refl
    where
      inner : (layout : Layout) → layout_of layouts t ≡ Some layout → (k : ℕ) (leaf : Leaf) → slice_get layout.leaves k ≡ Some leaf → inner_span f leaf ≡ inner_span g leaf
      inner layout is k leaf at = sums_same (λ (con : ConRef). f con.ty) (λ (con : ConRef). g con.ty) (cons_below leaf.prov)
          (λ j con e. h con.ty (record { layout = layout; number = k; leaf = leaf; is_layout = is; is_leaf = at; flattens = record { number = j; con = con; is_below = e; is_type = refl } }))

      go : (o : Option Layout) → layout_of layouts t ≡ o → layout_span f o ≡ layout_span g o
      go None is = refl
      go (Some layout) is = ap (λ n. tree_span layout.tree + sum_by word_span layout.leaves + n) (sums_same (inner_span f) (inner_span g) layout.leaves (inner layout is))

  steady : (n t : ℕ) → Rank n t → span_within layouts n t ≡ span_within layouts (suc n) t
  steady zero t none = sym (ap (layout_span (span_within layouts 0)) none)
  steady (suc n) t rank = span_same (span_within layouts n) (span_within layouts (suc n)) t (λ s r. steady n s (rank s r))

  -- Flattening has no cycle ---------------------------------------------------------------------
  record Seen (seen : List ℕ) (t : ℕ) : Type 0 where
    small : (k s : ℕ) → slice_get seen k ≡ Some s → s < length layouts
    reaches : (k s : ℕ) → slice_get seen k ≡ Some s → (ts : List ℕ) × IsChain R s ts t

  chain_on : (s : ℕ) (ts : List ℕ) (t u : ℕ) → IsChain R s ts t → R t u → IsChain R s (ts ++ t ∷ []) u
  chain_on s [] t u c r = (c, r)
  chain_on s (x ∷ ts) t u c r = (c.0, chain_on x ts t u c.1 r)

  distinct_more : (t : ℕ) (seen : List ℕ) → ((k s : ℕ) → slice_get seen k ≡ Some s → t ≡ s → ⊥) → IsDistinct eqb seen → IsDistinct eqb (t ∷ seen)
  unfolding IsDistinct
  distinct_more t seen ne d = (others seen ne, d)
    where
      others : (xs : List ℕ) → ((k s : ℕ) → slice_get xs k ≡ Some s → t ≡ s → ⊥) → AllByRecursion (λ y. eqb t y ≡ false) xs
      others [] h = tt
      others (x ∷ xs) h = (elim (eqb_tells t x) [ inl e ↦ absurd (h 0 x refl e.1) | inr e ↦ e.0 ], others xs (λ k s e. h (suc k) s e))

  none_distinct : IsDistinct eqb []
  unfolding IsDistinct
  none_distinct = tt

  any_small : (xs : List ℕ) (n : ℕ) → ((k s : ℕ) → slice_get xs k ≡ Some s → s < n) → (q : ℕ) → list_any (eqb q) xs ≡ true → q < n
  any_small [] n h q e = absurd cc
  any_small (x ∷ xs) n h q e = elim (eqb_tells q x) [
    | inl t ↦ (let lt = h 0 x refl in let same = t.1 in omega (arith, lt, same))
    | inr f ↦ any_small xs n (λ k s a. h (suc k) s a) q (sym (ap (λ b. b || list_any (eqb q) xs) f.0) ∙ e)
  ]

  module _ (a9 : A9 layouts) where
    -- a type with a layout is not among those that lead to it
    fresh : (seen : List ℕ) (t : ℕ) (layout : Layout) → layout_of layouts t ≡ Some layout → Seen seen t → (k x : ℕ) → slice_get seen k ≡ Some x → t ≡ x → ⊥
    fresh seen t layout is h k x at same =
        let here : slice_get seen k ≡ Some t = at ∙ ap Some (sym same) in
        let d = h.reaches k t here in
        a9.no_cycle t layout is d.0 d.1

    small_more : (seen : List ℕ) (t : ℕ) (layout : Layout) → layout_of layouts t ≡ Some layout → Seen seen t → (k x : ℕ) → slice_get (t ∷ seen) k ≡ Some x → x < length layouts
    small_more seen t layout is h zero x e = subst (λ y. y < length layouts) (same_Some t x e) (slice_get_within layouts t layout is)
    small_more seen t layout is h (suc k) x e = h.small k x e

    seen_more : (seen : List ℕ) (t s : ℕ) → Seen seen t → R t s → Seen (t ∷ seen) s
    seen_more seen t s h r = record { small = small_more seen t r.layout r.is_layout h; reaches = reaches }
      where
        reaches : (k x : ℕ) → slice_get (t ∷ seen) k ≡ Some x → (ts : List ℕ) × IsChain R x ts s
        reaches zero x e = subst (λ y. (ts : List ℕ) × IsChain R y ts s) (same_Some t x e) ([], r)
        reaches (suc k) x e = let c = h.reaches k x e in (c.0 ++ t ∷ [], chain_on x c.0 t s c.1 r)

    no_more : (seen : List ℕ) (t : ℕ) (o : Option Layout) → layout_of layouts t ≡ o → IsDistinct eqb seen → Seen seen t → length layouts ≤ length seen → layout_of layouts t ≡ None
    no_more seen t None is d h le = is
    no_more seen t (Some layout) is d h le =
        let short = length-le_from_distinct_below (t ∷ seen) (length layouts) (distinct_more t seen (fresh seen t layout is h) d) (any_small (t ∷ seen) (length layouts) (small_more seen t layout is h)) in
        absurd (omega (arith, short, le))

    rank_of : (fuel : ℕ) (seen : List ℕ) (t : ℕ) → IsDistinct eqb seen → Seen seen t → length layouts ≤ fuel + length seen → Rank fuel t
    rank_of zero seen t d h le = no_more seen t (layout_of layouts t) refl d h (omega (arith, le))
    rank_of (suc fuel) seen t d h le = λ s r.
        rank_of fuel (t ∷ seen) s (distinct_more t seen (fresh seen t r.layout r.is_layout h) d) (seen_more seen t s h r) (omega (arith, le))

    rank : (t : ℕ) → Rank (length layouts) t
    rank t = rank_of (length layouts) [] t none_distinct (record { small = λ k s e. absurd cc; reaches = λ k s e. absurd cc }) (omega arith)

    -- a span by its recursion
    pub spans_recur : (t : ℕ) → data_span layouts t ≡ layout_span (data_span layouts) (layout_of layouts t)
    spans_recur t = steady (length layouts) t (rank t)
