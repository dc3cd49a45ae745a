-- The search for a way back to a number: what it has found at each time, and what holds at its end.
use Rattle.std.proofs.Common.{◌≡◌, ℕ, zero, suc, ◌+◌, ◌<◌, ◌≤◌, ◌⊎◌, inl, inr, List, [], ◌∷◌, ◌++◌, length, get_or, drop, drop-cons, add-one, Bool, true, false, Option, Some, None, refl, sym, ap, subst, ◌∙◌, arith}
use Rattle.std.specs.Prelude.{slice_get, slice_set, MatchBool}
use Rattle.std.proofs.lemmas.Option.{same_Some, slice_get_within}
use Rattle.std.proofs.lemmas.Bool.{cases_lt}
use Rattle.std.proofs.lemmas.List.{length-append}
use Rattle.rb_layout.specs.Cycles.{HasNoCycle, IsChain}
use Rattle.rb_layout.specs.Graphs.{AreUnmarked, edges_of, HasEdge, HasNoEdge, Leads, mark_in, mark_of, row_in}
use Rattle.rb_layout.proofs.GraphLemmas.{Reaches, chain-snoc, get-last, get-left, get-of, none-past, reach-more, set-here, set-keeps, set-length, set-only}
use Rattle.rb_auto.specs.inner.Graphs.{HasCycle, State, with_found, added_if, with_all_found, state}

-- Ways ------------------------------------------------------------------------------------------------------

module _ (R : ℕ → ℕ → Type 0) where
  back : (t : ℕ) (bs : List ℕ) (x : ℕ) → Reaches R t bs x → R x t → HasCycle R t
  back t [] x e r = ([], subst (λ y. R y t) e r)
  back t (b ∷ bs) x h r = (bs ++ x ∷ [], chain-snoc R t bs x t h.1 r)

module _ (graph : List (List ℕ)) (start : ℕ) where
  abbrev IsFound : ℕ → Type 0
  IsFound x = (before : List ℕ) × Reaches (Leads graph) start before x

  abbrev Known : List Bool → ℕ → Type 0
  Known marks s = (mark_of marks s ≡ true) ⊎ (length graph ≤ s)

  pub record Base (s : State) : Type 0 where
    pub count : length s.marks ≡ length graph
    pub found : (k x : ℕ) → slice_get s.found k ≡ Some x → IsFound x
    pub each : (y : ℕ) → mark_of s.marks y ≡ true → (k : ℕ) × (slice_get s.found k ≡ Some y)

  abbrev Closed : List Bool → ℕ → Type 0
  Closed marks x = (n : ℕ) → Leads graph x n → (n ≡ start → ⊥) × Known marks n

  pub record IsSearch (s : State) (i : ℕ) : Type 0 where
    pub base : Base s
    pub closed : (k x : ℕ) → k < i → slice_get s.found k ≡ Some x → Closed s.marks x
    pub within : i ≤ length s.found
    pub first : Known s.marks start

  record Grows (s t : State) : Type 0 where
    marks : (y : ℕ) → mark_of s.marks y ≡ true → mark_of t.marks y ≡ true
    same : (k x : ℕ) → k < length s.found → slice_get t.found k ≡ Some x → slice_get s.found k ≡ Some x
    longer : length s.found ≤ length t.found

  grows-none : (s : State) → Grows s s
  grows-none s = record { marks = λ y e. e; same = λ k w lt e. e; longer = omega arith }

  grows-more : (s t u : State) → Grows s t → Grows t u → Grows s u
  grows-more s t u g h = record {
    marks = λ y e. h.marks y (g.marks y e);
    same = λ k w lt e. g.same k w lt (h.same k w (let l = g.longer in omega (arith, lt, l)) e);
    longer = (let a = g.longer in let b = h.longer in omega (arith, a, b));
  }

  known-more : (s t : State) → Grows s t → (n : ℕ) → Known s.marks n → Known t.marks n
  known-more s t g n (inl e) = inl (g.marks n e)
  known-more s t g n (inr le) = inr le

  -- ---- one number more
  abbrev with-new : ℕ → State → State
  with-new n s = record { marks = slice_set s.marks n true; found = s.found ++ n ∷ [] }

  grows-new : (n : ℕ) (s : State) → Grows s (with-new n s)
  grows-new n s = record {
    marks = λ y e. set-keeps s.marks n y e;
    same = λ k x lt e. elim (get-of s.found n k x e) [ inl h ↦ h | inr h ↦ absurd (omega (arith, lt, h.0)) ];
    longer = (let l = length-append s.found (n ∷ []) in omega (arith, l));
  }

  base-new : (n : ℕ) (s : State) → slice_get s.marks n ≡ Some false → Base s → IsFound n → Base (with-new n s)
  base-new n s new b f = record {
    count = set-length s.marks n ∙ b.count;
    found = λ k x e. elim (get-of s.found n k x e) [
      | inl h ↦ b.found k x h
      | inr h ↦ subst (λ y. IsFound y) h.1 f
    ];
    each = λ y e. elim (set-only s.marks n y e) [
      | inl h ↦ (let o = b.each y h in (o.0, get-left s.found (n ∷ []) o.0 y o.1))
      | inr h ↦ (length s.found, get-last s.found n ∙ ap Some h)
    ];
  }

  record Step (s t : State) (n : ℕ) : Type 0 where
    base : Base t
    grows : Grows s t
    known : Known t.marks n

  one-step : (x n : ℕ) (s : State) (m : Option Bool) → slice_get s.marks n ≡ m → Base s → IsFound x → Leads graph x n → Step s (added_if m n s) n
  one-step x n s None is b f leads = record { base = b; grows = grows-none s; known = inr (let past = none-past s.marks n is in let c = b.count in omega (arith, past, c)) }
  one-step x n s (Some true) is b f leads = record { base = b; grows = grows-none s; known = inl (ap mark_in is) }
  one-step x n s (Some false) is b f leads = record {
    base = base-new n s is b (f.0 ++ x ∷ [], reach-more (Leads graph) start f.0 x n f.1 leads);
    grows = grows-new n s;
    known = inl (set-here s.marks n false is);
  }

  record Steps (s t : State) (edges : List ℕ) : Type 0 where
    base : Base t
    grows : Grows s t
    known : (k n : ℕ) → slice_get edges k ≡ Some n → Known t.marks n

  known-all : (n : ℕ) (edges : List ℕ) (t : State) → Known t.marks n → ((k x : ℕ) → slice_get edges k ≡ Some x → Known t.marks x) → (k x : ℕ) → slice_get (n ∷ edges) k ≡ Some x → Known t.marks x
  known-all n edges t here rest zero x e = subst (λ y. Known t.marks y) (same_Some n x e) here
  known-all n edges t here rest (suc k) x e = rest k x e

  all-steps : (x : ℕ) (edges : List ℕ) (s : State) → Base s → IsFound x → ((k n : ℕ) → slice_get edges k ≡ Some n → Leads graph x n) → Steps s (with_all_found edges s) edges
  all-steps x [] s b f leads = record { base = b; grows = grows-none s; known = λ k n e. absurd cc }
  all-steps x (n ∷ edges) s b f leads =
      let one = one-step x n s (slice_get s.marks n) refl b f (leads 0 n refl) in
      let t = with_found n s in
      let rest = all-steps x edges t one.base f (λ k y e. leads (suc k) y e) in
      record {
        base = rest.base;
        grows = grows-more s t (with_all_found edges t) one.grows rest.grows;
        known = known-all n edges (with_all_found edges t) (known-more t (with_all_found edges t) rest.grows n one.known) rest.known;
      }

  -- ---- the search
  search-next : (s t : State) (i x : ℕ) → IsSearch s i → slice_get s.found i ≡ Some x → HasNoEdge (edges_of graph x) start
      → t ≡ with_all_found (edges_of graph x) s → IsSearch t (i + 1)
  search-next s t i x h at none is =
      let f = h.base.found i x at in
      let steps = all-steps x (edges_of graph x) s h.base f (λ k n e. (k, e)) in
      let lt = slice_get_within s.found i x at in
      let u = with_all_found (edges_of graph x) s in
      subst (λ (y : State). IsSearch y (i + 1)) (sym is) (record {
        base = steps.base;
        closed = λ k y le e.
            let old = steps.grows.same k y (omega (arith, le, lt)) e in
            elim (cases_lt k i) [
              | inl less ↦ (λ n leads. let c = h.closed k y less old n leads in (c.0, known-more s u steps.grows n c.1))
              | inr most ↦ (let same : k ≡ i = omega (arith, most, le) in
                  let one : x ≡ y = same_Some x y (sym at ∙ ap (λ j. slice_get s.found j) (sym same) ∙ old) in
                  subst (λ z. Closed u.marks z) one (λ n leads. (λ e2. none leads.0 n leads.1 e2, steps.known leads.0 n leads.1)))
            ];
        within = (let l = steps.grows.longer in omega (arith, l, lt));
        first = known-more s u steps.grows start h.first;
      })

  past-row : (rows : List (List ℕ)) (s k n : ℕ) → length rows ≤ s → slice_get (row_in (slice_get rows s)) k ≡ Some n → ⊥
  past-row [] s k n le e = absurd cc
  past-row (r ∷ rows) zero k n le e = absurd (omega (arith, le))
  past-row (r ∷ rows) (suc s) k n le e = past-row rows s k n (omega (arith, le)) e

  module _ (s : State) (i : ℕ) (h : IsSearch s i) (all : length s.found ≤ i) where
    leads-on : (y n : ℕ) → Known s.marks y → Leads graph y n → (n ≡ start → ⊥) × Known s.marks n
    leads-on y n (inl marked) leads =
        let o = h.base.each y marked in
        let lt = slice_get_within s.found o.0 y o.1 in
        h.closed o.0 y (omega (arith, lt, all)) o.1 n leads
    leads-on y n (inr past) leads = absurd (past-row graph y leads.0 n past leads.1)

    none-back : (y : ℕ) (ts : List ℕ) → Known s.marks y → IsChain (Leads graph) y ts start → ⊥
    none-back y [] known leads = (leads-on y start known leads).0 refl
    none-back y (n ∷ ts) known chain = none-back n ts (leads-on y n known chain.0).1 chain.1

    pub no-cycle : HasNoCycle (Leads graph) start
    no-cycle = λ ts cycle. none-back start ts h.first cycle

  pub no-row : length graph ≤ start → HasNoCycle (Leads graph) start
  no-row past [] = λ leads. past-row graph start leads.0 start past leads.1
  no-row past (n ∷ ts) = λ chain. past-row graph start chain.0.0 n past chain.0.1

  -- by what one number leads to
  module _ (s t : State) (i x : ℕ) (edges : List ℕ) (b : Bool) (h : IsSearch s i) (at : slice_get s.found i ≡ Some x) (is_edges : edges ≡ edges_of graph x)
      (leads : MatchBool b (HasEdge edges start) (HasNoEdge edges start)) where
    pub found-branch : b ≡ true → HasCycle (Leads graph) start
    found-branch e =
        let f = h.base.found i x at in
        back (Leads graph) start f.0 x f.1 (subst (λ (ns : List ℕ). HasEdge ns start) is_edges (subst (λ y. MatchBool y (HasEdge edges start) (HasNoEdge edges start)) e leads))

    pub next-branch : b ≡ false → MatchBool b (Unit {0}) (t ≡ with_all_found edges s) → IsSearch t (i + 1)
    next-branch e with_found =
        let all : t ≡ with_all_found edges s = subst (λ y. MatchBool y (Unit {0}) (t ≡ with_all_found edges s)) e with_found in
        search-next s t i x h at (subst (λ (ns : List ℕ). HasNoEdge ns start) is_edges (subst (λ y. MatchBool y (HasEdge edges start) (HasNoEdge edges start)) e leads))
        (all ∙ ap (λ (ns : List ℕ). with_all_found ns s) is_edges)

  -- ---- the beginning
  unmarked-at : (marks : List Bool) (n : ℕ) → n < length marks → ((k : ℕ) (m : Bool) → slice_get marks k ≡ Some m → m ≡ false) → slice_get marks n ≡ Some false
  unmarked-at [] n lt all = absurd (omega (arith, lt))
  unmarked-at (m ∷ marks) zero lt all = ap Some (all 0 m refl)
  unmarked-at (m ∷ marks) (suc n) lt all = unmarked-at marks n (omega (arith, lt)) (λ k x e. all (suc k) x e)

  not-marked : (marks : List Bool) (y : ℕ) (m : Option Bool) → slice_get marks y ≡ m → ((k : ℕ) (x : Bool) → slice_get marks k ≡ Some x → x ≡ false) → mark_in m ≡ true → ⊥
  not-marked marks y None is all e = absurd cc
  not-marked marks y (Some m) is all e = absurd (cc (all y m is, e))

  pub search-init : (marks : List Bool) (t : State) → AreUnmarked (length graph) marks → start < length graph → t ≡ with_found start (state marks []) → IsSearch t 0
  search-init marks t none lt is =
      let new = unmarked-at marks start (let c = none.0 in omega (arith, lt, c)) none.1 in
      let s = state marks [] in
      let u = with-new start s in
      let empty : Base s = record { count = none.0; found = λ k w e. absurd cc; each = λ y e. absurd (not-marked marks y (slice_get marks y) refl none.1 e) } in
      let same : t ≡ u = is ∙ ap (λ m. added_if m start s) new in
      subst (λ (x : State). IsSearch x 0) (sym same) (record {
        base = base-new start s new empty ([], refl);
        closed = λ k x less e. absurd (omega (arith, less));
        within = omega arith;
        first = inl (set-here marks start false new);
      })

pub added-next : (edges : List ℕ) (i : ℕ) (s : State) → i < length edges → with_all_found (drop i edges) s ≡ with_all_found (drop (i + 1) edges) (with_found (get_or edges i 0) s)
added-next edges i s lt =
    ap (λ (xs : List ℕ). with_all_found xs s) (drop-cons edges i 0 lt) ∙ ap (λ m. with_all_found (drop m edges) (with_found (get_or edges i 0) s)) (sym (add-one i))

pub not-within : (i n : ℕ) → (i < n → false ≡ true) → n ≤ i
not-within i n h = elim (cases_lt i n) [ inl lt ↦ absurd (cc (h lt)) | inr le ↦ le ]

-- Of each before and at a place ------------------------------------------------------------------------------

pub before-next : (P : ℕ → Type 0) (xs : List ℕ) (i x : ℕ) → slice_get xs i ≡ Some x → P x → ((k y : ℕ) → k < i → slice_get xs k ≡ Some y → P y)
    → (k y : ℕ) → k < i + 1 → slice_get xs k ≡ Some y → P y
before-next P xs i x at here before k y lt e = elim (cases_lt k i) [
  | inl less ↦ before k y less e
  | inr most ↦ (let same : k ≡ i = omega (arith, lt, most) in subst P (same_Some x y (sym at ∙ ap (λ j. slice_get xs j) (sym same) ∙ e)) here)
]

pub before-all : (P : ℕ → Type 0) (xs : List ℕ) (i : ℕ) → length xs ≤ i → ((k y : ℕ) → k < i → slice_get xs k ≡ Some y → P y) → (k y : ℕ) → slice_get xs k ≡ Some y → P y
before-all P xs i all before k y e = let lt = slice_get_within xs k y e in before k y (omega (arith, lt, all)) e
