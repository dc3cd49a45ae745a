-- The search for a cycle: what it has found at each time, and what holds at its end.
use Rattle.std.proofs.Common.{◌≡◌, ℕ, zero, suc, ◌+◌, ◌<◌, ◌≤◌, ◌⊎◌, inl, inr, nat_eq, not, List, [], ◌∷◌, ◌++◌, length, get_or, drop, drop-cons, add-one, Bool, true, false, Option, Some, None, refl, sym, ap, subst, ◌∙◌, arith}
use Rattle.std.specs.Prelude.{slice_get, slice_set, MatchBool, ◌||◌, ◌&&◌}
use Rattle.std.specs.List.{list_any}
use Rattle.std.proofs.lemmas.Option.{same_Some, slice_get_within}
use Rattle.std.proofs.lemmas.Bool.{cases_lt, ne_eqb, and_parts}
use Rattle.std.proofs.lemmas.List.{length-append}
use Rattle.rb_core.specs.WellNumbered.{is_distinct}
use Rattle.rb_layout.specs.Cycles.{HasNoCycle, IsChain, IsCycleFrom}
use Rattle.rb_agree.specs.declared.cycles.Way.{Way}
use Rattle.rb_layout.specs.Graphs.{AreUnmarked, edges_of, HasEdge, HasNoEdge, Leads, mark_in, mark_of, row_in}
use Rattle.rb_layout.proofs.GraphLemmas.{Reaches, chain-snoc, get-last, get-left, get-of, none-past, reach-more, set-here, set-keeps, set-length, set-only}
use Rattle.rb_agree.specs.Lists.{SomeOf}
use Rattle.rb_agree.specs.inner.Lists.{EachOf}
use Rattle.rb_agree.specs.inner.Ways.{State, with_found, added_if, with_all_found, state}

-- No number twice -----------------------------------------------------------------------------------------

any-snoc : (x n : ℕ) (ys : List ℕ) (b : Bool) → list_any (nat_eq x) ys ≡ b → nat_eq x n ≡ false → list_any (nat_eq x) (ys ++ n ∷ []) ≡ b
any-snoc x n [] b e other = ap (λ c. c || false) other ∙ e
any-snoc x n (y ∷ ys) b e other = ap (λ c. nat_eq x y || c) (any-snoc x n ys (list_any (nat_eq x) ys) refl other) ∙ e

distinct-snoc : (xs : List ℕ) (n : ℕ) → is_distinct nat_eq xs ≡ true → ((k y : ℕ) → slice_get xs k ≡ Some y → y ≡ n → ⊥) → is_distinct nat_eq (xs ++ n ∷ []) ≡ true
distinct-snoc [] n e new = refl
distinct-snoc (x ∷ xs) n e new =
    let h = and_parts (not (list_any (nat_eq x) xs)) (is_distinct nat_eq xs) e in
    let other : nat_eq x n ≡ false = ne_eqb x n (new 0 x refl) in
    ap (λ b. not b && is_distinct nat_eq (xs ++ n ∷ [])) (any-snoc x n xs (list_any (nat_eq x) xs) refl other)
    ∙ ap (λ b. b && is_distinct nat_eq (xs ++ n ∷ [])) h.0 ∙ distinct-snoc xs n h.1 (λ k y at. new (suc k) y at)

-- Ways ------------------------------------------------------------------------------------------------------

module _ (R : ℕ → ℕ → Type 0) where
  back : (t : ℕ) (bs : List ℕ) (x : ℕ) → Reaches R t bs x → R x t → is_distinct nat_eq (bs ++ x ∷ []) ≡ true → IsCycleFrom R t (bs ++ x ∷ [])
  back t [] x e r distinct = (e, subst (λ y. R x y) (sym e) r, distinct)
  back t (b ∷ bs) x h r distinct = (h.0, subst (λ y. IsChain R y (bs ++ x ∷ []) y) (sym h.0) (chain-snoc R t bs x t h.1 r), distinct)

module _ (graph : List (List ℕ)) (start : ℕ) where
  pub record IsFound (marks : List Bool) (w : Way) : Type 0 where
    pub before : List ℕ
    pub is_way : w.way ≡ before ++ w.number ∷ []
    pub reaches : Reaches (Leads graph) start before w.number
    pub distinct : is_distinct nat_eq w.way ≡ true
    pub marked : (k y : ℕ) → slice_get w.way k ≡ Some y → mark_of marks y ≡ true

  abbrev Known : List Bool → ℕ → Type 0
  Known marks s = (mark_of marks s ≡ true) ⊎ (length graph ≤ s)

  pub record Base (s : State) : Type 0 where
    pub count : length s.marks ≡ length graph
    pub found : EachOf (IsFound s.marks) s.found
    pub each : (y : ℕ) → mark_of s.marks y ≡ true → SomeOf (λ (w : Way). w.number ≡ y) s.found

  abbrev Closed : List Bool → Way → Type 0
  Closed marks w = (n : ℕ) → Leads graph w.number n → (n ≡ start → ⊥) × Known marks n

  pub record IsSearch (s : State) (i : ℕ) : Type 0 where
    pub base : Base s
    pub closed : (k : ℕ) (w : Way) → k < i → slice_get s.found k ≡ Some w → Closed s.marks w
    pub within : i ≤ length s.found
    pub first : Known s.marks start

  record Grows (s t : State) : Type 0 where
    marks : (y : ℕ) → mark_of s.marks y ≡ true → mark_of t.marks y ≡ true
    same : (k : ℕ) (w : Way) → k < length s.found → slice_get t.found k ≡ Some w → slice_get s.found k ≡ Some w
    longer : length s.found ≤ length t.found

  grows-none : (s : State) → Grows s s
  grows-none s = record { marks = λ y e. e; same = λ k w lt e. e; longer = omega arith }

  grows-more : (s t u : State) → Grows s t → Grows t u → Grows s u
  grows-more s t u g h = record {
    marks = λ y e. h.marks y (g.marks y e);
    same = λ k w lt e. g.same k w lt (h.same k w (let l = g.longer in omega (arith, lt, l)) e);
    longer = (let a = g.longer in let b = h.longer in omega (arith, a, b));
  }

  known-more : (s t : State) → Grows s t → (n : ℕ) → Known s.marks n → Known t.marks n
  known-more s t g n (inl e) = inl (g.marks n e)
  known-more s t g n (inr le) = inr le

  found-more : (s t : State) → Grows s t → (w : Way) → IsFound s.marks w → IsFound t.marks w
  found-more s t g w f = record { before = f.before; is_way = f.is_way; reaches = f.reaches; distinct = f.distinct; marked = λ k y e. g.marks y (f.marked k y e) }

  -- ---- one number more
  abbrev with-new : List ℕ → ℕ → State → State
  with-new way n s = record { marks = slice_set s.marks n true; found = s.found ++ record { number = n; way = way ++ n ∷ [] } ∷ [] }

  grows-new : (way : List ℕ) (n : ℕ) (s : State) → Grows s (with-new way n s)
  grows-new way n s = record {
    marks = λ y e. set-keeps s.marks n y e;
    same = λ k w lt e. elim (get-of s.found (record { number = n; way = way ++ n ∷ [] }) k w e) [ inl h ↦ h | inr h ↦ absurd (omega (arith, lt, h.0)) ];
    longer = (let l = length-append s.found (record { number = n; way = way ++ n ∷ [] } ∷ []) in omega (arith, l));
  }

  base-new : (way : List ℕ) (n : ℕ) (s : State) → slice_get s.marks n ≡ Some false → Base s → IsFound (slice_set s.marks n true) (record { number = n; way = way ++ n ∷ [] }) → Base (with-new way n s)
  base-new way n s new b f = record {
    count = set-length s.marks n ∙ b.count;
    found = λ k w e. elim (get-of s.found (record { number = n; way = way ++ n ∷ [] }) k w e) [
      | inl h ↦ found-more s (with-new way n s) (grows-new way n s) w (b.found k w h)
      | inr h ↦ subst (λ (x : Way). IsFound (slice_set s.marks n true) x) h.1 f
    ];
    each = λ y e. elim (set-only s.marks n y e) [
      | inl h ↦ (let o = b.each y h in (o.0, o.1, get-left s.found (record { number = n; way = way ++ n ∷ [] } ∷ []) o.0 o.1 o.2, o.3))
      | inr h ↦ (length s.found, record { number = n; way = way ++ n ∷ [] }, get-last s.found (record { number = n; way = way ++ n ∷ [] }), h)
    ];
  }

  -- the way to a number to which a found one leads
  new-found : (w : Way) (n : ℕ) (s : State) → slice_get s.marks n ≡ Some false → IsFound s.marks w → Leads graph w.number n
      → IsFound (slice_set s.marks n true) (record { number = n; way = w.way ++ n ∷ [] })
  new-found w n s new f leads = record {
    before = w.way;
    is_way = refl;
    reaches = subst (λ (bs : List ℕ). Reaches (Leads graph) start bs n) (sym f.is_way) (reach-more (Leads graph) start f.before w.number n f.reaches leads);
    distinct = distinct-snoc w.way n f.distinct (λ k y at same.
        let mark : mark_of s.marks n ≡ true = subst (λ z. mark_of s.marks z ≡ true) same (f.marked k y at) in
        absurd (cc (ap mark_in new, mark)));
    marked = λ k y at. elim (get-of w.way n k y at) [
      | inl h ↦ set-keeps s.marks n y (f.marked k y h)
      | inr h ↦ subst (λ z. mark_of (slice_set s.marks n true) z ≡ true) h.1 (set-here s.marks n false new)
    ];
  }

  record Step (s t : State) (n : ℕ) : Type 0 where
    base : Base t
    grows : Grows s t
    known : Known t.marks n

  one-step : (w : Way) (n : ℕ) (s : State) (m : Option Bool) → slice_get s.marks n ≡ m → Base s → IsFound s.marks w → Leads graph w.number n → Step s (added_if m w.way n s) n
  one-step w n s None is b f leads = record { base = b; grows = grows-none s; known = inr (let past = none-past s.marks n is in let c = b.count in omega (arith, past, c)) }
  one-step w n s (Some true) is b f leads = record { base = b; grows = grows-none s; known = inl (ap mark_in is) }
  one-step w n s (Some false) is b f leads = record {
    base = base-new w.way n s is b (new-found w n s is f leads);
    grows = grows-new w.way n s;
    known = inl (set-here s.marks n false is);
  }

  record Steps (s t : State) (edges : List ℕ) : Type 0 where
    base : Base t
    grows : Grows s t
    known : (k n : ℕ) → slice_get edges k ≡ Some n → Known t.marks n

  known-all : (n : ℕ) (edges : List ℕ) (t : State) → Known t.marks n → ((k x : ℕ) → slice_get edges k ≡ Some x → Known t.marks x) → (k x : ℕ) → slice_get (n ∷ edges) k ≡ Some x → Known t.marks x
  known-all n edges t here rest zero x e = subst (λ y. Known t.marks y) (same_Some n x e) here
  known-all n edges t here rest (suc k) x e = rest k x e

  all-steps : (w : Way) (edges : List ℕ) (s : State) → Base s → IsFound s.marks w → ((k n : ℕ) → slice_get edges k ≡ Some n → Leads graph w.number n) → Steps s (with_all_found w.way edges s) edges
  all-steps w [] s b f leads = record { base = b; grows = grows-none s; known = λ k n e. absurd cc }
  all-steps w (n ∷ edges) s b f leads =
      let one = one-step w n s (slice_get s.marks n) refl b f (leads 0 n refl) in
      let t = with_found w.way n s in
      let rest = all-steps w edges t one.base (found-more s t one.grows w f) (λ k x e. leads (suc k) x e) in
      record {
        base = rest.base;
        grows = grows-more s t (with_all_found w.way edges t) one.grows rest.grows;
        known = known-all n edges (with_all_found w.way edges t) (known-more t (with_all_found w.way edges t) rest.grows n one.known) rest.known;
      }

  -- ---- the search
  pub search-next : (s t : State) (i : ℕ) (w : Way) → IsSearch s i → slice_get s.found i ≡ Some w → HasNoEdge (edges_of graph w.number) start
      → t ≡ with_all_found w.way (edges_of graph w.number) s → IsSearch t (i + 1)
  search-next s t i w h at none is =
      let f = h.base.found i w at in
      let steps = all-steps w (edges_of graph w.number) s h.base f (λ k n e. (k, e)) in
      let lt = slice_get_within s.found i w at in
      let u = with_all_found w.way (edges_of graph w.number) s in
      subst (λ (x : State). IsSearch x (i + 1)) (sym is) (record {
        base = steps.base;
        closed = λ k x le e.
            let old = steps.grows.same k x (omega (arith, le, lt)) e in
            elim (cases_lt k i) [
              | inl less ↦ (λ n leads. let c = h.closed k x less old n leads in (c.0, known-more s u steps.grows n c.1))
              | inr most ↦ (let same : k ≡ i = omega (arith, most, le) in
                  let one : w ≡ x = same_Some w x (sym at ∙ ap (λ j. slice_get s.found j) (sym same) ∙ old) in
                  subst (λ (y : Way). Closed u.marks y) one (λ n leads. (λ e2. none leads.0 n leads.1 e2, steps.known leads.0 n leads.1)))
            ];
        within = (let l = steps.grows.longer in omega (arith, l, lt));
        first = known-more s u steps.grows start h.first;
      })

  pub cycle-found : (s : State) (i : ℕ) (w : Way) → IsSearch s i → slice_get s.found i ≡ Some w → HasEdge (edges_of graph w.number) start → IsCycleFrom (Leads graph) start w.way
  cycle-found s i w h at edge =
      let f = h.base.found i w at in
      subst (λ (ways : List ℕ). IsCycleFrom (Leads graph) start ways) (sym f.is_way)
      (back (Leads graph) start f.before w.number f.reaches edge (subst (λ (ways : List ℕ). is_distinct nat_eq ways ≡ true) f.is_way f.distinct))

  past-row : (rows : List (List ℕ)) (s k n : ℕ) → length rows ≤ s → slice_get (row_in (slice_get rows s)) k ≡ Some n → ⊥
  past-row [] s k n le e = absurd cc
  past-row (r ∷ rows) zero k n le e = absurd (omega (arith, le))
  past-row (r ∷ rows) (suc s) k n le e = past-row rows s k n (omega (arith, le)) e

  module _ (s : State) (i : ℕ) (h : IsSearch s i) (all : length s.found ≤ i) where
    leads-on : (y n : ℕ) → Known s.marks y → Leads graph y n → (n ≡ start → ⊥) × Known s.marks n
    leads-on y n (inl marked) leads =
        let o = h.base.each y marked in
        let lt = slice_get_within s.found o.0 o.1 o.2 in
        h.closed o.0 o.1 (omega (arith, lt, all)) o.2 n (subst (λ z. Leads graph z n) (sym o.3) leads)
    leads-on y n (inr past) leads = absurd (past-row graph y leads.0 n past leads.1)

    none-back : (y : ℕ) (ts : List ℕ) → Known s.marks y → IsChain (Leads graph) y ts start → ⊥
    none-back y [] known leads = (leads-on y start known leads).0 refl
    none-back y (n ∷ ts) known chain = none-back n ts (leads-on y n known chain.0).1 chain.1

    pub no-cycle : HasNoCycle (Leads graph) start
    no-cycle = λ ts cycle. none-back start ts h.first cycle

  pub no-row : length graph ≤ start → HasNoCycle (Leads graph) start
  no-row past [] = λ leads. past-row graph start leads.0 start past leads.1
  no-row past (n ∷ ts) = λ chain. past-row graph start chain.0.0 n past chain.0.1

  -- by what one number leads to
  module _ (s t : State) (i : ℕ) (w : Way) (edges way : List ℕ) (b : Bool) (h : IsSearch s i) (at : slice_get s.found i ≡ Some w) (is_edges : edges ≡ edges_of graph w.number)
      (is_way : way ≡ w.way) (leads : MatchBool b (HasEdge edges start) (HasNoEdge edges start)) where
    pub found-branch : b ≡ true → IsCycleFrom (Leads graph) start way
    found-branch e =
        subst (λ (ns : List ℕ). IsCycleFrom (Leads graph) start ns) (sym is_way)
        (cycle-found s i w h at (subst (λ (ns : List ℕ). HasEdge ns start) is_edges (subst (λ x. MatchBool x (HasEdge edges start) (HasNoEdge edges start)) e leads)))

    pub next-branch : b ≡ false → MatchBool b (Unit {0}) (t ≡ with_all_found way edges s) → IsSearch t (i + 1)
    next-branch e with_found =
        let all : t ≡ with_all_found way edges s = subst (λ x. MatchBool x (Unit {0}) (t ≡ with_all_found way edges s)) e with_found in
        search-next s t i w h at (subst (λ (ns : List ℕ). HasNoEdge ns start) is_edges (subst (λ x. MatchBool x (HasEdge edges start) (HasNoEdge edges start)) e leads))
        (all ∙ ap (λ (ns : List ℕ). with_all_found ns edges s) is_way ∙ ap (λ (ns : List ℕ). with_all_found w.way ns s) is_edges)

  -- ---- the beginning
  unmarked-at : (marks : List Bool) (n : ℕ) → n < length marks → ((k : ℕ) (m : Bool) → slice_get marks k ≡ Some m → m ≡ false) → slice_get marks n ≡ Some false
  unmarked-at [] n lt all = absurd (omega (arith, lt))
  unmarked-at (m ∷ marks) zero lt all = ap Some (all 0 m refl)
  unmarked-at (m ∷ marks) (suc n) lt all = unmarked-at marks n (omega (arith, lt)) (λ k x e. all (suc k) x e)

  not-marked : (marks : List Bool) (y : ℕ) (m : Option Bool) → slice_get marks y ≡ m → ((k : ℕ) (x : Bool) → slice_get marks k ≡ Some x → x ≡ false) → mark_in m ≡ true → ⊥
  not-marked marks y None is all e = absurd cc
  not-marked marks y (Some m) is all e = absurd (cc (all y m is, e))

  one-way : (marks : List Bool) → slice_get marks start ≡ Some false → (k y : ℕ) → slice_get (start ∷ []) k ≡ Some y → mark_of (slice_set marks start true) y ≡ true
  one-way marks new zero y e = subst (λ z. mark_of (slice_set marks start true) z ≡ true) (same_Some start y e) (set-here marks start false new)
  one-way marks new (suc k) y e = absurd cc

  pub search-init : (marks : List Bool) (t : State) → AreUnmarked (length graph) marks → start < length graph → t ≡ with_found [] start (state marks []) → IsSearch t 0
  search-init marks t none lt is =
      let new = unmarked-at marks start (let c = none.0 in omega (arith, lt, c)) none.1 in
      let s = state marks [] in
      let u = with-new [] start s in
      let empty : Base s = record { count = none.0; found = λ k w e. absurd cc; each = λ y e. absurd (not-marked marks y (slice_get marks y) refl none.1 e) } in
      let w : IsFound (slice_set marks start true) (record { number = start; way = [] ++ start ∷ [] }) =
      record { before = []; is_way = refl; reaches = refl; distinct = refl; marked = λ k y e. one-way marks new k y e } in
      let same : t ≡ u = is ∙ ap (λ m. added_if m [] start s) new in
      subst (λ (x : State). IsSearch x 0) (sym same) (record {
        base = base-new [] start s new empty w;
        closed = λ k x less e. absurd (omega (arith, less));
        within = omega arith;
        first = inl (set-here marks start false new);
      })

pub added-next : (way edges : List ℕ) (i : ℕ) (s : State) → i < length edges → with_all_found way (drop i edges) s ≡ with_all_found way (drop (i + 1) edges) (with_found way (get_or edges i 0) s)
added-next way edges i s lt =
    ap (λ (xs : List ℕ). with_all_found way xs s) (drop-cons edges i 0 lt) ∙ ap (λ m. with_all_found way (drop m edges) (with_found way (get_or edges i 0) s)) (sym (add-one i))

pub not-within : (i n : ℕ) → (i < n → false ≡ true) → n ≤ i
not-within i n h = elim (cases_lt i n) [ inl lt ↦ absurd (cc (h lt)) | inr le ↦ le ]
