-- One turn down a tree of splits: the test of the way to the leaf is read, and the way goes on below it.
use Rattle.std.proofs.Common.{◌≡◌, ℕ, zero, suc, ◌+◌, ◌*◌, ◌<◌, ◌≤◌, nat_eq, inl, inr, map, drop, length, List, [], ◌∷◌, ◌++◌, Bool, true, false, Option, Some, None, Result, Ok, Err, refl, sym, subst, ap, ◌∙◌, arith, Fits, w64}
use Rattle.std.specs.Prelude.{slice_get, slice_index_or, is_some, if◌then◌else◌}
use Rattle.std.specs.List.{flat_map}
use Rattle.std.proofs.lemmas.Option.{same_Some}
use Rattle.std.proofs.lemmas.Grind.{common_steps}
use Rattle.std.proofs.lemmas.List.{length-append}
use Rattle.rb_core.specs.declared.layout_decl.Loc.{Loc}
use Rattle.rb_core.specs.declared.layout_decl.Step.{Step}
use Rattle.rb_bits.specs.Words.{take_of}
use Rattle.rb_bytes.specs.Memory.{Memory, IsGood, load_of}
use Rattle.rb_bytes.specs.declared.fault.Trap.{Trap}
use Rattle.rb_bytes.proofs.GrowthLemmas.{address_small}
use Rattle.rb_layout.specs.declared.layout.FlatTree.{FlatTree, Split, Leaf}
use Rattle.rb_layout.specs.declared.layout.FlatTree.TheFolds.{fold-roll-FlatArm}
use Rattle.rb_layout.specs.declared.layout.FlatArm.{FlatArm}
use Rattle.rb_layout.specs.Splits.{Test, Is, IsNone, Route, under_test, Under, arm_routes, else_routes, literals_of, routes_step, routes_arm, routes_of, routes_under, SplitAt, splits_or_none, splits_step, splits_arm, splits_of, splits_under}
use Rattle.rb_layout.specs.A7.{IsLiteral}
use Rattle.rb_layout.proofs.FlatForms as F
use Rattle.rb_rel.specs.Reading.{AreDistinct, LiteralsDistinct, on_loaded, read_from, read_loc}
use Rattle.rb_rel.proofs.Lists.{get-append, get-map, get-left, get-right}
use Rattle.rb_coding.specs.Arms.{under_number}
use Rattle.rb_coding.specs.inner.Leading.{ReadsNumber, Passes, RouteLeads}

-- Steps of a location ------------------------------------------------------------------------------
loaded : (x : Result ℕ Trap) (go : ℕ → Option ℕ) (n : ℕ) → on_loaded x go ≡ Some n → (r : ℕ) × (x ≡ Ok r)
loaded (Ok r) go n e = (r, refl)
loaded (Err t) go n e = absurd cc

module _ (m : Memory) where
  abbrev Loads : ℕ → Step → Type 0
  Loads base s = (r : ℕ) × (load_of m (base * s.align) s.byte s.width ≡ Ok r)

  next_load : (steps : List Step) (i : ℕ) (d : Step) (w o l n : ℕ) → i < length steps → read_from m w o l (drop i steps) ≡ Some n → Loads (take_of w o l) (slice_index_or steps i d)
  next_load [] i d w o l n lt e = absurd (omega (arith, lt))
  next_load (s ∷ steps) zero d w o l n lt e = loaded (load_of m (take_of w o l * s.align) s.byte s.width) (λ x. read_from m x s.o s.l steps) n e
  next_load (s ∷ steps) (suc i) d w o l n lt e = next_load steps i d w o l n (omega (arith, lt)) e

  -- the next step is loaded
  pub step_loads : (steps items : List Step) (i : ℕ) (d : Step) (w o l n base : ℕ) → items ≡ steps → i < length items → base ≡ take_of w o l → read_from m w o l (drop i steps) ≡ Some n
      → Loads base (slice_index_or items i d)
  step_loads steps items i d w o l n base same lt is e =
      let h = next_load items i d w o l n lt (ap (λ xs. read_from m w o l (drop i xs)) same ∙ e) in
      (h.0, ap (λ b. load_of m (b * (slice_index_or items i d).align) (slice_index_or items i d).byte (slice_index_or items i d).width) is ∙ h.1)

pub fits_small : (k : ℕ) → k ≤ 16777216 → Fits w64 k
fits_small k le = omega (arith, le)

pub small_load : (m : Memory) → IsGood m → (base offset width r : ℕ) → load_of m base offset width ≡ Ok r → Fits w64 base
small_load m good base offset width r is = fits_small base (address_small m base offset width r good is)

-- Trees --------------------------------------------------------------------------------------------
pub under_is : (a : FlatArm) → routes_under a ≡ record { literal = a.literal; of = routes_of a.under }
unfolding denote.Hole.Carrier.roll
under_is a = fold-roll-FlatArm (List Route) (Under (List Route)) routes_step routes_arm (record { literal = a.literal; under = a.under })

pub splits_is : (a : FlatArm) → splits_under a ≡ record { literal = a.literal; of = splits_of a.under }
unfolding denote.Hole.Carrier.roll
splits_is a = fold-roll-FlatArm (List SplitAt) (Under (List SplitAt)) splits_step splits_arm (record { literal = a.literal; under = a.under })

abbrev pub other_routes : Option FlatTree → Option (List Route)
other_routes None = None
other_routes (Some t) = Some (routes_of t)

abbrev pub other_splits : Option FlatTree → Option (List SplitAt)
other_splits None = None
other_splits (Some t) = Some (splits_of t)

abbrev pub arms_routes : Loc → List FlatArm → List Route
arms_routes loc arms = flat_map (arm_routes loc) (map routes_under arms)

abbrev pub arms_splits : List FlatArm → List SplitAt
arms_splits arms = flat_map (λ arm. arm.of) (map splits_under arms)

pub tree_routes : (loc : Loc) (arms : List FlatArm) (other : Option FlatTree) → routes_of (Split loc arms other) ≡ arms_routes loc arms ++ else_routes loc (literals_of (map routes_under arms)) (other_routes other)
tree_routes loc arms None = F.fold-Split (List Route) (Under (List Route)) routes_step routes_arm loc arms
tree_routes loc arms (Some t) = F.fold-Split-else (List Route) (Under (List Route)) routes_step routes_arm loc arms t

abbrev pub split_of : Loc → List FlatArm → Option FlatTree → SplitAt
split_of loc arms other = record { loc = loc; literals = literals_of (map splits_under arms); other = is_some (other_splits other) }

pub tree_splits : (loc : Loc) (arms : List FlatArm) (other : Option FlatTree) → splits_of (Split loc arms other) ≡ split_of loc arms other ∷ (arms_splits arms ++ splits_or_none (other_splits other))
tree_splits loc arms None = F.fold-Split (List SplitAt) (Under (List SplitAt)) splits_step splits_arm loc arms
tree_splits loc arms (Some t) = F.fold-Split-else (List SplitAt) (Under (List SplitAt)) splits_step splits_arm loc arms t

differ : (a b : ℕ) → (a ≡ b → ⊥) → nat_eq a b ≡ false
differ a b ne = grind (arith, common_steps, ne)

same : (a b : ℕ) → a ≡ b → nat_eq a b ≡ true
same a b e = grind (arith, common_steps)

abbrev literals : List FlatArm → List ℕ
literals arms = map (λ (a : FlatArm). a.literal) arms

split_literals : (arms : List FlatArm) → literals_of (map splits_under arms) ≡ literals arms
split_literals [] = refl
split_literals (a ∷ arms) = ap (λ (u : Under (List SplitAt)). u.literal ∷ literals_of (map splits_under arms)) (splits_is a) ∙ ap (λ cs. a.literal ∷ cs) (split_literals arms)

route_literals : (arms : List FlatArm) → literals_of (map routes_under arms) ≡ literals arms
route_literals [] = refl
route_literals (a ∷ arms) = ap (λ (u : Under (List Route)). u.literal ∷ literals_of (map routes_under arms)) (under_is a) ∙ ap (λ cs. a.literal ∷ cs) (route_literals arms)

-- a route of the arms goes through one of them
record ByArm (loc : Loc) (arms : List FlatArm) (r : Route) : Type 0 where
  pub place : ℕ
  pub arm : FlatArm
  pub is_arm : slice_get arms place ≡ Some arm
  pub number : ℕ
  pub rest : Route
  pub is_rest : slice_get (routes_of arm.under) number ≡ Some rest
  pub is_route : r ≡ under_test (Is loc arm.literal) rest

find_arm : (loc : Loc) (arms : List FlatArm) (k : ℕ) (r : Route) → slice_get (arms_routes loc arms) k ≡ Some r → ByArm loc arms r
find_arm loc [] k r e = absurd cc
find_arm loc (a ∷ arms) k r e =
    elim (get-append (arm_routes loc (routes_under a)) (arms_routes loc arms) k r e) [
      | inl h ↦
          let h' : slice_get (map (under_test (Is loc a.literal)) (routes_of a.under)) k ≡ Some r = ap (λ (u : Under (List Route)). slice_get (arm_routes loc u) k) (sym (under_is a)) ∙ h in
          let g = get-map (under_test (Is loc a.literal)) (routes_of a.under) k r h' in
          record { place = 0; arm = a; is_arm = refl; number = k; rest = g.0; is_rest = g.1; is_route = g.2 }
      | inr h ↦
          let f = find_arm loc arms h.0 r h.1 in
          record { place = suc f.place; arm = f.arm; is_arm = f.is_arm; number = f.number; rest = f.rest; is_rest = f.is_rest; is_route = f.is_route }
    ]

arm_splits : (arms : List FlatArm) (j : ℕ) (a : FlatArm) (k : ℕ) (s : SplitAt) → slice_get arms j ≡ Some a → slice_get (splits_of a.under) k ≡ Some s → (i : ℕ) × (slice_get (arms_splits arms) i ≡ Some s)
arm_splits [] j a k s at e = absurd cc
arm_splits (x ∷ arms) zero a k s at e =
    let e' : slice_get (splits_under x).of k ≡ Some s = ap (λ (u : Under (List SplitAt)). slice_get u.of k) (splits_is x) ∙ ap (λ (y : FlatArm). slice_get (splits_of y.under) k) (same_Some x a at) ∙ e in
    (k, get-left (splits_under x).of (arms_splits arms) k s e')
arm_splits (x ∷ arms) (suc j) a k s at e = let r = arm_splits arms j a k s at e in get-right (splits_under x).of (arms_splits arms) r.0 s r.1

arm_found : (arms : List FlatArm) (other : Option FlatTree) (n j : ℕ) (a : FlatArm) → AreDistinct (literals arms) → slice_get arms j ≡ Some a → a.literal ≡ n → under_number arms other n ≡ Some a.under
arm_found [] other n j a d at e = absurd cc
arm_found (x ∷ arms) other n zero a d at e =
    let s = same_Some x a at in
    ap (λ (b : Bool). if b then Some x.under else under_number arms other n) (same x.literal n (ap (λ (y : FlatArm). y.literal) s ∙ e)) ∙ ap (λ (y : FlatArm). Some y.under) s
arm_found (x ∷ arms) other n (suc j) a d at e =
    let ne : x.literal ≡ n → ⊥ = λ h. d 0 (suc j) n (omega arith) (ap Some h) (literal_at arms j at) in
    ap (λ (b : Bool). if b then Some x.under else under_number arms other n) (differ x.literal n ne) ∙ arm_found arms other n j a (λ i k c lt p q. d (suc i) (suc k) c (omega (arith, lt)) p q) at e
  where
    literal_at : (xs : List FlatArm) (i : ℕ) → slice_get xs i ≡ Some a → slice_get (literals xs) i ≡ Some n
    literal_at [] i h = absurd cc
    literal_at (y ∷ xs) zero h = ap Some (ap (λ (z : FlatArm). z.literal) (same_Some y a h) ∙ e)
    literal_at (y ∷ xs) (suc i) h = literal_at xs i h

none_found : (arms : List FlatArm) (other : Option FlatTree) (n : ℕ) → (IsLiteral (literals arms) n → ⊥) → under_number arms other n ≡ other
none_found [] other n none = refl
none_found (x ∷ arms) other n none =
    ap (λ (b : Bool). if b then Some x.under else under_number arms other n) (differ x.literal n (λ e. none (0, ap Some e)))
    ∙ none_found arms other n (λ h. none (suc h.0, h.1))

module _ (ws : List ℕ) (m : Memory) where
  only : (n k : ℕ) (r : Route) → slice_get (record { leaf = n; tests = [] } ∷ []) k ≡ Some r → n ≡ r.leaf
  only n zero r e = ap (λ (q : Route). q.leaf) (same_Some _ _ e)
  only n (suc k) r e = absurd cc

  pub leaf_only : (tree : FlatTree) (n leaf : ℕ) → tree ≡ Leaf n → RouteLeads ws m tree leaf → n ≡ leaf
  leaf_only tree n leaf is h =
      let rs : routes_of tree ≡ record { leaf = n; tests = [] } ∷ [] = ap routes_of is ∙ F.fold-Leaf (List Route) (Under (List Route)) routes_step routes_arm n in
      only n h.number h.route (ap (λ (xs : List Route). slice_get xs h.number) (sym rs) ∙ h.is_route) ∙ h.is_leaf

  -- a split on the way: its number, and the way below it
  pub record Turn (loc : Loc) (arms : List FlatArm) (other : Option FlatTree) (leaf : ℕ) : Type 0 where
    pub n : ℕ
    pub reads : ReadsNumber ws m loc n
    pub next : FlatTree
    pub is_next : under_number arms other n ≡ Some next
    pub leads : RouteLeads ws m next leaf

  module _ (loc : Loc) (arms : List FlatArm) (leaf : ℕ) (route : Route) (is_leaf : route.leaf ≡ leaf)
      (passes : (k : ℕ) (t : Test) → slice_get route.tests k ≡ Some t → Passes ws m t) where
    by_arm : (other : Option FlatTree) → LiteralsDistinct (split_of loc arms other ∷ (arms_splits arms ++ splits_or_none (other_splits other))) → ByArm loc arms route → Turn loc arms other leaf
    by_arm other ds f =
        let a = f.arm in
        record {
          n = a.literal;
          reads = passes 0 (Is loc a.literal) (ap (λ (q : Route). slice_get q.tests 0) f.is_route);
          next = a.under;
          is_next = arm_found arms other a.literal f.place a (subst AreDistinct (split_literals arms) (ds 0 (split_of loc arms other) refl)) f.is_arm refl;
          leads = record {
            distinct = λ k s e. let x = arm_splits arms f.place a k s f.is_arm e in ds (suc x.0) s (get-left (arms_splits arms) (splits_or_none (other_splits other)) x.0 s x.1);
            number = f.number;
            route = f.rest;
            is_route = f.is_rest;
            is_leaf = ap (λ (q : Route). q.leaf) (sym f.is_route) ∙ is_leaf;
            passes = λ k t e. passes (suc k) t (ap (λ (q : Route). slice_get q.tests (suc k)) f.is_route ∙ e);
          };
        }

    by_else : (other : Option FlatTree) (j : ℕ) → LiteralsDistinct (split_of loc arms other ∷ (arms_splits arms ++ splits_or_none (other_splits other)))
        → slice_get (else_routes loc (literals_of (map routes_under arms)) (other_routes other)) j ≡ Some route → Turn loc arms other leaf
    by_else None j ds e = absurd cc
    by_else (Some t) j ds e =
        let lits = literals_of (map routes_under arms) in
        let g = get-map (under_test (IsNone loc lits)) (routes_of t) j route e in
        let p = passes 0 (IsNone loc lits) (ap (λ (q : Route). slice_get q.tests 0) g.2) in
        record {
          n = p.0;
          reads = p.1;
          next = t;
          is_next = none_found arms (Some t) p.0 (subst (λ cs. IsLiteral cs p.0 → ⊥) (route_literals arms) p.2);
          leads = record {
            distinct = λ k s h. let x = get-right (arms_splits arms) (splits_of t) k s h in ds (suc x.0) s x.1;
            number = j;
            route = g.0;
            is_route = g.1;
            is_leaf = ap (λ (q : Route). q.leaf) (sym g.2) ∙ is_leaf;
            passes = λ k u h. passes (suc k) u (ap (λ (q : Route). slice_get q.tests (suc k)) g.2 ∙ h);
          };
        }

  pub turn : (tree : FlatTree) (loc : Loc) (arms : List FlatArm) (other : Option FlatTree) (leaf : ℕ) → tree ≡ Split loc arms other → RouteLeads ws m tree leaf → Turn loc arms other leaf
  turn tree loc arms other leaf is h =
      let e = ap (λ (xs : List Route). slice_get xs h.number) (sym (ap routes_of is ∙ tree_routes loc arms other)) ∙ h.is_route in
      let ds = subst LiteralsDistinct (ap splits_of is ∙ tree_splits loc arms other) h.distinct in
      elim (get-append (arms_routes loc arms) (else_routes loc (literals_of (map routes_under arms)) (other_routes other)) h.number h.route e) [
        | inl x ↦ by_arm loc arms leaf h.route h.is_leaf h.passes other ds (find_arm loc arms h.number h.route x)
        | inr x ↦ by_else loc arms leaf h.route h.is_leaf h.passes other x.0 ds x.1
      ]

  pub turned : (tree : FlatTree) (loc : Loc) (arms : List FlatArm) (other : Option FlatTree) (leaf : ℕ) (is : tree ≡ Split loc arms other) (h : RouteLeads ws m tree leaf) (n : ℕ) (next : Option FlatTree)
      → read_loc ws m loc ≡ Some n → next ≡ under_number arms other n → (x : FlatTree) × (next ≡ Some x) × RouteLeads ws m x leaf
  turned tree loc arms other leaf is h n next reads under =
      let t = turn tree loc arms other leaf is h in
      let e : n ≡ t.n = same_Some n t.n (sym reads ∙ t.reads.is_read) in
      (t.next, under ∙ ap (under_number arms other) e ∙ t.is_next, t.leads)

  pub turned_to : (tree : FlatTree) (loc : Loc) (arms : List FlatArm) (other : Option FlatTree) (leaf : ℕ) (is : tree ≡ Split loc arms other) (h : RouteLeads ws m tree leaf) (n : ℕ) (next : FlatTree)
      → read_loc ws m loc ≡ Some n → Some next ≡ under_number arms other n → RouteLeads ws m next leaf
  turned_to tree loc arms other leaf is h n next reads under =
      let t = turned tree loc arms other leaf is h n (Some next) reads under in
      subst (λ x. RouteLeads ws m x leaf) (sym (same_Some next t.0 t.1)) t.2

-- there are fewer splits below
fewer_here : (other : Option FlatTree) (next : FlatTree) → other ≡ Some next → length (splits_of next) ≤ length (splits_or_none (other_splits other))
fewer_here None next e = absurd cc
fewer_here (Some t) next e = let s = ap (λ (x : FlatTree). length (splits_of x)) (same_Some t next e) in omega (arith, s)

fewer_under : (arms : List FlatArm) (other : Option FlatTree) (n : ℕ) (next : FlatTree) → under_number arms other n ≡ Some next → length (splits_of next) ≤ length (arms_splits arms) + length (splits_or_none (other_splits other))
fewer_under [] other n next e = let f = fewer_here other next e in omega (arith, f)
fewer_under (a ∷ arms) other n next e = go (nat_eq a.literal n) (fewer_under arms other n next) e
  where
    go : (b : Bool) → (under_number arms other n ≡ Some next → length (splits_of next) ≤ length (arms_splits arms) + length (splits_or_none (other_splits other)))
        → (if b then Some a.under else under_number arms other n) ≡ Some next → length (splits_of next) ≤ length (arms_splits (a ∷ arms)) + length (splits_or_none (other_splits other))
    go true rest h =
        let s = ap (λ (x : FlatTree). length (splits_of x)) (same_Some a.under next h) in
        let u = ap (λ (x : Under (List SplitAt)). length x.of) (splits_is a) in
        let l = length-append (splits_under a).of (arms_splits arms) in
        omega (arith, s, u, l)
    go false rest h = let f = rest h in let l = length-append (splits_under a).of (arms_splits arms) in omega (arith, f, l)

pub fewer : (tree : FlatTree) (loc : Loc) (arms : List FlatArm) (other : Option FlatTree) (n : ℕ) (next : FlatTree) → tree ≡ Split loc arms other → Some next ≡ under_number arms other n → length (splits_of next) < length (splits_of tree)
fewer tree loc arms other n next is e =
    let s = ap length (ap splits_of is ∙ tree_splits loc arms other) in
    let f = fewer_under arms other n next (sym e) in
    let l = length-append (arms_splits arms) (splits_or_none (other_splits other)) in
    omega (arith, s, f, l)
