-- The ways to a leaf, tree by tree.
use Rattle.std.proofs.Common.{◌≡◌, ℕ, ◌+◌, ◌<◌, ◌≤◌, List, [], ◌∷◌, ◌++◌, map, length, drop, get_or, Bool, true, false, Option, Some, None, refl, sym, ap, subst, ◌∙◌}
use Rattle.std.specs.Prelude.{slice_get, is_some}
use Rattle.std.specs.List.{flat_map}
use Rattle.rb_core.specs.declared.types.DataDecl.{DataDecl}
use Rattle.rb_core.specs.declared.layout_decl.Loc.{Loc}
use Rattle.rb_layout.specs.declared.layout.FlatTree as F
use Rattle.rb_layout.specs.declared.layout.FlatTree.{FlatTree}
use Rattle.rb_layout.specs.declared.layout.FlatTree.TheFolds.{fold_out-FlatArm}
use Rattle.rb_layout.specs.declared.layout.FlatArm.{FlatArm}
use Rattle.rb_layout.specs.declared.layout.Layout.{Layout}
use Rattle.rb_layout.specs.declared.layout.Leaf.{Leaf}
use Rattle.rb_layout.specs.declared.layout.WordRef.{WordRef}
use Rattle.rb_layout.specs.declared.evidence.Why.{Why}
use Rattle.rb_layout.specs.Splits.{Test, Is, IsNone, Route, Under, under_test, arm_routes, else_routes, literals_of, routes_step, routes_arm, routes_of, routes_under}
use Rattle.rb_layout.specs.Locations.{Reached, reached_at, ref_of}
use Rattle.rb_layout.specs.Excluded.{Excludes}
use Rattle.rb_layout.specs.A7.{FailsTest, FailsTests, IsLiteral, MeetsTest, MeetsAll, Resolves}
use Rattle.rb_layout.proofs.FlatForms.{fold-Leaf, fold-Split, fold-Split-else}
use Rattle.rb_agree.specs.declared.tests.Below.{Below}
use Rattle.rb_agree.specs.declared.tests.Below.TheVariants.{Absent, Passes, Fails}
use Rattle.rb_agree.specs.Lists.{SomeOf}
use Rattle.rb_agree.specs.inner.Lists.{EachOf}
use Rattle.rb_agree.specs.inner.Splits.{literals_in}
use Rattle.rb_agree.specs.inner.Tests.{IsAfter, IsBelow, LeadsToLeaf, Misses, PassesRoute, FailsRoute, arms_routes, other_routes, both, status_of}
use Rattle.rb_agree.proofs.Lists.{each-append, each-first, each-map, each-none, some-first, some-left, some-map, some-right, flat-next, flat-end, map-at}

-- Routes, form by form ----------------------------------------------------------------------------

pub routes-Leaf : (m : ℕ) → routes_of (F.Leaf m) ≡ record { leaf = m; tests = [] } ∷ []
routes-Leaf m = fold-Leaf (List Route) (Under (List Route)) routes_step routes_arm m

pub under-routes : (a : FlatArm) → routes_under a ≡ record { literal = a.literal; of = routes_of a.under }
under-routes a = fold_out-FlatArm (List Route) (Under (List Route)) routes_step routes_arm a

joined-routes : (loc : Loc) (arms : List FlatArm) → flat_map (arm_routes loc) (map routes_under arms) ≡ arms_routes loc arms
joined-routes loc [] = refl
joined-routes loc (a ∷ arms) = ap (λ (rs : List Route). arm_routes loc (routes_under a) ++ rs) (joined-routes loc arms)

literals-are : (arms : List FlatArm) → literals_of (map routes_under arms) ≡ literals_in arms
literals-are [] = refl
literals-are (a ∷ arms) =
    let here : (routes_under a).literal ≡ a.literal = ap (λ (u : Under (List Route)). u.literal) (under-routes a) in
    ap (λ n. n ∷ literals_of (map routes_under arms)) here ∙ ap (λ (ns : List ℕ). a.literal ∷ ns) (literals-are arms)

pub routes-Split : (loc : Loc) (arms : List FlatArm) (other : Option FlatTree) → routes_of (F.Split loc arms other) ≡ arms_routes loc arms ++ other_routes loc (literals_in arms) other
routes-Split loc arms None =
    fold-Split (List Route) (Under (List Route)) routes_step routes_arm loc arms ∙ ap (λ (rs : List Route). rs ++ []) (joined-routes loc arms)
routes-Split loc arms (Some tree) =
    fold-Split-else (List Route) (Under (List Route)) routes_step routes_arm loc arms tree
    ∙ ap (λ (rs : List Route). rs ++ else_routes loc (literals_of (map routes_under arms)) (Some (routes_of tree))) (joined-routes loc arms)
    ∙ ap (λ (ls : List ℕ). arms_routes loc arms ++ map (under_test (IsNone loc ls)) (routes_of tree)) (literals-are arms)

-- Two trees ---------------------------------------------------------------------------------------

both-none : (b : Bool) → both (status_of b) Absent ≡ status_of b
both-none true = refl
both-none false = refl

both-passes : (b : Bool) → both (status_of b) Passes ≡ Passes
both-passes true = refl
both-passes false = refl

both-fails : (b : Bool) (why : Why) → both (status_of b) (Fails why) ≡ Fails why
both-fails true why = refl
both-fails false why = refl

both-twice : (b : Bool) (x : Below) → both (status_of b) (both Passes x) ≡ both (status_of true) x
both-twice true Absent = refl
both-twice true Passes = refl
both-twice true (Fails why) = refl
both-twice false x = refl

module _ (types : List DataDecl) (layouts : List Layout) (leaf : Leaf) (n : ℕ) where
  abbrev pub B : List Route → Below → Type 0
  B = IsBelow types layouts leaf n

  misses : (r : Route) → Misses types layouts leaf n r → PassesRoute types layouts leaf n r
  misses r not = λ leads. absurd (not leads)

  pub join : (xs ys : List Route) (a b : Below) → B xs a → B ys b → B (xs ++ ys) (both a b)
  join xs ys Absent Absent h g = each-append (Misses types layouts leaf n) xs ys h g
  join xs ys Absent Passes h g =
      (some-right (LeadsToLeaf types layouts leaf n) xs ys g.0, each-append (PassesRoute types layouts leaf n) xs ys (λ k r e. misses r (h k r e)) g.1)
  join xs ys Absent (Fails why) h g = some-right (FailsRoute types layouts leaf n why) xs ys g
  join xs ys (Fails why) b h g = some-left (FailsRoute types layouts leaf n why) xs ys h
  join xs ys Passes Absent h g =
      (some-left (LeadsToLeaf types layouts leaf n) xs ys h.0, each-append (PassesRoute types layouts leaf n) xs ys h.1 (λ k r e. misses r (g k r e)))
  join xs ys Passes Passes h g = (some-left (LeadsToLeaf types layouts leaf n) xs ys h.0, each-append (PassesRoute types layouts leaf n) xs ys h.1 g.1)
  join xs ys Passes (Fails why) h g = some-right (FailsRoute types layouts leaf n why) xs ys g

  -- ---- below a test
  behind-absent : (t : Test) (rs : List Route) → B rs Absent → B (map (under_test t) rs) Absent
  behind-absent t rs h = each-map (under_test t) (Misses types layouts leaf n) rs h

  behind-fails : (t : Test) (rs : List Route) (why : Why) → B rs (Fails why) → B (map (under_test t) rs) (Fails why)
  behind-fails t rs why h =
      some-map (under_test t) (FailsRoute types layouts leaf n why) rs
      (h.0, h.1, h.2, (h.3.0, some-right (λ (u : Test). FailsTest types layouts leaf u why) (t ∷ []) h.1.tests h.3.1))

  behind-passes : (t : Test) (rs : List Route) → MeetsTest types layouts leaf t → B rs Passes → B (map (under_test t) rs) Passes
  behind-passes t rs meets h = (
    some-map (under_test t) (LeadsToLeaf types layouts leaf n) rs h.0,
    each-map (under_test t) (PassesRoute types layouts leaf n) rs (λ k r e leads. each-first (MeetsTest types layouts leaf) t r.tests meets (h.1 k r e leads)),
  )

  behind-fails-here : (t : Test) (rs : List Route) (why : Why) → FailsTest types layouts leaf t why → B rs Passes → B (map (under_test t) rs) (Fails why)
  behind-fails-here t rs why bad h =
      some-map (under_test t) (FailsRoute types layouts leaf n why) rs
      (h.0.0, h.0.1, h.0.2, (h.0.3, some-first (λ (u : Test). FailsTest types layouts leaf u why) t h.0.1.tests bad))

  pub behind-is : (t : Test) (rs : List Route) (a b : Below) → B rs a → IsAfter types layouts leaf t a b → B (map (under_test t) rs) b
  behind-is t rs Absent b h is = subst (λ x. B (map (under_test t) rs) x) (sym is) (behind-absent t rs h)
  behind-is t rs (Fails why) b h is = subst (λ x. B (map (under_test t) rs) x) (sym is) (behind-fails t rs why h)
  behind-is t rs Passes Absent h is = absurd is
  behind-is t rs Passes Passes h is = behind-passes t rs is h
  behind-is t rs Passes (Fails why) h is = behind-fails-here t rs why is h

  pub arm-is : (loc : Loc) (arm : FlatArm) (a b : Below) → B (routes_of arm.under) a → IsAfter types layouts leaf (Is loc arm.literal) a b → B (arm_routes loc (routes_under arm)) b
  arm-is loc arm a b h is =
      subst (λ (u : Under (List Route)). B (arm_routes loc u) b) (sym (under-routes arm)) (behind-is (Is loc arm.literal) (routes_of arm.under) a b h is)

  -- ---- trees
  pub leaf-here : (tree : FlatTree) (m : ℕ) → tree ≡ F.Leaf m → m ≡ n → B (routes_of tree) Passes
  leaf-here tree m is same =
      subst (λ (rs : List Route). B rs Passes) (sym (ap (λ (t : FlatTree). routes_of t) is ∙ routes-Leaf m)) (
        some-first (LeadsToLeaf types layouts leaf n) (record { leaf = m; tests = [] }) [] same,
        each-first (PassesRoute types layouts leaf n) (record { leaf = m; tests = [] }) [] (λ leads k t e. absurd cc) (λ k r e. absurd cc),
      )

  pub leaf-elsewhere : (tree : FlatTree) (m : ℕ) → tree ≡ F.Leaf m → (m ≡ n → ⊥) → B (routes_of tree) Absent
  leaf-elsewhere tree m is other =
      subst (λ (rs : List Route). B rs Absent) (sym (ap (λ (t : FlatTree). routes_of t) is ∙ routes-Leaf m))
      (each-first (Misses types layouts leaf n) (record { leaf = m; tests = [] }) [] other (λ k r e. absurd cc))

  -- where some arms are done, what is known of the rest is known of all
  abbrev pub Done : Loc → List FlatArm → ℕ → Bool → Type 0
  Done loc arms i passes = (b : Below) → B (arms_routes loc (drop i arms)) b → B (arms_routes loc arms) (both (status_of passes) b)

  rest-of : (loc : Loc) (arms : List FlatArm) (i : ℕ) (arm : FlatArm) → i < length arms → arm ≡ get_or arms i arm
      → (a b : Below) → B (arm_routes loc (routes_under arm)) a → B (arms_routes loc (drop (i + 1) arms)) b → B (arms_routes loc (drop i arms)) (both a b)
  rest-of loc arms i arm lt is a b h g =
      subst (λ (rs : List Route). B rs (both a b)) (sym (flat-next (λ (x : FlatArm). arm_routes loc (routes_under x)) arms i arm lt is))
      (join (arm_routes loc (routes_under arm)) (arms_routes loc (drop (i + 1) arms)) a b h g)

  pub done-absent : (loc : Loc) (arms : List FlatArm) (i : ℕ) (arm : FlatArm) (passes : Bool) → i < length arms → arm ≡ get_or arms i arm
      → B (arm_routes loc (routes_under arm)) Absent → Done loc arms i passes → Done loc arms (i + 1) passes
  done-absent loc arms i arm passes lt is h done = λ b g. done b (rest-of loc arms i arm lt is Absent b h g)

  pub done-passes : (loc : Loc) (arms : List FlatArm) (i : ℕ) (arm : FlatArm) (passes : Bool) → i < length arms → arm ≡ get_or arms i arm
      → B (arm_routes loc (routes_under arm)) Passes → Done loc arms i passes → Done loc arms (i + 1) true
  done-passes loc arms i arm passes lt is h done = λ b g.
      subst (λ x. B (arms_routes loc arms) x) (both-twice passes b) (done (both Passes b) (rest-of loc arms i arm lt is Passes b h g))

  none-left : (loc : Loc) (arms : List FlatArm) (i : ℕ) → length arms ≤ i → B (arms_routes loc (drop i arms)) Absent
  none-left loc arms i le =
      subst (λ (rs : List Route). B rs Absent) (sym (flat-end (λ (x : FlatArm). arm_routes loc (routes_under x)) arms i le)) (each-none (Misses types layouts leaf n))

  pub all-done : (loc : Loc) (arms : List FlatArm) (i : ℕ) (passes : Bool) → length arms ≤ i → Done loc arms i passes → B (arms_routes loc arms) (status_of passes)
  all-done loc arms i passes le done = subst (λ x. B (arms_routes loc arms) x) (both-none passes) (done Absent (none-left loc arms i le))

  pub fails-there : (loc : Loc) (arms : List FlatArm) (i : ℕ) (arm : FlatArm) (passes : Bool) (why : Why) → i < length arms → arm ≡ get_or arms i arm
      → B (arm_routes loc (routes_under arm)) (Fails why) → Done loc arms i passes → B (arms_routes loc arms) (Fails why)
  fails-there loc arms i arm passes why lt is h done =
      let here : B (arms_routes loc (drop i arms)) (Fails why) =
      subst (λ (rs : List Route). B rs (Fails why)) (sym (flat-next (λ (x : FlatArm). arm_routes loc (routes_under x)) arms i arm lt is))
      (some-left (FailsRoute types layouts leaf n why) (arm_routes loc (routes_under arm)) (arms_routes loc (drop (i + 1) arms)) h) in
      subst (λ x. B (arms_routes loc arms) x) (both-fails passes why) (done (Fails why) here)

  -- by what is known below an arm and behind its literal
  module _ (loc : Loc) (arms : List FlatArm) (i : ℕ) (arm : FlatArm) (passes : Bool) (a b : Below) (lt : i < length arms) (is : arm ≡ get_or arms i arm)
      (h : B (routes_of arm.under) a) (after : IsAfter types layouts leaf (Is loc arm.literal) a b) where
    pub next-absent : b ≡ Absent → Done loc arms i passes → Done loc arms (i + 1) passes
    next-absent e done = done-absent loc arms i arm passes lt is (subst (λ x. B (arm_routes loc (routes_under arm)) x) e (arm-is loc arm a b h after)) done

    pub next-passes : b ≡ Passes → Done loc arms i passes → Done loc arms (i + 1) true
    next-passes e done = done-passes loc arms i arm passes lt is (subst (λ x. B (arm_routes loc (routes_under arm)) x) e (arm-is loc arm a b h after)) done

    pub next-fails : (why : Why) → b ≡ Fails why → Done loc arms i passes → B (arms_routes loc arms) (Fails why)
    next-fails why e done = fails-there loc arms i arm passes why lt is (subst (λ x. B (arm_routes loc (routes_under arm)) x) e (arm-is loc arm a b h after)) done

  module _ (tree : FlatTree) (loc : Loc) (arms : List FlatArm) (other : Option FlatTree) (is : tree ≡ F.Split loc arms other) where
    pub split-is : (a b : Below) → B (arms_routes loc arms) a → B (other_routes loc (literals_in arms) other) b → B (routes_of tree) (both a b)
    split-is a b h g =
        subst (λ (rs : List Route). B rs (both a b)) (sym (ap (λ (t : FlatTree). routes_of t) is ∙ routes-Split loc arms other))
        (join (arms_routes loc arms) (other_routes loc (literals_in arms) other) a b h g)

    pub split-fails : (why : Why) → B (arms_routes loc arms) (Fails why) → B (routes_of tree) (Fails why)
    split-fails why h =
        subst (λ (rs : List Route). B rs (Fails why)) (sym (ap (λ (t : FlatTree). routes_of t) is ∙ routes-Split loc arms other))
        (some-left (FailsRoute types layouts leaf n why) (arms_routes loc arms) (other_routes loc (literals_in arms) other) h)

  pub split-only : (tree : FlatTree) (loc : Loc) (arms : List FlatArm) (passes : Bool) → tree ≡ F.Split loc arms None → B (arms_routes loc arms) (status_of passes) → B (routes_of tree) (status_of passes)
  split-only tree loc arms passes is h =
      subst (λ x. B (routes_of tree) x) (both-none passes) (split-is tree loc arms None is (status_of passes) Absent h (each-none (Misses types layouts leaf n)))

  pub split-else : (tree : FlatTree) (loc : Loc) (arms : List FlatArm) (other : FlatTree) (passes : Bool) (a b : Below) → tree ≡ F.Split loc arms (Some other)
      → B (arms_routes loc arms) (status_of passes) → B (routes_of other) a → IsAfter types layouts leaf (IsNone loc (literals_in arms)) a b → B (routes_of tree) (both (status_of passes) b)
  split-else tree loc arms other passes a b is h g after =
      split-is tree loc arms (Some other) is (status_of passes) b h (behind-is (IsNone loc (literals_in arms)) (routes_of other) a b g after)

  pub else-absent : (passes : Bool) (rs : List Route) → B rs (both (status_of passes) Absent) → B rs (status_of passes)
  else-absent passes rs h = subst (λ x. B rs x) (both-none passes) h

  pub else-passes : (passes : Bool) (rs : List Route) → B rs (both (status_of passes) Passes) → B rs Passes
  else-passes passes rs h = subst (λ x. B rs x) (both-passes passes) h

  pub else-fails : (passes : Bool) (rs : List Route) (why : Why) → B rs (both (status_of passes) (Fails why)) → B rs (Fails why)
  else-fails passes rs why h = subst (λ x. B rs x) (both-fails passes why) h

  -- ---- all tests above the leaf
  pub meets-all : (tree : FlatTree) → EachOf (PassesRoute types layouts leaf n) (routes_of tree) → MeetsAll types layouts tree n leaf
  meets-all tree all = λ test above. all above.route_number above.route above.is_route above.leads above.number test above.is_test

  pub meets-none : (tree : FlatTree) → EachOf (Misses types layouts leaf n) (routes_of tree) → MeetsAll types layouts tree n leaf
  meets-none tree none = meets-all tree (λ k r e. misses r (none k r e))

  pub fails-tests : (tree : FlatTree) (why : Why) → SomeOf (FailsRoute types layouts leaf n why) (routes_of tree) → FailsTests types layouts tree n leaf why
  fails-tests tree why h =
      (h.3.1.1, record { route_number = h.0; route = h.1; number = h.3.1.0; is_route = h.2; leads = h.3.0; is_test = h.3.1.2 }, h.3.1.3)

-- Literals ------------------------------------------------------------------------------------------

at-literal : (arms : List FlatArm) (k : ℕ) (arm : FlatArm) → slice_get arms k ≡ Some arm → slice_get (literals_in arms) k ≡ Some arm.literal
at-literal arms k arm is = map-at (λ (a : FlatArm). a.literal) arms k arm is

pub literal-at : (arms : List FlatArm) (k : ℕ) (arm : FlatArm) → slice_get arms k ≡ Some arm → IsLiteral (literals_in arms) arm.literal
literal-at arms k arm is = (k, at-literal arms k arm is)

pub all-excluded : (types : List DataDecl) (layouts : List Layout) (leaf : Leaf) (loc : Loc) (arms : List FlatArm) → EachOf (λ (a : FlatArm). Excludes types layouts leaf loc a.literal) arms
    → (c : ℕ) → IsLiteral (literals_in arms) c → Excludes types layouts leaf loc c
all-excluded types layouts leaf loc arms all c literal =
    each-map (λ (a : FlatArm). a.literal) (λ c. Excludes types layouts leaf loc c) arms all literal.0 c literal.1

resolved : (leaf : Leaf) (loc : Loc) (x : Option Reached) → reached_at leaf loc ≡ x → is_some (ref_of x) ≡ true → Resolves leaf loc
resolved leaf loc None is e = absurd cc
resolved leaf loc (Some x) is e = (x, is)

pub resolves : (leaf : Leaf) (loc : Loc) (r : Option WordRef) → r ≡ ref_of (reached_at leaf loc) → is_some r ≡ true → Resolves leaf loc
resolves leaf loc r is some = resolved leaf loc (reached_at leaf loc) refl (ap (λ (x : Option WordRef). is_some x) (sym is) ∙ some)
