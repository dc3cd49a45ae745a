-- Walks over trees of splits, part by part.
use Rattle.std.proofs.Common.{◌≡◌, ℕ, ◌+◌, ◌<◌, ◌≤◌, inl, inr, List, [], ◌∷◌, ◌++◌, map, length, take, get_or, add-one, Bool, Some, None, sym, ap, subst, ◌∙◌, arith}
use Rattle.std.specs.Prelude.{slice_get}
use Rattle.std.proofs.lemmas.List.{take_all, append-nil, append_assoc}
use Rattle.std.proofs.lemmas.Option.{same_Some}
use Rattle.std.proofs.lemmas.Bool.{cases_lt}
use Rattle.std.proofs.Math.Seq.{take-suc}
use Rattle.rb_core.specs.declared.types.DataDecl.{DataDecl}
use Rattle.rb_core.specs.declared.layout_decl.Loc.{Loc}
use Rattle.rb_layout.specs.declared.layout.FlatTree as F
use Rattle.rb_layout.specs.declared.layout.FlatTree.{FlatTree}
use Rattle.rb_layout.specs.declared.layout.FlatArm.{FlatArm}
use Rattle.rb_layout.specs.declared.layout.Layout.{Layout}
use Rattle.rb_layout.specs.declared.layout.Leaf.{Leaf}
use Rattle.rb_layout.specs.Splits.{Test, Is, IsNone, Route, Under, under_test, arm_routes, routes_of, routes_under}
use Rattle.rb_layout.specs.A7.{MeetsTest, MeetsAll}
use Rattle.rb_agree.specs.declared.passing.Span.{Span}
use Rattle.rb_agree.specs.inner.Lists.{EachOf}
use Rattle.rb_agree.specs.inner.Splits.{literals_in}
use Rattle.rb_agree.specs.inner.Tests.{arms_routes}
use Rattle.rb_agree.specs.inner.Passing.{AreAsked, AreWalked, CoversSpan, IsInSpan, IsAsked, IsOff, KeepsMarks, MeetsWhereOff}
use Rattle.rb_agree.proofs.Lists.{each-append, each-first, each-map, each-none}
use Rattle.rb_agree.proofs.Testing.{meets-all, routes-Leaf, routes-Split, under-routes}

some-same : (leaf x : Leaf) → Some leaf ≡ Some x → leaf ≡ x
some-same leaf x e = same_Some leaf x e

arms-append : (loc : Loc) (arms : List FlatArm) (arm : FlatArm) → arms_routes loc (arms ++ arm ∷ []) ≡ arms_routes loc arms ++ arm_routes loc (routes_under arm)
arms-append loc [] arm = append-nil (arm_routes loc (routes_under arm))
arms-append loc (a ∷ arms) arm =
    ap (λ (rs : List Route). arm_routes loc (routes_under a) ++ rs) (arms-append loc arms arm)
    ∙ sym (append_assoc (arm_routes loc (routes_under a)) (arms_routes loc arms) (arm_routes loc (routes_under arm)))

arms-next : (loc : Loc) (arms : List FlatArm) (i : ℕ) (arm : FlatArm) → i < length arms → arm ≡ get_or arms i arm
    → arms_routes loc (take (i + 1) arms) ≡ arms_routes loc (take i arms) ++ arm_routes loc (routes_under arm)
arms-next loc arms i arm lt is =
    ap (λ (xs : List FlatArm). arms_routes loc xs)
    (ap (λ n. take n arms) (add-one i) ∙ take-suc arms i arm lt ∙ ap (λ (x : FlatArm). take i arms ++ x ∷ []) (sym is))
    ∙ arms-append loc (take i arms) arm

module _ (types : List DataDecl) (layouts : List Layout) (leaves : List Leaf) where
  abbrev Off : List Bool → ℕ → Test → Type 0
  Off = MeetsWhereOff types layouts leaves

  abbrev W : List Route → Span → List Bool → List Bool → Type 0
  W = AreWalked types layouts leaves

  abbrev A : Test → Span → List Bool → List Bool → Type 0
  A = AreAsked types layouts leaves

  still-meets : (old new : List Bool) (n : ℕ) (test : Test) → KeepsMarks old new → Off old n test → Off new n test
  still-meets old new n test keeps meets = λ off. meets (keeps n off)

  -- Leaves that are asked
  pub asked-fine : (test : Test) (n : ℕ) (marks : List Bool) (leaf : Leaf) → slice_get leaves n ≡ Some leaf → MeetsTest types layouts leaf test → IsAsked types layouts leaves test n marks marks
  asked-fine test n marks leaf at meets = record {
    keeps = λ k off. off;
    meets = λ off x is. subst (λ (y : Leaf). MeetsTest types layouts y test) (some-same leaf x (sym at ∙ is)) meets;
  }

  pub asked-none : (test : Test) (n : ℕ) (marks : List Bool) → slice_get leaves n ≡ None → IsAsked types layouts leaves test n marks marks
  asked-none test n marks none = record { keeps = λ k off. off; meets = λ off x is. absurd (cc (none, is)) }

  pub asked-marked : (test : Test) (n : ℕ) (old new : List Bool) → KeepsMarks old new → (IsOff new n → ⊥) → IsAsked types layouts leaves test n old new
  asked-marked test n old new keeps on = record { keeps = keeps; meets = λ off x is. absurd (on off) }

  pub asked-more : (test : Test) (first i : ℕ) (old mid new : List Bool) → A test (record { first = first; end = i }) old mid → IsAsked types layouts leaves test i mid new
      → A test (record { first = first; end = i + 1 }) old new
  asked-more test first i old mid new asked one = record {
    keeps = λ k off. asked.keeps k (one.keeps k off);
    meet = λ n among. elim (cases_lt n i) [
      | inl less ↦ still-meets mid new n test one.keeps (asked.meet n (among.0, less))
      | inr most ↦ subst (λ m. Off new m test) (omega (arith, most, among.1)) one.meets
    ];
  }

  pub asked-start : (test : Test) (first : ℕ) (marks : List Bool) → A test (record { first = first; end = first }) marks marks
  asked-start test first marks = record { keeps = λ k off. off; meet = λ n among. absurd (omega (arith, among.0, among.1)) }

  pub asked-end : (test : Test) (span : Span) (i : ℕ) (old new : List Bool) → span.end ≤ i → A test (record { first = span.first; end = i }) old new → A test span old new
  asked-end test span i old new le asked = record { keeps = asked.keeps; meet = λ n among. asked.meet n (among.0, omega (arith, le, among.1)) }

  -- Ways that are walked
  pub walked-none : (span : Span) (marks : List Bool) → W [] span marks marks
  walked-none span marks = record {
    among = each-none (λ (r : Route). IsInSpan span r.leaf);
    keeps = λ k off. off;
    meet = each-none (λ (r : Route). EachOf (Off marks r.leaf) r.tests);
  }

  walked-behind : (test : Test) (routes : List Route) (span : Span) (old mid new : List Bool) → W routes span old mid → A test span mid new → W (map (under_test test) routes) span old new
  walked-behind test routes span old mid new walked asked = record {
    among = each-map (under_test test) (λ (r : Route). IsInSpan span r.leaf) routes walked.among;
    keeps = λ k off. walked.keeps k (asked.keeps k off);
    meet = each-map (under_test test) (λ (r : Route). EachOf (Off new r.leaf) r.tests) routes (λ k r e.
        each-first (Off new r.leaf) test r.tests (asked.meet r.leaf (walked.among k r e))
        (λ j t is. still-meets mid new r.leaf t asked.keeps (walked.meet k r e j t is)));
  }

  among-more : (whole span : Span) (n : ℕ) → CoversSpan whole span → IsInSpan span n → IsInSpan whole n
  among-more whole span n covers among = (omega (arith, covers.0, among.0), omega (arith, covers.1, among.1))

  walked-both : (xs ys : List Route) (one other whole : Span) (old mid new : List Bool) → W xs one old mid → W ys other mid new → CoversSpan whole one → CoversSpan whole other → W (xs ++ ys) whole old new
  walked-both xs ys one other whole old mid new first second c d = record {
    among = each-append (λ (r : Route). IsInSpan whole r.leaf) xs ys (λ k r e. among-more whole one r.leaf c (first.among k r e)) (λ k r e. among-more whole other r.leaf d (second.among k r e));
    keeps = λ k off. first.keeps k (second.keeps k off);
    meet = each-append (λ (r : Route). EachOf (Off new r.leaf) r.tests) xs ys
        (λ k r e j t is. still-meets mid new r.leaf t second.keeps (first.meet k r e j t is)) second.meet;
  }

  pub walked-leaf : (tree : FlatTree) (m : ℕ) (span : Span) (marks : List Bool) → tree ≡ F.Leaf m → IsInSpan span m → W (routes_of tree) span marks marks
  walked-leaf tree m span marks is among =
      subst (λ (rs : List Route). W rs span marks marks) (sym (ap (λ (t : FlatTree). routes_of t) is ∙ routes-Leaf m)) (record {
        among = each-first (λ (r : Route). IsInSpan span r.leaf) (record { leaf = m; tests = [] }) [] among (each-none (λ (r : Route). IsInSpan span r.leaf));
        keeps = λ k off. off;
        meet = each-first (λ (r : Route). EachOf (Off marks r.leaf) r.tests) (record { leaf = m; tests = [] }) [] (each-none (Off marks m))
            (each-none (λ (r : Route). EachOf (Off marks r.leaf) r.tests));
      })

  -- one arm more
  pub walked-more : (loc : Loc) (arms : List FlatArm) (i : ℕ) (arm : FlatArm) (one under whole : Span) (old mid asked new : List Bool) → i < length arms → arm ≡ get_or arms i arm
      → W (arms_routes loc (take i arms)) one old mid → W (routes_of arm.under) under mid asked → A (Is loc arm.literal) under asked new → CoversSpan whole one → CoversSpan whole under
      → W (arms_routes loc (take (i + 1) arms)) whole old new
  walked-more loc arms i arm one under whole old mid asked new lt is before below ask c d =
      let here : W (arm_routes loc (routes_under arm)) under mid new =
      subst (λ (u : Under (List Route)). W (arm_routes loc u) under mid new) (sym (under-routes arm)) (walked-behind (Is loc arm.literal) (routes_of arm.under) under mid asked new below ask) in
      subst (λ (rs : List Route). W rs whole old new) (sym (arms-next loc arms i arm lt is))
      (walked-both (arms_routes loc (take i arms)) (arm_routes loc (routes_under arm)) one under whole old mid new before here c d)

  pub walked-all : (loc : Loc) (arms : List FlatArm) (i : ℕ) (span : Span) (old new : List Bool) → length arms ≤ i → W (arms_routes loc (take i arms)) span old new → W (arms_routes loc arms) span old new
  walked-all loc arms i span old new le walked = subst (λ (xs : List FlatArm). W (arms_routes loc xs) span old new) (take_all i arms le) walked

  pub walked-split : (tree : FlatTree) (loc : Loc) (arms : List FlatArm) (span : Span) (old new : List Bool) → tree ≡ F.Split loc arms None → W (arms_routes loc arms) span old new → W (routes_of tree) span old new
  walked-split tree loc arms span old new is walked =
      subst (λ (rs : List Route). W rs span old new) (sym (ap (λ (t : FlatTree). routes_of t) is ∙ routes-Split loc arms None))
      (walked-both (arms_routes loc arms) [] span span span old new new walked (walked-none span new) (omega arith, omega arith) (omega arith, omega arith))

  pub walked-else : (tree : FlatTree) (loc : Loc) (arms : List FlatArm) (other : FlatTree) (one under whole : Span) (old mid asked new : List Bool) → tree ≡ F.Split loc arms (Some other)
      → W (arms_routes loc arms) one old mid → W (routes_of other) under mid asked → A (IsNone loc (literals_in arms)) under asked new → CoversSpan whole one → CoversSpan whole under → W (routes_of tree) whole old new
  walked-else tree loc arms other one under whole old mid asked new is before below ask c d =
      subst (λ (rs : List Route). W rs whole old new) (sym (ap (λ (t : FlatTree). routes_of t) is ∙ routes-Split loc arms (Some other)))
      (walked-both (arms_routes loc arms) (map (under_test (IsNone loc (literals_in arms))) (routes_of other)) one under whole old mid new before
      (walked-behind (IsNone loc (literals_in arms)) (routes_of other) under mid asked new below ask) c d)

  -- A leaf whose mark is off
  pub all-met : (tree : FlatTree) (span : Span) (old marks : List Bool) → W (routes_of tree) span old marks → (n : ℕ) (leaf : Leaf) → IsOff marks n → slice_get leaves n ≡ Some leaf
      → MeetsAll types layouts tree n leaf
  all-met tree span old marks walked n leaf off at =
      meets-all types layouts leaf n tree (λ k r e leads j test is.
      walked.meet k r e j test is (subst (λ m. IsOff marks m) (sym leads) off) leaf (subst (λ m. slice_get leaves m ≡ Some leaf) (sym leads) at))
