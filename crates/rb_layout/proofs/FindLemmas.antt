-- The loops that find goals, and what the lists hold that they make.
use Rattle.std.proofs.Common.{◌≡◌, ℕ, zero, suc, ◌+◌, ◌-◌, ◌<◌, ◌==◌, ◌&&◌, ◌||◌, ◌⊎◌, inl, inr, min, max, List, [], ◌∷◌, ◌++◌, drop, length, get_or, Bool, true, false, Option, Some, None, refl, sym, ap, subst, ◌∙◌, add-one, drop-cons, arith}
use Rattle.std.specs.Prelude.{slice_get, if◌then◌else◌}
use Rattle.std.proofs.lemmas.Option.{same_Some}
use Rattle.rb_core.specs.declared.types.Ty.{Ty}
use Rattle.rb_core.specs.declared.types.DataDecl.{DataDecl}
use Rattle.rb_layout.specs.declared.layout.Leaf.{Leaf}
use Rattle.rb_layout.specs.declared.layout.FlatWord.{FlatWord}
use Rattle.rb_layout.specs.declared.layout.Part.{Part}
use Rattle.rb_layout.specs.declared.layout.Layout.{Layout}
use Rattle.rb_layout.specs.declared.goals.Literal.{Literal}
use Rattle.rb_layout.specs.declared.goals.Goal.{Goal}
use Rattle.rb_layout.specs.declared.goals.Entry.{Entry}
use Rattle.rb_layout.specs.Positions.{layout_of}
use Rattle.rb_layout.specs.inner.Barring.{position_type, goal_in, same_goal, knows, IsAsked, AreAsked}
use Rattle.std.proofs.lemmas.Option.{slice_get_within, slice_get-get_or}
use Rattle.std.proofs.lemmas.Bool.{cases_lt, and_parts}
use Rattle.rb_layout.proofs.Derivations.{or_is, or_left, or_right, and_of, same_nat, eq_of, goal-part, literal-is}
use Rattle.rb_layout.specs.inner.Finding.{has_goal, with_found, with_parts, with_root, with_leaf, with_leaves, with_layout, with_below, AreFresh, KeepsGoals, IsGoalOf, HasBelow}

pub parts-from : (type_of : List ℕ → Option Ty) (x : Literal) (es : List Entry) (ps : List Part) (k : ℕ) (d : Part) → k < length ps
    → with_parts type_of x es (drop k ps) ≡ with_parts type_of x (with_found es (goal_in type_of x (get_or ps k d))) (drop (k + 1) ps)
parts-from type_of x es ps k d lt = rw (add-one, drop-cons ps k d) refl

pub leaves-from : (types : List DataDecl) (g : Goal) (es : List Entry) (xs : List Leaf) (k : ℕ) (d : Leaf) → k < length xs
    → with_leaves types g es (drop k xs) ≡ with_leaves types g (with_leaf types g es (get_or xs k d)) (drop (k + 1) xs)
leaves-from types g es xs k d lt = rw (add-one, drop-cons xs k d) refl

pub ruleset finding = (parts-from, leaves-from)

-- ---- equal goals
pub goal-same : (g : Goal) → same_goal g g ≡ true
goal-same g =
    let o = g.literal in
    and_of _ _ (eq_of g.ty g.ty refl) (and_of _ _ (eq_of g.word g.word refl)
    (and_of _ _ (eq_of o.o o.o refl) (and_of _ _ (eq_of o.l o.l refl) (eq_of o.bits o.bits refl))))

same_literal : (x y : Literal) → x.o ≡ y.o → x.l ≡ y.l → x.bits ≡ y.bits → x ≡ y
same_literal x y p q r =
    let a : ℕ → Literal = λ v. record { o = v; l = x.l; bits = x.bits } in
    let b : ℕ → Literal = λ v. record { o = y.o; l = v; bits = x.bits } in
    let c : ℕ → Literal = λ v. record { o = y.o; l = y.l; bits = v } in
    ap a p ∙ ap b q ∙ ap c r

same_fields : (g h : Goal) → g.ty ≡ h.ty → g.word ≡ h.word → g.literal ≡ h.literal → g ≡ h
same_fields g h p q r =
    let a : ℕ → Goal = λ v. record { ty = v; word = g.word; literal = g.literal } in
    let b : ℕ → Goal = λ v. record { ty = h.ty; word = v; literal = g.literal } in
    let c : Literal → Goal = λ v. record { ty = h.ty; word = h.word; literal = v } in
    ap a p ∙ ap b q ∙ ap c r

pub same-goal : (g h : Goal) → same_goal g h ≡ true → g ≡ h
same-goal g h e =
    let o : Bool = h.literal.o == g.literal.o in
    let l : Bool = h.literal.l == g.literal.l in
    let bits : Bool = h.literal.bits == g.literal.bits in
    let a = and_parts (h.ty == g.ty) ((h.word == g.word) && (o && (l && bits))) e in
    let b = and_parts (h.word == g.word) (o && (l && bits)) a.1 in
    let c = and_parts o (l && bits) b.1 in
    let d = and_parts l bits c.1 in
    let ty : g.ty ≡ h.ty = sym (same_nat h.ty g.ty a.0) in
    let word : g.word ≡ h.word = sym (same_nat h.word g.word b.0) in
    let same_o : g.literal.o ≡ h.literal.o = sym (same_nat h.literal.o g.literal.o c.0) in
    let same_l : g.literal.l ≡ h.literal.l = sym (same_nat h.literal.l g.literal.l d.0) in
    let same_bits : g.literal.bits ≡ h.literal.bits = sym (same_nat h.literal.bits g.literal.bits d.1) in
    same_fields g h ty word (same_literal g.literal h.literal same_o same_l same_bits)

-- ---- what the lists hold
get_append : {A : Type 0} (xs : List A) (y : A) (k : ℕ) (x : A) → slice_get (xs ++ y ∷ []) k ≡ Some x → (slice_get xs k ≡ Some x) ⊎ (y ≡ x)
get_append [] y zero x e = inr (same_Some y x e)
get_append [] y (suc k) x e = absurd cc
get_append (z ∷ xs) y zero x e = inl e
get_append (z ∷ xs) y (suc k) x e = get_append xs y k x e

get_kept : {A : Type 0} (xs ys : List A) (k : ℕ) (x : A) → slice_get xs k ≡ Some x → slice_get (xs ++ ys) k ≡ Some x
get_kept [] ys k x e = absurd cc
get_kept (z ∷ xs) ys zero x e = e
get_kept (z ∷ xs) ys (suc k) x e = get_kept xs ys k x e

has_append : (es fs : List Entry) (g : Goal) → has_goal es g ≡ true → has_goal (es ++ fs) g ≡ true
has_append [] fs g e = absurd cc
has_append (x ∷ es) fs g e =
    elim (or_is (same_goal x.goal g) (has_goal es g) e) [
      | inl h ↦ or_left (same_goal x.goal g) (has_goal (es ++ fs) g) h
      | inr h ↦ or_right (same_goal x.goal g) (has_goal (es ++ fs) g) (has_append es fs g h)
    ]

has_last : (es : List Entry) (g : Goal) → has_goal (es ++ record { goal = g; barred = false } ∷ []) g ≡ true
has_last [] g = or_left (same_goal g g) false (goal-same g)
has_last (x ∷ es) g = or_right (same_goal x.goal g) (has_goal (es ++ record { goal = g; barred = false } ∷ []) g) (has_last es g)

pub has-entry : (es : List Entry) (k : ℕ) (e : Entry) → slice_get es k ≡ Some e → has_goal es e.goal ≡ true
has-entry [] k e is = absurd cc
has-entry (x ∷ es) zero e is =
    or_left (same_goal x.goal e.goal) (has_goal es e.goal) (ap (λ y. same_goal y.goal e.goal) (same_Some x e is) ∙ goal-same e.goal)
has-entry (x ∷ es) (suc k) e is = or_right (same_goal x.goal e.goal) (has_goal es e.goal) (has-entry es k e is)

-- the first entry of a goal, which tells whether it is known
pub record FirstOf (es : List Entry) (g : Goal) : Type 0 where
  pub number : ℕ
  pub entry : Entry
  pub is_entry : slice_get es number ≡ Some entry
  pub same : entry.goal ≡ g
  pub tells : knows es g ≡ entry.barred

first_case : (x : Entry) (es : List Entry) (g : Goal) (b : Bool) → same_goal x.goal g ≡ b → (b || has_goal es g) ≡ true → (has_goal es g ≡ true → FirstOf es g) → FirstOf (x ∷ es) g
first_case x es g true s h rest = record {
  number = 0;
  entry = x;
  is_entry = refl;
  same = same-goal x.goal g s;
  tells = ap (λ b. if b then x.barred else knows es g) s;
}
first_case x es g false s h rest =
    let r = rest h in
    record {
      number = suc r.number;
      entry = r.entry;
      is_entry = r.is_entry;
      same = r.same;
      tells = ap (λ b. if b then x.barred else knows es g) s ∙ r.tells;
    }

pub first-of : (es : List Entry) (g : Goal) → has_goal es g ≡ true → FirstOf es g
first-of [] g h = absurd cc
first-of (x ∷ es) g h = first_case x es g (same_goal x.goal g) refl h (first-of es g)

-- a list with all that another has, in the same places, and more
pub record Grows (old new : List Entry) : Type 0 where
  pub same : (k : ℕ) (e : Entry) → slice_get old k ≡ Some e → slice_get new k ≡ Some e
  pub keeps : KeepsGoals old new

grows_alone : (es : List Entry) → Grows es es
grows_alone es = record { same = λ k e is. is; keeps = λ g h. h }

grows_more : {a b c : List Entry} → Grows a b → Grows b c → Grows a c
grows_more p q = record { same = λ k e is. q.same k e (p.same k e is); keeps = λ g h. q.keeps g (p.keeps g h) }

goal_case : (es : List Entry) (g : Goal) (b : Bool) → Grows es (if b then es else es ++ record { goal = g; barred = false } ∷ [])
goal_case es g true = grows_alone es
goal_case es g false = record { same = λ k e is. get_kept es _ k e is; keeps = λ h is. has_append es _ h is }

grows_found : (es : List Entry) (g : Option Goal) → Grows es (with_found es g)
grows_found es None = grows_alone es
grows_found es (Some g) = goal_case es g (has_goal es g)

has_case : (es : List Entry) (g : Goal) (b : Bool) → has_goal es g ≡ b → has_goal (if b then es else es ++ record { goal = g; barred = false } ∷ []) g ≡ true
has_case es g true is = is
has_case es g false is = has_last es g

module _ (type_of : List ℕ → Option Ty) (x : Literal) where
  grows_parts : (es : List Entry) (ps : List Part) → Grows es (with_parts type_of x es ps)
  grows_parts es [] = grows_alone es
  grows_parts es (p ∷ ps) = grows_more (grows_found es (goal_in type_of x p)) (grows_parts (with_found es (goal_in type_of x p)) ps)

  pub parts-in : (es : List Entry) (ps : List Part) (k : ℕ) (p : Part) (h : Goal) → slice_get ps k ≡ Some p → goal_in type_of x p ≡ Some h → IsGoalOf (with_parts type_of x es ps) h
  parts-in es [] k p h is e = absurd cc
  parts-in es (q ∷ ps) zero p h is e =
      let found : goal_in type_of x q ≡ Some h = ap (goal_in type_of x) (same_Some q p is) ∙ e in
      let here : has_goal (with_found es (goal_in type_of x q)) h ≡ true = ap (λ g. has_goal (with_found es g) h) found ∙ has_case es h (has_goal es h) refl in
      (grows_parts (with_found es (goal_in type_of x q)) ps).keeps h here
  parts-in es (q ∷ ps) (suc k) p h is e = parts-in (with_found es (goal_in type_of x q)) ps k p h is e

  grows_root : (es : List Entry) (f : Option FlatWord) → Grows es (with_root type_of x es f)
  grows_root es None = grows_alone es
  grows_root es (Some f) = grows_parts es f.parts

module _ (types : List DataDecl) (g : Goal) where
  grows_leaf : (es : List Entry) (leaf : Leaf) → Grows es (with_leaf types g es leaf)
  grows_leaf es leaf = grows_root (position_type types leaf.prov) g.literal es (slice_get leaf.root g.word)

  grows_leaves : (es : List Entry) (leaves : List Leaf) → Grows es (with_leaves types g es leaves)
  grows_leaves es [] = grows_alone es
  grows_leaves es (leaf ∷ leaves) = grows_more (grows_leaf es leaf) (grows_leaves (with_leaf types g es leaf) leaves)

  leaf_in : (es : List Entry) (leaf : Leaf) (f : FlatWord) → slice_get leaf.root g.word ≡ Some f → (k : ℕ) (p : Part) (h : Goal) → slice_get f.parts k ≡ Some p
      → goal_in (position_type types leaf.prov) g.literal p ≡ Some h → IsGoalOf (with_leaf types g es leaf) h
  leaf_in es leaf f is k p h is_part e =
      ap (λ r. has_goal (with_root (position_type types leaf.prov) g.literal es r) h) is
      ∙ parts-in (position_type types leaf.prov) g.literal es f.parts k p h is_part e

  leaves_in : (es : List Entry) (leaves : List Leaf) (n : ℕ) (leaf : Leaf) (f : FlatWord) → slice_get leaves n ≡ Some leaf → slice_get leaf.root g.word ≡ Some f
      → (k : ℕ) (p : Part) (h : Goal) → slice_get f.parts k ≡ Some p
      → goal_in (position_type types leaf.prov) g.literal p ≡ Some h → IsGoalOf (with_leaves types g es leaves) h
  leaves_in es [] n leaf f is_leaf is k p h is_part e = absurd cc
  leaves_in es (y ∷ ys) zero leaf f is_leaf is k p h is_part e =
      let here : IsGoalOf (with_leaf types g es y) h =
      subst (λ (z : Leaf). IsGoalOf (with_leaf types g es z) h) (sym (same_Some y leaf is_leaf)) (leaf_in es leaf f is k p h is_part e) in
      (grows_leaves (with_leaf types g es y) ys).keeps h here
  leaves_in es (y ∷ ys) (suc n) leaf f is_leaf is k p h is_part e = leaves_in (with_leaf types g es y) ys n leaf f is_leaf is k p h is_part e

  grows_layout : (es : List Entry) (l : Option Layout) → Grows es (with_layout types g es l)
  grows_layout es None = grows_alone es
  grows_layout es (Some l) = grows_leaves es l.leaves

pub grows-below : (types : List DataDecl) (layouts : List Layout) (es : List Entry) (g : Goal) → Grows es (with_below types layouts es g)
grows-below types layouts es g = grows_layout types g es (layout_of layouts g.ty)

pub below-in : (types : List DataDecl) (layouts : List Layout) (es : List Entry) (g : Goal) → HasBelow types layouts (with_below types layouts es g) g
below-in types layouts es g n layout leaf f is_layout is_leaf is k p h is_part e =
    ap (λ l. has_goal (with_layout types g es l) h) is_layout ∙ leaves_in types g es layout.leaves n leaf f is_leaf is k p h is_part e

-- ---- what holds of each entry, where it holds of each new one
abbrev pub Each : (Entry → Type 0) → List Entry → Type 0
Each P es = (k : ℕ) (e : Entry) → slice_get es k ≡ Some e → P e

module _ (P : Entry → Type 0) (Ok : Goal → Type 0) (new : (g : Goal) → Ok g → P (record { goal = g; barred = false })) where
  each_case : (es : List Entry) (g : Goal) (b : Bool) → Each P es → Ok g → Each P (if b then es else es ++ record { goal = g; barred = false } ∷ [])
  each_case es g true all ok = all
  each_case es g false all ok = λ k e is.
      elim (get_append es (record { goal = g; barred = false }) k e is) [
        | inl h ↦ all k e h
        | inr h ↦ subst P h (new g ok)
      ]

  each_found : (es : List Entry) (g : Option Goal) → Each P es → ((h : Goal) → g ≡ Some h → Ok h) → Each P (with_found es g)
  each_found es None all ok = all
  each_found es (Some g) all ok = each_case es g (has_goal es g) all (ok g refl)

  pub each-parts : (type_of : List ℕ → Option Ty) (x : Literal) (es : List Entry) (ps : List Part) → Each P es
      → ((k : ℕ) (p : Part) (h : Goal) → slice_get ps k ≡ Some p → goal_in type_of x p ≡ Some h → Ok h) → Each P (with_parts type_of x es ps)
  each-parts type_of x es [] all ok = all
  each-parts type_of x es (p ∷ ps) all ok =
      each-parts type_of x (with_found es (goal_in type_of x p)) ps (each_found es (goal_in type_of x p) all (λ h e. ok 0 p h refl e)) (λ k q h is e. ok (suc k) q h is e)

  each_root : (type_of : List ℕ → Option Ty) (x : Literal) (es : List Entry) (f : Option FlatWord) → Each P es
      → ((u : FlatWord) → f ≡ Some u → (k : ℕ) (p : Part) (h : Goal) → slice_get u.parts k ≡ Some p → goal_in type_of x p ≡ Some h → Ok h)
      → Each P (with_root type_of x es f)
  each_root type_of x es None all ok = all
  each_root type_of x es (Some f) all ok = each-parts type_of x es f.parts all (ok f refl)

  module _ (types : List DataDecl) (g : Goal) where
    abbrev OkLeaf : Leaf → Type 0
    OkLeaf leaf = (f : FlatWord) → slice_get leaf.root g.word ≡ Some f → (k : ℕ) (p : Part) (h : Goal) → slice_get f.parts k ≡ Some p
        → goal_in (position_type types leaf.prov) g.literal p ≡ Some h → Ok h

    each_leaves : (es : List Entry) (leaves : List Leaf) → Each P es → ((n : ℕ) (leaf : Leaf) → slice_get leaves n ≡ Some leaf → OkLeaf leaf)
        → Each P (with_leaves types g es leaves)
    each_leaves es [] all ok = all
    each_leaves es (y ∷ ys) all ok =
        each_leaves (with_leaf types g es y) ys
        (each_root (position_type types y.prov) g.literal es (slice_get y.root g.word) all (ok 0 y refl)) (λ n leaf is. ok (suc n) leaf is)

    each_layout : (es : List Entry) (l : Option Layout) → Each P es → ((layout : Layout) → l ≡ Some layout → (n : ℕ) (leaf : Leaf) → slice_get layout.leaves n ≡ Some leaf → OkLeaf leaf)
        → Each P (with_layout types g es l)
    each_layout es None all ok = all
    each_layout es (Some l) all ok = each_leaves es l.leaves all (ok l refl)

  each_below : (types : List DataDecl) (layouts : List Layout) (es : List Entry) (g : Goal) → Each P es
      → ((layout : Layout) → layout_of layouts g.ty ≡ Some layout → (n : ℕ) (leaf : Leaf) → slice_get layout.leaves n ≡ Some leaf → OkLeaf types g leaf)
      → Each P (with_below types layouts es g)
  each_below types layouts es g all ok = each_layout types g es (layout_of layouts g.ty) all ok

-- a goal asks for a range within its part
pub goal-asked : (type_of : List ℕ → Option Ty) (x : Literal) (p : Part) (h : Goal) → IsAsked x → goal_in type_of x p ≡ Some h → IsAsked h.literal
goal-asked type_of x p h asked e =
    let part = goal-part type_of x p h e in
    let lit = literal-is x p h.literal part.is_literal in
    let lt = lit.0 in
    let within = asked.1 in
    let first : h.literal.o ≡ max x.o p.o - p.o = ap (λ y. y.o) (sym lit.1) in
    let long : h.literal.l ≡ min (x.o + x.l) (p.o + p.l) - max x.o p.o = ap (λ y. y.l) (sym lit.1) in
    (omega arith, omega arith)

abbrev Asked : Entry → Type 0
Asked e = IsAsked e.goal.literal

pub parts-asked : (type_of : List ℕ → Option Ty) (x : Literal) (es : List Entry) (ps : List Part) → IsAsked x → AreAsked es → AreAsked (with_parts type_of x es ps)
parts-asked type_of x es ps asked all =
    each-parts Asked (λ g. IsAsked g.literal) (λ g ok. ok) type_of x es ps all (λ k p h is e. goal-asked type_of x p h asked e)

pub below-asked : (types : List DataDecl) (layouts : List Layout) (es : List Entry) (g : Goal) → IsAsked g.literal → AreAsked es
    → AreAsked (with_below types layouts es g)
below-asked types layouts es g asked all =
    each_below Asked (λ h. IsAsked h.literal) (λ h ok. ok) types layouts es g all
    (λ layout is n leaf is_leaf f is_word k p h is_part e. goal-asked (position_type types leaf.prov) g.literal p h asked e)

abbrev Fresh : Entry → Type 0
Fresh e = e.barred ≡ false

pub parts-fresh : (type_of : List ℕ → Option Ty) (x : Literal) (es : List Entry) (ps : List Part) → AreFresh es → AreFresh (with_parts type_of x es ps)
parts-fresh type_of x es ps all = each-parts Fresh (λ g. Unit {0}) (λ g ok. refl) type_of x es ps all (λ k p h is e. tt)

pub below-fresh : (types : List DataDecl) (layouts : List Layout) (es : List Entry) (g : Goal) → AreFresh es → AreFresh (with_below types layouts es g)
below-fresh types layouts es g all = each_below Fresh (λ h. Unit {0}) (λ h ok. refl) types layouts es g all (λ layout is n leaf is_leaf f is_word k p h is_part e. tt)

-- one more goal has those below it among the entries
pub below-more : (types : List DataDecl) (layouts : List Layout) (es : List Entry) (i : ℕ) (e : Entry) → slice_get es i ≡ Some e
    → ((k : ℕ) (d : Entry) → k < i → slice_get es k ≡ Some d → HasBelow types layouts es d.goal)
    → (k : ℕ) (d : Entry) → k < i + 1 → slice_get (with_below types layouts es e.goal) k ≡ Some d → HasBelow types layouts (with_below types layouts es e.goal) d.goal
below-more types layouts es i e is all k d lt is_d =
    let grows = grows-below types layouts es e.goal in
    elim (cases_lt k i) [
      | inl less ↦
          let old : slice_get es k ≡ Some (get_or es k d) = slice_get-get_or es k d (let most = slice_get_within es i e is in omega arith) in
          let same : get_or es k d ≡ d = same_Some _ _ (sym (grows.same k (get_or es k d) old) ∙ is_d) in
          let below : HasBelow types layouts es d.goal = subst (λ (x : Entry). HasBelow types layouts es x.goal) same (all k (get_or es k d) less old) in
          λ n layout leaf f is_layout is_leaf is_word j p h is_part g. grows.keeps h (below n layout leaf f is_layout is_leaf is_word j p h is_part g)
      | inr most ↦
          let here : k ≡ i = omega arith in
          let same : e ≡ d = same_Some e d (sym (grows.same i e is) ∙ ap (slice_get (with_below types layouts es e.goal)) (sym here) ∙ is_d) in
          subst (λ (x : Entry). HasBelow types layouts (with_below types layouts es e.goal) x.goal) same (below-in types layouts es e.goal)
    ]
