-- What is decided to be barred has a derivation, and what has one is decided to be.
use Rattle.std.proofs.Common.{◌≡◌, ℕ, zero, suc, ◌+◌, ◌-◌, ◌<◌, ◌≤◌, ◌==◌, ◌&&◌, ◌||◌, ◌⊎◌, inl, inr, min, max, not, length, List, [], ◌∷◌, Bool, true, false, Option, Some, None, refl, sym, subst, ap, ◌∙◌, arith}
use Rattle.std.specs.Prelude.{slice_get, leb, ltb, if◌then◌else◌}
use Rattle.std.specs.Int.{bit_at}
use Rattle.std.proofs.lemmas.Bool.{and_parts}
use Rattle.std.proofs.lemmas.Option.{same_Some}
use Rattle.std.proofs.lemmas.Grind.{common_steps}
use Rattle.rb_bits.specs.Words.{take_of}
use Rattle.rb_core.specs.declared.types.Ty.{Ty}
use Rattle.rb_core.specs.declared.types.Ty.TheVariants.{Int, Named}
use Rattle.rb_core.specs.declared.types.DataDecl.{DataDecl}
use Rattle.rb_layout.specs.declared.layout.Leaf.{Leaf}
use Rattle.rb_layout.specs.declared.layout.FlatWord.{FlatWord}
use Rattle.rb_layout.specs.declared.layout.Part.{Part}
use Rattle.rb_layout.specs.declared.layout.Kind.{Kind}
use Rattle.rb_layout.specs.declared.layout.Kind.TheVariants.{Const, Bits, Word, Pointer}
use Rattle.rb_layout.specs.declared.layout.Layout.{Layout}
use Rattle.rb_layout.specs.declared.goals.Literal.{Literal}
use Rattle.rb_layout.specs.declared.goals.Goal.{Goal}
use Rattle.rb_layout.specs.Positions.{open_positions, layout_of}
use Rattle.rb_layout.specs.Locations.{constant_bit}
use Rattle.rb_layout.specs.Excluded.{MeetsRange, Bars, differs, null, within}
use Rattle.rb_layout.specs.inner.Barring.{is_other, bit_differs, is_pointer, null_at, null_in, position_type, part_literal, goal_on, goal_at, goal_of, goal_in, is_known, part_barred, parts_barred, word_barred, root_barred, leaf_barred, leaves_barred, has_leaf, layout_barred, goal_barred}
use Rattle.rb_layout.specs.inner.Settling.{GoalHolds}
use Rattle.rb_layout.proofs.OpenPositions.{position-typed, type-open}

-- ---- tests

pub or_is : (a b : Bool) → (a || b) ≡ true → (a ≡ true) ⊎ (b ≡ true)
or_is true b e = inl refl
or_is false b e = inr e

pub or_left : (a b : Bool) → a ≡ true → (a || b) ≡ true
or_left true b e = refl
or_left false b e = absurd cc

pub or_right : (a b : Bool) → b ≡ true → (a || b) ≡ true
or_right true b e = refl
or_right false b e = e

pub and_of : (a b : Bool) → a ≡ true → b ≡ true → (a && b) ≡ true
and_of true b x y = y
and_of false b x y = absurd cc

leb_is : (a b : ℕ) → leb a b ≡ true → a ≤ b
leb_is a b e = grind (arith, common_steps)

leb_of : (a b : ℕ) → a ≤ b → leb a b ≡ true
leb_of a b le = grind (arith, common_steps)

ltb_is : (a b : ℕ) → ltb a b ≡ true → a < b
ltb_is a b e = grind (arith, common_steps)

ltb_of : (a b : ℕ) → a < b → ltb a b ≡ true
ltb_of a b lt = grind (arith, common_steps)

pub same_nat : (a b : ℕ) → (a == b) ≡ true → a ≡ b
same_nat a b e = grind (arith, common_steps)

pub eq_of : (a b : ℕ) → a ≡ b → (a == b) ≡ true
eq_of a b e = grind (arith, common_steps)

ne_of : (a b : ℕ) → (a ≡ b → ⊥) → not (a == b) ≡ true
ne_of a b ne = let h : (a == b) ≡ false = grind (arith, common_steps, ne) in ap not h

-- ---- a constant bit that differs
other_is : (a : Option ℕ) (b : ℕ) → is_other a b ≡ true → (x : ℕ) × (a ≡ Some x) × (x ≡ b → ⊥)
other_is None b e = absurd cc
other_is (Some x) b e = (x, refl, λ s. let h : (x == b) ≡ true = grind (arith, common_steps) in let k = ap not h in cc)

other_of : (a : Option ℕ) (x b : ℕ) → a ≡ Some x → (x ≡ b → ⊥) → is_other a b ≡ true
other_of a x b e ne = ap (λ y. is_other y b) e ∙ ne_of x b ne

differs_is : (ps : List Part) (o c i l : ℕ) → bit_differs ps o c i l ≡ true
    → (k : ℕ) × (b : ℕ) × (k < i + l) × (constant_bit ps (o + k) ≡ Some b) × (b ≡ bit_at c k → ⊥)
differs_is ps o c i zero e = absurd cc
differs_is ps o c i (suc l) e =
    elim (or_is (is_other (constant_bit ps (o + i)) (bit_at c i)) (bit_differs ps o c (i + 1) l) e) [
      | inl h ↦ let x = other_is (constant_bit ps (o + i)) (bit_at c i) h in (i, x.0, omega arith, x.1, x.2)
      | inr h ↦ let r = differs_is ps o c (i + 1) l h in let lt = r.2 in (r.0, r.1, omega arith, r.3, r.4)
    ]

le_split : (i k : ℕ) → i ≤ k → (k ≡ i) ⊎ (i + 1 ≤ k)
le_split zero zero le = inl refl
le_split zero (suc k) le = inr (omega arith)
le_split (suc i) zero le = absurd (omega arith)
le_split (suc i) (suc k) le = elim (le_split i k (omega arith)) [ inl e ↦ inl (ap suc e) | inr h ↦ inr (omega arith) ]

differs_of : (ps : List Part) (o c l i k b : ℕ) → i ≤ k → k < i + l → constant_bit ps (o + k) ≡ Some b → (b ≡ bit_at c k → ⊥) → bit_differs ps o c i l ≡ true
differs_of ps o c zero i k b le lt is ne = absurd (omega arith)
differs_of ps o c (suc l) i k b le lt is ne =
    elim (le_split i k le) [
      | inl e ↦ or_left (is_other (constant_bit ps (o + i)) (bit_at c i)) (bit_differs ps o c (i + 1) l)
          (ap (λ j. is_other (constant_bit ps (o + j)) (bit_at c j)) (sym e) ∙ other_of (constant_bit ps (o + k)) b (bit_at c k) is ne)
      | inr h ↦ or_right (is_other (constant_bit ps (o + i)) (bit_at c i)) (bit_differs ps o c (i + 1) l) (differs_of ps o c l (i + 1) k b h (omega arith) is ne)
    ]

-- ---- a null pointer
pointer_is : (k : Kind) → is_pointer k ≡ true → (align : ℕ) × (b : ℕ) × (k ≡ Pointer align b)
pointer_is (Const c) e = absurd cc
pointer_is (Bits path a) e = absurd cc
pointer_is (Word path j) e = absurd cc
pointer_is (Pointer align b) e = (align, b, refl)

-- a part that is a null pointer
abbrev NullPart : List Part → Literal → Type 0
NullPart ps x =
    (k : ℕ) × (p : Part) × (align : ℕ) × (b : ℕ) × (slice_get ps k ≡ Some p) × (p.kind ≡ Pointer align b) × (x.o ≤ p.o) × (p.o + p.l ≤ x.o + x.l)
    × (take_of x.bits (p.o - x.o) p.l ≡ 0)

null_is : (ps : List Part) (x : Literal) → null_in ps x ≡ true → NullPart ps x
null_is [] x e = absurd cc
null_is (p ∷ ps) x e =
    elim (or_is (null_at x p) (null_in ps x) e) [
      | inl h ↦
          let a = and_parts (is_pointer p.kind && (leb x.o p.o && leb (p.o + p.l) (x.o + x.l))) (take_of x.bits (p.o - x.o) p.l == 0) h in
          let b = and_parts (is_pointer p.kind) (leb x.o p.o && leb (p.o + p.l) (x.o + x.l)) a.0 in
          let d = and_parts (leb x.o p.o) (leb (p.o + p.l) (x.o + x.l)) b.1 in
          let k = pointer_is p.kind b.0 in
          (0, p, k.0, k.1, refl, k.2, leb_is x.o p.o d.0, leb_is (p.o + p.l) (x.o + x.l) d.1, same_nat _ _ a.1)
      | inr h ↦ let r = null_is ps x h in (suc r.0, r.1, r.2, r.3, r.4, r.5, r.6, r.7, r.8)
    ]

null_here : (p : Part) (x : Literal) (align b : ℕ) → p.kind ≡ Pointer align b → x.o ≤ p.o → p.o + p.l ≤ x.o + x.l → take_of x.bits (p.o - x.o) p.l ≡ 0 → null_at x p ≡ true
null_here p x align b kind first last zeros =
    and_of _ _ (and_of _ _ (ap is_pointer kind) (and_of _ _ (leb_of x.o p.o first) (leb_of (p.o + p.l) (x.o + x.l) last))) (eq_of _ _ zeros)

-- some part passes a test: for the two loops over parts
null_of : (ps : List Part) (x : Literal) (k : ℕ) (p : Part) → slice_get ps k ≡ Some p → null_at x p ≡ true → null_in ps x ≡ true
null_of [] x k p is e = absurd cc
null_of (q ∷ ps) x zero p is e = or_left (null_at x q) (null_in ps x) (ap (null_at x) (same_Some q p is) ∙ e)
null_of (q ∷ ps) x (suc k) p is e = or_right (null_at x q) (null_in ps x) (null_of ps x k p is e)

parts_of : (known : Goal → Bool) (type_of : List ℕ → Option Ty) (x : Literal) (ps : List Part) (k : ℕ) (p : Part) → slice_get ps k ≡ Some p
    → part_barred known type_of x p ≡ true → parts_barred known type_of x ps ≡ true
parts_of known type_of x [] k p is e = absurd cc
parts_of known type_of x (q ∷ ps) zero p is e =
    or_left (part_barred known type_of x q) (parts_barred known type_of x ps) (ap (part_barred known type_of x) (same_Some q p is) ∙ e)
parts_of known type_of x (q ∷ ps) (suc k) p is e =
    or_right (part_barred known type_of x q) (parts_barred known type_of x ps) (parts_of known type_of x ps k p is e)

parts_is : (known : Goal → Bool) (type_of : List ℕ → Option Ty) (x : Literal) (ps : List Part) → parts_barred known type_of x ps ≡ true
    → (k : ℕ) × (p : Part) × (slice_get ps k ≡ Some p) × (part_barred known type_of x p ≡ true)
parts_is known type_of x [] e = absurd cc
parts_is known type_of x (p ∷ ps) e =
    elim (or_is (part_barred known type_of x p) (parts_barred known type_of x ps) e) [
      | inl h ↦ (0, p, refl, h)
      | inr h ↦ let r = parts_is known type_of x ps h in (suc r.0, r.1, r.2, r.3)
    ]

-- ---- the goal of a part
known_is : (known : Goal → Bool) (g : Option Goal) → is_known known g ≡ true → (h : Goal) × (g ≡ Some h) × (known h ≡ true)
known_is known None e = absurd cc
known_is known (Some g) e = (g, refl, e)

-- what a part that gives a goal is
pub record GoalPart (type_of : List ℕ → Option Ty) (x : Literal) (p : Part) (g : Goal) : Type 0 where
  pub path : List ℕ
  pub is_word : p.kind ≡ Word path g.word
  pub is_type : type_of path ≡ Some (Named g.ty)
  pub is_literal : part_literal x p ≡ Some g.literal

on_is : (s j : ℕ) (x : Option Literal) (g : Goal) → goal_on s j x ≡ Some g → (s ≡ g.ty) × (j ≡ g.word) × (x ≡ Some g.literal)
on_is s j None g e = absurd cc
on_is s j (Some x) g e = let is = same_Some _ g e in (ap (λ h. h.ty) is, ap (λ h. h.word) is, ap (λ h. Some h.literal) is)

at_is : (t : Option Ty) (j : ℕ) (x : Option Literal) (g : Goal) → goal_at t j x ≡ Some g → (t ≡ Some (Named g.ty)) × (j ≡ g.word) × (x ≡ Some g.literal)
at_is None j x g e = absurd cc
at_is (Some (Int bits)) j x g e = absurd cc
at_is (Some (Named s)) j x g e = let r = on_is s j x g e in (ap (λ t. Some (Named t)) r.0, r.1, r.2)

of_is : (type_of : List ℕ → Option Ty) (x : Option Literal) (k : Kind) (g : Goal) → goal_of type_of x k ≡ Some g
    → (path : List ℕ) × (k ≡ Word path g.word) × (type_of path ≡ Some (Named g.ty)) × (x ≡ Some g.literal)
of_is type_of x (Const c) g e = absurd cc
of_is type_of x (Bits path a) g e = absurd cc
of_is type_of x (Word path j) g e = let r = at_is (type_of path) j x g e in (path, ap (Word path) r.1, r.0, r.2)
of_is type_of x (Pointer align b) g e = absurd cc

pub goal-part : (type_of : List ℕ → Option Ty) (x : Literal) (p : Part) (g : Goal) → goal_in type_of x p ≡ Some g → GoalPart type_of x p g
goal-part type_of x p g e =
    let r = of_is type_of (part_literal x p) p.kind g e in record { path = r.0; is_word = r.1; is_type = r.2; is_literal = r.3 }

pub part-goal : (type_of : List ℕ → Option Ty) (x : Literal) (p : Part) (path : List ℕ) (s j : ℕ) (y : Literal) → p.kind ≡ Word path j → type_of path ≡ Some (Named s)
    → part_literal x p ≡ Some y → goal_in type_of x p ≡ Some (record { ty = s; word = j; literal = y })
part-goal type_of x p path s j y kind is_type literal =
    ap (goal_of type_of (part_literal x p)) kind ∙ ap (λ t. goal_at t j (part_literal x p)) is_type ∙ ap (goal_on s j) literal

-- the range that a part shares with a literal
abbrev from_of : Literal → Part → ℕ
from_of x p = max x.o p.o

abbrev end_of : Literal → Part → ℕ
end_of x p = min (x.o + x.l) (p.o + p.l)

abbrev shared : Literal → Part → Literal
shared x p = record { o = from_of x p - p.o; l = end_of x p - from_of x p; bits = take_of x.bits (from_of x p - x.o) (end_of x p - from_of x p) }

shared_case : (x : Literal) (p : Part) (t : Bool) (y : Literal) → ltb (from_of x p) (end_of x p) ≡ t → (if t then Some (shared x p) else None) ≡ Some y
    → (from_of x p < end_of x p) × (shared x p ≡ y)
shared_case x p false y is e = absurd cc
shared_case x p true y is e = (ltb_is (from_of x p) (end_of x p) is, same_Some (shared x p) y e)

pub literal-is : (x : Literal) (p : Part) (y : Literal) → part_literal x p ≡ Some y → (from_of x p < end_of x p) × (shared x p ≡ y)
literal-is x p y e = shared_case x p (ltb (from_of x p) (end_of x p)) y refl e

literal_of : (x : Literal) (p : Part) → from_of x p < end_of x p → part_literal x p ≡ Some (shared x p)
literal_of x p lt = let t = ltb_of (from_of x p) (end_of x p) lt in ap (λ b. if b then Some (shared x p) else None) t

-- ---- derivations
module _ (types : List DataDecl) (layouts : List Layout) where
  abbrev Barred : Leaf → FlatWord → Literal → Type 0
  Barred leaf f x = Bars types layouts leaf f x.o x.l x.bits

  module _ (known : Goal → Bool) (sound : (g : Goal) → known g ≡ true → GoalHolds types layouts g) where
    within_is : (leaf : Leaf) (f : FlatWord) (x : Literal) (k : ℕ) (p : Part) (g : Goal) → slice_get f.parts k ≡ Some p
        → GoalPart (position_type types leaf.prov) x p g → GoalHolds types layouts g → Barred leaf f x
    within_is leaf f x k p g is_part part holds =
        let place = type-open (open_positions types leaf.prov) part.path (Named g.ty) part.is_type in
        let lit = literal-is x p g.literal part.is_literal in
        let lt = lit.0 in
        let same : shared x p ≡ g.literal = lit.1 in
        let meets : MeetsRange types leaf f x.o x.l g.ty g.word p.o (from_of x p) (end_of x p - from_of x p) =
        record {
          number = k;
          part = p;
          is_part = is_part;
          from = refl;
          open_number = place.0;
          place = place.1;
          is_open = place.2;
          is_word = part.is_word ∙ ap (λ q. Word q g.word) (sym place.3);
          is_type = place.4;
          first = refl;
          last = omega arith;
          some = omega arith;
        } in
        within leaf f x.o x.l x.bits g.ty g.word p.o (from_of x p) (end_of x p - from_of x p) meets holds.layout holds.is_layout holds.some holds.words
        (λ n under u is_leaf is_word. subst (λ (y : Literal). Barred under u y) (sym same) (holds.bars n under u is_leaf is_word))

    pub word-bars : (leaf : Leaf) (f : FlatWord) (x : Literal) → word_barred known (position_type types leaf.prov) x f.parts ≡ true → Barred leaf f x
    word-bars leaf f x e =
        elim (or_is (bit_differs f.parts x.o x.bits 0 x.l || null_in f.parts x) (parts_barred known (position_type types leaf.prov) x f.parts) e) [
          | inl h ↦ elim (or_is (bit_differs f.parts x.o x.bits 0 x.l) (null_in f.parts x) h) [
            | inl d ↦
                let r = differs_is f.parts x.o x.bits 0 x.l d in
                let lt = r.2 in
                differs leaf f x.o x.l x.bits (record { i = r.0; bit = r.1; inside = omega arith; constant = r.3; other = r.4 })
            | inr d ↦
                let r = null_is f.parts x d in
                null leaf f x.o x.l x.bits
                (record { number = r.0; part = r.1; align = r.2; block = r.3; is_part = r.4; is_pointer = r.5; first = r.6; last = r.7; zeros = r.8 })
          ]
          | inr h ↦
              let r = parts_is known (position_type types leaf.prov) x f.parts h in
              let g = known_is known (goal_in (position_type types leaf.prov) x r.1) r.3 in
              within_is leaf f x r.0 r.1 g.0 r.2 (goal-part (position_type types leaf.prov) x r.1 g.0 g.1) (sound g.0 g.2)
        ]

    root_is : (leaf : Leaf) (x : Literal) (f : Option FlatWord) → root_barred known (position_type types leaf.prov) x f ≡ true
        → (u : FlatWord) × (f ≡ Some u) × Barred leaf u x
    root_is leaf x None e = absurd cc
    root_is leaf x (Some f) e = (f, refl, word-bars leaf f x e)

    leaves_is : (g : Goal) (leaves : List Leaf) → leaves_barred known types g leaves ≡ true → (n : ℕ) (leaf : Leaf) → slice_get leaves n ≡ Some leaf
        → (f : FlatWord) × (slice_get leaf.root g.word ≡ Some f) × Barred leaf f g.literal
    leaves_is g [] e n leaf is = absurd cc
    leaves_is g (y ∷ ys) e zero leaf is =
        let h = and_parts (leaf_barred known types g y) (leaves_barred known types g ys) e in
        let same : y ≡ leaf = same_Some y leaf is in
        root_is leaf g.literal (slice_get leaf.root g.word) (subst (λ (z : Leaf). leaf_barred known types g z ≡ true) same h.0)
    leaves_is g (y ∷ ys) e (suc n) leaf is = let h = and_parts (leaf_barred known types g y) (leaves_barred known types g ys) e in leaves_is g ys h.1 n leaf is

    some_leaf : (ls : List Leaf) → has_leaf ls ≡ true → 0 < length ls
    some_leaf [] e = absurd cc
    some_leaf (y ∷ ys) e = omega arith

    layout_is : (g : Goal) (l : Option Layout) → layout_of layouts g.ty ≡ l → layout_barred known types g l ≡ true → GoalHolds types layouts g
    layout_is g None is e = absurd cc
    layout_is g (Some l) is e =
        let h = and_parts (has_leaf l.leaves) (leaves_barred known types g l.leaves) e in
        let each = leaves_is g l.leaves h.1 in
        record {
          layout = l;
          is_layout = is;
          some = some_leaf l.leaves h.0;
          words = λ n leaf is_leaf. (let r = each n leaf is_leaf in (r.0, r.1));
          bars = λ n leaf f is_leaf is_word.
              (let r = each n leaf is_leaf in
              let same : r.0 ≡ f = same_Some r.0 f (sym r.1 ∙ is_word) in
              subst (λ (u : FlatWord). Barred leaf u g.literal) same r.2);
        }

    pub goal-holds : (g : Goal) → goal_barred known types layouts g ≡ true → GoalHolds types layouts g
    goal-holds g e = layout_is g (layout_of layouts g.ty) refl e

  -- the goals of the parts are among some goals
  abbrev pub PartsIn : (Goal → Type 0) → Leaf → FlatWord → Literal → Type 0
  PartsIn In leaf f x = (k : ℕ) (p : Part) (g : Goal) → slice_get f.parts k ≡ Some p → goal_in (position_type types leaf.prov) x p ≡ Some g → In g

  -- the goals below a goal are among some goals
  abbrev pub BelowIn : (Goal → Type 0) → Goal → Type 0
  BelowIn In g = (n : ℕ) (layout : Layout) (leaf : Leaf) (f : FlatWord) → layout_of layouts g.ty ≡ Some layout → slice_get layout.leaves n ≡ Some leaf
      → slice_get leaf.root g.word ≡ Some f → PartsIn In leaf f g.literal

  module _ (known : Goal → Bool) (In : Goal → Type 0) (below_in : (g : Goal) → In g → BelowIn In g)
      (settled : (g : Goal) → In g → goal_barred known types layouts g ≡ true → known g ≡ true) where
    abbrev Found : Leaf → FlatWord → Literal → Type 0
    Found leaf f x = word_barred known (position_type types leaf.prov) x f.parts ≡ true

    leaves_of : (g : Goal) (leaves : List Leaf)
        → ((n : ℕ) (leaf : Leaf) → slice_get leaves n ≡ Some leaf → (f : FlatWord) × (slice_get leaf.root g.word ≡ Some f))
        → ((n : ℕ) (leaf : Leaf) (f : FlatWord) → slice_get leaves n ≡ Some leaf → slice_get leaf.root g.word ≡ Some f → Found leaf f g.literal)
        → leaves_barred known types g leaves ≡ true
    leaves_of g [] words found = refl
    leaves_of g (y ∷ ys) words found =
        let f = words 0 y refl in
        and_of (leaf_barred known types g y) (leaves_barred known types g ys)
        (ap (root_barred known (position_type types y.prov) g.literal) f.1 ∙ found 0 y f.0 refl f.1)
        (leaves_of g ys (λ n leaf is. words (suc n) leaf is) (λ n leaf u is is_word. found (suc n) leaf u is is_word))

    leaf_of_some : (ls : List Leaf) → 0 < length ls → has_leaf ls ≡ true
    leaf_of_some [] lt = absurd (omega arith)
    leaf_of_some (y ∷ ys) lt = refl

    goal_of_leaves : (g : Goal) (layout : Layout) → layout_of layouts g.ty ≡ Some layout → 0 < length layout.leaves → leaves_barred known types g layout.leaves ≡ true
        → goal_barred known types layouts g ≡ true
    goal_of_leaves g layout is some each =
        ap (layout_barred known types g) is ∙ and_of (has_leaf layout.leaves) (leaves_barred known types g layout.leaves) (leaf_of_some layout.leaves some) each

    -- the goal of a part that meets the range
    meets_goal : (leaf : Leaf) (f : FlatWord) (o l c s j p a b : ℕ) (m : MeetsRange types leaf f o l s j p a b)
        → goal_in (position_type types leaf.prov) (record { o = o; l = l; bits = c }) m.part
        ≡ Some (record { ty = s; word = j; literal = record { o = a - p; l = b; bits = take_of c (a - o) b } })
    meets_goal leaf f o l c s j p a b m =
        let x : Literal = record { o = o; l = l; bits = c } in
        let from = m.from in
        let first = m.first in
        let last = m.last in
        let some = m.some in
        let same_a : from_of x m.part ≡ a = ap (max o) from ∙ sym first in
        let same_end : end_of x m.part ≡ a + b = ap (λ q. min (o + l) (q + m.part.l)) from ∙ sym last in
        let long : end_of x m.part - from_of x m.part ≡ b = omega arith in
        let starts : from_of x m.part - m.part.o ≡ a - p = omega arith in
        let goes : from_of x m.part - o ≡ a - o = omega arith in
        let y : Literal = record { o = a - p; l = b; bits = take_of c (a - o) b } in
        let same : shared x m.part ≡ y = rw (starts, long, goes) refl in
        part-goal (position_type types leaf.prov) x m.part m.place.path s j y m.is_word
        (position-typed types leaf.prov m.open_number m.place m.is_open ∙ ap Some m.is_type)
        (literal_of x m.part (omega arith) ∙ ap Some same)

    pub bars-found : {leaf : Leaf} {f : FlatWord} {o l c : ℕ} → Bars types layouts leaf f o l c → PartsIn In leaf f (record { o = o; l = l; bits = c })
        → Found leaf f (record { o = o; l = l; bits = c })
    bars-found (differs leaf f o l c d) parts =
        let lt = d.inside in
        or_left (bit_differs f.parts o c 0 l || null_in f.parts (record { o = o; l = l; bits = c })) _
        (or_left (bit_differs f.parts o c 0 l) (null_in f.parts (record { o = o; l = l; bits = c }))
        (differs_of f.parts o c l 0 d.i d.bit (omega arith) (omega arith) d.constant d.other))
    bars-found (null leaf f o l c d) parts =
        or_left (bit_differs f.parts o c 0 l || null_in f.parts (record { o = o; l = l; bits = c })) _
        (or_right (bit_differs f.parts o c 0 l) (null_in f.parts (record { o = o; l = l; bits = c }))
        (null_of f.parts (record { o = o; l = l; bits = c }) d.number d.part d.is_part
        (null_here d.part (record { o = o; l = l; bits = c }) d.align d.block d.is_pointer d.first d.last d.zeros)))
    bars-found (within leaf f o l c s j p a b m layout is some words below) parts =
        let x : Literal = record { o = o; l = l; bits = c } in
        let g : Goal = record { ty = s; word = j; literal = record { o = a - p; l = b; bits = take_of c (a - o) b } } in
        let is_goal = meets_goal leaf f o l c s j p a b m in
        let in_g : In g = parts m.number m.part g m.is_part is_goal in
        let each = leaves_of g layout.leaves words
        (λ n under u is_leaf is_word. bars-found (below n under u is_leaf is_word) (below_in g in_g n layout under u is is_leaf is_word)) in
        let known_g : known g ≡ true = settled g in_g (goal_of_leaves g layout is some each) in
        or_right (bit_differs f.parts o c 0 l || null_in f.parts x) (parts_barred known (position_type types leaf.prov) x f.parts)
        (parts_of known (position_type types leaf.prov) x f.parts m.number m.part m.is_part (ap (is_known known) is_goal ∙ known_g))
