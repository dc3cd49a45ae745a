-- Paths beside each other: what each side says of them.
use Rattle.std.proofs.Common.{◌≡◌, ◌≢◌, ℕ, ◌+◌, ◌-◌, ◌<◌, ◌≤◌, inl, inr, min, List, [], ◌∷◌, length, drop, get_or, Bool, true, false, nat_lt, if◌then◌else◌, Some, refl, sym, ap, subst, ◌∙◌, arith, add-one, drop-cons, length-drop}
use Rattle.std.specs.Prelude.{slice_get}
use Rattle.std.proofs.lemmas.Bool.{ltb-true, ltb-false}
use Rattle.std.proofs.lemmas.List.{drop_all}
use Rattle.std.proofs.lemmas.Option.{same_Some}
use Rattle.rb_core.specs.declared.types.DataDecl.{DataDecl}
use Rattle.rb_core.specs.declared.pattern.Pat.{Pat}
use Rattle.rb_layout.specs.Positions.{Open, IsLeftOf, open_positions}
use Rattle.rb_layout.proofs.FromLeft.{opens_are_from_left}
use Rattle.rb_layout.specs.declared.opens.OpenPosition.{OpenPosition}
use Rattle.rb_agree.specs.declared.search.Side.{Side}
use Rattle.rb_agree.specs.declared.search.Side.TheVariants.{Left, Same, Right, Along}
use Rattle.rb_layout.specs.Opens.{open_at, opens_at}
use Rattle.rb_agree.specs.inner.Search.{AreOrdered, side_of}
use Rattle.rb_agree.proofs.Lists.{map-at}

-- the first numbers decide, where they differ
by-side : (i j : ℕ) (p q : List ℕ) (P : Side → Type 0) → (i < j → P Left) → (j < i → P Right) → (i ≡ j → P (side_of p q)) → P (side_of (i ∷ p) (j ∷ q))
by-side i j p q P left right same = elim (nat_lt i j) as (λ (b : Bool). nat_lt i j ≡ b → P (if b then Left else if nat_lt j i then Right else side_of p q)) [
  | true ↦ λ e. left (ltb-true i j e)
  | false ↦ λ e. elim (nat_lt j i) as (λ (b : Bool). nat_lt j i ≡ b → P (if b then Right else side_of p q)) [
    | true ↦ λ f. right (ltb-true j i f)
    | false ↦ λ f. let a = ltb-false i j e in let b = ltb-false j i f in same (omega (arith, a, b))
  ] refl
] refl

pub left-of : (p q : List ℕ) → side_of p q ≡ Left → IsLeftOf p q
left-of [] [] e = cc
left-of [] (j ∷ q) e = cc
left-of (i ∷ p) [] e = cc
left-of (i ∷ p) (j ∷ q) e = by-side i j p q (λ s. s ≡ Left → IsLeftOf (i ∷ p) (j ∷ q)) (λ l f. inl l) (λ l f. absurd cc) (λ same f. inr (same, left-of p q f)) e

pub right-of : (p q : List ℕ) → side_of p q ≡ Right → IsLeftOf q p
right-of [] [] e = cc
right-of [] (j ∷ q) e = cc
right-of (i ∷ p) [] e = cc
right-of (i ∷ p) (j ∷ q) e = by-side i j p q (λ s. s ≡ Right → IsLeftOf (j ∷ q) (i ∷ p)) (λ l f. absurd cc) (λ l f. inl l) (λ same f. inr (sym same, right-of p q f)) e

pub same-as : (p q : List ℕ) → side_of p q ≡ Same → p ≡ q
same-as [] [] e = refl
same-as [] (j ∷ q) e = cc
same-as (i ∷ p) [] e = cc
same-as (i ∷ p) (j ∷ q) e = by-side i j p q (λ s. s ≡ Same → i ∷ p ≡ j ∷ q) (λ l f. absurd cc) (λ l f. absurd cc) (λ same f. let rest = same-as p q f in cc) e

-- neither stands to the left of the other, where one begins with the other
pub along-not : (p q : List ℕ) → side_of p q ≡ Along → (IsLeftOf p q → ⊥) × (IsLeftOf q p → ⊥)
along-not [] [] e = (λ h. h, λ h. h)
along-not [] (j ∷ q) e = (λ h. h, λ h. h)
along-not (i ∷ p) [] e = (λ h. h, λ h. h)
along-not (i ∷ p) (j ∷ q) e = by-side i j p q (λ s. s ≡ Along → (IsLeftOf (i ∷ p) (j ∷ q) → ⊥) × (IsLeftOf (j ∷ q) (i ∷ p) → ⊥)) (λ l f. absurd cc) (λ l f. absurd cc)
    (λ same f. let rest = along-not p q f in (none i j p q same rest.0, none j i q p (sym same) rest.1)) e where
      none : (i j : ℕ) (p q : List ℕ) → i ≡ j → (IsLeftOf p q → ⊥) → IsLeftOf (i ∷ p) (j ∷ q) → ⊥
      none i j p q same h (inl l) = omega (arith, l, same)
      none i j p q same h (inr r) = h r.1

pub side-self : (p : List ℕ) → side_of p p ≡ Same
side-self [] = refl
side-self (i ∷ p) = by-side i i p p (λ s. s ≡ Same) (λ l. absurd (omega (arith, l))) (λ l. absurd (omega (arith, l))) (λ same. side-self p)

-- of two paths one alone stands to the left
pub not-both : (p q : List ℕ) → IsLeftOf p q → IsLeftOf q p → ⊥
not-both [] q h g = h
not-both (i ∷ p) [] h g = h
not-both (i ∷ p) (j ∷ q) (inl l) (inl m) = omega (arith, l, m)
not-both (i ∷ p) (j ∷ q) (inl l) (inr m) = omega (arith, l, m.0)
not-both (i ∷ p) (j ∷ q) (inr l) (inl m) = omega (arith, l.0, m)
not-both (i ∷ p) (j ∷ q) (inr l) (inr m) = not-both p q l.1 m.1

-- Numbers one by one ------------------------------------------------------------------------------------

next : (p : List ℕ) (k : ℕ) (d : ℕ) → k < length p → drop k p ≡ get_or p k d ∷ drop (k + 1) p
next p k d h = drop-cons p k d h ∙ ap (λ m. get_or p k d ∷ drop m p) (sym (add-one k))

module _ (p q : List ℕ) (k : ℕ) (s : Side) (within : k < length p) (inside : k < length q) (is : side_of (drop k p) (drop k q) ≡ s) where
  here : side_of (get_or p k 0 ∷ drop (k + 1) p) (get_or q k 0 ∷ drop (k + 1) q) ≡ s
  here = ap (λ (r : List ℕ). side_of r (get_or q k 0 ∷ drop (k + 1) q)) (sym (next p k 0 within)) ∙ ap (λ (r : List ℕ). side_of (drop k p) r) (sym (next q k 0 inside)) ∙ is

  pub is-left : get_or p k 0 < get_or q k 0 → Left ≡ s
  is-left l = by-side (get_or p k 0) (get_or q k 0) (drop (k + 1) p) (drop (k + 1) q) (λ t. t ≡ s → Left ≡ s) (λ m e. e) (λ m e. absurd (omega (arith, l, m))) (λ m e. absurd (omega (arith, l, m))) here

  pub is-right : get_or q k 0 < get_or p k 0 → Right ≡ s
  is-right l = by-side (get_or p k 0) (get_or q k 0) (drop (k + 1) p) (drop (k + 1) q) (λ t. t ≡ s → Right ≡ s) (λ m e. absurd (omega (arith, l, m))) (λ m e. e) (λ m e. absurd (omega (arith, l, m))) here

  pub goes-on : get_or q k 0 ≤ get_or p k 0 → get_or p k 0 ≤ get_or q k 0 → side_of (drop (k + 1) p) (drop (k + 1) q) ≡ s
  goes-on l m = by-side (get_or p k 0) (get_or q k 0) (drop (k + 1) p) (drop (k + 1) q) (λ t. t ≡ s → side_of (drop (k + 1) p) (drop (k + 1) q) ≡ s)
      (λ n e. absurd (omega (arith, l, n))) (λ n e. absurd (omega (arith, m, n))) (λ n e. e) here

module _ (p q : List ℕ) (k : ℕ) (s : Side) (all : min (length p) (length q) ≤ k) (is : side_of (drop k p) (drop k q) ≡ s) where
  pub ends-same : length p ≡ length q → Same ≡ s
  ends-same e = let a : drop k p ≡ [] = drop_all k p (omega (arith, all, e)) in let b : drop k q ≡ [] = drop_all k q (omega (arith, all, e)) in
      ap (λ (r : List ℕ). side_of [] r) (sym b) ∙ ap (λ (r : List ℕ). side_of r (drop k q)) (sym a) ∙ is

  pub ends-along : length p ≢ length q → k ≤ length p → k ≤ length q → Along ≡ s
  ends-along e h g = along (drop k p) (drop k q) (length-drop k p) (length-drop k q) is where
    along : (a b : List ℕ) → length a ≡ length p - k → length b ≡ length q - k → side_of a b ≡ s → Along ≡ s
    along [] [] x y f = absurd (e (omega (arith, x, y, h, g)))
    along [] (j ∷ b) x y f = f
    along (i ∷ a) [] x y f = f
    along (i ∷ a) (j ∷ b) x y f = absurd (omega (arith, x, y, all, h, g))

-- Positions ---------------------------------------------------------------------------------------------

module _ (places : List OpenPosition) (order : AreOrdered places) where
  pub one-at : (j k : ℕ) (a b : OpenPosition) → slice_get places j ≡ Some a → slice_get places k ≡ Some b → j ≢ k → a.path ≢ b.path
  one-at j k a b f g e same = elim (nat_lt j k) as (λ (c : Bool). nat_lt j k ≡ c → ⊥) [
    | true ↦ λ h. let l = order j k a b (ltb-true j k h) f g in not-both b.path b.path (subst (λ (p : List ℕ). IsLeftOf p b.path) same l) (subst (λ (p : List ℕ). IsLeftOf p b.path) same l)
    | false ↦ λ h. let m = ltb-false j k h in
        let l = order k j b a (omega (arith, m, e)) g f in not-both b.path b.path (subst (λ (p : List ℕ). IsLeftOf b.path p) same l) (subst (λ (p : List ℕ). IsLeftOf b.path p) same l)
  ] refl

  module _ (path : List ℕ) (m : ℕ) (middle : OpenPosition) (at : slice_get places m ≡ Some middle) where
    -- behind a position to whose left the path stands, and it itself
    pub none-behind : side_of path middle.path ≡ Left → (k : ℕ) (place : OpenPosition) → m ≤ k → slice_get places k ≡ Some place → place.path ≢ path
    none-behind e k place le f same = let l = left-of path middle.path e in elim (nat_lt m k) as (λ (c : Bool). nat_lt m k ≡ c → ⊥) [
      | true ↦ λ h. not-both path middle.path l (subst (λ (p : List ℕ). IsLeftOf middle.path p) same (order m k middle place (ltb-true m k h) at f))
      | false ↦ λ h. let n = ltb-false m k h in let is : m ≡ k = omega (arith, n, le) in
          let one : middle ≡ place = same_Some middle place (sym at ∙ subst (λ n. slice_get places n ≡ Some place) (sym is) f) in
          let w : middle.path ≡ path = ap (λ (x : OpenPosition). x.path) one ∙ same in
          let g : IsLeftOf path path = subst (λ (p : List ℕ). IsLeftOf path p) w l in not-both path path g g
    ] refl

    pub none-before : side_of path middle.path ≡ Right → (k : ℕ) (place : OpenPosition) → k < m + 1 → slice_get places k ≡ Some place → place.path ≢ path
    none-before e k place le f same = let l = right-of path middle.path e in elim (nat_lt k m) as (λ (c : Bool). nat_lt k m ≡ c → ⊥) [
      | true ↦ λ h. not-both middle.path path l (subst (λ (p : List ℕ). IsLeftOf p middle.path) same (order k m place middle (ltb-true k m h) f at))
      | false ↦ λ h. let n = ltb-false k m h in let is : m ≡ k = omega (arith, n, le) in
          let one : middle ≡ place = same_Some middle place (sym at ∙ subst (λ n. slice_get places n ≡ Some place) (sym is) f) in
          let w : middle.path ≡ path = ap (λ (x : OpenPosition). x.path) one ∙ same in
          let g : IsLeftOf path path = subst (λ (p : List ℕ). IsLeftOf p path) w l in not-both path path g g
    ] refl

    pub none-along : side_of path middle.path ≡ Along → (k : ℕ) (place : OpenPosition) → slice_get places k ≡ Some place → place.path ≢ path
    none-along e k place f same = let no = along-not path middle.path e in elim (nat_lt k m) as (λ (c : Bool). nat_lt k m ≡ c → ⊥) [
      | true ↦ λ h. no.0 (subst (λ (p : List ℕ). IsLeftOf p middle.path) same (order k m place middle (ltb-true k m h) f at))
      | false ↦ λ h. elim (nat_lt m k) as (λ (c : Bool). nat_lt m k ≡ c → ⊥) [
        | true ↦ λ g. no.1 (subst (λ (p : List ℕ). IsLeftOf middle.path p) same (order m k middle place (ltb-true m k g) at f))
        | false ↦ λ g. let a = ltb-false k m h in let b = ltb-false m k g in let is : m ≡ k = omega (arith, a, b) in
            let one : middle ≡ place = same_Some middle place (sym at ∙ subst (λ n. slice_get places n ≡ Some place) (sym is) f) in
            let w : middle.path ≡ path = ap (λ (x : OpenPosition). x.path) one ∙ same in
            let s : Same ≡ Along = sym (side-self path) ∙ ap (λ (p : List ℕ). side_of path p) (sym w) ∙ e in cc
      ] refl
    ] refl

-- the open positions of a provenance stand in order
pub ordered : (types : List DataDecl) (prov : Pat) (places : List OpenPosition) → opens_at places ≡ open_positions types prov → AreOrdered places
ordered types prov places is j k a b lt e f =
    opens_are_from_left types prov j k (open_at a) (open_at b) lt
    (ap (λ (os : List Open). slice_get os j) (sym is) ∙ map-at open_at places j a e)
    (ap (λ (os : List Open). slice_get os k) (sym is) ∙ map-at open_at places k b f)
