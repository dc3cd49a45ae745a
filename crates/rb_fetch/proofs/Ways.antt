-- Parts in slots, and ways with their open jumps.
use Rattle.std.proofs.Common.{◌≡◌, ℕ, zero, suc, ◌+◌, ◌<◌, ◌≤◌, ◌⊎◌, inl, inr, length, List, [], ◌∷◌, ◌++◌, Bool, true, false, Some, None, refl, sym, subst, ap, ◌∙◌, arith}
use Rattle.std.specs.Prelude.{slice_get, if◌then◌else◌}
use Rattle.std.proofs.lemmas.Option.{same_Some, slice_get_within}
use Rattle.rb_core.specs.declared.value.Value.{Value}
use Rattle.rb_core.specs.declared.types.DataDecl.{DataDecl}
use Rattle.rb_core.specs.Values.{part_at}
use Rattle.rb_bytes.specs.Memory.{Memory}
use Rattle.rb_target.specs.declared.instr.Instr.{Instr}
use Rattle.rb_target.specs.declared.instr.Instr.TheVariants.{Jump}
use Rattle.rb_target.specs.declared.body.Hole.{Hole}
use Rattle.rb_target.specs.Growth.{Grows, Keeps}
use Rattle.rb_target.specs.Meaning.{slots_at}
use Rattle.rb_target.specs.Sheet.{IsHoleIn}
use Rattle.rb_layout.specs.Flattening.{same_path}
use Rattle.rb_layout.specs.Positions.{Open}
use Rattle.rb_rel.proofs.Lists.{get-append, get-left}
use Rattle.rb_fragment.specs.declared.held.Held.{Held}
use Rattle.rb_fragment.specs.Arms.{AreHoles, AreOfOneWay}
use Rattle.rb_fragment.specs.Plan.{Plan, Rep, words_needed}
use Rattle.rb_fragment.specs.Slots.{AllBelow}
use Rattle.rb_fragment.proofs.Holds.{AllBelow-more, slots_at-kept}
use Rattle.rb_compose.specs.declared.subvalue.Subvalue.{Subvalue}
use Rattle.rb_compose.specs.Subvalues.{AreGivenAt, ArePartsHeld, subvalue_at}
use Rattle.rb_fetch.specs.declared.choice.Way.{Way}
use Rattle.rb_fetch.specs.inner.Choosing.{AreOpen, HasOpens, HasParts, IsWayAt, PartsGiven, PartsHold, holes_from}
use Rattle.rb_fetch.proofs.Costs.{path_same}

-- Parts

-- the first part at a position is one of the parts
pub record IsFoundPart (xs : List Subvalue) (path : List ℕ) (h : Held) : Type 0 where
  pub number : ℕ
  pub part : Subvalue
  pub is_part : slice_get xs number ≡ Some part
  pub is_path : part.path ≡ path
  pub is_held : part.held ≡ h

pub found_part : (xs : List Subvalue) (path : List ℕ) (h : Held) → subvalue_at xs path ≡ Some h → IsFoundPart xs path h
found_part [] path h e = absurd cc
found_part (x ∷ xs) path h e = go (same_path x.path path) refl (found_part xs path h) e
  where
    go : (b : Bool) → same_path x.path path ≡ b → (subvalue_at xs path ≡ Some h → IsFoundPart xs path h) → (if b then Some x.held else subvalue_at xs path) ≡ Some h → IsFoundPart (x ∷ xs) path h
    go true is rest e1 = record { number = 0; part = x; is_part = refl; is_path = path_same x.path path is; is_held = same_Some x.held h e1 }
    go false is rest e1 = let r = rest e1 in record { number = suc r.number; part = r.part; is_part = r.is_part; is_path = r.is_path; is_held = r.is_held }

module _ (types : List DataDecl) (v : Value) where
  pub parts-append : (xs ys : List Subvalue) → HasParts types v xs → HasParts types v ys → HasParts types v (xs ++ ys)
  parts-append xs ys a b k x e = elim (get-append xs ys k x e) [ inl h ↦ a k x h | inr h ↦ b h.0 x h.1 ]

module _ (plan : Plan) where
  pub given-more : (n m : ℕ) (xs : List Subvalue) → n ≤ m → PartsGiven plan n xs → PartsGiven plan m xs
  given-more n m xs le g k x e = let h = g k x e in (AllBelow-more n m x.held.slots le h.0, h.1)

  pub given-append : (n : ℕ) (xs ys : List Subvalue) → PartsGiven plan n xs → PartsGiven plan n ys → PartsGiven plan n (xs ++ ys)
  given-append n xs ys a b k x e = elim (get-append xs ys k x e) [ inl h ↦ a k x h | inr h ↦ b h.0 x h.1 ]

  module _ (clean : Bool) (v : Value) (m : Memory) where
    pub hold-append : (s : List ℕ) (xs ys : List Subvalue) → PartsHold plan clean v s m xs → PartsHold plan clean v s m ys → PartsHold plan clean v s m (xs ++ ys)
    hold-append s xs ys a b k x e = elim (get-append xs ys k x e) [ inl h ↦ a k x h | inr h ↦ b h.0 x h.1 ]

    pub hold-kept : (n : ℕ) (s s' : List ℕ) (xs : List Subvalue) → PartsGiven plan n xs → Keeps n s s' → PartsHold plan clean v s m xs → PartsHold plan clean v s' m xs
    hold-kept n s s' xs g keeps h k x e u at =
        subst (λ ws. Rep plan m clean x.held.ty u ws) (sym (slots_at-kept n s s' x.held.slots (g k x e).0 keeps)) (h k x e u at)

    -- the parts at open positions
    pub parts_held : (n : ℕ) (s : List ℕ) (opens : List Open) (xs : List Subvalue) → HasParts plan.program.types v xs → AreGivenAt plan n opens xs → PartsHold plan clean v s m xs → ArePartsHeld plan clean s m opens xs v
    parts_held n s opens xs has given h k o at =
        let g = given k o at in
        let f = found_part xs o.path g.held g.is_there in
        let p = has f.number f.part f.is_part in
        let is_part : part_at v o.path ≡ Some p.0 = ap (part_at v) (sym f.is_path) ∙ p.1 in
        let rep = h f.number f.part f.is_part p.0 p.1 in
        let kind : f.part.held.ty ≡ o.ty = ap (λ (y : Held). y.ty) f.is_held ∙ g.kind in
        let slots : f.part.held.slots ≡ g.held.slots = ap (λ (y : Held). y.slots) f.is_held in
        record {
          held = g.held;
          is_there = g.is_there;
          part = p.0;
          is_part = is_part;
          represents = subst (λ ty. Rep plan m clean ty p.0 (slots_at s g.held.slots)) kind (subst (λ xs1. Rep plan m clean f.part.held.ty p.0 (slots_at s xs1)) slots rep);
        }

  -- what is there at open positions is given
  pub given_at : (n : ℕ) (opens : List Open) (xs : List Subvalue) → HasOpens opens [] xs → PartsGiven plan n xs → AreGivenAt plan n opens xs
  given_at n opens xs has given k o at =
      let h = has k o at in
      let f = found_part xs o.path h.0 h.1 in
      let g = given f.number f.part f.is_part in
      let slots : f.part.held.slots ≡ h.0.slots = ap (λ (y : Held). y.slots) f.is_held in
      let kind : f.part.held.ty ≡ o.ty = ap (λ (y : Held). y.ty) f.is_held ∙ h.2 in
      record {
        held = h.0;
        is_there = h.1;
        kind = h.2;
        below = subst (AllBelow n) slots g.0;
        count = ap length (sym slots) ∙ g.1 ∙ ap (words_needed plan) kind;
      }

  pub given_at-more : (n m : ℕ) (opens : List Open) (xs : List Subvalue) → n ≤ m → AreGivenAt plan n opens xs → AreGivenAt plan m opens xs
  given_at-more n m opens xs le g k o at =
      let h = g k o at in record { held = h.held; is_there = h.is_there; kind = h.kind; below = AllBelow-more n m h.held.slots le h.below; count = h.count }

-- Ways

pub open_within : (from : ℕ) (code : List Instr) (ways : List Way) (k : ℕ) (way : Way) → AreOpen from code ways → slice_get ways k ≡ Some way
    → (from ≤ way.pc) × (way.pc < length code) × ((t : ℕ) × (slice_get code way.pc ≡ Some (Jump t)))
open_within from code [] k way a e = absurd cc
open_within from code (x ∷ ways) zero way a e =
    subst (λ (y : Way). (from ≤ y.pc) × (y.pc < length code) × ((t : ℕ) × (slice_get code y.pc ≡ Some (Jump t)))) (same_Some x way e)
    (a.0, slice_get_within code x.pc (Jump a.1.0) a.1.1, a.1)
open_within from code (x ∷ ways) (suc k) way a e = let r = open_within (x.pc + 1) code ways k way a.2 e in (omega (arith, r.0, a.0), r.1, r.2)

pub way_within : (from : ℕ) (code : List Instr) (ways : List Way) (pc : ℕ) → AreOpen from code ways → IsWayAt ways pc → (from ≤ pc) × (pc < length code)
way_within from code ways pc a w = let r = open_within from code ways w.0 w.1 a w.2 in subst (λ q. (from ≤ q) × (q < length code)) w.3 (r.0, r.1)

pub open-low : (from low : ℕ) (code : List Instr) (ways : List Way) → low ≤ from → AreOpen from code ways → AreOpen low code ways
open-low from low code [] le a = tt
open-low from low code (x ∷ ways) le a = (omega (arith, le, a.0), a.1, a.2)

-- what is open stays so where the code behind from is the same
pub open-same : (from : ℕ) (old new : List Instr) (ways : List Way) → ((pc : ℕ) → from ≤ pc → pc < length old → slice_get new pc ≡ slice_get old pc) → AreOpen from old ways → AreOpen from new ways
open-same from old new [] same a = tt
open-same from old new (x ∷ ways) same a =
    let lt = slice_get_within old x.pc (Jump a.1.0) a.1.1 in
    (a.0, (a.1.0, same x.pc a.0 lt ∙ a.1.1), open-same (x.pc + 1) old new ways (λ pc lo hi. same pc (omega (arith, lo, a.0)) hi) a.2)

pub open-append : (from mid : ℕ) (old new : List Instr) (xs ys : List Way) → Grows old new → from ≤ mid → length old ≤ mid → AreOpen from old xs → AreOpen mid new ys → AreOpen from new (xs ++ ys)
open-append from mid old new [] ys g le low a b = open-low mid from new ys le b
open-append from mid old new (x ∷ xs) ys g le low a b =
    let lt = slice_get_within old x.pc (Jump a.1.0) a.1.1 in
    (a.0, (a.1.0, g.same x.pc lt ∙ a.1.1), open-append (x.pc + 1) mid old new xs ys g (omega (arith, lt, low)) low a.2 b)

pub way-split : (xs ys : List Way) (pc : ℕ) → IsWayAt (xs ++ ys) pc → IsWayAt xs pc ⊎ IsWayAt ys pc
way-split xs ys pc w = elim (get-append xs ys w.0 w.1 w.2) [ inl h ↦ inl (w.0, w.1, h, w.3) | inr h ↦ inr (h.0, w.1, h.1, w.3) ]

pub way-left : (xs ys : List Way) (pc : ℕ) → IsWayAt xs pc → IsWayAt (xs ++ ys) pc
way-left xs ys pc w = (w.0, w.1, get-left xs ys w.0 w.1 w.2, w.3)

-- Holes

-- a hole of the list is that of a way
pub record IsHoleOf (k : ℕ) (ways : List Way) (h : Hole) : Type 0 where
  pub number : ℕ
  pub way : Way
  pub is_way : slice_get ways number ≡ Some way
  pub is_hole : h ≡ record { pc = way.pc; arm = None; leaf = k + number }

pub hole_of : (k : ℕ) (ways : List Way) (i : ℕ) (h : Hole) → slice_get (holes_from k ways) i ≡ Some h → IsHoleOf k ways h
hole_of k [] i h e = absurd cc
hole_of k (x ∷ ways) zero h e =
    let z : k ≡ k + 0 = omega arith in
    record { number = 0; way = x; is_way = refl; is_hole = sym (same_Some _ h e) ∙ ap (λ n. let q : Hole = record { pc = x.pc; arm = None; leaf = n } in q) z }
hole_of k (x ∷ ways) (suc i) h e =
    let r = hole_of (k + 1) ways i h e in
    let z : k + 1 + r.number ≡ k + suc r.number = omega arith in
    record { number = suc r.number; way = r.way; is_way = r.is_way; is_hole = r.is_hole ∙ ap (λ n. let q : Hole = record { pc = r.way.pc; arm = None; leaf = n } in q) z }

pub hole_in : (k : ℕ) (ways : List Way) (i : ℕ) (way : Way) → slice_get ways i ≡ Some way → let h : Hole = record { pc = way.pc; arm = None; leaf = k + i } in slice_get (holes_from k ways) i ≡ Some h
hole_in k [] i way e = absurd cc
hole_in k (x ∷ ways) zero way e =
    let z : k ≡ k + 0 = omega arith in
    ap (λ (y : Way). let q : Hole = record { pc = y.pc; arm = None; leaf = k } in Some q) (same_Some x way e) ∙ ap (λ n. let q : Hole = record { pc = way.pc; arm = None; leaf = n } in Some q) z
hole_in k (x ∷ ways) (suc i) way e =
    let z : k + 1 + i ≡ k + suc i = omega arith in
    hole_in (k + 1) ways i way e ∙ ap (λ n. let q : Hole = record { pc = way.pc; arm = None; leaf = n } in Some q) z

pub are_holes : (k from low count : ℕ) (code : List Instr) (ways : List Way) → low ≤ from → AreOpen from code ways → k + length ways ≤ count → AreHoles low count code (holes_from k ways)
are_holes k from low count code [] le a few = tt
are_holes k from low count code (x ∷ ways) le a few =
    (omega (arith, le, a.0), omega (arith, few), subst (λ o. IsHoleIn o None) (sym a.1.1) tt, are_holes (k + 1) (x.pc + 1) low count code ways (omega (arith, le, a.0)) a.2 (omega (arith, few)))

-- a later way's jump stands behind
ascending : (from : ℕ) (code : List Instr) (ways : List Way) (i j : ℕ) (x y : Way) → AreOpen from code ways → slice_get ways i ≡ Some x → slice_get ways j ≡ Some y → i < j → x.pc < y.pc
ascending from code [] i j x y a e f lt = absurd cc
ascending from code (z ∷ ways) i zero x y a e f lt = absurd (omega (arith, lt))
ascending from code (z ∷ ways) zero (suc j) x y a e f lt =
    let r = open_within (z.pc + 1) code ways j y a.2 f in let s = ap (λ (w : Way). w.pc) (same_Some z x e) in omega (arith, r.0, s)
ascending from code (z ∷ ways) (suc i) (suc j) x y a e f lt = ascending (z.pc + 1) code ways i j x y a.2 e f (omega (arith, lt))

pub of_one_way : (from : ℕ) (code : List Instr) (ways : List Way) → AreOpen from code ways → AreOfOneWay (holes_from 0 ways)
of_one_way from code ways a h k i j same arm =
    let x = hole_of 0 ways i.0 h i.1 in
    let y = hole_of 0 ways j.0 k j.1 in
    let pcs : x.way.pc ≡ y.way.pc = ap (λ (q : Hole). q.pc) (sym x.is_hole) ∙ same ∙ ap (λ (q : Hole). q.pc) y.is_hole in
    let lx : h.leaf ≡ 0 + x.number = ap (λ (q : Hole). q.leaf) x.is_hole in
    let ly : k.leaf ≡ 0 + y.number = ap (λ (q : Hole). q.leaf) y.is_hole in
    elim (three x.number y.number) [
      | inl e ↦ lx ∙ ap (λ n. 0 + n) e ∙ sym ly
      | inr (inl lt) ↦ (let z = ascending from code ways x.number y.number x.way y.way a x.is_way y.is_way lt in absurd (omega (arith, z, pcs)))
      | inr (inr lt) ↦ (let z = ascending from code ways y.number x.number y.way x.way a y.is_way x.is_way lt in absurd (omega (arith, z, pcs)))
    ]
  where
    three : (p q : ℕ) → (p ≡ q) ⊎ ((p < q) ⊎ (q < p))
    three zero zero = inl refl
    three zero (suc q) = inr (inl (omega arith))
    three (suc p) zero = inr (inr (omega arith))
    three (suc p) (suc q) = elim (three p q) [ inl e ↦ inl (ap suc e) | inr (inl lt) ↦ inr (inl (omega (arith, lt))) | inr (inr lt) ↦ inr (inr (omega (arith, lt))) ]
