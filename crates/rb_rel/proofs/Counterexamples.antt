-- What represents nothing, or not cleanly.
use Rattle.std.proofs.Common.{◌≡◌, ℕ, zero, suc, ◌<◌, List, [], ◌∷◌, Bool, true, false, Some, None, refl, sym, subst, ap, arith}
use Rattle.std.specs.Prelude.{slice_get}
use Rattle.std.specs.Int.{bit_at}
use Rattle.std.proofs.lemmas.Option.{same_Some}
use Rattle.rb_bits.specs.Words.{take_of}
use Rattle.rb_core.specs.declared.types.Ty.TheVariants.{Named}
use Rattle.rb_core.proofs.ValueLaws.{value_rules}
use Rattle.rb_core.proofs.MatchingForms.{matching_rules}
use Rattle.rb_layout.specs.declared.layout.Leaf.{Leaf}
use Rattle.rb_layout.specs.declared.layout.Part.{Part}
use Rattle.rb_layout.specs.declared.layout.Kind.TheVariants.{Const, Pointer}
use Rattle.rb_layout.specs.A3.{IsIn}
use Rattle.rb_layout.specs.FreeBits.{IsFree}
use Rattle.rb_layout.specs.Positions.{leaf_of}
use Rattle.rb_rel.specs.Relation.{Represents, WordHolds}
use Rattle.rb_rel.proofs.Represented.{opened, made_leaf}
use Rattle.rb_rel.proofs.Examples.{list, lists, list_image, list_layout, cons_leaf, one_two, part, word, tree, trees, tree_image, color_layout, red_leaf, red}

abbrev cons_parts : List Part
cons_parts = part 0 1 (Const 0) ∷ part 3 61 (Pointer 8 0) ∷ []

-- the root word of a represented list that is a pair holds
root_holds : (clean : Bool) (w : ℕ) → Represents list lists list_image clean (Named 0) one_two (w ∷ [])
    → (subs : List ℕ → List ℕ) × (ats : ℕ → ℕ) × WordHolds subs ats clean (word 64 cons_parts) w
root_holds clean w r =
    let b = (opened list lists list_image clean r).made in
    let is_leaf : leaf_of list_layout one_two ≡ Some 1 = simp (matching_rules, value_rules) in
    let e = made_leaf list lists list_image clean 0 one_two (w ∷ []) b list_layout 1 cons_leaf refl is_leaf refl in
    let h = b.placed.words (record { block = None; word = 0 }) (word 64 cons_parts) (ap (λ (y : Leaf). slice_get y.root 0) e) in
    let same : w ≡ h.0 = same_Some w h.0 h.1 in
    (b.subs, b.ats, subst (λ x. WordHolds b.subs b.ats clean (word 64 cons_parts) x) (sym same) h.2)

-- bit 1 stands in no part
bit_free : IsFree (word 64 cons_parts) 1
bit_free = record { inside = omega arith; outside = outside }
  where
    outside : (k : ℕ) (p : Part) → slice_get cons_parts k ≡ Some p → IsIn p.o p.l 1 → ⊥
    outside zero p e i = let o = ap (λ (y : Part). y.o) (same_Some _ p e) in let l = ap (λ (y : Part). y.l) (same_Some _ p e) in omega (arith, o, l, i.0, i.1)
    outside (suc zero) p e i = let o = ap (λ (y : Part). y.o) (same_Some _ p e) in let l = ap (λ (y : Part). y.l) (same_Some _ p e) in omega (arith, o, l, i.0, i.1)
    outside (suc (suc k)) p e i = cc

-- padding that is not 0 is not clean
dirty_padding : Represents list lists list_image true (Named 0) one_two (0x52 ∷ []) → ⊥
dirty_padding r = let h = root_holds true 0x52 r in let z : bit_at 0x52 1 ≡ 0 = h.2.free refl 1 bit_free in absurd cc

-- an address with its tag on is not that of a pair
tagged : Represents list lists list_image false (Named 0) one_two (0x51 ∷ []) → ⊥
tagged r = let h = root_holds false 0x51 r in let z : take_of 0x51 0 1 ≡ 0 = h.2.parts 0 (part 0 1 (Const 0)) refl in absurd cc

-- a word over its width represents nothing
over_width : Represents tree trees tree_image false (Named 0) red (2 ∷ []) → ⊥
over_width r =
    let b = (opened tree trees tree_image false r).made in
    let is_leaf : leaf_of color_layout red ≡ Some 0 = simp (matching_rules, value_rules) in
    let e = made_leaf tree trees tree_image false 0 red (2 ∷ []) b color_layout 0 red_leaf refl is_leaf refl in
    let h = b.placed.words (record { block = None; word = 0 }) (word 1 (part 0 1 (Const 0) ∷ [])) (ap (λ (y : Leaf). slice_get y.root 0) e) in
    let same : 2 ≡ h.0 = same_Some 2 h.0 h.1 in
    let fits : h.0 < 2 = h.2.fits in omega (arith, same, fits)
