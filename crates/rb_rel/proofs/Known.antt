-- What constant parts say of the bits of a word.
use Rattle.std.proofs.Common.{◌≡◌, ℕ, zero, suc, ◌+◌, ◌-◌, ◌*◌, ◌<◌, ◌&&◌, List, [], ◌∷◌, Bool, true, false, Option, Some, None, refl, sym, ap, ◌∙◌, arith}
use Rattle.std.specs.Prelude.{slice_get, leb, ltb, if◌then◌else◌}
use Rattle.std.specs.Option.{option_or}
use Rattle.std.specs.Int.{bit_at}
use Rattle.std.proofs.lemmas.Bool.{and_parts}
use Rattle.std.proofs.lemmas.Option.{same_Some}
use Rattle.std.proofs.lemmas.Grind.{common_steps}
use Rattle.rb_bits.specs.Words.{take_of}
use Rattle.rb_bits.proofs.WordLemmas.{bit_at_take}
use Rattle.rb_layout.specs.declared.layout.Part.{Part}
use Rattle.rb_layout.specs.declared.layout.Kind.{Kind}
use Rattle.rb_layout.specs.declared.layout.Kind.TheVariants.{Const, Bits, Word, Pointer}
use Rattle.rb_layout.specs.Locations.{bit_of_kind, bit_of_part, constant_bit, with_bit, constant_bits}
use Rattle.rb_rel.specs.Relation.{HoldsKind, PartHolds}
use Rattle.rb_rel.proofs.Bits.{take_suc, take_none}
use Rattle.rb_rel.proofs.Reading.{leb_is}

-- the bits of constant parts are read as such
const_is : (subs : List ℕ → List ℕ) (ats : ℕ → ℕ) (n l i b : ℕ) (k : Kind) → HoldsKind subs ats n l k → bit_of_kind k i ≡ Some b → bit_at n i ≡ b
const_is subs ats n l i b (Const c) h e = ap (λ x. bit_at x i) h ∙ same_Some _ _ e
const_is subs ats n l i b (Bits path a) h e = absurd cc
const_is subs ats n l i b (Word path j) h e = absurd cc
const_is subs ats n l i b (Pointer align x) h e = absurd cc

chosen_of : {A : Type 0} (t : Bool) (x : Option A) (y : A) → (if t then x else None) ≡ Some y → (t ≡ true) × (x ≡ Some y)
chosen_of true x y e = (refl, e)
chosen_of false x y e = absurd cc

pub ltb_is : (a b : ℕ) → ltb a b ≡ true → a < b
ltb_is a b e = grind (arith, common_steps)

bit_of_part-is : (subs : List ℕ → List ℕ) (ats : ℕ → ℕ) (w i b : ℕ) (p : Part) → PartHolds subs ats w p → bit_of_part p i ≡ Some b → bit_at w i ≡ b
bit_of_part-is subs ats w i b p h e =
    let c = chosen_of (leb p.o i && ltb i (p.o + p.l)) (bit_of_kind p.kind (i - p.o)) b e in
    let t = and_parts (leb p.o i) (ltb i (p.o + p.l)) c.0 in
    let lo = leb_is p.o i t.0 in
    let hi = ltb_is i (p.o + p.l) t.1 in
    let at : p.o + (i - p.o) ≡ i = omega arith in
    ap (λ k. bit_at w k) (sym at) ∙ sym (bit_at_take w p.o p.l (i - p.o) (omega arith)) ∙ const_is subs ats (take_of w p.o p.l) p.l (i - p.o) b p.kind h c.1

module _ (subs : List ℕ → List ℕ) (ats : ℕ → ℕ) (w : ℕ) where
  abbrev AllHold : List Part → Type 0
  AllHold ps = (k : ℕ) (p : Part) → slice_get ps k ≡ Some p → PartHolds subs ats w p

  pub constant_bit-is : (ps : List Part) (i b : ℕ) → AllHold ps → constant_bit ps i ≡ Some b → bit_at w i ≡ b
  constant_bit-is [] i b h = λ e. absurd cc
  constant_bit-is (p ∷ ps) i b h =
      let P : Option ℕ → Type 0 = λ x. bit_of_part p i ≡ x → option_or x (constant_bit ps i) ≡ Some b → bit_at w i ≡ b in
      (elim (bit_of_part p i) as P [
        | None ↦ λ is e. constant_bit-is ps i b (λ k q at. h (suc k) q at) e
        | Some x ↦ λ is e. bit_of_part-is subs ats w i b p (h 0 p refl) (is ∙ e)
      ]) refl

  known_step : (ps : List Part) (l o c : ℕ) → AllHold ps → (b r : Option ℕ) → constant_bit ps o ≡ b
      → ((d : ℕ) → AllHold ps → constant_bits ps (o + 1) l ≡ Some d → take_of w (o + 1) l ≡ d)
      → constant_bits ps (o + 1) l ≡ r → with_bit b r ≡ Some c → take_of w o (suc l) ≡ c
  known_step ps l o c h None r isb ih isr e = absurd cc
  known_step ps l o c h (Some b) None isb ih isr e = absurd cc
  known_step ps l o c h (Some b) (Some d) isb ih isr e =
      let x = constant_bit-is ps o b h isb in
      let y = ih d h isr in
      let z : b + 2 * d ≡ c = same_Some _ _ e in
      take_suc w o l ∙ (let q : bit_at w o + 2 * take_of w (o + 1) l ≡ c = omega (arith, x, y, z) in q)

  pub constant_bits-is : (ps : List Part) (l o c : ℕ) → AllHold ps → constant_bits ps o l ≡ Some c → take_of w o l ≡ c
  constant_bits-is ps zero o c h e = take_none w o ∙ same_Some _ _ e
  constant_bits-is ps (suc l) o c h e = known_step ps l o c h (constant_bit ps o) (constant_bits ps (o + 1) l) refl (constant_bits-is ps l (o + 1)) refl e
