-- What finished code owes to code with holes: patching takes a hole away, appending keeps all.
use Rattle.std.proofs.Common.{◌≡◌, ◌≢◌, ℕ, ◌<◌, ◌≤◌, Bool, true, false, eqb, List, length, Option, Some, refl, sym, subst, ap, ◌∙◌, arith}
use Rattle.std.specs.Prelude.{slice_get}
use Rattle.rb_target.specs.declared.instr.Instr.{Instr}
use Rattle.rb_target.specs.declared.body.Hole.{Hole}
use Rattle.rb_target.specs.Sheet.{Sheet, with_target_at}
use Rattle.rb_target.specs.Growth.{AgreesBut, Nowhere, Grows}
use Rattle.rb_target.specs.Targets.{without_targets_in, target_in, IsHoleAmong, IsOpenTarget, AgreesAt, Finishes}
use Rattle.rb_target.proofs.Shapes.{IsPatched}

-- the same place in code of which less is open
pub agrees-sub : (final code code' : List Instr) (hs hs' : List Hole) (q : ℕ) → slice_get code' q ≡ slice_get code q → ((arm : Option ℕ) → IsOpenTarget hs' q arm → IsOpenTarget hs q arm) → AgreesAt final code' hs' q → AgreesAt final code hs q
agrees-sub final code code' hs hs' q same sub a = record {
  same = λ no. a.same (λ arm o. no arm (sub arm o)) ∙ same;
  shapes = a.shapes ∙ ap without_targets_in same;
  targets = λ arm no. a.targets arm (λ o. no (sub arm o)) ∙ ap (λ i. target_in i arm) same;
}

-- code without holes that is finished is finished code, whatever holes there are elsewhere
pub finishes_plain : (final code : List Instr) (hs : List Hole) (a b : ℕ) → AgreesBut final code a b Nowhere → Finishes final code hs a b
finishes_plain final code hs a b e = λ q lo hi.
    let is = e.same q lo hi (λ x. x) in
    record { same = λ no. is; shapes = ap without_targets_in is; targets = λ arm no. ap (λ i. target_in i arm) is }

-- an earlier part
pub finishes_part : (final code more : List Instr) (hs : List Hole) (a b a1 b1 : ℕ) → Grows code more → a ≤ a1 → b1 ≤ b → b1 ≤ length code → Finishes final more hs a b → Finishes final code hs a1 b1
finishes_part final code more hs a b a1 b1 g lo1 hi1 within f = λ q lo hi.
    agrees-sub final code more hs hs q (g.same q (omega (arith, hi, within))) (λ arm o. o) (f q (omega (arith, lo, lo1)) (omega (arith, hi, hi1)))

-- A target that is set: the code before it has one hole more, and that hole's target is known.
module _ (final : List Instr) (b : Sheet) (h : Hole) (t : ℕ) (p : IsPatched b h t (with_target_at b h t)) (hs hs' : List Hole) (sub : (x : Hole) → IsHoleAmong x hs' → IsHoleAmong x hs) (hole : IsHoleAmong h hs) (lo hi : ℕ) (f : Finishes final (with_target_at b h t).code hs' lo hi) where
  fewer : (q : ℕ) (arm : Option ℕ) → IsOpenTarget hs' q arm → IsOpenTarget hs q arm
  fewer q arm o = (o.0, sub o.0 o.1, o.2, o.3)

  at_patched : (q : ℕ) → lo ≤ q → q < hi → (u : Bool) → eqb q h.pc ≡ u → AgreesAt final b.code hs q
  at_patched q le lt true e =
      let same : h.pc ≡ q = grind arith in
      let a = f q le lt in
      let a1 = subst (λ n. AgreesAt final (with_target_at b h t).code hs' n) (sym same) a in
      subst (λ n. AgreesAt final b.code hs n) same (record {
        same = λ no. absurd (no h.arm (h, hole, refl, refl));
        shapes = a1.shapes ∙ p.shapes;
        targets = λ arm no. a1.targets arm (λ o. no (fewer h.pc arm o)) ∙ p.others arm (λ s. no (h, hole, refl, sym s));
      })
  at_patched q le lt false e =
      let ne : q ≢ h.pc = grind arith in
      let a = f q le lt in
      record {
        same = λ no. a.same (λ arm o. no arm (fewer q arm o)) ∙ p.elsewhere q ne;
        shapes = a.shapes ∙ ap without_targets_in (p.elsewhere q ne);
        targets = λ arm no. a.targets arm (λ o. no (fewer q arm o)) ∙ ap (λ i. target_in i arm) (p.elsewhere q ne);
      }

  pub finishes_patched : Finishes final b.code hs lo hi
  finishes_patched = λ q le lt. at_patched q le lt (eqb q h.pc) refl

  pub leads_patched : lo ≤ h.pc → h.pc < hi → (IsOpenTarget hs' h.pc h.arm → ⊥) → target_in (slice_get final h.pc) h.arm ≡ Some t
  leads_patched le lt shut = (f h.pc le lt).targets h.arm shut ∙ p.target
