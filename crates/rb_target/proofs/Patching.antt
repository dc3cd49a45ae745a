-- Changing one target.
use Rattle.std.proofs.Common.{◌≡◌, ℕ, zero, suc, ◌<◌, List, [], ◌∷◌, length, get_or, Some, refl, sym, ap, ◌∙◌, arith}
use Rattle.std.specs.Prelude.{slice_get, slice_set}
use Rattle.rb_target.specs.Sheet.{Sheet, with_one_target, with_arm_target, with_instr, with_target_at}
use Rattle.rb_target.specs.declared.instr.SwitchArm.{SwitchArm}
use Rattle.rb_target.specs.declared.instr.Instr.{Instr}
use Rattle.rb_target.specs.declared.body.Hole.{Hole}

abbrev with_target : SwitchArm → ℕ → SwitchArm
with_target arm t = record arm { target = t }

pub arm_set : (arms : List SwitchArm) (k t : ℕ) (d : SwitchArm) → k < length arms → slice_set arms k (with_target (get_or arms k d) t) ≡ with_arm_target arms k t
arm_set [] k t d lt = refl
arm_set (arm ∷ arms) zero t d lt = refl
arm_set (arm ∷ arms) (suc k) t d lt = ap (λ rest. arm ∷ rest) (arm_set arms k t d (omega arith))

set_twice : (xs : List Instr) (i : ℕ) (x y : Instr) → slice_set (slice_set xs i x) i y ≡ slice_set xs i y
set_twice [] i x y = refl
set_twice (z ∷ xs) zero x y = refl
set_twice (z ∷ xs) (suc i) x y = ap (λ l. z ∷ l) (set_twice xs i x y)

-- taking an instruction out, changing it and putting it back
pub code_patched : (b s : Sheet) (c1 c2 : List Instr) (h : Hole) (t : ℕ) (old j new : Instr) → b ≡ s → slice_get b.code h.pc ≡ Some old
    → c1 ≡ slice_set b.code h.pc j → new ≡ with_one_target old h.arm t → c2 ≡ slice_set c1 h.pc new
    → ◌≡◌ {A = Sheet} (record b { code = c2 }) (with_target_at s h t)
code_patched b s c1 c2 h t old j new same at e1 en e2 =
    ap (λ (l : List Instr). let r : Sheet = record b { code = l } in r)
    (e2 ∙ ap (λ i. slice_set c1 h.pc i) en ∙ ap (λ l. slice_set l h.pc (with_one_target old h.arm t)) e1
    ∙ set_twice b.code h.pc j (with_one_target old h.arm t) ∙ sym (ap (λ o. with_instr o b.code h t) at))
    ∙ ap (λ x. with_target_at x h t) same
