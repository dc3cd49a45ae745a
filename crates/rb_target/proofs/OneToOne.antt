-- Valid code can stand in a text, and its text determines it.
use Rattle.std.proofs.Common.{◌≡◌, ℕ, zero, suc, ◌<◌, ◌≤◌, ◌^◌, ◌⊎◌, List, [], ◌∷◌, ◌++◌, length, All, Option, Some, None, refl, arith}
use Rattle.std.specs.Prelude.{slice_get, IfSome}
use Rattle.std.proofs.lemmas.List.Elements.{All-head, All-tail}
use Rattle.std.proofs.lemmas.Option.{slice_get_within}
use Rattle.rb_target.proofs.SpelledForms.{AreShort, IsFit, AreFit, IsFitFun, AreFitFuns, fit_funs}
use Rattle.rb_target.proofs.StopLemmas.{one_text}
use Rattle.rb_target.specs.Spelled.{IsShort, AreSpelled}
use Rattle.rb_target.specs.Text.{numbers, pairs, other_word, line_words, code_text}
use Rattle.rb_target.specs.Validity.{AreSlots, IsTarget, AreArms, FitsCall, IsFine, IsValidFun, IsValid}
use Rattle.rb_target.specs.declared.instr.SwitchArm.{SwitchArm}
use Rattle.rb_target.specs.declared.instr.Instr.{Instr}
use Rattle.rb_target.specs.declared.instr.Instr.TheVariants.{Const, Copy, Alu, Take, Put, Load, Store, Place, Jump, Switch, Call, Return}
use Rattle.rb_target.specs.declared.word.LineWord.{LineWord}
use Rattle.rb_target.specs.declared.word.LineWord.TheVariants.{Of}
use Rattle.rb_target.specs.declared.code.CodeFun.{CodeFun}

-- The words of valid code are short ------------------------------------------------------------

slots_short : (n : ℕ) (xs : List ℕ) (rest : List LineWord) → n < 2 ^ 64 → AreSlots n xs → AreShort rest → AreShort (numbers xs ++ rest)
slots_short n [] rest small all short = short
slots_short n (x ∷ xs) rest small all short =
    let one = All-head (λ a. a < n) x xs all in
    (omega (arith, one), slots_short n xs rest small (All-tail (λ a. a < n) x xs all) short)

slots_alone : (n : ℕ) (xs : List ℕ) → n < 2 ^ 64 → AreSlots n xs → AreShort (numbers xs)
slots_alone n [] small all = tt
slots_alone n (x ∷ xs) small all =
    let one = All-head (λ a. a < n) x xs all in
    (omega (arith, one), slots_alone n xs small (All-tail (λ a. a < n) x xs all))

arms_short : (long pc : ℕ) (arms : List SwitchArm) → long < 2 ^ 64 → All (λ (arm : SwitchArm). arm.number < 2 ^ 64) arms → AreArms long pc arms → AreShort (pairs arms)
arms_short long pc [] small ns ts = tt
arms_short long pc (arm ∷ arms) small ns ts =
    let target = (All-head (λ (arm : SwitchArm). IsTarget long pc arm.target) arm arms ts).1 in (
      All-head (λ (arm : SwitchArm). arm.number < 2 ^ 64) arm arms ns,
      (
        omega (arith, target),
        arms_short long pc arms small (All-tail (λ (arm : SwitchArm). arm.number < 2 ^ 64) arm arms ns) (All-tail (λ (arm : SwitchArm). IsTarget long pc arm.target) arm arms ts),
      ),
    )

other_short : (long pc : ℕ) (other : Option ℕ) → long < 2 ^ 64 → IfSome other (λ t. IsTarget long pc t) → IsShort (other_word other)
other_short long pc None small h = tt
other_short long pc (Some t) small h = let target = h.1 in omega (arith, target)

known_callee : (funs : List CodeFun) (f : ℕ) (o : Option CodeFun) (ds froms : List ℕ) → slice_get funs f ≡ o → FitsCall o ds froms → f < length funs
known_callee funs f None ds froms e fits = absurd fits
known_callee funs f (Some g) ds froms e fits = slice_get_within funs f g e

align_small : (align k : ℕ) → k ≤ 6 → align ≡ 2 ^ k → align < 2 ^ 64
align_small align zero le e = omega (arith, e)
align_small align (suc zero) le e = omega (arith, e)
align_small align (suc (suc zero)) le e = omega (arith, e)
align_small align (suc (suc (suc zero))) le e = omega (arith, e)
align_small align (suc (suc (suc (suc zero)))) le e = omega (arith, e)
align_small align (suc (suc (suc (suc (suc zero))))) le e = omega (arith, e)
align_small align (suc (suc (suc (suc (suc (suc zero)))))) le e = omega (arith, e)
align_small align (suc (suc (suc (suc (suc (suc (suc k))))))) le e = absurd (omega (arith, le))

width_small : (width : ℕ) → (width ≡ 8) ⊎ (width ≡ 16) ⊎ (width ≡ 32) ⊎ (width ≡ 64) → width < 2 ^ 64
width_small width h = grind arith

module _ (funs : List CodeFun) (few : length funs < 2 ^ 64) (f : CodeFun) (small : (f.slots < 2 ^ 64) × (f.results < 2 ^ 64) × (length f.body < 2 ^ 64)) (pc : ℕ) where
  instr_short : (i : Instr) → IsFine funs f pc i → AreShort (line_words i)
  instr_short (Const d c) fine = (omega (arith, fine.slots, small.0), (fine.bounded, tt))
  instr_short (Copy d a) fine = (omega (arith, fine.slots.0, small.0), (omega (arith, fine.slots.1, small.0), tt))
  instr_short (Alu op n d a b) fine = (tt, (omega (arith, fine.bounded.1), (omega (arith, fine.slots.0, small.0), (omega (arith, fine.slots.1, small.0), (omega (arith, fine.slots.2, small.0), tt)))))
  instr_short (Take d a o l) fine = (omega (arith, fine.slots.0, small.0), (omega (arith, fine.slots.1, small.0), (omega (arith, fine.bounded.1), (omega (arith, fine.bounded.1), tt))))
  instr_short (Put d a o l) fine = (omega (arith, fine.slots.0, small.0), (omega (arith, fine.slots.1, small.0), (omega (arith, fine.bounded.1), (omega (arith, fine.bounded.1), tt))))
  instr_short (Load d a offset width) fine = (omega (arith, fine.slots.0, small.0), (omega (arith, fine.slots.1, small.0), (omega (arith, fine.bounded.0), (width_small width fine.bounded.1, tt))))
  instr_short (Store a offset width v) fine = (omega (arith, fine.slots.0, small.0), (omega (arith, fine.bounded.0), (width_small width fine.bounded.1, (omega (arith, fine.slots.1, small.0), tt))))
  instr_short (Place d size align) fine = (omega (arith, fine.slots, small.0), (omega (arith, fine.bounded.0.1), (align_small align fine.bounded.1.0 fine.bounded.1.1 fine.bounded.1.2, tt)))
  instr_short (Jump t) fine = (omega (arith, fine.targets.1, small.2), tt)
  instr_short (Switch a other arms) fine =
      (omega (arith, fine.slots, small.0), (other_short (length f.body) pc other small.2 fine.targets.0, arms_short (length f.body) pc arms small.2 fine.bounded fine.targets.1))
  instr_short (Call g ds froms) fine = (
    omega (arith, known_callee funs g (slice_get funs g) ds froms refl fine.calls, few),
    slots_short f.slots ds (Of ∷ numbers froms) small.0 fine.slots.0 (tt, slots_alone f.slots froms small.0 fine.slots.1),
  )
  instr_short (Return froms) fine = slots_alone f.slots froms small.0 fine.slots

-- Functions ------------------------------------------------------------------------------------

body_fit : (is : List Instr) → ((pc : ℕ) (i : Instr) → slice_get is pc ≡ Some i → IsFit i) → AreFit is
body_fit [] h = tt
body_fit (i ∷ is) h = (h zero i refl, body_fit is (λ pc j e. h (suc pc) j e))

fun_fit : (funs : List CodeFun) → length funs < 2 ^ 64 → (f : CodeFun) → IsValidFun funs f → IsFitFun f
fun_fit funs few f valid = record {
  named = valid.named;
  counts = (omega (arith, valid.params, valid.small.0), valid.small.1, valid.small.0);
  body = body_fit f.body (λ pc i is. record { bounded = (valid.each pc i is).bounded; short = instr_short funs few f valid.small pc i (valid.each pc i is) });
}

funs_fit_by : (fs : List CodeFun) → ((n : ℕ) (f : CodeFun) → slice_get fs n ≡ Some f → IsFitFun f) → AreFitFuns fs
funs_fit_by [] h = tt
funs_fit_by (f ∷ fs) h = (h zero f refl, funs_fit_by fs (λ n g e. h (suc n) g e))

pub valid_spelled : (fs : List CodeFun) → IsValid fs → AreSpelled fs
valid_spelled fs valid = fit_funs fs (funs_fit_by fs (λ n f e. fun_fit fs valid.few f (valid.each n f e)))

pub one_to_one : (fs gs : List CodeFun) → IsValid fs → IsValid gs → code_text gs ≡ code_text fs → gs ≡ fs
one_to_one fs gs vf vg e = one_text gs fs (valid_spelled gs vg) (valid_spelled fs vf) e
