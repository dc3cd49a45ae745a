-- A place is sound or has one first fault, and not both.
use Rattle.std.proofs.Common.{◌≡◌, inl, inr, List, Result, Ok, Err, sym, subst, ap, ◌∙◌, arith}
use Rattle.std.specs.Prelude.{slice_get}
use Rattle.std.proofs.lemmas.Bool.{cases_lt}
use Rattle.std.proofs.lemmas.Option.{same_Some}
use Rattle.rb_image_text.specs.declared.fault.ImageFault.{ImageFault}
use Rattle.rb_image.specs.Parts.{At}
use Rattle.rb_image.specs.Sound.{Looking, IsSound, sound, HasFault, own, inner, IsFault}
use Rattle.rb_image.specs.inner.Descending.{SoundnessIsFound}

same_Ok : (ps qs : List At) → ◌≡◌ {A = Result (List At) ImageFault} (Ok ps) (Ok qs) → ps ≡ qs
same_Ok ps qs e = cc

same_Err : (f g : ImageFault) → ◌≡◌ {A = Result (List At) ImageFault} (Err f) (Err g) → f ≡ g
same_Err f g e = cc

not_both : (ps : List At) (f : ImageFault) → ◌≡◌ {A = Result (List At) ImageFault} (Ok ps) (Err f) → ⊥
not_both ps f e = absurd cc

module _ (look : Looking) where
  pub no_fault : {p : At} → IsSound look p → (f : ImageFault) → HasFault look p f → ⊥
  no_fault (sound p below at all) f (own q g e) = not_both below f (sym at ∙ e)
  no_fault (sound p below at all) f (inner q others k r g e is before h) =
      no_fault (all k r (ap (λ ps. slice_get ps k) (same_Ok below others (sym at ∙ e)) ∙ is)) f h

  pub one_fault : {p : At} {f : ImageFault} → HasFault look p f → (g : ImageFault) → HasFault look p g → f ≡ g
  one_fault (own p f e) g (own q h d) = same_Err f g (sym e ∙ d)
  one_fault (own p f e) g (inner q others k r h d is before x) = absurd (not_both others f (sym d ∙ e))
  one_fault (inner p below k q f e is before x) g (own r h d) = absurd (not_both below g (sym e ∙ d))
  one_fault (inner p below k q f e is before x) g (inner s others j r h d at earlier y) =
      let same : below ≡ others = same_Ok below others (sym e ∙ d) in
      elim (cases_lt k j) [
        | inl lt ↦ absurd (no_fault (earlier k q lt (ap (λ ps. slice_get ps k) (sym same) ∙ is)) f x)
        | inr le ↦ elim (cases_lt j k) [
          | inl lt ↦ absurd (no_fault (before j r lt (ap (λ ps. slice_get ps j) same ∙ at)) g y)
          | inr ge ↦ let e1 : j ≡ k = omega (arith, le, ge) in
              let e2 : r ≡ q = same_Some r q (sym at ∙ ap (λ ps. slice_get ps j) (sym same) ∙ ap (λ n. slice_get below n) e1 ∙ is) in
              one_fault x g (subst (λ u. HasFault look u g) e2 y)
        ]
      ]

  -- so the fault that is there is given
  pub fault_given : {A : Type 0} (p : At) (r : Result A ImageFault) → SoundnessIsFound look p r → (f : ImageFault) → HasFault look p f → IsFault f r
  fault_given p (Ok a) found f h = absurd (no_fault found f h)
  fault_given p (Err g) (inl x) f h = inl (one_fault x f h)
  fault_given p (Err g) (inr none) f h = inr none
