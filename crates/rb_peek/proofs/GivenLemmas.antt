-- What is given where something else comes first.
use Rattle.std.proofs.Common.{◌≡◌, inl, inr, Result, Ok, Err, sym, subst, ap}
use Rattle.rb_image_text.specs.declared.fault.ImageFault.{ImageFault}
use Rattle.rb_image_text.specs.declared.fault.ImageFault.TheVariants.{Memory}
use Rattle.rb_image.specs.Given.{IsGiven}
use Rattle.rb_image.specs.Splits.{and_then}
use Rattle.rb_peek.proofs.WayLemmas.{err_given}

-- what is given is what is due
pub due_is : {A B : Type 0} (view : B → A) (due : Result A ImageFault) (b : B) → IsGiven view due (Ok b) → due ≡ Ok (view b)
due_is view (Ok a) b given = ap (λ x. Ok x) (sym given)
due_is view (Err e) b given = absurd given

pub fault_is : {A B : Type 0} (view : B → A) (due : Result A ImageFault) (f : ImageFault) → IsGiven view due (Err f) → (f ≡ Memory → ⊥) → due ≡ Err f
fault_is view (Ok a) f given other = absurd (other given)
fault_is view (Err e) f (inl same) other = ap (λ x. Err x) (sym same)
fault_is view (Err e) f (inr wanting) other = absurd (other wanting)

-- a fault of what comes first
pub first_err : {A B C D : Type 0} (view : B → A) (last : D → C) (due : Result C ImageFault) (first : Result A ImageFault) (go : A → Result C ImageFault) (f : ImageFault)
    → due ≡ and_then first go → IsGiven view first (Err f) → IsGiven last due (Err f)
first_err {A} {B} {C} {D} view last due first go f is given = subst (λ (d : Result C ImageFault). IsGiven last d (Err f)) (sym is) (err_given view last first go f given)
