-- Results for which want of memory may stand. What is due is what the equations give: a value, or a fault. `view`
-- shows what the code gives as such a value.
use Rattle.std.specs.Prelude.{◌≡◌, ◌⊎◌, Result, Ok, Err}
use Rattle.rb_image_text.specs.declared.fault.ImageFault.{ImageFault}
use Rattle.rb_image_text.specs.declared.fault.ImageFault.TheVariants.{Memory}

-- a result of the code, given last, is what is due, as `view` shows it, or the fault that is due; or it is want of
-- memory, whatever else is due
abbrev pub IsGiven : {A B : Type 0} → (B → A) → Result A ImageFault → Result B ImageFault → Type 0
IsGiven view (Ok a) (Ok b) = view b ≡ a
IsGiven view (Ok a) (Err fault) = fault ≡ Memory
IsGiven view (Err due) (Ok b) = ⊥
IsGiven view (Err due) (Err fault) = (fault ≡ due) ⊎ (fault ≡ Memory)
