-- Whether an image is sound from a place on, and the first fault that it has there: outer places before inner ones,
-- from left to right. It stands over what each place comes to by itself: its own fault, or the places below it. A
-- place is the number of a data type, and the words at which a value of it is to stand.
use Rattle.std.specs.Prelude.{◌≡◌, ◌⊎◌, ◌<◌, ℕ, List, Result, Ok, Err, Some, slice_get}
use Rattle.rb_image_text.specs.declared.fault.ImageFault.{ImageFault}
use Rattle.rb_image_text.specs.declared.fault.ImageFault.TheVariants.{Memory}
use Rattle.rb_image.specs.Parts.{At}

-- what a place comes to by itself: the places below it, from left to right, or its own fault
abbrev pub Looking : Type 0
Looking = At → Result (List At) ImageFault

-- a place has no fault of its own, and each place below it is sound
pub data IsSound (look : Looking) : At → Type 0 where
  sound : (p : At) (below : List At) → look p ≡ Ok below
      → ((k : ℕ) (q : At) → slice_get below k ≡ Some q → IsSound look q) → IsSound look p

-- the first fault from a place on: its own, or that of the first place below it that is not sound
pub data HasFault (look : Looking) : At → ImageFault → Type 0 where
  own : (p : At) (fault : ImageFault) → look p ≡ Err fault → HasFault look p fault
  inner : (p : At) (below : List At) (k : ℕ) (q : At) (fault : ImageFault) → look p ≡ Ok below
      → slice_get below k ≡ Some q
      → ((j : ℕ) (r : At) → j < k → slice_get below j ≡ Some r → IsSound look r) → HasFault look q fault
      → HasFault look p fault

-- a result is the fault that is due, or want of memory
abbrev pub IsFault : {A : Type 0} → ImageFault → Result A ImageFault → Type 0
IsFault due (Ok a) = ⊥
IsFault due (Err fault) = (fault ≡ due) ⊎ (fault ≡ Memory)

-- a result is no fault, or want of memory
abbrev pub IsFineResult : {A : Type 0} → Result A ImageFault → Type 0
IsFineResult (Ok a) = Unit {0}
IsFineResult (Err fault) = fault ≡ Memory
