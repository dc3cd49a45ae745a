-- What lists of borrowed parts come to, and what a step leaves.
use Rattle.std.specs.Prelude.{◌≡◌, List, map, Result, Ok, Err}
use Rattle.std.specs.Borrow.{Bor}
use Rattle.rb_layout.specs.declared.layout.Part.{Part}
use Rattle.rb_image_text.specs.declared.fault.ImageFault.{ImageFault}

-- the parts that are borrowed, in their order
abbrev pub parts_of : List (Bor Part) → List Part
parts_of parts = map (λ (p : Bor Part). p.now) parts

-- a step that is done leaves `new` as what is due; one that is not gives the fault that is due
abbrev pub EndsAsDue : {A B : Type 0} → Result A ImageFault → A → Result B ImageFault → Type 0
EndsAsDue (Ok a) new (Ok done) = new ≡ a
EndsAsDue (Ok a) new (Err fault) = ⊥
EndsAsDue (Err due) new (Ok done) = ⊥
EndsAsDue (Err due) new (Err fault) = fault ≡ due
