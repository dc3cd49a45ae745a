-- That a descent ends, and how many steps it takes where no place is known before. A descent looks at a place and at
-- all places below it. A place is the number of a data type, and the words at which a value of it is to stand.
-- `look` gives the places right below one, or its own fault, at which a descent ends. A step is a look at a place,
-- or a note that one is sound.
use Rattle.std.specs.Prelude.{◌≡◌, ℕ, zero, suc, ◌+◌, ◌*◌, List, [], ◌∷◌, length, None, Result, Ok, Err}
use Rattle.std.specs.List.{AllByRecursion}
use Rattle.rb_core.specs.declared.types.DataDecl.{DataDecl}
use Rattle.rb_layout.specs.declared.layout.Layout.{Layout}
use Rattle.rb_image_text.specs.declared.fault.ImageFault.{ImageFault}
use Rattle.rb_image_text.specs.declared.image.ImageBlock.{ImageBlock}
use Rattle.rb_image.specs.declared.descent.Step.{Step}
use Rattle.rb_image.specs.declared.descent.Step.TheVariants.{Look, Note}
use Rattle.rb_image.specs.Blocks.{block_at}
use Rattle.rb_image.specs.Parts.{At, at_of, look}
use Rattle.rb_image.specs.Roots.{root_at}
use Rattle.rb_image.specs.Sound.{Looking}

-- P holds of each place below, where a look found no fault
abbrev pub EndBelow : (At → Type 0) → Result (List At) ImageFault → Type 0
EndBelow P (Err fault) = Unit {0}
EndBelow P (Ok ps) = AllByRecursion P ps

-- every descent from place p goes through at most so many places, one below the other, p itself included
abbrev pub DescentEnds : Looking → ℕ → At → Type 0
DescentEnds look zero p = ⊥
DescentEnds look (suc n) p = EndBelow (DescentEnds look n) (look p)

-- the sum of what f gives of these places
abbrev pub total : (At → ℕ) → List At → ℕ
total f [] = 0
total f (p ∷ ps) = f p + total f ps

-- the steps that a look leaves to be done: one for its note, and for each place below what f gives; none at a fault
abbrev pub steps_below : (At → ℕ) → Result (List At) ImageFault → ℕ
steps_below f (Err fault) = 0
steps_below f (Ok ps) = 1 + total f ps

-- the steps of a descent from place p that goes through at most so many places, one below the other
abbrev pub descent_steps : Looking → ℕ → At → ℕ
descent_steps look zero p = 0
descent_steps look (suc n) p = 1 + steps_below (descent_steps look n) (look p)

-- every descent from the place that a step is to look at goes through at most n places, one below the other; a note
-- says nothing
abbrev pub StepEnds : Looking → ℕ → Step → Type 0
StepEnds look n (Look p) = DescentEnds look n (at_of p)
StepEnds look n (Note p) = Unit {0}

-- every descent from a place that one of these steps is to look at goes through at most n places, one below the
-- other
abbrev pub AllEnd : Looking → ℕ → List Step → Type 0
AllEnd look n [] = Unit {0}
AllEnd look n (s ∷ ss) = StepEnds look n s × AllEnd look n ss

-- how many steps a step comes to: those of the descent from the place that it is to look at, or 1 for a note
abbrev pub weight : Looking → ℕ → Step → ℕ
weight look n (Look p) = descent_steps look n (at_of p)
weight look n (Note p) = 1

-- how many steps all these steps come to
abbrev pub weights : Looking → ℕ → List Step → ℕ
weights look n [] = 0
weights look n (s ∷ ss) = weight look n s + weights look n ss

-- no descent goes through more places, one below the other, where pointers lead to addresses below `high`, and there
-- are `types` types
unfoldable pub depth_bound : ℕ → ℕ → ℕ
depth_bound high types = suc (high * suc types + suc types)

-- a descent from root words ends, where no block begins at 0
abbrev pub DescentsEnd : List DataDecl → List Layout → Type 0
DescentsEnd types layouts = (m : List ImageBlock) (t : ℕ) (words : List ℕ) → block_at m 0 ≡ None
    → DescentEnds (look types layouts m) (depth_bound 18446744073709551616 (length layouts)) (root_at t words)
