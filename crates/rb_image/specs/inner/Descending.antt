-- Steps of a descent, the last of which is done first, and what they say of the place from which it began. A descent
-- looks at a place and at all places below it, and notes each of which all below was found sound. A place is the
-- number of a data type, and the words at which a value of it is to stand. `look` gives the places below one, or its
-- own fault.
use Rattle.std.specs.Prelude.{◌≡◌, ◌⊎◌, List, [], ◌∷◌, ◌++◌, true, false, Result, Ok, Err}
use Rattle.std.specs.List.{AllByRecursion}
use Rattle.rb_image_text.specs.declared.fault.ImageFault.{ImageFault}
use Rattle.rb_image_text.specs.declared.fault.ImageFault.TheVariants.{Memory}
use Rattle.rb_image.specs.declared.descent.Step.{Step}
use Rattle.rb_image.specs.declared.descent.Step.TheVariants.{Look, Note}
use Rattle.rb_image.specs.declared.kept.Place.{Place}
use Rattle.rb_image.specs.Parts.{At, at_of, ats_of}
use Rattle.rb_image.specs.Sound.{Looking, IsSound, HasFault}
use Rattle.rb_image.specs.inner.Knowing.{is_among, with_place}

-- what a descent from place p answers: the image is sound from there on, or this is its first fault from there on; or
-- there is want of memory
abbrev pub SoundnessIsFound : {A : Type 0} → Looking → At → Result A ImageFault → Type 0
SoundnessIsFound look p (Ok a) = IsSound look p
SoundnessIsFound look p (Err fault) = HasFault look p fault ⊎ (fault ≡ Memory)

-- looks at these places, so that the first place is looked at first: its look is the last of the steps
abbrev pub looks : List Place → List Step
looks [] = []
looks (p ∷ ps) = looks ps ++ Look p ∷ []

-- the place that a step is to look at is sound; a note says nothing
abbrev pub StepIsSound : Looking → Step → Type 0
StepIsSound look (Look p) = IsSound look (at_of p)
StepIsSound look (Note p) = Unit {0}

-- all places that these steps are to look at are sound
abbrev pub AreSound : Looking → List Step → Type 0
AreSound look [] = Unit {0}
AreSound look (s ∷ ss) = StepIsSound look s × AreSound look ss

-- this is the first fault from the place on that a step is to look at; a note has none
abbrev pub StepHasFault : Looking → Step → ImageFault → Type 0
StepHasFault look (Look p) fault = HasFault look (at_of p) fault
StepHasFault look (Note p) fault = ⊥

-- this is the first fault from the places on that these steps are to look at, the last step first
abbrev pub HaveFault : Looking → List Step → ImageFault → Type 0
HaveFault look [] fault = ⊥
HaveFault look (s ∷ ss) fault = HaveFault look ss fault ⊎ (AreSound look ss × StepHasFault look s fault)

-- a place that a step is to note is sound once those are that the steps ss, which are done before, are to look at
abbrev pub IsNoted : Looking → Step → List Step → Type 0
IsNoted look (Look p) ss = Unit {0}
IsNoted look (Note p) ss = AreSound look ss → IsSound look (at_of p)

-- each place that one of these steps is to note is sound once those are that the steps behind it are to look at
abbrev pub AreNoted : Looking → List Step → Type 0
AreNoted look [] = Unit {0}
AreNoted look (s ∷ ss) = IsNoted look s ss × AreNoted look ss

-- a descent from `root` stands so: the places `known` are sound; if all that `todo` is to look at is sound, the root
-- is; the first fault of `todo` is the root's; and each place that `todo` is to note is sound once those are that the
-- steps behind it are to look at
pub record DescentStands (look : Looking) (root : At) (known : List At) (todo : List Step) : Type 0 where
  pub found : AllByRecursion (IsSound look) known
  pub sound : AreSound look todo → IsSound look root
  pub fault : (fault : ImageFault) → HaveFault look todo fault → HasFault look root fault
  pub noted : AreNoted look todo

-- Turns --------------------------------------------------------------------------------------

-- a look at place p found no fault: what is to do is now `new`, with the note of p behind the steps `old`, and looks
-- at the places below it
pub record OpensBelow (look : Looking) (p : Place) (old new : List Step) : Type 0 where
  pub below : List Place
  pub found : look (at_of p) ≡ Ok (ats_of below)
  pub steps : new ≡ old ++ Note p ∷ looks below

-- one step is done, where the places `known` were found sound, and the steps `old` are still to do: `after` are known
-- then, and `new` is to do. A place to note is known from now on; one that is known is passed over, and just one that
-- is not known opens what is below it.
abbrev pub IsTurn : Looking → Step → List At → List Step → List At → List Step → Type 0
IsTurn look (Note p) known old after new = (after ≡ with_place known (at_of p)) × (new ≡ old)
IsTurn look (Look p) known old after new =
    (after ≡ known) × (((is_among known (at_of p) ≡ true) × (new ≡ old))
    ⊎ ((is_among known (at_of p) ≡ false) × OpensBelow look p old new))

-- why a step was not done: the place that it is to look at has this fault of its own, or there is want of memory
abbrev pub IsTurnFault : Looking → Step → ImageFault → Type 0
IsTurnFault look (Note p) fault = fault ≡ Memory
IsTurnFault look (Look p) fault = (look (at_of p) ≡ Err fault) ⊎ (fault ≡ Memory)

-- what doing one step answers: it is done, or why not
abbrev pub TurnAnswers : {A : Type 0} → Looking → Step → List At → List Step → List At → List Step
    → Result A ImageFault → Type 0
TurnAnswers look s known old after new (Ok a) = IsTurn look s known old after new
TurnAnswers look s known old after new (Err fault) = IsTurnFault look s fault
