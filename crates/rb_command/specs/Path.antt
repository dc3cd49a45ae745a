-- Paths as words: `.` for the whole, or each step's number behind a point.
use Rattle.std.specs.Prelude.{ℕ, ◌<◌, ◌^◌, List, [], ◌∷◌, ◌++◌, codes}
use Rattle.std.specs.Fmt.{decimal}
use Rattle.std.specs.List.{All}

-- each step of a path is a number of 32 bits
abbrev pub AreSteps : List ℕ → Type 0
AreSteps path = All (λ step. step < 2 ^ 32) path

-- how steps are written: the number of each in decimal, behind a point; nothing where there are none
abbrev pub steps_text : List ℕ → List ℕ
steps_text [] = []
steps_text (step ∷ path) = codes "." ++ decimal step ++ steps_text path

-- how a path is written: `.` where it has no steps, else the number of each step behind a point
abbrev pub path_text : List ℕ → List ℕ
path_text [] = codes "."
path_text (step ∷ path) = steps_text (step ∷ path)
