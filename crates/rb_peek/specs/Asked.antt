-- The words that the splits of a layout ask for on the way to a leaf. A split is a node of a layout's tree: the bits
-- at its location decide on the arm to take. A location is a range of a word of the value, and steps from there,
-- each over a pointer to a range of a word in a block. A range is bits of a word, with where the word is kept. m has
-- the blocks of an image, and ws are the words of the value.
use Rattle.std.specs.Prelude.{nat_eq, List, [], ◌∷◌, ◌++◌, Option, Some, None, Result, Ok, Err, if◌then◌else◌}
use Rattle.rb_core.specs.declared.layout_decl.Loc.{Loc}
use Rattle.rb_core.specs.declared.layout_decl.Step.{Step}
use Rattle.rb_layout.specs.declared.layout.FlatTree.{FlatTree}
use Rattle.rb_layout.specs.declared.layout.FlatTree.TheOpen as T
use Rattle.rb_layout.specs.declared.layout.FlatTree.TheOpen.{FlatTree-F}
use Rattle.rb_layout.specs.declared.layout.FlatTree.TheFolds.{fold-FlatTree}
use Rattle.rb_layout.specs.declared.layout.FlatArm.{FlatArm-F}
use Rattle.rb_layout.specs.Splits.{Under}
use Rattle.rb_image_text.specs.declared.fault.ImageFault.{ImageFault}
use Rattle.rb_image_text.specs.declared.image.ImageBlock.{ImageBlock}
use Rattle.rb_image.specs.declared.kept.Kept.{Kept}
use Rattle.rb_image.specs.Splits.{range_at, range_of, step_over, word_at}

-- the list that `go` gives of what was found, and the empty one where a fault was
abbrev pub if_found : {A B : Type 0} → Result A ImageFault → (A → List B) → List B
if_found (Err fault) go = []
if_found (Ok x) go = go x

-- the bits to which the steps of a location lead from a range, up to the first pointer that is refused
abbrev pub ranges_after : List ImageBlock → Kept → List Step → List Kept
ranges_after m range [] = []
ranges_after m range (s ∷ ss) =
    if_found (step_over m range s) (λ w. range_of w s.o s.l ∷ ranges_after m (range_of w s.o s.l) ss)

-- the bits that are read for a location: those of each pointer that it passes, and then its own
abbrev pub ranges_at : List ImageBlock → List Kept → Loc → List Kept
ranges_at m ws loc = let range = range_of (word_at ws loc.word) loc.o loc.l in range ∷ ranges_after m range loc.steps

-- Trees --------------------------------------------------------------------------------------

-- what gives, from an image's blocks and the words of a value, the bits that are read on the way to a leaf
abbrev pub Asking : Type 0
Asking = List ImageBlock → List Kept → List Kept

-- the bits that are read under the else arm of a split; none where it has no such arm
abbrev pub asked_else : Option Asking → Asking
asked_else None m ws = []
asked_else (Some go) m ws = go m ws

-- the bits that are read under the first arm whose literal is the number in `range`, or else under the else arm
abbrev pub asked_arms : Kept → List (Under Asking) → Option Asking → Asking
asked_arms range [] other m ws = asked_else other m ws
asked_arms range (arm ∷ arms) other m ws =
    if nat_eq arm.literal range.number then arm.of m ws else asked_arms range arms other m ws

-- the bits that a tree of splits reads, given those that are read under its arms: a split reads those for its
-- location before them, and a leaf reads none
abbrev pub asked_step : FlatTree-F Asking (Under Asking) → Asking
asked_step (T.Split loc arms other) m ws =
    ranges_at m ws loc ++ if_found (range_at m ws loc) (λ range. asked_arms range arms other m ws)
asked_step (T.Leaf n) m ws = []

-- an arm of a split with its literal, and the bits that are read under it
abbrev pub asked_arm : FlatArm-F Asking (Under Asking) → Under Asking
asked_arm arm = record { literal = arm.literal; of = arm.under }

-- the bits that the splits of a tree read on the way to a leaf, outer splits before inner ones; up to a pointer that
-- is refused, or a split that no arm takes
abbrev pub asked_by : FlatTree → Asking
asked_by = fold-FlatTree Asking (Under Asking) asked_step asked_arm
