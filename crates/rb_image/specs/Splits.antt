-- The leaf to which the splits of a layout lead, read on words of an image, or the first fault on the way. A split
-- is a node of a layout's tree: the bits at its location decide on the arm to take. A location is a range of a word
-- of the value, and steps from there, each over a pointer to a range of a word in a block. A range is bits of a
-- word, with where the word is kept: in the block that begins at the base, or, at base 0, among the root words. A
-- pointer is refused where it leads to no word, or, from within a block, not below that block. m has the blocks of
-- an image, and ws are the words of the value.
use Rattle.std.specs.Prelude.{ℕ, ◌*◌, ◌==◌, ◌&&◌, ◌||◌, nat_eq, nat_lt, List, [], ◌∷◌, Option, Some, None, Result, Ok, Err, slice_index_or, if◌then◌else◌}
use Rattle.rb_core.specs.declared.layout_decl.Loc.{Loc}
use Rattle.rb_core.specs.declared.layout_decl.Step.{Step}
use Rattle.rb_bits.specs.Words.{take_of}
use Rattle.rb_layout.specs.declared.layout.FlatTree.{FlatTree}
use Rattle.rb_layout.specs.declared.layout.FlatTree.TheOpen as T
use Rattle.rb_layout.specs.declared.layout.FlatTree.TheOpen.{FlatTree-F}
use Rattle.rb_layout.specs.declared.layout.FlatTree.TheFolds.{fold-FlatTree}
use Rattle.rb_layout.specs.declared.layout.FlatArm.{FlatArm-F}
use Rattle.rb_layout.specs.Splits.{Under}
use Rattle.rb_image_text.specs.declared.fault.ImageFault.{ImageFault}
use Rattle.rb_image_text.specs.declared.fault.ImageFault.TheVariants.{BadBits, BadPointer}
use Rattle.rb_image_text.specs.declared.image.ImageBlock.{ImageBlock}
use Rattle.rb_image.specs.declared.kept.Kept.{Kept}
use Rattle.rb_image.specs.Blocks.{word_in}

-- what `go` gives of what was found first, or the fault that was found instead
abbrev pub and_then : {A B : Type 0} → Result A ImageFault → (A → Result B ImageFault) → Result B ImageFault
and_then (Err fault) go = Err fault
and_then (Ok x) go = go x

-- what is there, or this fault where nothing is
abbrev pub or_fault : {A : Type 0} → Option A → ImageFault → Result A ImageFault
or_fault None fault = Err fault
or_fault (Some x) fault = Ok x

-- Words --------------------------------------------------------------------------------------

-- what stands for a word that is not there: the number 0, in root word 0
abbrev pub nothing : Kept
nothing = record { number = 0; base = 0; place = 0 }

-- the word with this number among the words of a value, or `nothing` where there are fewer
abbrev pub word_at : List Kept → ℕ → Kept
word_at ws j = slice_index_or ws j nothing

-- the l bits of a word from bit o on; they are kept where the word is
abbrev pub range_of : Kept → ℕ → ℕ → Kept
range_of w o l = record w { number = take_of w.number o l }

-- the address to which a pointer may lead that is kept in the block at `base`: any address of 64 bits from a root
-- word, at base 0, and a lower one from a block; none for any other
abbrev pub pointed_from : ℕ → ℕ → Option ℕ
pointed_from base at = if nat_lt at 18446744073709551616 && ((base == 0) || nat_lt at base) then Some at else None

-- Locations ----------------------------------------------------------------------------------

-- a word, if there is one, with where it is kept: in the block at address `at`, from a byte on
abbrev pub with_base : ℕ → ℕ → Option ℕ → Option Kept
with_base at byte None = None
with_base at byte (Some w) = Some (record { number = w; base = at; place = byte })

-- the word of `width` bits from a byte on of the block at an address, with where it is kept; none where there is no
-- address, or no such word in the block
abbrev pub kept_in : List ImageBlock → Option ℕ → ℕ → ℕ → Option Kept
kept_in m None byte width = None
kept_in m (Some at) byte width = with_base at byte (word_in m at byte width)

-- the word to which a step of a location leads from the pointer in a range, or `BadPointer` where it leads to none,
-- or, from within a block, not below that block
abbrev pub step_over : List ImageBlock → Kept → Step → Result Kept ImageFault
step_over m range s =
    let at = range.number * s.align in
    or_fault (kept_in m (pointed_from range.base at) s.byte s.width) (BadPointer range.base at)

-- the range to which the steps of a location lead from a range, or the first pointer on the way that is refused
abbrev pub range_from : List ImageBlock → Kept → List Step → Result Kept ImageFault
range_from m range [] = Ok range
range_from m range (s ∷ ss) = and_then (step_over m range s) (λ w. range_from m (range_of w s.o s.l) ss)

-- the range at a location, where ws are the words of the value, or the first pointer on the way that is refused
abbrev pub range_at : List ImageBlock → List Kept → Loc → Result Kept ImageFault
range_at m ws loc = range_from m (range_of (word_at ws loc.word) loc.o loc.l) loc.steps

-- Trees --------------------------------------------------------------------------------------

-- what gives, from an image's blocks and the words of a value, the number of the leaf to which splits lead, or the
-- first fault on the way
abbrev pub SplitWalk : Type 0
SplitWalk = List ImageBlock → List Kept → Result ℕ ImageFault

-- the leaf under the else arm of a split; where it has none, the fault of the word in which its bits stand, `range`
abbrev pub walk_else : Kept → Option SplitWalk → SplitWalk
walk_else range None m ws = Err (BadBits range.base range.place)
walk_else range (Some go) m ws = go m ws

-- the leaf under the first arm whose literal is the number in `range`, or else under the else arm, if there is one;
-- else the fault of the word in which `range` stands
abbrev pub walk_arms : Kept → List (Under SplitWalk) → Option SplitWalk → SplitWalk
walk_arms range [] other m ws = walk_else range other m ws
walk_arms range (arm ∷ arms) other m ws =
    if nat_eq arm.literal range.number then arm.of m ws else walk_arms range arms other m ws

-- the leaf to which a tree of splits leads, given those to which its arms lead
abbrev pub walk_step : FlatTree-F SplitWalk (Under SplitWalk) → SplitWalk
walk_step (T.Split loc arms other) m ws = and_then (range_at m ws loc) (λ range. walk_arms range arms other m ws)
walk_step (T.Leaf n) m ws = Ok n

-- an arm of a split with its literal, and the leaf to which it leads
abbrev pub walk_arm : FlatArm-F SplitWalk (Under SplitWalk) → Under SplitWalk
walk_arm arm = record { literal = arm.literal; of = arm.under }

-- the number of the leaf to which the splits of a tree lead, or the first fault on the way; a split that no arm
-- takes is the fault of the word in which its bits stand
abbrev pub leaf_at : FlatTree → SplitWalk
leaf_at = fold-FlatTree SplitWalk (Under SplitWalk) walk_step walk_arm
