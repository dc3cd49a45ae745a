-- Lists of reads, one a word of a value, and code that makes them.
use Rattle.std.specs.Prelude.{◌≡◌, ℕ, ◌≤◌, ◌⊎◌, List, [], ◌∷◌, true, Some}
use Rattle.rb_bytes.specs.Memory.{Memory, IsGood}
use Rattle.rb_target.specs.Meaning.{slots_at}
use Rattle.rb_target.specs.Sheet.{Sheet}
use Rattle.rb_fragment.specs.declared.reads.Read.{Read, Slot}
use Rattle.rb_fragment.specs.Plan.{Plan}
use Rattle.rb_fragment.specs.Adding.{Adds}
use Rattle.rb_fragment.specs.Pieces.{Straight}
use Rattle.rb_fragment.specs.Slots.{AllBelow}
use Rattle.rb_fragment.specs.Reads.{mean, fits}

-- the reads mean these words, one each
abbrev pub AreMeant : List Read → List ℕ → Memory → List ℕ → Type 0
AreMeant [] s m [] = Unit {0}
AreMeant [] s m (w ∷ ws) = ⊥
AreMeant (r ∷ rs) s m [] = ⊥
AreMeant (r ∷ rs) s m (w ∷ ws) = (mean r s m ≡ Some w) × AreMeant rs s m ws

-- each of the reads is over slots below n, and instructions can make it
abbrev pub AllFit : ℕ → List Read → Type 0
AllFit n [] = Unit {0}
AllFit n (r ∷ rs) = (fits n r ≡ true) × AllFit n rs

-- one of the reads is the word in slot x
abbrev pub IsSlotOf : ℕ → List Read → Type 0
IsSlotOf x [] = ⊥
IsSlotOf x (r ∷ rs) = (r ≡ Slot x) ⊎ IsSlotOf x rs

-- the appended code leaves what the reads mean in slots, one each, and keeps all slots that there were
pub record MakesWords (plan : Plan) (reads : List Read) (old new : Sheet) (slots : List ℕ) : Type 0 where
  pub adds : Adds plan old new
  pub given : AllBelow new.slots slots
  pub runs : (ws : List ℕ) → Straight plan old.slots old new (λ s m. IsGood m × AreMeant reads s m ws)
      (λ s m. slots_at s slots ≡ ws)

-- whatever the plan, the appended code makes the reads, if instructions can make each over the old slots
abbrev pub MakesAll : List Read → Sheet → Sheet → List ℕ → Type 0
MakesAll reads old new slots =
    (plan : Plan) (k : ℕ) → k ≤ old.slots → AllFit k reads → MakesWords plan reads old new slots

-- each of the slots is new, or one of the reads is the word in it
abbrev pub AreNewOr : List Read → Sheet → List ℕ → Type 0
AreNewOr reads old [] = Unit {0}
AreNewOr reads old (x ∷ xs) = ((old.slots ≤ x) ⊎ IsSlotOf x reads) × AreNewOr reads old xs
