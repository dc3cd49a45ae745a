-- What code owes that fetches what stands at a location, of words for which there are reads. A location is a range of
-- bits of one of a value's words, or of a word that steps load. A read is a number that code can make from slots and
-- loads; it means that number, over slots s and memory m. `widths` has the most bits of each of the words. A plan has
-- a program and its layouts, and a sheet is a function's code so far.
use Rattle.std.specs.Prelude.{◌≡◌, ℕ, ◌^◌, ◌<◌, ◌≤◌, List, Some, length, slice_get, slice_index}
use Rattle.rb_core.specs.declared.layout_decl.Loc.{Loc}
use Rattle.rb_bytes.specs.Memory.{IsGood}
use Rattle.rb_target.specs.Sheet.{Sheet}
use Rattle.rb_fragment.specs.declared.reads.Read.{Read}
use Rattle.rb_fragment.specs.Plan.{Plan}
use Rattle.rb_fragment.specs.Adding.{Adds}
use Rattle.rb_fragment.specs.Pieces.{Straight}
use Rattle.rb_fragment.specs.WordReads.{AreMeant, AllFit}
use Rattle.rb_fetch.specs.Fetching.{IsReadAt, LocFits}

-- each of the words ws has at most so many bits as stand in its place among the widths, where a number stands there
abbrev pub AreSmall : List ℕ → List ℕ → Type 0
AreSmall widths ws = (j width w : ℕ) → slice_get widths j ≡ Some width → slice_get ws j ≡ Some w → w < 2 ^ width

-- The code from old to new leaves in `slot` the number at a location, wherever the reads `words` mean words of these
-- widths at which the location comes to a number, and keeps all slots that there were.
pub record FetchesMeant (plan : Plan) (words : List Read) (widths : List ℕ) (loc : Loc) (old new : Sheet)
    (slot : ℕ) : Type 0 where
  pub adds : Adds plan old new
  pub given : slot < new.slots
  pub runs : (ws : List ℕ) (x : ℕ) → AreSmall widths ws
      → Straight plan old.slots old new (λ s m. IsGood m × AreMeant words s m ws × IsReadAt loc ws m x)
      (λ s m. slice_index s slot ≡ x)

-- in every plan, the code from old to new leaves in `slot` what stands at a location that instructions can read, for
-- words of these widths, of which there are reads over slots that there were
abbrev pub FetchesAt : List Read → List ℕ → Loc → Sheet → Sheet → ℕ → Type 0
FetchesAt words widths loc old new slot =
    (plan : Plan) (k : ℕ) → k ≤ old.slots → AllFit k words → loc.word < length words → LocFits loc
    → FetchesMeant plan words widths loc old new slot
