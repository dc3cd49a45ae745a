-- What reads mean, and code that makes them. A read says how a number is made of slots and memory; a share says which
-- bits of a read stand where in a number that is joined of several.
use Rattle.std.specs.Prelude.{◌≡◌, ℕ, ◌+◌, ◌*◌, ◌%◌, ◌^◌, ◌<◌, ◌≤◌, ◌==◌, ◌&&◌, nat_lt, nat_le, List, [], ◌∷◌, Bool, true, Option, Some, None, Result, Ok, Err, slice_index}
use Rattle.std.specs.List.{list_all}
use Rattle.rb_core.specs.WellNumbered.{either}
use Rattle.rb_bits.specs.Words.{take_of, put_of}
use Rattle.rb_bytes.specs.Memory.{Memory, IsGood, load_of}
use Rattle.rb_bytes.specs.declared.fault.Trap.{Trap}
use Rattle.rb_target.specs.Sheet.{Sheet}
use Rattle.rb_target.specs.Validity.{most_offset}
use Rattle.rb_fragment.specs.declared.reads.Read.{Read}
use Rattle.rb_fragment.specs.declared.reads.Read.TheOpen as R
use Rattle.rb_fragment.specs.declared.reads.Read.TheOpen.{Read-F}
use Rattle.rb_fragment.specs.declared.reads.Read.TheFolds.{fold-Read, fold-Share}
use Rattle.rb_fragment.specs.declared.reads.Share.{Share, Share-F}
use Rattle.rb_fragment.specs.Plan.{Plan}
use Rattle.rb_fragment.specs.Adding.{Adds}
use Rattle.rb_fragment.specs.Pieces.{Straight}

-- Meaning

-- what a number is, where the slots hold these words and the memory is this one; None where a load goes astray
abbrev pub ReadMeaning : Type 0
ReadMeaning = List ℕ → Memory → Option ℕ

-- what `go` makes of a number, or None where there is none
abbrev pub where_some : Option ℕ → (ℕ → Option ℕ) → Option ℕ
where_some None go = None
where_some (Some w) go = go w

-- the word of a load, or None where the load goes astray
abbrev pub word_of_load : Result ℕ Trap → Option ℕ
word_of_load (Ok w) = Some w
word_of_load (Err t) = None

-- a share with what its number means: bits o up to o + l of that stand from bit a on
pub record Meant : Type 0 where
  pub reading : ReadMeaning
  pub o : ℕ
  pub l : ℕ
  pub a : ℕ

-- the number n with shares put over it, one after the other, or None where one of their numbers is none
abbrev pub joined_over : ℕ → List Meant → ReadMeaning
joined_over n [] s m = Some n
joined_over n (p ∷ ps) s m = where_some (p.reading s m) (λ w. joined_over (put_of n p.a p.l (take_of w p.o p.l)) ps s m)

-- what a read means, where the reads and shares within it are replaced by their meanings
abbrev pub mean_step : Read-F ReadMeaning Meant → ReadMeaning
mean_step (R.Slot x) s m = Some (slice_index s x)
mean_step (R.Number c) s m = Some c
mean_step (R.Bits r o l) s m = where_some (r s m) (λ w. Some (take_of w o l))
mean_step (R.Address r o l align) s m = where_some (r s m) (λ w. Some (take_of w o l * align % 2 ^ 64))
mean_step (R.Loaded r byte width) s m = where_some (r s m) (λ base. word_of_load (load_of m base byte width))
mean_step (R.Joined shares) s m = joined_over 0 shares s m

-- a share with its meaning, where its read is replaced by its meaning
abbrev pub share_step : Share-F ReadMeaning Meant → Meant
share_step p = record { reading = p.read; o = p.o; l = p.l; a = p.a }

-- what a read means
abbrev pub mean : Read → ReadMeaning
mean = fold-Read ReadMeaning Meant mean_step share_step

-- a share with what its read means
abbrev pub meant_of : Share → Meant
meant_of = fold-Share ReadMeaning Meant mean_step share_step

-- Fitting

-- whether l bits from bit o on are a range of a word: there is one at least, and none is past bit 63
abbrev pub is_range : ℕ → ℕ → Bool
is_range o l = nat_le 1 l && nat_le (o + l) 64

-- whether a word of so many bits may be loaded: 8, 16, 32 or 64
abbrev pub is_width : ℕ → Bool
is_width width = either (width == 8) (either (width == 16) (either (width == 32) (width == 64)))

-- whether instructions can make a read over slots below n, where the parts within it tell whether they can be made
abbrev pub fits_step : ℕ → Read-F Bool Bool → Bool
fits_step n (R.Slot x) = nat_lt x n
fits_step n (R.Number c) = true
fits_step n (R.Bits r o l) = r && is_range o l
fits_step n (R.Address r o l align) = r && is_range o l
fits_step n (R.Loaded r byte width) = r && (nat_le byte most_offset && is_width width)
fits_step n (R.Joined shares) = list_all (λ b. b) shares

-- whether a share can be made, where its read tells whether it can: both its ranges are ranges of a word
abbrev pub share_fits : Share-F Bool Bool → Bool
share_fits p = p.read && (is_range p.o p.l && is_range p.a p.l)

-- whether instructions can make a read: its slots are below n, and its ranges, offsets and widths are those of
-- instructions
abbrev pub fits : ℕ → Read → Bool
fits n = fold-Read Bool Bool (fits_step n) share_fits

-- whether instructions can make a share: its read, over slots below n, and both its ranges are ranges of a word
abbrev pub fits_share : ℕ → Share → Bool
fits_share n = fold-Share Bool Bool (fits_step n) share_fits

-- Making

-- the appended code leaves what the read means in a slot, and keeps all slots that there were
pub record MakesReadIn (plan : Plan) (read : Read) (old new : Sheet) (slot : ℕ) : Type 0 where
  pub adds : Adds plan old new
  pub given : slot < new.slots
  pub runs : (x : ℕ) → Straight plan old.slots old new (λ s m. IsGood m × (mean read s m ≡ Some x))
      (λ s m. slice_index s slot ≡ x)

-- whatever the plan, the appended code makes the read, if instructions can make it over the old slots
abbrev pub MakesRead : Read → Sheet → Sheet → ℕ → Type 0
MakesRead read old new slot =
    (plan : Plan) (k : ℕ) → k ≤ old.slots → fits k read ≡ true → MakesReadIn plan read old new slot
