-- Counts of faults: how many calls of a source or a sink were a fault since it was made, as far as a machine word
-- counts.
use Rattle.std.specs.Prelude.{◌≡◌, ℕ, ◌+◌, ◌-◌, ◌^◌, ◌<◌, ◌==◌, if◌then◌else◌, ◌⊎◌}

-- the greatest count of faults, at which a count stands still
abbrev pub most_faults : ℕ
most_faults = 2 ^ 64 - 1

-- the count after one more fault
abbrev pub one_more : ℕ → ℕ
one_more faults = if faults == most_faults then most_faults else faults + 1

-- the count now is above that before, or it could not rise, since it stood at the greatest already
abbrev pub Rose : ℕ → ℕ → Type 0
Rose before now = (before < now) ⊎ (before ≡ most_faults)
