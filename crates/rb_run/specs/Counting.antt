-- What a run that returns did: its tally has the calls that it made, the switches that it did, the blocks that were
-- placed and their bytes. A region is the memory of a run: its first address is `least_region`, and the next one is
-- the first behind the blocks.
use Rattle.std.specs.Prelude.{◌≡◌, ℕ, ◌-◌, length}
use Rattle.rb_bytes.specs.Memory.{least_region}
use Rattle.rb_core.specs.declared.outcome.SourceEnd.{SourceEnd}
use Rattle.rb_core.specs.declared.outcome.SourceEnd.TheVariants as source
use Rattle.rb_rel.specs.Placing.{Laid, Fits, Over}
use Rattle.rb_run.specs.declared.count.Tally.{Tally}

-- Where the blocks fit and the source returns: how many of the calls were made, how many blocks there are,
-- and the bytes up to the next address. Of another end nothing is said.
abbrev pub IsTally : Laid → SourceEnd → ℕ → Tally → Type 0
IsTally (Over full) end calls tally = Unit {0}
IsTally (Fits blocks next) source.Spent calls tally = Unit {0}
IsTally (Fits blocks next) (source.Done v left) calls tally =
    (tally.calls ≡ calls - left) × (tally.blocks ≡ length blocks) × (tally.bytes ≡ next - least_region)
