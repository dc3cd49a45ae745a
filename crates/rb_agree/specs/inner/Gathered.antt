-- What the parts of a leaf hold of each of its open positions, a row of runs for each. A unit of a position is a bit
-- of an integer or a word of a data type; a run has units that follow each other. An open position is a wildcard or a
-- variable in a leaf's provenance; its path is the field numbers that lead there from the root. `places` are such
-- positions, and `rows` has for each, by its place in that list, its row.
use Rattle.std.specs.Prelude.{◌≡◌, ℕ, ◌&&◌, List, [], ◌∷◌, ◌++◌, length, Bool, true, false, Some, slice_get, slice_index_or, if◌then◌else◌}
use Rattle.std.specs.List.{flat_map}
use Rattle.rb_core.specs.declared.types.Ty.{Ty}
use Rattle.rb_core.specs.declared.types.Ty.TheVariants.{Int, Named}
use Rattle.rb_layout.specs.declared.layout.Leaf.{Leaf}
use Rattle.rb_layout.specs.declared.layout.Block.{Block}
use Rattle.rb_layout.specs.declared.layout.FlatWord.{FlatWord}
use Rattle.rb_layout.specs.declared.layout.Part.{Part}
use Rattle.rb_layout.specs.Flattening.{same_path}
use Rattle.rb_layout.specs.declared.opens.OpenPosition.{OpenPosition}
use Rattle.rb_agree.specs.declared.runs.Run.{Run}
use Rattle.rb_agree.specs.inner.Held.{block_runs, leaf_runs, part_runs, word_runs}

-- what is held of a position, by its type and its path: a list of runs
abbrev pub Runs : Type 0
Runs = Ty → List ℕ → List Run

-- what these parts hold of the position of type ty at a path, part by part
abbrev pub parts_runs : List Part → Runs
parts_runs parts ty path = flat_map (part_runs ty path) parts

-- what the parts of these words hold of the position of type ty at a path, word by word
abbrev pub words_runs : List FlatWord → Runs
words_runs words ty path = flat_map (word_runs ty path) words

-- what the parts in these blocks hold of the position of type ty at a path, block by block
abbrev pub blocks_runs : List Block → Runs
blocks_runs blocks ty path = flat_map (block_runs ty path) blocks

-- whether the units of a type are words, as of a data type, or bits, as of an integer
abbrev pub has_words : Ty → Bool
has_words (Int bits) = false
has_words (Named s) = true

-- whether two kinds of units are the same, where words are true and bits are false
abbrev pub same_units : Bool → Bool → Bool
same_units true b = b
same_units false true = false
same_units false false = true

-- what a run of words or of bits, as `words` says, holds of positions: itself of that at path `there`, if it has such
-- units, and nothing of others
abbrev pub run_there : List ℕ → Bool → Run → Runs
run_there there words run ty path = if same_units words (has_words ty) && same_path there path then run ∷ [] else []

-- the row of position n among these; empty where there is no such position
abbrev pub row : List (List Run) → ℕ → List Run
row rows n = slice_index_or rows n []

-- from `old` to `new` rows the row of each position grows at its end by what `runs` says is held of it
pub record Gathers (places : List OpenPosition) (runs : Runs) (old new : List (List Run)) : Type 0 where
  pub count : length new ≡ length old
  pub each : (n : ℕ) (place : OpenPosition) → slice_get places n ≡ Some place
      → row new n ≡ row old n ++ runs place.ty place.path

-- there are `count` rows, and all are empty
pub record AreNone (count : ℕ) (rows : List (List Run)) : Type 0 where
  pub count_is : length rows ≡ count
  pub each : (n : ℕ) → row rows n ≡ []

-- the row of each of these positions is what the parts of a leaf hold of it
abbrev pub AreGathered : Leaf → List OpenPosition → List (List Run) → Type 0
AreGathered leaf places rows =
    (n : ℕ) (place : OpenPosition) → slice_get places n ≡ Some place → row rows n ≡ leaf_runs leaf place.ty place.path
