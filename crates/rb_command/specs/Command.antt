-- The command line: the words of each command, and the first word at fault where words are no command.
use Rattle.std.specs.Prelude.{◌≡◌, ◌≤◌, ◌<◌, ℕ, suc, ◌^◌, List, [], ◌∷◌, codes, map, Result, Ok, Err}
use Rattle.std.specs.Fmt.{decimal}
use Rattle.std.specs.List.{All}
use Rattle.rb_bytes.specs.Memory.{least_region, most_region}
use Rattle.rb_core.specs.Limits.{most_calls}
use Rattle.rb_core.specs.Stopping.{StopsAtIn}
use Rattle.rb_command.specs.Path.{AreSteps, path_text}

-- CALLS and REGION: how many calls a run may make, and the address at which its memory ends
pub record Limits : Type 0 where
  pub calls : ℕ
  pub region : ℕ

-- a command with its arguments: names of files and functions and values as the bytes of their words, and numbers and
-- paths as what their words spell
pub data Command : Type 0 where
  check : (file : List ℕ) → Command
  layout : (file : List ℕ) → Command
  compile : (file : List ℕ) → Command
  run : (file : List ℕ) → (limits : Limits) → (values : List (List ℕ)) → Command
  image : (file : List ℕ) → (limits : Limits) → (values : List (List ℕ)) → Command
  count : (file : List ℕ) → (limits : Limits) → (values : List (List ℕ)) → Command
  gen : (functions : ℕ) → Command
  genrun : (functions : ℕ) → (limits : Limits) → Command
  exec : (code : List ℕ) → (function : List ℕ) → (limits : Limits) → (words : List ℕ) → Command
  value : (file : List ℕ) → (image : List ℕ) → Command
  peek : (file : List ℕ) → (image : List ℕ) → (path : List ℕ) → Command

-- Commands as words -------------------------------------------------------------------------

-- the number n is at least `low` and at most `high`
abbrev pub IsBetween : ℕ → ℕ → ℕ → Type 0
IsBetween low high n = (low ≤ n) × (n ≤ high)

-- CALLS is at most `most_calls`, and REGION is from `least_region` to `most_region`
abbrev pub AreLimits : Limits → Type 0
AreLimits limits = IsBetween 0 most_calls limits.calls × IsBetween least_region most_region limits.region

-- how many functions a generated file may have beside `up` and `main`
abbrev pub most_generated : ℕ
most_generated = 2000

-- a generated file may have so many functions beside `up` and `main`: at least 1, and at most `most_generated`
abbrev pub IsFunctionCount : ℕ → Type 0
IsFunctionCount functions = IsBetween 1 most_generated functions

-- the numbers of a command lie within their bounds
abbrev pub IsWithinBounds : Command → Type 0
IsWithinBounds (check file) = Unit {0}
IsWithinBounds (layout file) = Unit {0}
IsWithinBounds (compile file) = Unit {0}
IsWithinBounds (run file limits values) = AreLimits limits
IsWithinBounds (image file limits values) = AreLimits limits
IsWithinBounds (count file limits values) = AreLimits limits
IsWithinBounds (gen functions) = IsFunctionCount functions
IsWithinBounds (genrun functions limits) = IsFunctionCount functions × AreLimits limits
IsWithinBounds (exec code function limits words) = AreLimits limits × All (λ word. word < 2 ^ 64) words
IsWithinBounds (value file second) = Unit {0}
IsWithinBounds (peek file second path) = AreSteps path

-- the words of CALLS and REGION, in front of the words behind them
abbrev pub with_limits : Limits → List (List ℕ) → List (List ℕ)
with_limits limits behind = decimal limits.calls ∷ decimal limits.region ∷ behind

-- the words of a command, as it is written on the command line
abbrev pub command_words : Command → List (List ℕ)
command_words (check file) = codes "check" ∷ file ∷ []
command_words (layout file) = codes "layout" ∷ file ∷ []
command_words (compile file) = codes "compile" ∷ file ∷ []
command_words (run file limits values) = codes "run" ∷ file ∷ with_limits limits values
command_words (image file limits values) = codes "image" ∷ file ∷ with_limits limits values
command_words (count file limits values) = codes "count" ∷ file ∷ with_limits limits values
command_words (gen functions) = codes "gen" ∷ decimal functions ∷ []
command_words (genrun functions limits) = codes "genrun" ∷ decimal functions ∷ with_limits limits []
command_words (exec code function limits words) = codes "exec" ∷ code ∷ function
    ∷ with_limits limits (map decimal words)
command_words (value file second) = codes "value" ∷ file ∷ second ∷ []
command_words (peek file second path) = codes "peek" ∷ file ∷ second ∷ path_text path ∷ []

-- these words are how the command is written, and its numbers lie within their bounds
pub record IsWordsOf (command : Command) (words : List (List ℕ)) : Type 0 where
  pub bounded : IsWithinBounds command
  pub written : words ≡ command_words command

-- Words that are no command -----------------------------------------------------------------

-- these words are those of some command
abbrev pub AreCommand : List (List ℕ) → Type 0
AreCommand words = (command : Command) × IsWordsOf command words

-- The first word at fault, where words are counted from 1: the words before it begin a command, and with it they
-- begin none. It is one more than the words where all of them begin a command and are none.
pub record IsUsageAt (words : List (List ℕ)) (word : ℕ) : Type 0 where
  pub good : ℕ
  pub number : word ≡ suc good
  pub stops : StopsAtIn AreCommand words good

-- Words as they are read --------------------------------------------------------------------

-- a command, or the number of the first word at fault
abbrev pub Parsed : Type 0
Parsed = Result Command ℕ

-- what may be answered for words: the command that they write, or the number of the first word at fault
abbrev pub IsParsed : List (List ℕ) → Parsed → Type 0
IsParsed words (Ok command) = IsWordsOf command words
IsParsed words (Err word) = IsUsageAt words word
