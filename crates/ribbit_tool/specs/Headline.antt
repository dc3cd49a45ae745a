-- The headline of `run`. Let a file be accepted, and let the words spell arguments of `main`. Then the output gets
-- the text of the value that the source means, or the error output gets one line: that this value has too many nodes,
-- or which of the two limits the source meets first, that of calls or that of the region, into which go the blocks
-- that values need in their layouts. A sink takes what is
-- written; `out` is the output and `err` the error output, each before and after a call. A source hands out files by
-- name. The limits are the number of calls that the run may make, and the address at which its region, the memory of
-- the run, ends.
use Rattle.std.specs.Prelude.{◌≡◌, ◌≤◌, ℕ, List, [], ◌∷◌, length, IsTrue, Some}
use Rattle.rb_accept.specs.Accepting.{IsAccepted}
use Rattle.rb_accept.specs.Arguments.{Spell}
use Rattle.rb_accept.specs.Reading.{Source, Gave}
use Rattle.rb_command.specs.Command.{Command, Limits, Parsed, IsWordsOf, IsParsed, run}
use Rattle.rb_core.specs.declared.program.Program.{Program}
use Rattle.rb_core.specs.declared.value.Value.{Value}
use Rattle.rb_edge.specs.Faults.{Rose}
use Rattle.rb_layout.specs.Flattening.{flat_layouts}
use Rattle.rb_lines.specs.ArgumentLines.{node_limit}
use Rattle.rb_lines.specs.Delivery.{Change, Took}
use Rattle.rb_lines.specs.Lines.{spent_line, full_line, large_line}
use Rattle.rb_lines.specs.Numbers.{status_number}
use Rattle.rb_lines.specs.declared.status.Status.TheVariants.{Spent, Full, TooLarge}
use Rattle.rb_rel.specs.Answers as answer
use Rattle.rb_rel.specs.Answers.{answer_of}
use Rattle.ribbit_tool.specs.Answers.{files_of}
use Rattle.ribbit_tool.specs.Promise.{IsCalm}
use Rattle.ribbit_tool.specs.Run.{value_line}

-- the status and the very text of the source's answer, by what is shown of its value: the text went to the output, or
-- the line of the limit that was passed to the error output, and nothing to the other
abbrev pub SaysAnswer : (Value → List ℕ) → Limits → answer.Answer → Change → Change → ℕ → Type 0
SaysAnswer shown limits (answer.Shown v) out err status = (status ≡ 0) × Took out (shown v) × Took err []
SaysAnswer shown limits answer.Spent out err status =
    (status ≡ status_number Spent) × Took out [] × Took err (spent_line limits.calls)
SaysAnswer shown limits (answer.Full f) out err status =
    (status ≡ status_number Full) × Took out [] × Took err (full_line f)
SaysAnswer shown limits answer.TooLarge out err status =
    (status ≡ status_number TooLarge) × Took out [] × Took err (large_line node_limit)

-- What is promised of a command that calls `main`, where the file gave bytes that are accepted, its values
-- are of `main`'s types, no write failed and memory did not run out.
abbrev pub OfCalls : (List ℕ → Limits → List (List ℕ) → Command)
    → (Program → List Value → Limits → Change → Change → ℕ → Type 0)
    → List (List ℕ) → Source → Change → Change → ℕ → Type 0
OfCalls command Promised words source out err status =
    (file : List ℕ) (limits : Limits) (values : List (List ℕ)) → IsWordsOf (command file limits values) words
    → (bytes : List ℕ) → Gave source file bytes → (p : Program) → IsAccepted bytes p → (args : List Value)
    → Spell p values args
    → IsCalm out err status → Promised p args limits out err status

-- what is promised of `run`: the source's value or the limit that it passes first, as it is said
abbrev pub Headline : List (List ℕ) → Source → Change → Change → ℕ → Type 0
Headline = OfCalls run (λ p args limits out err status.
    SaysAnswer (value_line p) limits
    (answer_of p (flat_layouts p) args limits.calls limits.region node_limit) out err status)

-- Where a source tells that it holds a file within its limit under the one name that a command reads, that
-- file gave the bytes that are held, if nothing failed.
abbrev pub GivesHeld : List (List ℕ) → Source → Change → Change → ℕ → Type 0
GivesHeld words source out err status =
    (parsed : Parsed) → IsParsed words parsed → (file : List ℕ) (limit : ℕ) → files_of parsed ≡ (file, limit) ∷ []
    → (bytes : List ℕ) → IsTrue source.tells → source.held file ≡ Some bytes → length bytes ≤ limit
    → (Rose source.before source.now → ⊥) → IsCalm out err status → Gave source file bytes
