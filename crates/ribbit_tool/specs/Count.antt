-- What is due to the command `count`: the value of a run, and what the run did, its tally. What is due is the right
-- answer: a text that is printed, or a refusal, each with the number of steps, the instructions that the run began.
-- The limits are the number of calls that the run may make, and the address at which its region ends: the memory of
-- the run, whose first address is 64. `agreed` is a program with its layouts.
use Rattle.std.specs.Prelude.{◌≡◌, ℕ, List, ◌++◌, codes}
use Rattle.std.specs.Fmt.{decimal}
use Rattle.rb_bytes.specs.Memory.{empty_memory}
use Rattle.rb_command.specs.Command.{Limits}
use Rattle.rb_core.specs.Meaning.{call_of}
use Rattle.rb_core.specs.declared.program.Program.{Program}
use Rattle.rb_core.specs.declared.value.Value.{Value}
use Rattle.rb_layout.specs.declared.agreed.LaidOut.{LaidOut}
use Rattle.rb_layout.specs.declared.layout.Layout.{Layout}
use Rattle.rb_lines.specs.Answer.{Due}
use Rattle.rb_rel.specs.Answers.{laid_call}
use Rattle.rb_show.specs.Lines.{line}
use Rattle.rb_run.specs.Calling.{IsCounted}
use Rattle.rb_run.specs.Counting.{IsTally}
use Rattle.rb_run.specs.declared.count.Tally.{Tally}
use Rattle.rb_target.specs.declared.code.CodeFun.{CodeFun}
use Rattle.ribbit_tool.specs.Run.{PreparesFile, answer_due, source_answer, value_line}

-- Texts -------------------------------------------------------------------------------------

-- a line with a count behind its name
abbrev pub number_line : List ℕ → ℕ → List ℕ
number_line name count = line (name ++ codes " " ++ decimal count)

-- a line with the value, and lines with how many calls were made, switches done, blocks placed and bytes taken
abbrev pub count_text : Program → Tally → Value → List ℕ
count_text p tally v =
    codes "value " ++ value_line p v ++ number_line (codes "calls") tally.calls
    ++ number_line (codes "switches") tally.switches
    ++ number_line (codes "blocks") tally.blocks ++ number_line (codes "bytes") tally.bytes

-- What is due -------------------------------------------------------------------------------

-- what the tally has where a call of `main` on these values over a fresh region returns: the calls that are not left,
-- the blocks that were laid, and the bytes from address 64 up to the next one; of another end nothing is said
abbrev pub IsMainTally : Program → List Layout → Limits → List Value → Tally → Type 0
IsMainTally p layouts limits args tally =
    IsTally (laid_call p layouts args limits.calls (empty_memory limits.region))
    (call_of p p.main limits.calls args).end limits.calls tally

-- The source's answer is due, its value with what the run did; the switches and the steps are those of the
-- code's run on words that represent the values.
pub record Counts (agreed : LaidOut) (code : List CodeFun) (args : List Value) (limits : Limits)
    (due : Due) : Type 0 where
  pub taken : ℕ
  pub tally : Tally
  pub counted : IsCounted agreed code args limits.calls (empty_memory limits.region) taken tally.switches
  pub tallied : IsMainTally agreed.covered.program agreed.layouts limits args tally
  pub shown : due ≡ answer_due (count_text agreed.covered.program tally) limits.calls
      (source_answer agreed.covered.program agreed.layouts limits args) taken

-- what is due to `count` of a file within the limit, by its bytes, on these words: a refusal of either, or the
-- source's answer with what the run did
abbrev pub CountsFile : Limits → List (List ℕ) → List ℕ → Due → Type 0
CountsFile limits words bytes due =
    PreparesFile words bytes (λ agreed code args d. Counts agreed code args limits d) due
