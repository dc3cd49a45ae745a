-- What the program promises, of any words, source and sinks. The words are those of a command line: they are parsed
-- to a command, or to the number of the first word at fault. A source hands out files by name, as readings: a name
-- with the bytes that were read under it. A sink takes what is written; `out` is the output and `err` the error
-- output, each before and after a call. What is due is the right answer: a text that is printed, or a refusal, a
-- status and its line, each with the number of steps, the instructions that a run began.
use Rattle.std.specs.Prelude.{◌≡◌, ◌≢◌, ℕ, ◌+◌, ◌⊎◌, List, [], ◌∷◌, ◌++◌, IsTrue, None}
use Rattle.rb_accept.specs.Reading.{Source, handed_out, ReadsInTurn}
use Rattle.rb_command.specs.Command.{Parsed, IsParsed}
use Rattle.rb_edge.specs.Faults.{Rose}
use Rattle.rb_edge.specs.History.{Reading, missed_reading}
use Rattle.rb_lines.specs.Answer.{Due, printed, refused, status_of, steps_of, text_of_due}
use Rattle.rb_lines.specs.Delivery.{Change, Took, CutOff, TriesText, Stood, Delivers}
use Rattle.rb_lines.specs.Lines.{write_fault_line}
use Rattle.rb_lines.specs.Numbers.{status_number}
use Rattle.rb_lines.specs.declared.status.Status.TheVariants.{NoMemory, Unread}
use Rattle.ribbit_tool.specs.Answers.{AnswersCommand, Owes, files_of}

-- how many steps were counted before and after a call
pub record Counting : Type 0 where
  pub before : ℕ
  pub now : ℕ

-- the output took a printed text, or the error output a line, and the other one nothing
abbrev pub Shows : Due → Change → Change → Type 0
Shows (printed text steps) out err = Took out text × Took err []
Shows (refused status line steps) out err = Took out [] × Took err line

-- the sinks took the text of what is due, the status is its own, and the steps are its own
pub record GivesDue (due : Due) (out err : Change) (steps : Counting) (status : ℕ) : Type 0 where
  pub status_is : status ≡ status_of due
  pub shown : Shows due out err
  pub counted : steps.now ≡ steps.before + steps_of due

-- the right answer was given to what was read: the sinks took it, and its status and its steps are those of the call
abbrev pub GivesAnswer : Parsed → Source → Change → Change → Counting → ℕ → Type 0
GivesAnswer parsed source out err steps status =
    (due : Due) × AnswersCommand parsed (handed_out source) due × GivesDue due out err steps status

-- What was due, and how it was delivered. Where there is want of memory nothing is said of the steps.
pub record Performs (words : List (List ℕ)) (source : Source) (out err : Change) (steps : Counting)
    (status : ℕ) : Type 0 where
  pub parsed : Parsed
  pub meant : IsParsed words parsed
  pub reads : ReadsInTurn (files_of parsed) source
  pub due : Due
  pub owes : Owes parsed (handed_out source) due
  pub delivers : Delivers due out err status
  pub counted : status_of due ≢ status_number NoMemory → steps.now ≡ steps.before + steps_of due

-- no write failed, and memory did not run out
abbrev pub IsCalm : Change → Change → ℕ → Type 0
IsCalm out err status = Stood out × Stood err × (status ≢ status_number NoMemory)

-- a write failed: of the output at status 0, and then the line of a write fault was tried; or of the error
-- output at any other status. Each took a front of its text, and then no more.
abbrev pub IsCutOff : Due → Change → Change → Type 0
IsCutOff due out err =
    ((status_of due ≡ 0) × CutOff out (text_of_due due) × TriesText err write_fault_line)
    ⊎ ((status_of due ≢ 0) × Took out [] × CutOff err (text_of_due due))

-- The name that was to be opened last is that of no file, which the source tells.
pub record LastIsAbsent (source : Source) : Type 0 where
  pub told : IsTrue source.tells
  pub name : List ℕ
  pub nothing : source.held name ≡ None
  pub earlier : List Reading
  pub last : handed_out source ≡ earlier ++ missed_reading name ∷ []

-- what is promised of each command, whatever is read and written
pub record IsPromised (words : List (List ℕ)) (source : Source) (out err : Change) (steps : Counting)
    (status : ℕ) : Type 0 where
  -- what the words come to: a command, or the first word at fault
  pub parsed : Parsed
  pub meant : IsParsed words parsed
  -- the files of the command were read in turn, each once at most and one byte over its limit at most
  pub reads : ReadsInTurn (files_of parsed) source
  -- a status other than 8 and that of want of memory is the right one for what was read, with its text and its
  -- steps; so no read that failed passes as the end
  pub right : status ≢ 8 → status ≢ status_number NoMemory → GivesAnswer parsed source out err steps status
  -- where no write failed, the answer is the right one, want of memory aside
  pub complete : IsCalm out err status → GivesAnswer parsed source out err steps status
  -- a read fault has its cause: the count rose, or nothing is held under the name
  pub read_fault : status ≡ status_number Unread → Rose source.before source.now ⊎ LastIsAbsent source
  -- a write fault has its cause, and the sinks took fronts of their texts
  pub write_fault : status ≡ 8 → (due : Due) × Owes parsed (handed_out source) due × IsCutOff due out err
