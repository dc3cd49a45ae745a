-- What is due to the words of a command line: the answer that the program owes to them. Texts and lines are lists of
-- bytes.
use Rattle.std.specs.Prelude.{ℕ, List}
use Rattle.rb_lines.specs.declared.status.Status.{Status}
use Rattle.rb_lines.specs.Numbers.{status_number}

-- A text for the output, or a named status with its line for the error output; and how many instructions
-- the command began.
pub data Due : Type 0 where
  printed : (text : List ℕ) → (steps : ℕ) → Due
  refused : (status : Status) → (line : List ℕ) → (steps : ℕ) → Due

-- a refusal before anything ran
abbrev pub refusal : Status → List ℕ → Due
refusal status line = refused status line 0

-- the exit status of an answer: 0 for a printed text, or that of the status by which it is refused
abbrev pub status_of : Due → ℕ
status_of (printed text steps) = 0
status_of (refused status line steps) = status_number status

-- the text that an answer prints, or the line by which it refuses
abbrev pub text_of_due : Due → List ℕ
text_of_due (printed text steps) = text
text_of_due (refused status line steps) = line

-- how many instructions the command of an answer began
abbrev pub steps_of : Due → ℕ
steps_of (printed text steps) = steps
steps_of (refused status line steps) = steps
