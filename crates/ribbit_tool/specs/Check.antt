-- What is due to the check of a file: a line for each clause that no value reaches, its note, and then `ok`. What is
-- due is the right answer: a text that is printed, or a refusal, each with a number of steps, which is 0 here.
use Rattle.std.specs.Prelude.{◌≡◌, ℕ, List, length}
use Rattle.rb_accept.specs.Accepting.{IsAccepted, Accepts}
use Rattle.rb_core.specs.Coverage.{IsCovered}
use Rattle.rb_core.specs.declared.program.Note.{Note}
use Rattle.rb_core.specs.declared.program.Program.{Program}
use Rattle.rb_lines.specs.Answer.{Due, printed}
use Rattle.rb_lines.specs.Notes.{check_text}

-- what is due to `check` of a file that is accepted with program p: the notes on its clauses that no value reaches,
-- and `ok`
pub record Checks (bytes : List ℕ) (p : Program) (a : IsAccepted bytes p) (due : Due) : Type 0 where
  pub notes : List Note
  pub covered : IsCovered p notes
  pub shown : due ≡ printed (check_text a.placed (length bytes) notes) 0

-- what is due to `check` of a file within the limit, by its bytes: its refusal, or the notes on its clauses and `ok`
abbrev pub ChecksFile : List ℕ → Due → Type 0
ChecksFile bytes due = Accepts bytes (λ p a d. Checks bytes p a d) due
