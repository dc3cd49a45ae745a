-- What the program promises gives the headline of each command that calls `main`.
use Rattle.std.proofs.Common.{◌≡◌, ℕ, List, [], ◌∷◌, sym, ap, subst, ◌∙◌, Ok}
use Rattle.rb_accept.specs.Accepting.{IsAccepted, turned_down, accepted}
use Rattle.rb_accept.specs.Arguments.{Spell}
use Rattle.rb_accept.specs.Reading.{Source, ReadsOne, unread, within, too_long, not_read, handed_out, whole, file_limit}
use Rattle.rb_accept.proofs.ArgumentLaws.{never_misfit, same_values}
use Rattle.rb_accept.proofs.OneProgram.{one_program, accepted_unrefused}
use Rattle.rb_accept.proofs.ReadLaws.{going≢ended, failed≢ended}
use Rattle.rb_command.specs.Command.{Command, Limits, Parsed, run}
use Rattle.rb_command.proofs.OneCommand.{one_meaning}
use Rattle.rb_core.specs.Typing.{param_types}
use Rattle.rb_core.specs.declared.program.Program.{Program}
use Rattle.rb_core.specs.declared.value.Value.{Value}
use Rattle.rb_edge.specs.History.{Reading, Course, going}
use Rattle.rb_layout.specs.Flattening.{flat_layouts}
use Rattle.rb_layout.specs.declared.agreed.LaidOut.{LaidOut}
use Rattle.rb_layout.specs.declared.layout.Layout.{Layout}
use Rattle.rb_lines.specs.Answer.{Due}
use Rattle.rb_lines.specs.Delivery.{Change}
use Rattle.rb_rel.specs.Answers as answer
use Rattle.rb_target.specs.declared.code.CodeFun.{CodeFun}
use Rattle.ribbit_tool.specs.Answers.{AnswersCommand}
use Rattle.ribbit_tool.specs.Compiling.{IsCompiled, IsLaidOut}
use Rattle.ribbit_tool.specs.Headline.{SaysAnswer, OfCalls, Headline}
use Rattle.ribbit_tool.specs.Promise.{Counting, GivesDue, IsPromised}
use Rattle.ribbit_tool.specs.Run.{Runs, answer_due, source_answer, value_line, Prepares, PreparesFile, prepared, misfit}

-- Accepted files are prepared ---------------------------------------------------------------

-- what followed once the program was prepared with these values
pub record Ready (Then : LaidOut → List CodeFun → List Value → Due → Type 0) (p : Program) (args : List Value) (due : Due) : Type 0 where
  pub agreed : LaidOut
  pub laid : IsLaidOut p agreed
  pub code : List CodeFun
  pub compiled : IsCompiled agreed code
  pub follows : Then agreed code args due

module _ (Then : LaidOut → List CodeFun → List Value → Due → Type 0) (values : List (List ℕ)) (bytes : List ℕ) (p : Program) (a : IsAccepted bytes p)
    (args : List Value) (spelled : Spell p values args) where
  -- by another proof that the file is accepted
  as_prepared : (q : Program) → p ≡ q → (due : Due) → Prepares values Then q due → Ready Then p args due
  as_prepared q same due (misfit m) =
      absurd (never_misfit q values args due (subst (λ (x : Program). Spell x values args) same spelled) m)
  as_prepared q same due (prepared agreed laid code others ready spells h) =
      let alike : others ≡ args =
      same_values q.types (param_types q.funs q.main) values others args spells (subst (λ (x : Program). Spell x values args) same spelled) in
      record {
        agreed = agreed;
        laid = record { program = laid.program ∙ sym same; layouts = laid.layouts ∙ ap (λ (x : Program). flat_layouts x) (sym same) };
        code = code;
        compiled = ready.compiled;
        follows = subst (λ (vs : List Value). Then agreed code vs due) alike h;
      }

  pub ready_as : (due : Due) → PreparesFile values bytes Then due → Ready Then p args due
  ready_as due (turned_down h) = absurd (accepted_unrefused bytes p due a h)
  ready_as due (accepted q b h) = as_prepared q (one_program bytes p q a b) due h

-- Commands that call `main` -----------------------------------------------------------------

-- the first reading, if there is one
first_bytes : List Reading → List ℕ
first_bytes [] = []
first_bytes (r ∷ rs) = r.bytes

first_course : List Reading → Course
first_course [] = going
first_course (r ∷ rs) = r.course

-- what follows a file that gave these bytes
pub follows : (file bytes : List ℕ) (limit : ℕ) (Then : List ℕ → Due → Type 0) (readings : List Reading) (due : Due) → readings ≡ whole file bytes ∷ []
    → ReadsOne file limit Then readings due → Then bytes due
unfolding first_bytes first_course
follows file bytes limit Then readings due gave (unread (too_long part long is e)) = absurd (going≢ended (ap first_course (sym is ∙ gave)))
follows file bytes limit Then readings due gave (unread (not_read part is e)) = absurd (failed≢ended (ap first_course (sym is ∙ gave)))
follows file bytes limit Then readings due gave (within part later is short h) = subst (λ (bs : List ℕ). Then bs due) (ap first_bytes (sym is ∙ gave)) h.1

module _ (command : List ℕ → Limits → List (List ℕ) → Command) (Then : Limits → LaidOut → List CodeFun → List Value → Due → Type 0)
    (Promised : Program → List Value → Limits → Change → Change → ℕ → Type 0)
    (reads : (file : List ℕ) (limits : Limits) (values : List (List ℕ)) (readings : List Reading) (due : Due) → AnswersCommand (Ok (command file limits values)) readings due
    → ReadsOne file file_limit (λ bs d. PreparesFile values bs (Then limits) d) readings due)
    (says : (p : Program) (args : List Value) (limits : Limits) (due : Due) → Ready (Then limits) p args due
    → (out err : Change) (steps : Counting) (status : ℕ) → GivesDue due out err steps status → Promised p args limits out err status) where
  pub of_calls : (words : List (List ℕ)) (source : Source) (out err : Change) (steps : Counting) (status : ℕ) → IsPromised words source out err steps status
      → OfCalls command Promised words source out err status
  of_calls words source out err steps status r file limits values written bytes gave p a args spelled calm =
      let parsed : r.parsed ≡ Ok (command file limits values) = one_meaning words r.parsed (Ok (command file limits values)) r.meant written in
      let given = r.complete calm in
      let due = given.0 in
      let owed : AnswersCommand (Ok (command file limits values)) (handed_out source) due = subst (λ (x : Parsed). AnswersCommand x (handed_out source) due) parsed given.1 in
      let prepares = follows file bytes file_limit (λ bs d. PreparesFile values bs (Then limits) d) (handed_out source) due gave
      (reads file limits values (handed_out source) due owed) in
      says p args limits due (ready_as (Then limits) values bytes p a args spelled due prepares) out err steps status given.2

-- The command `run` -------------------------------------------------------------------------

module _ (shown : Value → List ℕ) (limits : Limits) (out err : Change) (steps : Counting) (status : ℕ) where
  pub says : (s : answer.Answer) (n : ℕ) → GivesDue (answer_due shown limits.calls s n) out err steps status → SaysAnswer shown limits s out err status
  says (answer.Shown v) n g = (g.status_is, g.shown.0, g.shown.1)
  says answer.Spent n g = (g.status_is, g.shown.0, g.shown.1)
  says (answer.Full f) n g = (g.status_is, g.shown.0, g.shown.1)
  says answer.TooLarge n g = (g.status_is, g.shown.0, g.shown.1)

abbrev Answered : Limits → LaidOut → List CodeFun → List Value → Due → Type 0
Answered limits agreed code args due = Runs agreed code args limits due

run_says : (p : Program) (args : List Value) (limits : Limits) (due : Due) → Ready (Answered limits) p args due
    → (out err : Change) (steps : Counting) (status : ℕ) → GivesDue due out err steps status → SaysAnswer (value_line p) limits (source_answer p (flat_layouts p) limits args) out err status
run_says p args limits due r out err steps status g =
    let n = r.follows.taken in
    let is = r.follows.shown ∙ ap (λ (x : Program). answer_due (value_line x) limits.calls (source_answer x r.agreed.layouts limits args) n) r.laid.program
    ∙ ap (λ (ls : List Layout). answer_due (value_line p) limits.calls (source_answer p ls limits args) n) r.laid.layouts in
    says (value_line p) limits out err steps status (source_answer p (flat_layouts p) limits args) n (subst (λ (d : Due). GivesDue d out err steps status) is g)

pub headlined : (words : List (List ℕ)) (source : Source) (out err : Change) (steps : Counting) (status : ℕ) → IsPromised words source out err steps status
    → Headline words source out err status
headlined = of_calls run Answered (λ p args limits out err status. SaysAnswer (value_line p) limits (source_answer p (flat_layouts p) limits args) out err status)
    (λ file limits values readings due h. h) run_says
