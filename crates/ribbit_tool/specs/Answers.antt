-- The answer to the words of a command line, given what was read: the readings, in order, each a name with the bytes
-- that were read under it. The words are parsed to a command, or to the number of their first word at fault. What is
-- due is the right answer: a text that is printed, or a refusal, which is a status and its line, each with the number
-- of steps, the instructions that a run began. Names and texts are lists of bytes.
use Rattle.std.specs.Prelude.{◌≡◌, ℕ, List, [], ◌∷◌, Ok, Err}
use Rattle.rb_accept.specs.Reading.{ReadsOne, file_limit, code_limit, image_limit}
use Rattle.rb_command.specs.Command.{Parsed, check, layout, compile, run, image, count, gen, genrun, exec, value, peek}
use Rattle.rb_edge.specs.History.{Reading}
use Rattle.rb_lines.specs.Answer.{Due, refusal}
use Rattle.rb_lines.specs.Lines.{usage_line, no_memory_line}
use Rattle.rb_lines.specs.declared.status.Status.TheVariants.{Usage, NoMemory}
use Rattle.ribbit_tool.specs.Check.{ChecksFile}
use Rattle.ribbit_tool.specs.Compiling.{CompilesFile}
use Rattle.ribbit_tool.specs.Count.{CountsFile}
use Rattle.ribbit_tool.specs.Exec.{Executes}
use Rattle.ribbit_tool.specs.Generate.{Generates, CountsGenerated}
use Rattle.ribbit_tool.specs.Image.{ImagesFile}
use Rattle.ribbit_tool.specs.Layout.{LaysOutFile}
use Rattle.ribbit_tool.specs.Peek.{PeeksValue}
use Rattle.ribbit_tool.specs.Run.{RunsFile}
use Rattle.ribbit_tool.specs.Value.{ReadsValue}

-- the names of the files that a command reads, in order, each with its limit in bytes; none for `gen` and `genrun`,
-- and where the words are no command
abbrev pub files_of : Parsed → List (List ℕ × ℕ)
files_of (Ok (check file)) = (file, file_limit) ∷ []
files_of (Ok (layout file)) = (file, file_limit) ∷ []
files_of (Ok (compile file)) = (file, file_limit) ∷ []
files_of (Ok (run file limits values)) = (file, file_limit) ∷ []
files_of (Ok (image file limits values)) = (file, file_limit) ∷ []
files_of (Ok (count file limits values)) = (file, file_limit) ∷ []
files_of (Ok (gen functions)) = []
files_of (Ok (genrun functions limits)) = []
files_of (Ok (exec code function limits words)) = (code, code_limit) ∷ []
files_of (Ok (value file second)) = (file, file_limit) ∷ (second, image_limit) ∷ []
files_of (Ok (peek file second path)) = (file, file_limit) ∷ (second, image_limit) ∷ []
files_of (Err word) = []

-- what is due to the words of a command line over what was read: what is due to the command that they are, or the
-- line of their first word at fault where they are none
abbrev pub AnswersCommand : Parsed → List Reading → Due → Type 0
AnswersCommand (Ok (check file)) readings due = ReadsOne file file_limit (λ bytes d. ChecksFile bytes d) readings due
AnswersCommand (Ok (layout file)) readings due =
    ReadsOne file file_limit (λ bytes d. LaysOutFile bytes d) readings due
AnswersCommand (Ok (compile file)) readings due =
    ReadsOne file file_limit (λ bytes d. CompilesFile bytes d) readings due
AnswersCommand (Ok (run file limits values)) readings due =
    ReadsOne file file_limit (λ bytes d. RunsFile limits values bytes d) readings due
AnswersCommand (Ok (image file limits values)) readings due =
    ReadsOne file file_limit (λ bytes d. ImagesFile limits values bytes d) readings due
AnswersCommand (Ok (count file limits values)) readings due =
    ReadsOne file file_limit (λ bytes d. CountsFile limits values bytes d) readings due
AnswersCommand (Ok (gen functions)) readings due = Generates functions due
AnswersCommand (Ok (genrun functions limits)) readings due = CountsGenerated functions limits due
AnswersCommand (Ok (exec code function limits words)) readings due =
    ReadsOne code code_limit (λ bytes d. Executes function limits words bytes d) readings due
AnswersCommand (Ok (value file second)) readings due = ReadsValue file second readings due
AnswersCommand (Ok (peek file second path)) readings due = PeeksValue file second path readings due
AnswersCommand (Err word) readings due = due ≡ refusal Usage (usage_line word)

-- what is owed to the words over what was read: what is due to them, or the refusal for want of memory
pub data Owes (parsed : Parsed) (readings : List Reading) (due : Due) : Type 0 where
  answered : AnswersCommand parsed readings due → Owes parsed readings due
  out_of_memory : due ≡ refusal NoMemory no_memory_line → Owes parsed readings due
