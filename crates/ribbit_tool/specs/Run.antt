-- What is due to the run of a file, and the answer of the source to a call of `main`. What is due is the right
-- answer: a text that is printed, or a refusal, a status and its line, each with the number of steps, the
-- instructions that the run began. The limits are the number of calls that the run may make, and the address at which
-- its region ends: the memory of the run, whose first address is 64. Blocks are laid in it: placed one behind the
-- other, or one of them is the first that does not fit. The words are texts that spell the arguments of `main`.
-- `agreed` is a program with its layouts.
use Rattle.std.specs.Prelude.{◌≡◌, ℕ, List, map, true}
use Rattle.rb_accept.specs.Accepting.{Accepts}
use Rattle.rb_accept.specs.Arguments.{Spell, IsMisfit}
use Rattle.rb_bytes.specs.Memory.{empty_memory}
use Rattle.rb_command.specs.Command.{Limits}
use Rattle.rb_core.specs.Meaning.{call_of}
use Rattle.rb_core.specs.Typing.{param_types, result_type}
use Rattle.rb_core.specs.Values.{all_of_types, is_of_type}
use Rattle.rb_core.specs.declared.outcome.SourceEnd.{SourceEnd}
use Rattle.rb_core.specs.declared.outcome.SourceEnd.TheVariants.{Done, Spent}
use Rattle.rb_core.specs.declared.program.Program.{Program}
use Rattle.rb_core.specs.declared.value.Value.{Value}
use Rattle.rb_layout.specs.declared.agreed.LaidOut.{LaidOut}
use Rattle.rb_layout.specs.declared.layout.Layout.{Layout}
use Rattle.rb_show.specs.Lines.{line}
use Rattle.rb_lines.specs.Answer.{Due, printed, refused}
use Rattle.rb_lines.specs.ArgumentLines.{node_limit}
use Rattle.rb_lines.specs.Lines.{spent_line, full_line, large_line}
use Rattle.rb_lines.specs.declared.status.Status.TheVariants as status
use Rattle.rb_rel.specs.Answers as answer
use Rattle.rb_rel.specs.Answers.{answer_of, laid_call}
use Rattle.rb_rel.specs.Placing.{Laid, Fits, Over}
use Rattle.rb_run.specs.Calling.{IsCounted}
use Rattle.rb_target.specs.declared.code.CodeFun.{CodeFun}
use Rattle.rb_values.specs.Texts.{text_of}
use Rattle.ribbit_tool.specs.Compiling.{IsCompiled, IsLaidOut}

-- Prepared programs -------------------------------------------------------------------------

-- code that does what the program means, and values of the types of `main`
pub record IsPrepared (agreed : LaidOut) (code : List CodeFun) (args : List Value) : Type 0 where
  pub compiled : IsCompiled agreed code
  pub typed : all_of_types (map (is_of_type agreed.covered.program.types) args)
      (param_types agreed.covered.program.funs agreed.covered.program.main) ≡ true

-- What is due to an accepted program and words: they spell no arguments of `main`, and are refused; or they do, there
-- is code that does what the source means, and what is due is what `Then` says of code and arguments.
pub data Prepares (words : List (List ℕ)) (Then : LaidOut → List CodeFun → List Value → Due → Type 0) (p : Program)
    (due : Due) : Type 0 where
  misfit : IsMisfit p words due → Prepares words Then p due
  prepared : (agreed : LaidOut) → IsLaidOut p agreed → (code : List CodeFun) (args : List Value)
      → IsPrepared agreed code args → Spell p words args
      → Then agreed code args due → Prepares words Then p due

-- what is due to a file within the limit, by its bytes, and words: a refusal of either, or what `Then` says of its
-- code and the arguments that the words spell
abbrev pub PreparesFile : List (List ℕ) → List ℕ → (LaidOut → List CodeFun → List Value → Due → Type 0) → Due → Type 0
PreparesFile words bytes Then due = Accepts bytes (λ p a d. Prepares words Then p d) due

-- The answer of the source ------------------------------------------------------------------

-- what the source comes to by the call of `main` on these values, the blocks of the values placed first
abbrev pub source_answer : Program → List Layout → Limits → List Value → answer.Answer
source_answer p layouts limits args = answer_of p layouts args limits.calls limits.region node_limit

-- what is due to an answer of the source to a call with so many calls, after so many steps: what is shown of its
-- value, or the line of the limit that it passes first
abbrev pub answer_due : (Value → List ℕ) → ℕ → answer.Answer → ℕ → Due
answer_due shown calls (answer.Shown v) steps = printed (shown v) steps
answer_due shown calls answer.Spent steps = refused status.Spent (spent_line calls) steps
answer_due shown calls (answer.Full f) steps = refused status.Full (full_line f) steps
answer_due shown calls answer.TooLarge steps = refused status.TooLarge (large_line node_limit) steps

-- the answer to a call that ends so, its blocks laid like this, however many nodes, numbers and constructions, the
-- value has
abbrev pub answer_of_any_size : Laid → SourceEnd → answer.Answer
answer_of_any_size (Over full) end = answer.Full full
answer_of_any_size (Fits blocks next) Spent = answer.Spent
answer_of_any_size (Fits blocks next) (Done v left) = answer.Shown v

-- what the source comes to by the call of `main` on these values, however many nodes the value has
abbrev pub whole_answer : Program → List Layout → Limits → List Value → answer.Answer
whole_answer p layouts limits args =
    answer_of_any_size (laid_call p layouts args limits.calls (empty_memory limits.region))
    (call_of p p.main limits.calls args).end

-- Runs --------------------------------------------------------------------------------------

-- the text of a value of the result type of `main`, on a line
abbrev pub value_line : Program → Value → List ℕ
value_line p v = line (text_of p.types v (result_type p.funs p.main))

-- The source's answer is due, with the steps of the code's run on words that represent the values, over a
-- fresh region.
pub record Runs (agreed : LaidOut) (code : List CodeFun) (args : List Value) (limits : Limits)
    (due : Due) : Type 0 where
  pub taken : ℕ
  pub switches : ℕ
  pub counted : IsCounted agreed code args limits.calls (empty_memory limits.region) taken switches
  pub shown : due ≡ answer_due (value_line agreed.covered.program) limits.calls
      (source_answer agreed.covered.program agreed.layouts limits args) taken

-- what is due to `run` of a file within the limit, by its bytes, on these words: a refusal of either, or the source's
-- answer
abbrev pub RunsFile : Limits → List (List ℕ) → List ℕ → Due → Type 0
RunsFile limits words bytes due = PreparesFile words bytes (λ agreed code args d. Runs agreed code args limits d) due
