-- What is due to a code text, the name of a function, limits and words: the right answer, which is a text that is
-- printed, or a refusal, a status and its line, each with the number of steps, the instructions that the run began.
-- The words are numbers of 64 bits, with which the function is called. The limits are the number of calls that the
-- run may make, and the address at which its region, the memory of the run, ends. Functions are numbered from 0, in
-- their order.
use Rattle.std.specs.Prelude.{◌≡◌, ℕ, List, length, ◌==◌, if◌then◌else◌, Option, Some, None, slice_get}
use Rattle.std.specs.List.{position}
use Rattle.std.specs.Str.{bytes_eq}
use Rattle.rb_bytes.specs.Memory.{empty_memory}
use Rattle.rb_command.specs.Command.{Limits}
use Rattle.rb_lines.specs.Answer.{Due, printed, refused, refusal}
use Rattle.rb_lines.specs.Lines.{words_line, spent_line, full_line, trap_line, no_function_line, count_line, code_line}
use Rattle.rb_lines.specs.declared.status.Status.TheVariants as status
use Rattle.rb_machine.specs.Runs.{params_in}
use Rattle.rb_target.specs.declared.code.CodeFun.{CodeFun}
use Rattle.rb_target.specs.declared.fault.CodeFault.{CodeFault}
use Rattle.rb_target.specs.declared.fault.CodeFault.TheVariants.{CodeSyntax}
use Rattle.rb_target.specs.declared.outcome.End.{End}
use Rattle.rb_target.specs.declared.outcome.End.TheVariants.{Returned, Spent, Full, Trapped}
use Rattle.rb_target.specs.Faults.{IsFirstCodeFault}
use Rattle.rb_target.specs.Meaning.{CallEnd, run_of}
use Rattle.rb_target.specs.Stopping.{IsTextOf, StopsAt}
use Rattle.rb_target.specs.Text.{code_text}
use Rattle.rb_target.specs.Validity.{IsValid}

-- what is due to the end of a run that had so many calls and took so many steps: what is shown of the returned words,
-- or the line of any other end
abbrev pub end_due : (List ℕ → List ℕ) → ℕ → End → ℕ → Due
end_due shown calls (Returned words left) steps = printed (shown words) steps
end_due shown calls Spent steps = refused status.Spent (spent_line calls) steps
end_due shown calls (Full f) steps = refused status.Full (full_line f) steps
end_due shown calls (Trapped t) steps = refused status.Trap (trap_line t) steps

-- what is due to the outcome of a run that had so many calls: its words on a line, or the line of any other end
abbrev pub outcome_due : CallEnd → ℕ → Due
outcome_due o calls = end_due words_line calls o.ended o.world.taken

-- the number of the first function of this name; None where none has it
abbrev pub fun_named : List CodeFun → List ℕ → Option ℕ
fun_named funs name = position (λ f. bytes_eq f.name name) funs

-- what is due to words for function number f: its run on them over an empty memory, or a refusal where they are not
-- as many as its parameters
abbrev pub call_due : List CodeFun → Limits → List ℕ → ℕ → Due
call_due funs limits words f =
    if length words == params_in (slice_get funs f)
    then outcome_due (run_of funs limits.calls f words (empty_memory limits.region)) limits.calls
    else refusal status.Argument (count_line (params_in (slice_get funs f)) (length words))

-- what is due to words for the function of a name, whose number is given; a refusal where there is no such function
abbrev pub named_due : List CodeFun → List ℕ → Limits → List ℕ → Option ℕ → Due
named_due funs name limits words None = refusal status.Argument (no_function_line name)
named_due funs name limits words (Some f) = call_due funs limits words f

-- what is due to words for the function of this name: what comes of its run, or a refusal where it is not there or
-- takes another number of words
abbrev pub exec_due : List CodeFun → List ℕ → Limits → List ℕ → Due
exec_due funs name limits words = named_due funs name limits words (fun_named funs name)

-- What is due to the bytes of a code text: valid code is run, and of functions that are no valid code the first fault
-- is shown. Where the bytes are no text of functions, the number of the byte at which they stop being the front of
-- one is shown.
pub data Executes (name : List ℕ) (limits : Limits) (words : List ℕ) (bytes : List ℕ) (due : Due) : Type 0 where
  executed : (funs : List CodeFun) → IsValid funs → bytes ≡ code_text funs → due ≡ exec_due funs name limits words
      → Executes name limits words bytes due
  faulty : (funs : List CodeFun) → IsTextOf bytes funs → (fault : CodeFault) → IsFirstCodeFault funs fault
      → due ≡ refusal status.Code (code_line fault) → Executes name limits words bytes due
  no_code : (at : ℕ) → StopsAt bytes at → due ≡ refusal status.Code (code_line (CodeSyntax at))
      → Executes name limits words bytes due
