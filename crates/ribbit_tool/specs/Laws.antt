-- Laws of code texts: what the command `exec` does with them. A plan has a program with its layouts, words represent
-- values by these, and what is due is the right answer, a text that is printed or a refusal.
use Rattle.std.specs.Prelude.{◌≡◌, ◌≤◌, ℕ, List, Bool, Some, slice_get}
use Rattle.rb_bytes.specs.Memory.{empty_memory, least_region, most_region}
use Rattle.rb_command.specs.Command.{Limits}
use Rattle.rb_compile.specs.Plans.{plan_of}
use Rattle.rb_compile.specs.Refining.{DoesAs}
use Rattle.rb_core.specs.Meaning.{call_of}
use Rattle.rb_core.specs.TypedPrograms.{IsTyped}
use Rattle.rb_core.specs.declared.program.Fun.{Fun}
use Rattle.rb_core.specs.declared.value.Value.{Value}
use Rattle.rb_fragment.specs.Plan.{Reps, types_of}
use Rattle.rb_layout.specs.declared.agreed.LaidOut.{LaidOut}
use Rattle.rb_lines.specs.Answer.{Due}
use Rattle.rb_target.specs.declared.code.CodeFun.{CodeFun}
use Rattle.rb_target.specs.Meaning.{CallEnd}
use Rattle.rb_target.specs.Text.{code_text}
use Rattle.rb_target.specs.Validity.{IsValid}
use Rattle.ribbit_tool.specs.Compiling.{IsCompiled}
use Rattle.ribbit_tool.specs.Exec.{Executes, exec_due, outcome_due}

-- the text of valid code, of `compile` or of any other source, is executed as just that code
abbrev pub AreExecuted : Type 0
AreExecuted = (funs : List CodeFun) → IsValid funs → (name : List ℕ) (limits : Limits) (words : List ℕ) (due : Due)
    → Executes name limits words (code_text funs) due → due ≡ exec_due funs name limits words

-- What `exec` answers to the text of code that `compile` may write of a typed program: it runs the function
-- of the program that has this name on the words, which represent its arguments where no block is, and the
-- run does what the source does. So it shows words that represent the value, or tells which limit the source
-- passes first, that of calls or that of the region. It is never trapped.
abbrev pub CompiledTextsRun : Type 0
CompiledTextsRun =
    (agreed : LaidOut) → IsTyped agreed.covered.program → (code : List CodeFun) → IsCompiled agreed code
    → (g : ℕ) (f : Fun) → slice_get agreed.covered.program.funs g ≡ Some f
    → (limits : Limits) → least_region ≤ limits.region → limits.region ≤ most_region
    → (clean : Bool) (args : List Value) (words : List ℕ)
    → Reps (plan_of agreed) (empty_memory limits.region) clean (types_of f) args words
    → (due : Due) → Executes f.name limits words (code_text code) due
    → (run : CallEnd) × (due ≡ outcome_due run limits.calls)
    × DoesAs (plan_of agreed) clean f.result (empty_memory limits.region)
    (call_of agreed.covered.program g limits.calls args) run
