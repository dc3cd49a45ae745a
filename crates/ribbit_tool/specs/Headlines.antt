-- What is promised of `compile`, of the other commands that call `main`, and of generated files. A sink takes what is
-- written; `out` is the output and `err` the error output, each before and after a call, and `status` is the one that
-- the program ends with. The source hands out files by name. The limits are the number of calls that the run may
-- make, and the address at which its region, the memory of the run, ends. A tally is what is counted of a run.
use Rattle.std.specs.Prelude.{◌≡◌, ℕ, List, []}
use Rattle.rb_accept.specs.Accepting.{IsAccepted}
use Rattle.rb_accept.specs.Arguments.{Spell}
use Rattle.rb_accept.specs.Reading.{Source, Gave}
use Rattle.rb_bytes.specs.Memory.{Memory, empty_memory}
use Rattle.rb_command.specs.Command.{Limits, compile, image, count, gen, genrun, IsWordsOf}
use Rattle.rb_core.specs.declared.program.Program.{Program}
use Rattle.rb_core.specs.declared.value.Value.{Value}
use Rattle.rb_image_text.specs.MemoryImages.{memory_image}
use Rattle.rb_image_text.specs.Text.{image_text}
use Rattle.rb_layout.specs.Flattening.{flat_layouts}
use Rattle.rb_layout.specs.declared.agreed.LaidOut.{LaidOut}
use Rattle.rb_lines.specs.Delivery.{Change, Took}
use Rattle.rb_run.specs.Calling.{IsCounted}
use Rattle.rb_run.specs.declared.count.Tally.{Tally}
use Rattle.rb_target.specs.Text.{code_text}
use Rattle.rb_target.specs.declared.code.CodeFun.{CodeFun}
use Rattle.ribbit_tool.specs.Compiling.{IsCompiled, IsLaidOut}
use Rattle.ribbit_tool.specs.Count.{IsMainTally, count_text}
use Rattle.ribbit_tool.specs.Generate.{generated_file}
use Rattle.ribbit_tool.specs.Headline.{OfCalls, SaysAnswer}
use Rattle.ribbit_tool.specs.Image.{ShowWhole}
use Rattle.ribbit_tool.specs.Promise.{IsCalm}
use Rattle.ribbit_tool.specs.Run.{source_answer, whole_answer}

-- Code --------------------------------------------------------------------------------------

-- The text of valid code that refines the program, with few switches: each call of each function, from any
-- good memory, on any words that represent its arguments there and with any number of calls, does what the
-- source does, and none is ever trapped.
pub record SaysCode (p : Program) (out err : Change) (status : ℕ) : Type 0 where
  pub agreed : LaidOut
  pub laid : IsLaidOut p agreed
  pub code : List CodeFun
  pub compiled : IsCompiled agreed code
  pub status_is : status ≡ 0
  pub text : Took out (code_text code)
  pub no_line : Took err []

-- what is promised of `compile`, where the file gave bytes that are accepted, no write failed and memory did not run
-- out
abbrev pub CompileHeadline : List (List ℕ) → Source → Change → Change → ℕ → Type 0
CompileHeadline words source out err status =
    (file : List ℕ) → IsWordsOf (compile file) words
    → (bytes : List ℕ) → Gave source file bytes → (p : Program) → IsAccepted bytes p
    → IsCalm out err status → SaysCode p out err status

-- Images ------------------------------------------------------------------------------------

-- what `image` says: an image of the source's value, or the limit that the source passes first; no value is too large
pub record SaysImage (p : Program) (args : List Value) (limits : Limits) (out err : Change) (status : ℕ) : Type 0 where
  pub words : List ℕ
  pub memory : Memory
  pub show : ShowWhole p (flat_layouts p) limits args words memory
  pub says : SaysAnswer (λ v. image_text (memory_image words memory)) limits
      (whole_answer p (flat_layouts p) limits args)
      out err status

-- what is promised of `image`: an image of the source's value, or the limit that the source passes first
abbrev pub ImageHeadline : List (List ℕ) → Source → Change → Change → ℕ → Type 0
ImageHeadline = OfCalls image SaysImage

-- Counts ------------------------------------------------------------------------------------

-- some code that does what the program means does so many switches in its run on these arguments of `main`
pub record AreSwitches (p : Program) (args : List Value) (limits : Limits) (switches : ℕ) : Type 0 where
  pub agreed : LaidOut
  pub laid : IsLaidOut p agreed
  pub code : List CodeFun
  pub compiled : IsCompiled agreed code
  pub steps : ℕ
  pub counted : IsCounted agreed code args limits.calls (empty_memory limits.region) steps switches

-- what `count` says: the source's value, the calls that it made, the switches of the code, and the blocks and bytes
-- that the source asked for; or the limit that it passes first
pub record SaysCount (p : Program) (args : List Value) (limits : Limits) (out err : Change) (status : ℕ) : Type 0 where
  pub tally : Tally
  pub tallied : IsMainTally p (flat_layouts p) limits args tally
  pub done : AreSwitches p args limits tally.switches
  pub says : SaysAnswer (count_text p tally) limits (source_answer p (flat_layouts p) limits args) out err status

-- what is promised of `count`: the source's value and what the run did, or the limit that the source passes first
abbrev pub CountHeadline : List (List ℕ) → Source → Change → Change → ℕ → Type 0
CountHeadline = OfCalls count SaysCount

-- Generated files ---------------------------------------------------------------------------

-- what is promised of `gen`, the text of the file, and of `genrun`, what its run did
pub record GenerateHeadline (words : List (List ℕ)) (out err : Change) (status : ℕ) : Type 0 where
  pub text : (functions : ℕ) → IsWordsOf (gen functions) words → IsCalm out err status
      → (status ≡ 0) × Took out (generated_file functions) × Took err []
  pub counts : (functions : ℕ) (limits : Limits) → IsWordsOf (genrun functions limits) words
      → (p : Program) → IsAccepted (generated_file functions) p → (args : List Value) → Spell p [] args
      → IsCalm out err status → SaysCount p args limits out err status
