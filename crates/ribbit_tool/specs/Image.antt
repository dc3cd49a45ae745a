-- What is due to the command `image`: the words of a run's value, and the blocks of the memory that it left. These
-- are an image of the value: its words represent it with what is in the blocks, and cleanly where the bits that
-- layouts leave free are 0. What is due is the right answer: a text that is printed, or a refusal, each with the
-- number of steps, the instructions that the run began. The limits are the number of calls that the run may make, and
-- the address at which its region, the memory of the run, ends.
use Rattle.std.specs.Prelude.{◌≡◌, ℕ, List}
use Rattle.rb_bytes.specs.Growth.{AreWhole}
use Rattle.rb_bytes.specs.Memory.{Memory, IsGood, empty_memory, least_region}
use Rattle.rb_coding.specs.Encoding.{StandApart}
use Rattle.rb_command.specs.Command.{Limits}
use Rattle.rb_core.specs.Typing.{param_types, result_type}
use Rattle.rb_core.specs.declared.program.Program.{Program}
use Rattle.rb_core.specs.declared.value.Value.{Value}
use Rattle.rb_image_text.specs.MemoryImages.{memory_image}
use Rattle.rb_image_text.specs.Text.{image_text}
use Rattle.rb_layout.specs.declared.agreed.LaidOut.{LaidOut}
use Rattle.rb_layout.specs.declared.layout.Layout.{Layout}
use Rattle.rb_lines.specs.Answer.{Due}
use Rattle.rb_rel.specs.Answers.{Shown, laid_arguments, laid_call}
use Rattle.rb_rel.specs.Placing.{Fits}
use Rattle.rb_rel.specs.Relation.{IsCleanlyRepresented}
use Rattle.rb_run.specs.Calling.{IsCounted}
use Rattle.rb_target.specs.declared.code.CodeFun.{CodeFun}
use Rattle.ribbit_tool.specs.Run.{PreparesFile, answer_due, whole_answer}

-- words and a memory that show the value v of `main` on these arguments: the memory has just the blocks that are
-- asked for
pub record IsImageOf (p : Program) (layouts : List Layout) (limits : Limits) (args : List Value) (v : Value)
    (words : List ℕ) (m : Memory) : Type 0 where
  pub asked : laid_call p layouts args limits.calls (empty_memory limits.region) ≡ Fits m.blocks m.next
  pub whole : AreWhole m m.blocks
  pub good : IsGood m
  -- the words represent the value, with clean free bits
  pub root : IsCleanlyRepresented p.types layouts m (result_type p.funs p.main) v words
  -- some words represent each value that was given, cleanly, over just the blocks that it asks for
  pub given : (own : List (ℕ × ℕ)) (next : ℕ)
      → laid_arguments p layouts args (empty_memory limits.region) ≡ Fits own next
      → (ws : List ℕ) × StandApart p.types layouts m (param_types p.funs p.main) args least_region own next ws

-- the words and the memory are an image of the value that the source answers, if it answers one
abbrev pub ShowWhole : Program → List Layout → Limits → List Value → List ℕ → Memory → Type 0
ShowWhole p layouts limits args words m =
    (v : Value) → whole_answer p layouts limits args ≡ Shown v → IsImageOf p layouts limits args v words m

-- What is due to a run of this code, which is compiled from the program, on these arguments, where they fit: an image
-- of the value that the source answers, however large it is, or the line of the limit that the call passes first.
pub record Images (agreed : LaidOut) (code : List CodeFun) (args : List Value) (limits : Limits)
    (due : Due) : Type 0 where
  -- the steps that the run takes
  pub taken : ℕ
  -- the switches that it goes through
  pub switches : ℕ
  -- both are so many as the code's run on words that represent the arguments, over a fresh region, has
  pub counted : IsCounted agreed code args limits.calls (empty_memory limits.region) taken switches
  -- the words of the image
  pub words : List ℕ
  -- the memory with the image's blocks
  pub memory : Memory
  -- where the source answers a value, they are an image of it
  pub show : ShowWhole agreed.covered.program agreed.layouts limits args words memory
  -- what is due: the image's text, or the line of the limit, after these steps
  pub shown : due ≡ answer_due (λ v. image_text (memory_image words memory)) limits.calls
      (whole_answer agreed.covered.program agreed.layouts limits args) taken

-- what is due to `image` of a file within the limit, by its bytes, on these words: a refusal of either, or an image
-- of the value that the source answers, or the limit that it passes
abbrev pub ImagesFile : Limits → List (List ℕ) → List ℕ → Due → Type 0
ImagesFile limits words bytes due =
    PreparesFile words bytes (λ agreed code args d. Images agreed code args limits d) due
