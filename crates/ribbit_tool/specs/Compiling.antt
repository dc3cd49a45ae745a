-- Code for accepted files, and what is due to the command `compile`: the right answer, which is a text that is
-- printed, or a refusal. Flat layouts are those in which each case of a type has its words and its blocks written
-- out. A switch is an instruction that goes on by the value of some bits. Code does few of them where each match and
-- each construction that the source does costs no more than its bound.
use Rattle.std.specs.Prelude.{◌≡◌, ℕ, List}
use Rattle.rb_accept.specs.Accepting.{Accepts}
use Rattle.rb_compile.specs.Plans.{plan_of}
use Rattle.rb_compile.specs.Refining.{Refines}
use Rattle.rb_compile.specs.Thrift.{IsThrifty}
use Rattle.rb_core.specs.declared.program.Program.{Program}
use Rattle.rb_layout.specs.Flattening.{flat_layouts}
use Rattle.rb_layout.specs.declared.agreed.LaidOut.{LaidOut}
use Rattle.rb_lines.specs.Answer.{Due, printed}
use Rattle.rb_target.specs.Text.{code_text}
use Rattle.rb_target.specs.Validity.{IsValid}
use Rattle.rb_target.specs.declared.code.CodeFun.{CodeFun}

-- `agreed` is the program p with its flat layouts
pub record IsLaidOut (p : Program) (agreed : LaidOut) : Type 0 where
  pub program : agreed.covered.program ≡ p
  pub layouts : agreed.layouts ≡ flat_layouts p

-- valid code that does what the program means under its layouts, with few switches
pub record IsCompiled (agreed : LaidOut) (code : List CodeFun) : Type 0 where
  pub valid : IsValid code
  pub refines : Refines (plan_of agreed) code
  pub thrifty : IsThrifty (plan_of agreed) code

-- what is due to `compile` of an accepted program: the text of some code that does what it means, with few switches
pub record CompilesProgram (p : Program) (due : Due) : Type 0 where
  pub agreed : LaidOut
  pub laid : IsLaidOut p agreed
  pub code : List CodeFun
  pub compiled : IsCompiled agreed code
  pub shown : due ≡ printed (code_text code) 0

-- what is due to `compile` of a file within the limit, by its bytes: its refusal, or the text of code for its program
abbrev pub CompilesFile : List ℕ → Due → Type 0
CompilesFile bytes due = Accepts bytes (λ p a d. CompilesProgram p d) due
