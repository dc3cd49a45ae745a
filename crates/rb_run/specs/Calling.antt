-- What a call of `main` comes to over a memory: its end, its steps and its switches. A step is an instruction that
-- the run begins. Blocks are laid in a memory: placed one behind the other from its next address on, or one of them
-- is the first that does not fit. Words represent a value with what is in the blocks of a memory, and cleanly where the
-- bits that layouts leave free are 0. `agreed` is a program with its layouts, `args` are the arguments of `main`, and
-- `calls` is the number of calls that the run may make.
use Rattle.std.specs.Prelude.{◌≡◌, ℕ, List, true}
use Rattle.rb_core.specs.declared.value.Value.{Value}
use Rattle.rb_core.specs.Meaning.{call_of}
use Rattle.rb_core.specs.Typing.{param_types, result_type}
use Rattle.rb_bytes.specs.Memory.{Memory}
use Rattle.rb_bytes.specs.Growth.{Grown}
use Rattle.rb_layout.specs.declared.agreed.LaidOut.{LaidOut}
use Rattle.rb_target.specs.declared.code.CodeFun.{CodeFun}
use Rattle.rb_target.specs.declared.outcome.End.{End}
use Rattle.rb_target.specs.declared.outcome.End.TheVariants.{Returned}
use Rattle.rb_target.specs.Meaning.{CallEnd, over, run_of}
use Rattle.rb_rel.specs.Answers.{laid_arguments, laid_call}
use Rattle.rb_rel.specs.Placing.{Laid, Fits, Over}
use Rattle.rb_coding.specs.Encoding.{StandApart}
use Rattle.rb_compile.specs.Plans.{plan_of}
use Rattle.rb_compile.specs.Refining.{EndsAs}

-- an outcome with this end and this memory, and nothing counted
abbrev pub end_over : End → Memory → CallEnd
end_over end m = over end (record { left = 0; memory = m; switches = 0; taken = 0 })

-- the words ws represent the arguments in memory m, which has grown from the old one by the blocks, up to the address
-- `next`: each argument cleanly, and over just the blocks that its own constructions ask for
abbrev pub HoldArguments : LaidOut → List Value → Memory → Memory → List (ℕ × ℕ) → ℕ → List ℕ → Type 0
HoldArguments agreed args old m blocks next ws =
    let p = agreed.covered.program in
    StandApart p.types agreed.layouts m (param_types p.funs p.main) args old.next blocks next ws

-- The call of `main` with so many calls does what the source does: it ends so, and the old memory becomes the new
-- one.
pub record IsCalled (agreed : LaidOut) (args : List Value) (calls : ℕ) (old : Memory) (end : End)
    (new : Memory) : Type 0 where
  -- the end is Full with the first request that does not fit, or Spent, or words that represent the value,
  -- with clean free bits, and as many calls left
  pub ends : EndsAs (plan_of agreed) true (result_type agreed.covered.program.funs agreed.covered.program.main) old
      (laid_call agreed.covered.program agreed.layouts args calls old)
      (call_of agreed.covered.program agreed.covered.program.main calls args).end (end_over end new)
  -- where it returns, some words represent each argument over its own blocks
  pub arguments : (words : List ℕ) (left : ℕ) → end ≡ Returned words left
      → (blocks : List (ℕ × ℕ)) (next : ℕ)
      → laid_arguments agreed.covered.program agreed.layouts args old ≡ Fits blocks next
      → (ws : List ℕ) × HoldArguments agreed args old new blocks next ws

-- The steps and the switches of a call from memory `old`, where the blocks of the arguments are laid like this: those
-- of the code's run on words that represent the arguments, in a memory with just their blocks more; none, where these
-- do not fit.
abbrev pub CountsAs : LaidOut → List CodeFun → List Value → ℕ → Memory → Laid → ℕ → ℕ → Type 0
CountsAs agreed code args calls old (Over full) steps switches = (steps ≡ 0) × (switches ≡ 0)
CountsAs agreed code args calls old (Fits blocks next) steps switches =
    let p = agreed.covered.program in
    (ws : List ℕ) × (m : Memory) × Grown old m blocks next × HoldArguments agreed args old m blocks next ws
    × (steps ≡ (run_of code calls p.main ws m).world.taken)
    × (switches ≡ (run_of code calls p.main ws m).world.switches)

-- so many steps and switches are those of the code's run from memory `old` behind the blocks of the arguments; none
-- where these do not fit
abbrev pub IsCounted : LaidOut → List CodeFun → List Value → ℕ → Memory → ℕ → ℕ → Type 0
IsCounted agreed code args calls old steps switches =
    CountsAs agreed code args calls old (laid_arguments agreed.covered.program agreed.layouts args old) steps switches

-- the end, over this memory, is that of some call of `main`, on some arguments and from some memory
abbrev pub IsEndOf : LaidOut → End → Memory → Type 0
IsEndOf agreed end new = (args : List Value) × (calls : ℕ) × (old : Memory) × IsCalled agreed args calls old end new
