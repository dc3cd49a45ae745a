-- When code does what a program means. A plan has the program with its layouts. A word is a number of 64 bits, and
-- words represent a value by the layout of its type, with what is in the blocks of a memory. The flag `clean` says
-- that the bits which the layouts leave free are 0 in them. A run of code begins with words, a memory and a number of
-- calls that it may make. What the source asks for is in the log of its meaning: its constructions, in order, each
-- with the blocks of its leaf. These blocks are laid in a memory: placed one behind the other, or one of them is the
-- first that does not fit. A memory is good where it is one that can come to be.
use Rattle.std.specs.Prelude.{◌≡◌, ℕ, List, length, Bool, Some, slice_get}
use Rattle.rb_core.specs.declared.value.Value.{Value}
use Rattle.rb_core.specs.declared.types.Ty.{Ty}
use Rattle.rb_core.specs.declared.program.Fun.{Fun}
use Rattle.rb_core.specs.declared.outcome.Outcome.{Outcome as Meant}
use Rattle.rb_core.specs.declared.outcome.SourceEnd.{SourceEnd}
use Rattle.rb_core.specs.declared.outcome.SourceEnd.TheVariants as source
use Rattle.rb_core.specs.Meaning.{call_of}
use Rattle.rb_bytes.specs.Memory.{Memory, IsGood}
use Rattle.rb_bytes.specs.Growth.{Grown}
use Rattle.rb_target.specs.declared.code.CodeFun.{CodeFun}
use Rattle.rb_target.specs.declared.outcome.End.TheVariants as target
use Rattle.rb_target.specs.Meaning.{CallEnd as Run, run_of}
use Rattle.rb_rel.specs.Placing.{Laid, Fits, Over, lay, requests_of}
use Rattle.rb_fragment.specs.Plan.{Plan, Rep, Reps, types_of, words_needed_by, words_needed}

-- function q of the code has the name of function f of the program, takes as many words as the types of f's
-- parameters have together, and returns as many as the type of its result has
pub record HasHead (plan : Plan) (f : Fun) (q : CodeFun) : Type 0 where
  pub name : q.name ≡ f.name
  pub params : q.params ≡ words_needed_by plan (types_of f)
  pub results : q.results ≡ words_needed plan f.result

-- How a run from memory m ends, where the blocks that the source asks for are laid like this and the source ends so.
-- Where a block does not fit, the run ends with it. Where all fit and the source has spent its calls, so has the run.
-- Where all fit and it comes to a value of type t, the run returns words that represent it, with as many calls left,
-- in a memory that has exactly these blocks more.
abbrev pub EndsAs : Plan → Bool → Ty → Memory → Laid → SourceEnd → Run → Type 0
EndsAs plan clean t m (Over full) e run = run.ended ≡ target.Full full
EndsAs plan clean t m (Fits blocks next) source.Spent run = run.ended ≡ target.Spent
EndsAs plan clean t m (Fits blocks next) (source.Done v left) run =
    (words : List ℕ) × (run.ended ≡ target.Returned words left)
    × Grown m run.world.memory blocks next × Rep plan run.world.memory clean t v words

-- a run from memory m does what the source does, whose outcome o is a log and an end with a value of type t: the
-- blocks are those of the log, in order, from the memory's next address on
abbrev pub DoesAs : Plan → Bool → Ty → Memory → Meant → Run → Type 0
DoesAs plan clean t m o run = EndsAs plan clean t m (lay m.limit m.next (requests_of plan.layouts o.log)) o.end run

-- `Does` holds of each call of a function: of the number g of the function, the function f, whether the arguments are
-- represented cleanly, the arguments vs, words ws that represent them in a good memory m, and the number n of calls
abbrev pub EachCall : Plan → (ℕ → Fun → Bool → List Value → List ℕ → Memory → ℕ → Type 0) → Type 0
EachCall plan Does =
    (g : ℕ) (f : Fun) → slice_get plan.program.funs g ≡ Some f
    → (clean : Bool) (vs : List Value) (ws : List ℕ) (m : Memory) (n : ℕ)
    → IsGood m → Reps plan m clean (types_of f) vs ws → Does g f clean vs ws m n

-- Code has the program's functions, and each call of each does what the source's call does, from any good
-- memory and any number n of calls: where the arguments are clean, so is the result. No run is trapped.
pub record Refines (plan : Plan) (code : List CodeFun) : Type 0 where
  pub count : length code ≡ length plan.program.funs
  pub heads : (g : ℕ) (f : Fun) → slice_get plan.program.funs g ≡ Some f
      → (q : CodeFun) × (slice_get code g ≡ Some q) × HasHead plan f q
  pub runs : EachCall plan (λ g f clean vs ws m n.
      DoesAs plan clean f.result m (call_of plan.program g n vs) (run_of code n g ws m))
