-- What a program's run answers, and what it asks for first: the blocks of its arguments. A construction is the event
-- that a value of a data type was built; it asks for the blocks of the value's leaf. A making gives, for a type, all
-- constructions that a value takes, those of its subvalues before its own. Blocks are laid in a memory: placed one
-- behind the other from its next address on, or one of them is the first that does not fit. Types are named by their
-- numbers.
use Rattle.std.specs.Prelude.{ℕ, nat_le, List, [], ◌∷◌, ◌++◌, map, if◌then◌else◌}
use Rattle.rb_core.specs.declared.value.Value.{Value}
use Rattle.rb_core.specs.declared.value.Value.TheOpen as V
use Rattle.rb_core.specs.declared.value.Value.TheOpen.{Value-F}
use Rattle.rb_core.specs.declared.value.Value.TheFolds.{para-Value}
use Rattle.rb_core.specs.declared.value.Value.TheVariants as Values
use Rattle.rb_core.specs.declared.types.Ty.{Ty}
use Rattle.rb_core.specs.declared.types.Ty.TheVariants.{Int, Named}
use Rattle.rb_core.specs.declared.types.DataDecl.{DataDecl}
use Rattle.rb_core.specs.declared.outcome.Event.{Event}
use Rattle.rb_core.specs.declared.outcome.Event.TheVariants.{Built}
use Rattle.rb_core.specs.declared.outcome.SourceEnd.{SourceEnd}
use Rattle.rb_core.specs.declared.outcome.SourceEnd.TheVariants.{Done, Spent as Stopped}
use Rattle.rb_core.specs.declared.program.Program.{Program}
use Rattle.rb_core.specs.Values.{node_count}
use Rattle.rb_core.specs.Typing.{field_types, param_types}
use Rattle.rb_core.specs.Meaning.{call_of}
use Rattle.rb_bytes.specs.declared.fault.Full.{Full as Unplaced}
use Rattle.rb_bytes.specs.Memory.{Memory, empty_memory}
use Rattle.rb_layout.specs.declared.layout.Layout.{Layout}
use Rattle.rb_rel.specs.Placing.{Laid, Fits, Over, requests_of, lay}

-- the constructions that make a value, given the value's type
abbrev pub Making : Type 0
Making = Ty → List Event

-- the constructions of several values, from left to right, each at the type in the same place of the second list;
-- what is over in the longer list counts for nothing
abbrev pub in_turn : List Making → List Ty → List Event
in_turn [] ts = []
in_turn (m ∷ ms) [] = []
in_turn (m ∷ ms) (t ∷ ts) = m t ++ in_turn ms ts

-- The constructions of one layer of a value at a type, where its subvalues are given, each with its making: those of
-- the subvalues at the types of the constructor's fields, and then that of the value itself. A number asks for none,
-- and neither does a constructor at an integer type.
abbrev pub making_step : List DataDecl → Value-F (Value × Making) → Making
making_step types (V.Num n) ty = []
making_step types (V.Con k vs) (Int bits) = []
making_step types (V.Con k vs) (Named t) =
    in_turn (map (λ (v : Value × Making). v.1) vs) (field_types types (record { ty = t; con = k }))
    ++ Built t (Values.Con k (map (λ (v : Value × Making). v.0) vs)) ∷ []

-- the constructions that make a value at a type: those of its subvalues from left to right, and then its own; none
-- for a number, nor for a constructor at an integer type
abbrev pub making_of : List DataDecl → Value → Making
making_of types = para-Value Making (making_step types)

-- the constructions that make several values at these types, value after value; what is over in the longer list
-- counts for nothing
abbrev pub all_makings : List DataDecl → List Value → List Ty → List Event
all_makings types vs ts = in_turn (map (making_of types) vs) ts

-- the constructions that make values as arguments of `main`, one argument after the other
abbrev pub making_arguments : Program → List Value → List Event
making_arguments p args = all_makings p.types args (param_types p.funs p.main)

-- the blocks that the arguments of `main` ask for, laid in a memory: where they end up, or the first that does not
-- fit
abbrev pub laid_arguments : Program → List Layout → List Value → Memory → Laid
laid_arguments p layouts args m = lay m.limit m.next (requests_of layouts (making_arguments p args))

-- what a call of `main` with so many calls asks for, laid in a memory: the blocks of its arguments, and then those of
-- its log, which is what the source does in the call, in order
abbrev pub laid_call : Program → List Layout → List Value → ℕ → Memory → Laid
laid_call p layouts args calls m =
    lay m.limit m.next (requests_of layouts (making_arguments p args ++ (call_of p p.main calls args).log))

-- What a run answers: the block that did not fit; that the calls were spent; that the value has too many nodes to be
-- shown; or the value.
pub data Answer : Type 0 where
  Full : Unplaced → Answer  -- a block did not fit
  Spent : Answer  -- the calls were spent
  TooLarge : Answer  -- the value has too many nodes to be shown
  Shown : Value → Answer

-- What a run answers, given where the blocks that it asks for are placed, how the source's call ends, and how many
-- nodes a value may have to be shown. A block that does not fit comes before all else, then the end of the calls.
abbrev pub answer_at : Laid → SourceEnd → ℕ → Answer
answer_at (Over full) end nodes = Full full
answer_at (Fits blocks next) Stopped nodes = Spent
answer_at (Fits blocks next) (Done v left) nodes = if nat_le (node_count v) nodes then Shown v else TooLarge

-- What a call of `main` with these arguments answers, with so many calls, an empty memory up to the address `limit`,
-- and values of at most `nodes` nodes shown. A block that does not fit is answered even where the call would be spent.
abbrev pub answer_of : Program → List Layout → List Value → ℕ → ℕ → ℕ → Answer
answer_of p layouts args calls limit nodes =
    answer_at (laid_call p layouts args calls (empty_memory limit)) (call_of p p.main calls args).end nodes
