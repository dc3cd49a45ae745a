-- Instructions of one call, up to where it calls another, returns, or ends the run: a stretch. It stops at a call or
-- a return, which is not begun, or ends the run. `pc` is the number of an instruction of the body, a slot one of the
-- call's own words, by its number, and the world what a run carries along: the calls left, the memory, and how many
-- switches and instructions so far. `callee` says what the calls that the body makes do, each up to its end.
use Rattle.std.specs.Prelude.{ℕ, ◌+◌, ◌<◌, ◌≤◌, List, length, slice_get}
use Rattle.rb_bytes.specs.Memory.{Memory}
use Rattle.rb_target.specs.Meaning.{World, CallEnd, Callee, over, from}
use Rattle.rb_target.specs.Laws.{IsFinal}
use Rattle.rb_target.specs.declared.instr.Instr.{Instr}
use Rattle.rb_machine.specs.Runs.{IsNotTrapped}
use Rattle.rb_machine.specs.inner.Turns.{world, IsLeave}
use Rattle.rb_machine.specs.declared.state.Stop.{Stop}
use Rattle.rb_machine.specs.declared.state.Stop.TheVariants.{At, Ends}

-- what is still to come of a call of the body that stopped so: the instruction at which it stopped and what follows,
-- or just the end of the run
abbrev pub end_from_stop : List Instr → Callee → Stop → List ℕ → World → CallEnd
end_from_stop body callee (At pc l) slots w = from body callee pc slots w
end_from_stop body callee (Ends e) slots w = over e w

-- where a stretch from instruction `start` may stop after `count` instructions, with so many switches more: at a call
-- or a return that stands at least so many instructions on, or at an end that is no return
abbrev pub IsStop : List Instr → ℕ → Stop → ℕ → ℕ → Type 0
IsStop body start (At pc l) count switches =
    (pc < length body) × (start + count ≤ pc) × (start + switches ≤ pc) × IsLeave (slice_get body pc) l
IsStop body start (Ends e) count switches = IsFinal e

-- the body does not trap from instruction pc on, for some answers to the calls that it makes, and at some number of
-- calls left and of instructions so far
abbrev pub IsQuietFrom : List Instr → ℕ → List ℕ → Memory → ℕ → Type 0
IsQuietFrom body pc slots m switches =
    (callee : Callee) × (left : ℕ) × (taken : ℕ)
    × IsNotTrapped (from body callee pc slots (world left m switches taken)).ended
