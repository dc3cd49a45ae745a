-- The machine's own state, what is still to come from it, and what one instruction does to that. `funs` are the
-- functions of the code, by number, and `pc` is the number of an instruction in a function's body. A call is current,
-- or waits for one that it made; a frame is a call that waits: its function, and its call instruction. A slot is one
-- of a call's own words, by its number. The slots of all calls stand on one stack, the outermost call's first, and
-- those of the current call begin at the base. The world is what a run carries along: the calls left, which may still
-- be begun, the memory, and how many switches were done and instructions taken, that is, begun. An instruction goes
-- on in its function, leaves it by a call or a return, or ends the run.
use Rattle.std.specs.Prelude.{◌≡◌, ℕ, ◌+◌, ◌-◌, ◌*◌, ◌^◌, ◌<◌, ◌≤◌, List, [], ◌∷◌, length, Option, Some, None, Result, Ok, Err, IsOk, take, drop, slice_get, slice_index, All}
use Rattle.rb_bytes.specs.Memory.{Memory, load_of, store_of}
use Rattle.rb_target.specs.Meaning.{World, CallEnd, over, Next, Callee, act, after_call, put_slots, from, enter, body_of, slots_in}
use Rattle.rb_target.specs.Validity.{IsTarget}
use Rattle.rb_target.specs.declared.outcome.End.{End}
use Rattle.rb_target.specs.declared.outcome.End.TheVariants.{Returned}
use Rattle.rb_target.specs.declared.code.CodeFun.{CodeFun}
use Rattle.rb_target.specs.declared.instr.Instr.{Instr}
use Rattle.rb_target.specs.declared.instr.Instr.TheVariants.{Load, Store, Call, Return}
use Rattle.rb_machine.specs.Runs.{IsNotTrapped}
use Rattle.rb_machine.specs.declared.state.Frame.{Frame}
use Rattle.rb_machine.specs.declared.state.State.{State}
use Rattle.rb_machine.specs.declared.state.Flow.{Flow}
use Rattle.rb_machine.specs.declared.state.Flow.TheVariants.{Goes, Leaves, Ends}
use Rattle.rb_machine.specs.declared.state.Leave.{Leave}
use Rattle.rb_machine.specs.declared.state.Leave.TheVariants.{Calls, Returns}

-- the slots to which a call instruction writes its results; none where there is no call
abbrev pub call_dests : Option Instr → List ℕ
call_dests (Some (Call f ds froms)) = ds
call_dests o = []

-- what a call that waits, with its slots, makes of the outcome of the call that it made: it goes on where that
-- returned, and any other end is the end
abbrev pub resume : List CodeFun → ℕ → Frame → List ℕ → CallEnd → CallEnd
resume funs depth frame slots o =
    after_call o.ended o.world
    (λ words. from (body_of funs frame.fun) (enter funs depth) (frame.pc + 1)
    (put_slots slots (call_dests (slice_get (body_of funs frame.fun) frame.pc)) words) o.world)

-- how many slots function number `fun` has; 0 where there is no such function
abbrev pub slot_count : List CodeFun → ℕ → ℕ
slot_count funs fun = slots_in (slice_get funs fun)

-- what the calls that wait make of an end; the outermost is first, as its slots are on the stack, and depth calls
-- can be nested in it
abbrev pub unwind : List CodeFun → ℕ → List Frame → List ℕ → CallEnd → CallEnd
unwind funs depth [] stack o = o
unwind funs depth (frame ∷ frames) stack o =
    resume funs depth frame (take (slot_count funs frame.fun) stack)
    (unwind funs (depth - 1) frames (drop (slot_count funs frame.fun) stack) o)

-- the slots of the calls that wait, the outermost first
abbrev pub waiting_slots : State → List ℕ
waiting_slots s = take s.base s.stack.items

-- the slots of the current call
abbrev pub current_slots : State → List ℕ
current_slots s = drop s.base s.stack.items

-- a world with so many calls left, a memory, and so many switches and instructions so far
abbrev pub world : ℕ → Memory → ℕ → ℕ → World
world left m switches taken = record { left = left; memory = m; switches = switches; taken = taken }

-- the world of a state over a memory, with so many instructions so far
abbrev pub world_of : State → Memory → ℕ → World
world_of s m taken = world s.left m s.switches taken

-- what is still to come of a run that has come to a state, where at most `depth` calls can be nested in the first
abbrev pub rest_of : List CodeFun → ℕ → State → Memory → ℕ → CallEnd
rest_of funs depth s m taken =
    unwind funs depth s.frames.items (waiting_slots s)
    (from (body_of funs s.fun) (enter funs (depth - length s.frames.items)) s.pc (current_slots s) (world_of s m taken))

-- how many instructions of function `fun` stand from number pc on, since no more of them can still come; 0 past its
-- end
abbrev pub room_at : List CodeFun → ℕ → ℕ → ℕ
room_at funs fun pc = length (body_of funs fun) - pc

-- how many instructions stand in all calls that wait together, each counted from its call instruction on, which is
-- begun: no more of them can still come
abbrev pub room_in : List CodeFun → List Frame → ℕ
room_in funs [] = 0
room_in funs (frame ∷ frames) = room_at funs frame.fun frame.pc + room_in funs frames

-- more than the number of instructions that can still come in the whole run
abbrev pub work : List CodeFun → State → ℕ
work funs s = s.left * 2 ^ 65 + room_in funs s.frames.items + room_at funs s.fun s.pc

-- how many slots the calls that wait have together
abbrev pub slots_in_wait : List CodeFun → List Frame → ℕ
slots_in_wait funs [] = 0
slots_in_wait funs (frame ∷ frames) = slot_count funs frame.fun + slots_in_wait funs frames

-- a place in the code, with its slots: there is an instruction there, and they are as many as the function has
pub record IsPlace (funs : List CodeFun) (fun pc : ℕ) (held : List ℕ) : Type 0 where
  pub known : fun < length funs
  pub inside : pc < length (body_of funs fun)
  pub slots : length held ≡ slot_count funs fun

-- a call that waits is of a function of the code, and its body goes on behind the call instruction, at number pc
pub record IsFrame (funs : List CodeFun) (frame : Frame) : Type 0 where
  pub known : frame.fun < length funs
  pub goes_on : frame.pc + 1 < length (body_of funs frame.fun)

-- the function that was called first: that of the outermost call that waits, or the current one where none does
abbrev pub outermost : List Frame → ℕ → ℕ
outermost [] fun = fun
outermost (frame ∷ frames) fun = frame.fun

-- how many words a function returns; 0 where there is no such function
abbrev pub results_in : Option CodeFun → ℕ
results_in None = 0
results_in (Some f) = f.results

-- a state that fits the code: each call stands at an instruction and has its slots on the stack, and there is room
-- for the results and for the count of switches
pub record StateIsSound (funs : List CodeFun) (depth : ℕ) (s : State) : Type 0 where
  pub place : IsPlace funs s.fun s.pc (current_slots s)
  pub frames : All (λ (frame : Frame). IsFrame funs frame) s.frames.items
  pub base : s.base ≡ slots_in_wait funs s.frames.items
  pub fits : s.base ≤ length s.stack.items
  pub nested : s.left + length s.frames.items ≤ depth
  pub results : length s.results.items ≡ results_in (slice_get funs (outermost s.frames.items s.fun))
  -- so the count of switches never overflows
  pub bounded : s.switches + work funs s < 2 ^ 127

-- what is still to come after an instruction, by where it leads; one that leaves its function is itself still to come
abbrev pub flow_to : Instr → Callee → ℕ → Flow → Next → List ℕ → World → CallEnd
flow_to i callee pc (Goes t) next slots w = next t slots w
flow_to i callee pc (Leaves l) next slots w = act i next callee pc slots w
flow_to i callee pc (Ends e) next slots w = over e w

-- where an instruction may lead that has number pc in a body of `long` instructions: to a target behind it in the
-- body, out of the function, or to an end that is no return
abbrev pub IsFlow : ℕ → ℕ → Flow → Type 0
IsFlow long pc (Goes t) = IsTarget long pc t
IsFlow long pc (Leaves l) = Unit {0}
IsFlow long pc (Ends (Returned words left)) = ⊥
IsFlow long pc (Ends e) = Unit {0}

-- the instruction's load or store does not trap
abbrev pub MayRun : Memory → List ℕ → Instr → Type 0
MayRun m slots (Load d a offset width) = IsOk (load_of m (slice_index slots a) offset width)
MayRun m slots (Store a offset width v) = IsOk (store_of m (slice_index slots a) offset width (slice_index slots v)).0
MayRun m slots i = Unit {0}

-- instruction pc stands in a body of `long` instructions, and, unless it is a return, another one behind it
abbrev pub HasNext : ℕ → ℕ → Instr → Type 0
HasNext long pc (Return froms) = pc < long
HasNext long pc i = pc + 1 < long

-- the instruction is the call or the return that is told
abbrev pub IsLeave : Option Instr → Leave → Type 0
IsLeave o (Calls f froms) = (ds : List ℕ) × (o ≡ Some (Call f ds froms.now))
IsLeave o (Returns froms) = o ≡ Some (Return froms.now)

-- where an instruction leaves its function, just that call or return is told, and no switch is counted; of one that
-- goes on or ends the run nothing is said
abbrev pub IsLeft : Instr → Flow → ℕ → ℕ → Type 0
IsLeft i (Leaves l) old new = (new ≡ old) × IsLeave (Some i) l
IsLeft i (Goes t) old new = Unit {0}
IsLeft i (Ends e) old new = Unit {0}

-- from the state s over the memory m so many instructions lead to s' over m'
pub record Turned (funs : List CodeFun) (depth : ℕ) (s : State) (m : Memory) (s' : State) (m' : Memory)
    (count : ℕ) : Type 0 where
  pub sound : StateIsSound funs depth s'
  pub less : work funs s' + count ≤ work funs s
  pub same : (taken : ℕ) → rest_of funs depth s m taken ≡ rest_of funs depth s' m' (taken + count)

-- from the state s over the memory m, `count` instructions end the run with e, with what the state s' counts, over m'
abbrev pub Ended : List CodeFun → ℕ → State → Memory → End → State → Memory → ℕ → Type 0
Ended funs depth s m e s' m' count =
    (taken : ℕ) → rest_of funs depth s m taken ≡ over e (world_of s' m' (taken + count))

-- what is still to come from a state does not trap, at some number of instructions so far
abbrev pub IsQuiet : List CodeFun → ℕ → State → Memory → Type 0
IsQuiet funs depth s m = (taken : ℕ) × IsNotTrapped (rest_of funs depth s m taken).ended

-- instruction pc of function `fun` calls function f with the words of these slots
abbrev pub IsCallAt : List CodeFun → ℕ → ℕ → ℕ → List ℕ → Type 0
IsCallAt funs fun pc f froms = (ds : List ℕ) × (slice_get (body_of funs fun) pc ≡ Some (Call f ds froms))

-- from the state s over m, `count` instructions end the run with the end that is given, or, where none is, lead to s'
-- over m'
abbrev pub TurnGives : List CodeFun → ℕ → State → Memory → Option End → State → Memory → ℕ → Type 0
TurnGives funs depth s m None s' m' count = Turned funs depth s m s' m' count
TurnGives funs depth s m (Some e) s' m' count = Ended funs depth s m e s' m' count

-- from the state s over m, `count` instructions lead to s' over m', at the call or the return that is told and not
-- begun, or they end the run
abbrev pub StretchGives : List CodeFun → ℕ → State → Memory → Result Leave End → State → Memory → ℕ → Type 0
StretchGives funs depth s m (Ok l) s' m' count =
    Turned funs depth s m s' m' count × IsLeave (slice_get (body_of funs s'.fun) s'.pc) l
StretchGives funs depth s m (Err e) s' m' count = Ended funs depth s m e s' m' count
