-- What code does over a memory, from the calls that are left, a function and its words.
--
-- A slot is one of a function's own words, by its number from 0. Functions, and the instructions of a body, are
-- numbered from 0, too; `pc` is the number of an instruction, and a target one to which a jump or a switch goes.
-- The world is what a run carries along. What comes after an instruction is handed to its meaning: `next` goes on in
-- the body, and `callee` does a call, each up to its end. A slot that a function hasn't got reads as 0, and a word
-- that is put there is dropped; valid code names no such slot.
use Rattle.std.specs.Prelude.{ℕ, zero, suc, ◌+◌, ◌-◌, ◌*◌, ◌%◌, ◌^◌, nat_eq, nat_lt, List, [], ◌∷◌, ◌++◌, map, length, replicate, Option, Some, None, Result, Ok, Err, slice_get, slice_index, slice_set, if◌then◌else◌}
use Rattle.std.specs.Int.RustNames.{bit_and, bit_or, bit_xor}
use Rattle.rb_bits.specs.Words.{take_of, put_of}
use Rattle.rb_bytes.specs.Memory.{Memory, place_of, load_of, store_of}
use Rattle.rb_bytes.specs.declared.fault.Full.{Full}
use Rattle.rb_bytes.specs.declared.fault.Trap.{Trap}
use Rattle.rb_bytes.specs.declared.fault.Trap.TheVariants.{Unmatched}
use Rattle.rb_target.specs.declared.outcome.End.{End}
use Rattle.rb_target.specs.declared.outcome.End.TheVariants.{Returned, Spent, Full as Filled, Trapped}
use Rattle.rb_target.specs.declared.instr.AluOp.{AluOp}
use Rattle.rb_target.specs.declared.instr.AluOp.TheVariants.{Add, Sub, Mul, And, Or, Xor, Eq, Lt}
use Rattle.rb_target.specs.declared.instr.SwitchArm.{SwitchArm}
use Rattle.rb_target.specs.declared.instr.Instr.{Instr}
use Rattle.rb_target.specs.declared.instr.Instr.TheVariants.{Const, Copy, Alu, Take, Put, Load, Store, Place, Jump, Switch, Call, Return}
use Rattle.rb_target.specs.declared.code.CodeFun.{CodeFun}

-- what a run carries along
pub record World : Type 0 where
  -- how many calls may still be begun
  pub left : ℕ
  -- the blocks and the bytes as they are now
  pub memory : Memory
  -- how many switches were done so far
  pub switches : ℕ
  -- how many instructions were begun so far
  pub taken : ℕ

-- how a call, or what goes on in one, ended, and the world as it was then
pub record CallEnd : Type 0 where
  pub ended : End
  pub world : World

-- the outcome of what ends so in this world
abbrev pub over : End → World → CallEnd
over e w = record { ended = e; world = w }

-- what goes on in a body, from the number of an instruction, the slots and the world, up to the call's end
abbrev pub Next : Type 0
Next = ℕ → List ℕ → World → CallEnd

-- what a call does, from the function's number, its words and the world, up to its end
abbrev pub Callee : Type 0
Callee = ℕ → List ℕ → World → CallEnd

-- The word that an operation gives, from its number n of bits and two words. The first six are modulo two to the
-- power of n. The last two compare the whole words: `Eq` gives 1 where they are equal, `Lt` where the first is below
-- the second, and both else 0.
abbrev pub alu_of : AluOp → ℕ → ℕ → ℕ → ℕ
alu_of Add n x y = (x + y) % 2 ^ n
alu_of Sub n x y = (x + (2 ^ n - y % 2 ^ n)) % 2 ^ n
alu_of Mul n x y = (x * y) % 2 ^ n
alu_of And n x y = bit_and x y % 2 ^ n
alu_of Or n x y = bit_or x y % 2 ^ n
alu_of Xor n x y = bit_xor x y % 2 ^ n
alu_of Eq n x y = if nat_eq x y then 1 else 0
alu_of Lt n x y = if nat_lt x y then 1 else 0

-- the words of the slots with these numbers, in their order
abbrev pub slots_at : List ℕ → List ℕ → List ℕ
slots_at slots froms = map (λ a. slice_index slots a) froms

-- the slots after some words were put into those with the given numbers, one after the other; it ends where either
-- list ends, and of two words for one slot the later stands
abbrev pub put_slots : List ℕ → List ℕ → List ℕ → List ℕ
put_slots slots [] words = slots
put_slots slots (d ∷ ds) [] = slots
put_slots slots (d ∷ ds) (w ∷ ws) = put_slots (slice_set slots d w) ds ws

-- the target of the first arm whose number is this word, or else the other target, and None where there is none
abbrev pub target_of : List SwitchArm → Option ℕ → ℕ → Option ℕ
target_of [] other word = other
target_of (arm ∷ arms) other word = if nat_eq arm.number word then Some arm.target else target_of arms other word

-- what comes after a load, by its answer, in this world: what goes on with the word, or the end with the trap
abbrev pub after_load : Result ℕ Trap → World → (ℕ → CallEnd) → CallEnd
after_load (Ok word) w go = go word
after_load (Err t) w go = over (Trapped t) w

-- what comes after a store, by its answer, in this world: the outcome of what goes on, or the end with the trap
abbrev pub after_store : Result (Unit {0}) Trap → World → CallEnd → CallEnd
after_store (Ok u) w go = go
after_store (Err t) w go = over (Trapped t) w

-- what comes after a place, by its answer, in this world: what goes on with the block's address, or the end with what
-- did not fit
abbrev pub after_place : Result ℕ Full → World → (ℕ → CallEnd) → CallEnd
after_place (Ok a) w go = go a
after_place (Err f) w go = over (Filled f) w

-- what comes after a switch on a word, by the target that it found, in this world: what goes on at the target, or
-- where none was found the end with a trap that names the word
abbrev pub after_switch : Option ℕ → ℕ → World → (ℕ → CallEnd) → CallEnd
after_switch None word w go = over (Trapped (Unmatched word)) w
after_switch (Some t) word w go = go t

-- What comes after a call, by its end and the world that it left: what goes on with its results where it returned.
-- Any other end is the end of what called, too.
abbrev pub after_call : End → World → (List ℕ → CallEnd) → CallEnd
after_call (Returned words calls_left) w go = go words
after_call Spent w go = over Spent w
after_call (Filled f) w go = over (Filled f) w
after_call (Trapped t) w go = over (Trapped t) w

-- the world with one more switch done
abbrev pub with_switch : World → World
with_switch w = record w { switches = w.switches + 1 }

-- the world with this memory in place of its own
abbrev pub with_memory : World → Memory → World
with_memory w m = record w { memory = m }

-- What an instruction does, one line for each, from its own number `pc`, the slots and the world on. A return ends
-- the call with the words of its slots. A load or a store that traps, a place that does not fit, a switch that finds
-- no target, and a call that ends in another way than by a return end it, too. All else goes on by `next`: at pc + 1,
-- or a jump and a switch at a target. A switch is counted whether it finds a target or traps. `callee` does the
-- calls.
abbrev pub act : Instr → Next → Callee → ℕ → List ℕ → World → CallEnd
act (Const d c) next callee pc slots w = next (pc + 1) (slice_set slots d c) w
act (Copy d a) next callee pc slots w = next (pc + 1) (slice_set slots d (slice_index slots a)) w
act (Alu op n d a b) next callee pc slots w =
    next (pc + 1) (slice_set slots d (alu_of op n (slice_index slots a) (slice_index slots b))) w
act (Take d a o l) next callee pc slots w = next (pc + 1) (slice_set slots d (take_of (slice_index slots a) o l)) w
act (Put d a o l) next callee pc slots w =
    next (pc + 1) (slice_set slots d (put_of (slice_index slots d) o l (slice_index slots a % 2 ^ l))) w
act (Load d a offset width) next callee pc slots w =
    after_load (load_of w.memory (slice_index slots a) offset width) w
    (λ word. next (pc + 1) (slice_set slots d word) w)
act (Store a offset width v) next callee pc slots w =
    let stored = store_of w.memory (slice_index slots a) offset width (slice_index slots v) in
    let w' = with_memory w stored.1 in
    after_store stored.0 w' (next (pc + 1) slots w')
act (Place d size align) next callee pc slots w =
    let placed = place_of w.memory size align in
    let w' = with_memory w placed.1 in
    after_place placed.0 w' (λ a. next (pc + 1) (slice_set slots d a) w')
act (Jump t) next callee pc slots w = next t slots w
act (Switch a other arms) next callee pc slots w =
    after_switch (target_of arms other (slice_index slots a)) (slice_index slots a) (with_switch w)
    (λ t. next t slots (with_switch w))
act (Call f ds froms) next callee pc slots w =
    let back = callee f (slots_at slots froms) w in
    after_call back.ended back.world (λ words. next (pc + 1) (put_slots slots ds words) back.world)
act (Return froms) next callee pc slots w = over (Returned (slots_at slots froms) w.left) w

-- the world with one more instruction begun
abbrev pub taken : World → World
taken w = record w { taken = w.taken + 1 }

-- What is done at the number `pc`, by the instruction that stands there, which is counted as begun. Where none stands
-- there the run is spent; valid code does not come to this.
abbrev pub act_at : Option Instr → Next → Callee → ℕ → List ℕ → World → CallEnd
act_at None next callee pc slots w = over Spent w
act_at (Some i) next callee pc slots w = act i next callee pc slots (taken w)

-- A body from the instruction `pc` on, for at most n instructions, and spent where these don't end it. Since jumps
-- and switches of valid code go forward, the body's length is enough.
abbrev pub steps : ℕ → List Instr → Callee → ℕ → List ℕ → World → CallEnd
steps zero body callee pc slots w = over Spent w
steps (suc n) body callee pc slots w = act_at (slice_get body pc) (steps n body callee) callee pc slots w

-- a body from one of its instructions on, up to the call's end; `callee` does its calls
unfoldable pub from : List Instr → Callee → Next
from body callee pc slots w = steps (length body) body callee pc slots w

-- the instructions of a function; none where there is no function
abbrev pub body_in : Option CodeFun → List Instr
body_in None = []
body_in (Some f) = f.body

-- the number of a function's slots; 0 where there is no function
abbrev pub slots_in : Option CodeFun → ℕ
slots_in None = 0
slots_in (Some f) = f.slots

-- the instructions of the function with the number f; none where there is no such function
abbrev pub body_of : List CodeFun → ℕ → List Instr
body_of funs f = body_in (slice_get funs f)

-- the slots of the function f as it begins: the words that it is called with, and 0 in the others; with more words
-- than it has slots, or where there is no such function, the words alone
abbrev pub first_slots : List CodeFun → ℕ → List ℕ → List ℕ
first_slots funs f words = words ++ replicate (slots_in (slice_get funs f) - length words) 0

-- the world with this number of calls left
abbrev pub with_left : World → ℕ → World
with_left w left = record w { left = left }

-- What a call does that costs one of the calls that are left, by their number: it is spent where none is left, and
-- else goes on in the world with one less.
abbrev pub after_one_call : ℕ → World → (World → CallEnd) → CallEnd
after_one_call zero w go = over Spent w
after_one_call (suc left) w go = go (with_left w left)

-- A call of the function f with some words. Calls are nested at most as deep as the first number says, this one
-- included, and what would be deeper is spent. As deep as there are calls left is enough.
unfoldable pub enter : List CodeFun → ℕ → Callee
enter funs zero f words w = over Spent w
enter funs (suc depth) f words w =
    after_one_call w.left w (λ v. from (body_of funs f) (enter funs depth) 0 (first_slots funs f words) v)

-- a whole run of the function f with some words, over a memory and with a number of calls, its own included; neither
-- a switch nor an instruction is counted yet
abbrev pub run_of : List CodeFun → ℕ → ℕ → List ℕ → Memory → CallEnd
run_of funs calls f words m = enter funs calls f words (record { left = calls; memory = m; switches = 0; taken = 0 })
