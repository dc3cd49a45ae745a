-- The instructions of a stretch, one by one.
use Rattle.std.proofs.Common.{◌≡◌, ℕ, ◌+◌, List, Some, sym, ◌∙◌}
use Rattle.std.specs.Prelude.{slice_get}
use Rattle.rb_bytes.specs.Memory.{Memory}
use Rattle.rb_target.specs.Meaning.{Next, Callee, act, from}
use Rattle.rb_target.specs.Laws.{Law, IsFinal}
use Rattle.rb_target.specs.declared.outcome.End.{End}
use Rattle.rb_target.specs.declared.outcome.End.TheVariants.{Returned, Spent, Full, Trapped}
use Rattle.rb_target.specs.declared.instr.Instr.{Instr}
use Rattle.rb_machine.specs.inner.Turns.{IsFlow, flow_to}
use Rattle.rb_machine.specs.declared.state.Flow.{Flow}
use Rattle.rb_machine.specs.declared.state.Flow.TheVariants.{Ends}

-- one instruction more, after so many
pub one_more : (body : List Instr) (callee : Callee) → Law body callee (from body callee) → (pc left k : ℕ) (i : Instr) (flow : Flow) (slots slots' : List ℕ) (m m' : Memory) (switches switches' : ℕ) → slice_get body pc ≡ Some i
    → ((next : Next) (callee : Callee) (left taken : ℕ) → act i next callee pc slots (record { left = left; memory = m; switches = switches; taken = taken }) ≡ flow_to i callee pc flow next slots' (record { left = left; memory = m'; switches = switches'; taken = taken }))
    → from body callee pc slots (record { left = left; memory = m; switches = switches; taken = k }) ≡ flow_to i callee pc flow (from body callee) slots' (record { left = left; memory = m'; switches = switches'; taken = k + 1 })
one_more body callee law pc left k i flow slots slots' m m' switches switches' is leads =
    law.step pc i slots (record { left = left; memory = m; switches = switches; taken = k }) is ∙ leads (from body callee) callee left (k + 1)

-- an instruction that is not begun is still to come
pub not_begun : (body : List Instr) (callee : Callee) → Law body callee (from body callee) → (pc left k : ℕ) (i : Instr) (slots slots' : List ℕ) (m m' : Memory) (switches switches' : ℕ) → slice_get body pc ≡ Some i
    → ((next : Next) (callee : Callee) (left taken : ℕ) → act i next callee pc slots (record { left = left; memory = m; switches = switches; taken = taken }) ≡ act i next callee pc slots' (record { left = left; memory = m'; switches = switches'; taken = taken }))
    → from body callee pc slots (record { left = left; memory = m; switches = switches; taken = k }) ≡ from body callee pc slots' (record { left = left; memory = m'; switches = switches'; taken = k })
not_begun body callee law pc left k i slots slots' m m' switches switches' is same =
    law.step pc i slots (record { left = left; memory = m; switches = switches; taken = k }) is ∙ same (from body callee) callee left (k + 1)
    ∙ sym (law.step pc i slots' (record { left = left; memory = m'; switches = switches'; taken = k }) is)

pub final_from : (long pc : ℕ) (e : End) → IsFlow long pc (Ends e) → IsFinal e
final_from long pc (Returned words left) h = h
final_from long pc Spent h = tt
final_from long pc (Full f) h = tt
final_from long pc (Trapped t) h = tt
