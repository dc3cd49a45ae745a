-- What is due to bytes that are no code.
use Rattle.std.proofs.Common.{◌≡◌, ℕ, ◌+◌, List, refl, sym, ap, subst, ◌∙◌, Result}
use Rattle.std.specs.declared.vec.Vec.{Vec}
use Rattle.std.specs.declared.alloc.Global.{Global}
use Rattle.rb_bytes.specs.Memory.{Memory as Bytes, empty_memory}
use Rattle.rb_command.specs.Command.{Limits}
use Rattle.rb_lines.specs.Answer.{Due, refusal}
use Rattle.rb_lines.specs.Lines.{code_line, words_line}
use Rattle.rb_lines.specs.View.{Meets}
use Rattle.rb_lines.specs.declared.refusal.Refusal.{Refusal}
use Rattle.rb_lines.specs.declared.status.Status.TheVariants.{Code}
use Rattle.rb_machine.specs.Runs.{RanAs}
use Rattle.rb_target.specs.Meaning.{run_of}
use Rattle.rb_target.specs.declared.code.CodeFun.{CodeFun}
use Rattle.rb_target.specs.declared.outcome.End.{End}
use Rattle.rb_target.specs.declared.outcome.Ran.{Ran}
use Rattle.rb_target.specs.Refusals.{IsCodeRefusal}
use Rattle.rb_target.specs.declared.fault.CodeFault.{CodeFault}
use Rattle.rb_target.specs.declared.fault.CodeFault.TheVariants.{CodeSyntax, BadSlot, BadJump, BadCall, Memory}
use Rattle.ribbit_tool.specs.Exec.{Executes, faulty, no_code, end_due, outcome_due}

pub fault_due : (name : List ℕ) (limits : Limits) (words bytes : List ℕ) (due : Due) (fault : CodeFault) → (fault ≡ Memory → ⊥) → IsCodeRefusal bytes fault
    → due ≡ refusal Code (code_line fault) → Executes name limits words bytes due
fault_due name limits words bytes due (CodeSyntax at) known stops e = no_code at stops e
fault_due name limits words bytes due (BadSlot n pc) known (funs, text, first) e = faulty funs text (BadSlot n pc) first e
fault_due name limits words bytes due (BadJump n pc) known (funs, text, first) e = faulty funs text (BadJump n pc) first e
fault_due name limits words bytes due (BadCall n pc) known (funs, text, first) e = faulty funs text (BadCall n pc) first e
fault_due name limits words bytes due Memory known h e = absurd (known refl)

-- the end of a run over a fresh memory is shown with the run's steps
pub outcome_meets : (funs : List CodeFun) (calls f : ℕ) (words : List ℕ) (region : ℕ) (m : Bytes) → m ≡ empty_memory region
    → (ran : Ran) (after_memory : Bytes) (before after : ℕ) → RanAs (run_of funs calls f words m) ran after_memory before after
    → (result : Result (Vec ℕ Global) Refusal) → ((start steps : ℕ) → Meets (λ due. due ≡ end_due words_line calls ran.end steps) start (start + steps) result)
    → Meets (λ due. due ≡ outcome_due (run_of funs calls f words (empty_memory region)) calls) before after result
outcome_meets funs calls f words region m fresh ran after_memory before after outcome result shown =
    let o = run_of funs calls f words (empty_memory region) in
    let takes : after ≡ before + o.world.taken = outcome.taken ∙ ap (λ x. before + (run_of funs calls f words x).world.taken) fresh in
    let ends : ran.end ≡ o.ended = outcome.ended ∙ ap (λ x. (run_of funs calls f words x).ended) fresh in
    subst (λ k. Meets (λ due. due ≡ outcome_due o calls) before k result) (sym takes)
    (subst (λ (e : End). Meets (λ due. due ≡ end_due words_line calls e o.world.taken) before (before + o.world.taken) result) ends (shown before o.world.taken))
