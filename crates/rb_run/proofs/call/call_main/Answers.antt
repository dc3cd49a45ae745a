use Rattle.std.proofs.Common.{ℕ, List, length, refl, sym, subst, ap, ◌∙◌, arith, Err}
use Rattle.std.specs.Prelude.{slice_get}
use Rattle.rb_machine.specs.Runs.{IsNotTrapped, RanAs, params_in}
use Rattle.rb_target.specs.declared.outcome.Ran.{Ran}
use Rattle.rb_target.specs.Meaning.{run_of}
use Rattle.rb_coding.specs.Encoding.{AreEncoded}
use Rattle.rb_run.specs.Calling.{IsCalled, IsCounted}
use Rattle.rb_run.proofs.Calls.{called_unfit, counted_unfit, is_encoded, is_unfit, main_called, main_counted, main_not_trapped, main_words}
use Rattle.rb_run.proofs.call.call_main.Goals as goal

pub returns-clause-called : goal.returns-clause-called
returns-clause-called g c =
    let a = c.args.agreed.now in
    let old = g.M.ByteMemory.memory c.args.memory.now in
    let new = g.M.ByteMemory.memory c.encode_all.new.memory in
    let n = c.in_ok-ran-in-Err.ensures in
    let unfit = is_unfit a c.args.args.now old c.main_of-main.ensures.flat c.as_slice.result.now (c.as_slice.ensures ∙ c.in_ok-tys.ensures) new n.0 (
    subst (λ fault. AreEncoded a.covered.program c.as_slice.result.now c.args.args.now old new (Err fault)) n.1 c.in-Err.ensures) in
    subst (λ (ran : Ran). IsCalled a c.args.args.now c.args.calls old ran.end new) (sym n.2) (called_unfit a c.args.code.now c.requires.refines c.main_of-main.ensures.typed c.args.args.now c.args.calls old n.0 unfit new)

pub returns-clause-counted : goal.returns-clause-counted
returns-clause-counted g c =
    let a = c.args.agreed.now in
    let old = g.M.ByteMemory.memory c.args.memory.now in
    let new = g.M.ByteMemory.memory c.encode_all.new.memory in
    let n = c.in_ok-ran-in-Err.ensures in
    let unfit = is_unfit a c.args.args.now old c.main_of-main.ensures.flat c.as_slice.result.now (c.as_slice.ensures ∙ c.in_ok-tys.ensures) new n.0 (
    subst (λ fault. AreEncoded a.covered.program c.as_slice.result.now c.args.args.now old new (Err fault)) n.1 c.in-Err.ensures) in
    let counted = counted_unfit a c.args.code.now c.requires.refines c.main_of-main.ensures.typed c.args.args.now c.args.calls old n.0 unfit in
    (0, omega arith, subst (λ (ran : Ran). IsCounted a c.args.code.now c.args.args.now c.args.calls old 0 ran.switches) (sym n.2) counted)

pub run-requires-clause-words : goal.run-requires-clause-words
run-requires-clause-words g c =
    let a = c.args.agreed.now in
    let old = g.M.ByteMemory.memory c.args.memory.now in
    let m = g.M.ByteMemory.memory c.encode_all.new.memory in
    let e = is_encoded a c.args.args.now old c.main_of-main.ensures.flat c.as_slice.result.now (c.as_slice.ensures ∙ c.in_ok-tys.ensures) m c.in-Ok.words c.in-Ok.ensures in
    let words = main_words a c.args.code.now c.requires.refines c.main_of-main.ensures.typed c.args.args.now c.args.calls old m c.in-Ok.words e in
    ap (λ (ws : List ℕ). length ws) c.as_slice-in-Ok.ensures ∙ words ∙ ap (λ f. params_in (slice_get c.args.code.now f)) (sym c.main_of-main.ensures.number)

pub run-requires-clause-checks : goal.run-requires-clause-checks
run-requires-clause-checks g c unchecked =
    let a = c.args.agreed.now in
    let old = g.M.ByteMemory.memory c.args.memory.now in
    let m = g.M.ByteMemory.memory c.encode_all.new.memory in
    let e = is_encoded a c.args.args.now old c.main_of-main.ensures.flat c.as_slice.result.now (c.as_slice.ensures ∙ c.in_ok-tys.ensures) m c.in-Ok.words c.in-Ok.ensures in
    let calm = main_not_trapped a c.args.code.now c.requires.refines c.main_of-main.ensures.typed c.args.args.now c.args.calls old m c.in-Ok.words e in
    subst (λ f. IsNotTrapped (run_of c.args.code.now c.args.calls f c.as_slice-in-Ok.result.now m).ended) (sym c.main_of-main.ensures.number) (
    subst (λ ws. IsNotTrapped (run_of c.args.code.now c.args.calls a.covered.program.main ws m).ended) (sym c.as_slice-in-Ok.ensures) calm)

pub returns-in-Ok-clause-called : goal.returns-in-Ok-clause-called
returns-in-Ok-clause-called g c =
    let a = c.args.agreed.now in
    let old = g.M.ByteMemory.memory c.args.memory.now in
    let m = g.M.ByteMemory.memory c.encode_all.new.memory in
    let e = is_encoded a c.args.args.now old c.main_of-main.ensures.flat c.as_slice.result.now (c.as_slice.ensures ∙ c.in_ok-tys.ensures) m c.in-Ok.words c.in-Ok.ensures in
    let new = g.M.ByteMemory.memory c.run.new.memory in
    let ran = subst (λ ws. RanAs (run_of c.args.code.now c.args.calls a.covered.program.main ws m) c.in_ok-ran-in-Ok.ran new c.args.steps.now.taken c.run.new.steps.taken) c.as_slice-in-Ok.ensures (
    subst (λ f. RanAs (run_of c.args.code.now c.args.calls f c.as_slice-in-Ok.result.now m) c.in_ok-ran-in-Ok.ran new c.args.steps.now.taken c.run.new.steps.taken) c.main_of-main.ensures.number c.in_ok-ran-in-Ok.ensures) in
    main_called a c.args.code.now c.requires.refines c.main_of-main.ensures.typed c.args.args.now c.args.calls old m c.in-Ok.words e c.in_ok-ran-in-Ok.ran.end new ran.ended ran.memory

pub returns-in-Ok-clause-counted : goal.returns-in-Ok-clause-counted
returns-in-Ok-clause-counted g c =
    let a = c.args.agreed.now in
    let old = g.M.ByteMemory.memory c.args.memory.now in
    let m = g.M.ByteMemory.memory c.encode_all.new.memory in
    let e = is_encoded a c.args.args.now old c.main_of-main.ensures.flat c.as_slice.result.now (c.as_slice.ensures ∙ c.in_ok-tys.ensures) m c.in-Ok.words c.in-Ok.ensures in
    let new = g.M.ByteMemory.memory c.run.new.memory in
    let ran = subst (λ ws. RanAs (run_of c.args.code.now c.args.calls a.covered.program.main ws m) c.in_ok-ran-in-Ok.ran new c.args.steps.now.taken c.run.new.steps.taken) c.as_slice-in-Ok.ensures (
    subst (λ f. RanAs (run_of c.args.code.now c.args.calls f c.as_slice-in-Ok.result.now m) c.in_ok-ran-in-Ok.ran new c.args.steps.now.taken c.run.new.steps.taken) c.main_of-main.ensures.number c.in_ok-ran-in-Ok.ensures) in
    let taken = (run_of c.args.code.now c.args.calls a.covered.program.main c.in-Ok.words m).world.taken in
    let counted = main_counted a c.args.code.now c.requires.refines c.main_of-main.ensures.typed c.args.args.now c.args.calls old m c.in-Ok.words e taken c.in_ok-ran-in-Ok.ran.switches refl ran.switches in
    (taken, ran.taken, counted)
