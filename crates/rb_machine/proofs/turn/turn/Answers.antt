use Rattle.rb_machine.specs.inner.Turns.{current_slots}
use Rattle.rb_machine.proofs.Turns.{spent_ended, callee_known, call_fits, return_fits}
use Rattle.rb_machine.proofs.turn.turn.Goals as goal

pub returns-then-state-eq0 : goal.returns-then-state-eq0
returns-then-state-eq0 c m =
    let call = rw c.in-Calls.is at c.requires.leaves in
    spent_ended c.args.funs.now c.args.depth c.requires.valid c.requires.laws c.args.state.now c.in-Calls.callee call.0 c.in-Calls.froms.now c.requires.sound call.1 c.if-state-eq0.true m

pub call_turn-requires-clause-instr : goal.call_turn-requires-clause-instr
call_turn-requires-clause-instr c = rw c.in-Calls.is at c.requires.leaves

pub call_turn-requires-clause-known : goal.call_turn-requires-clause-known
call_turn-requires-clause-known c =
    let call = rw c.in-Calls.is at c.requires.leaves in
    callee_known c.args.funs.now 0 c.requires.valid c.args.state.now.fun c.args.state.now.pc c.in-Calls.callee (current_slots c.args.state.now) call.0 c.in-Calls.froms.now c.requires.sound.place call.1

pub call_turn-requires-clause-froms : goal.call_turn-requires-clause-froms
call_turn-requires-clause-froms c =
    let call = rw c.in-Calls.is at c.requires.leaves in
    call_fits c.args.funs.now 0 c.requires.valid c.args.state.now.fun c.args.state.now.pc c.in-Calls.callee (current_slots c.args.state.now) call.0 c.in-Calls.froms.now c.requires.sound.place call.1

pub return_turn-requires-clause-instr : goal.return_turn-requires-clause-instr
return_turn-requires-clause-instr c = rw c.in-Returns.is at c.requires.leaves

pub return_turn-requires-clause-froms : goal.return_turn-requires-clause-froms
return_turn-requires-clause-froms c =
    return_fits c.args.funs.now 0 c.requires.valid c.args.state.now.fun c.args.state.now.pc (current_slots c.args.state.now) c.in-Returns.froms.now c.requires.sound.place (rw c.in-Returns.is at c.requires.leaves)
