use Rattle.rb_machine.proofs.Turns.{dests_fit}
use Rattle.rb_machine.proofs.calls.put_results.Goals as goal

pub put_back-requires-clause-dests : goal.put_back-requires-clause-dests
put_back-requires-clause-dests c =
    rw c.as_slice.ensures (dests_fit c.args.funs.now 0 c.requires.valid c.args.fun c.args.pc c.in-Call.field-0 c.args.slots.now c.in-Call.dests c.in-Call.field-2 c.requires.place (rw c.in-Call.is at c.instr_at.ensures))
