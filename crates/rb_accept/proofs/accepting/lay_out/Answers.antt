use Rattle.rb_accept.specs.Accepting.{mislaid}
use Rattle.rb_accept.proofs.accepting.lay_out.Goals as goal

pub returns-clause-refused : goal.returns-clause-refused
returns-clause-refused c =
    let p = c.args.covered.program in
    let m = c.in-Err-Rule in
    mislaid c.args.placed.now p c.requires.named c.requires.typed c.requires.covered.exhaustive m.fault
    (rw m.field-0-is at m.ensures.refused) c.in_ok-refused-in-Err-Rule.ensures
