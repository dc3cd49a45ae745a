use Rattle.rb_compile.proofs.Accepted.{program_ready}
use Rattle.rb_compile.proofs.programs.functions.Goals as goal

pub returns-clause-ready : goal.returns-clause-ready
returns-clause-ready c =
    let program = c.program.ensures in
    program_ready c.args.agreed.now (rw c.covered.ensures.same at program.typed) (rw c.covered.ensures.same at program.covered.exhaustive) (c.layouts-layouts.ensures.flat, c.layouts-layouts.ensures.agree)
