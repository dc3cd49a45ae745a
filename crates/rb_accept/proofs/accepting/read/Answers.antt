use Rattle.std.proofs.Common.{arith}
use Rattle.rb_syntax.specs.Tokens.{tokens}
use Rattle.rb_accept.specs.Accepting.{misread}
use Rattle.rb_accept.proofs.Faults.{read_fault}
use Rattle.rb_accept.proofs.OneCut.{few_tokens}
use Rattle.rb_accept.proofs.accepting.read.Goals as goal

pub read_file-requires : goal.read_file-requires
read_file-requires c =
    let few = few_tokens c.args.bytes.now c.args.placed.now c.requires.tokens in
    omega (arith, few, c.requires.few)

pub returns-in_ok-refused-in-Err-clause-refused : goal.returns-in_ok-refused-in-Err-clause-refused
returns-in_ok-refused-in-Err-clause-refused c =
    let shown = c.in_ok-refused-in-Err.ensures in
    misread c.args.placed.now c.requires.tokens c.in-Err.fault (read_fault (tokens c.args.placed.now) c.in-Err.fault shown.other c.in-Err.ensures.answer) shown.due
