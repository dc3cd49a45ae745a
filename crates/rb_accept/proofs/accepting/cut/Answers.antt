use Rattle.std.proofs.Common.{subst}
use Rattle.rb_syntax.specs.Cutting.{LexesTo}
use Rattle.rb_syntax.specs.Lexing.{Lexed, lexing_of}
use Rattle.rb_accept.specs.Accepting.{uncut}
use Rattle.rb_accept.proofs.Faults.{lex_fault}
use Rattle.rb_accept.proofs.accepting.cut.Goals as goal

pub returns-in_ok-refused-in-Err-clause-refused : goal.returns-in_ok-refused-in-Err-clause-refused
returns-in_ok-refused-in-Err-clause-refused c =
    let shown = c.in_ok-refused-in-Err.ensures in
    uncut c.in-Err.fault
    (lex_fault c.args.bytes.now (lexing_of c.args.bytes.now) c.in-Err.fault shown.other c.in-Err.ensures.answer c.in-Err.ensures.right) shown.due

pub returns-in-Ok-clause-tokens : goal.returns-in-Ok-clause-tokens
returns-in-Ok-clause-tokens c =
    subst (λ (read : Lexed). LexesTo c.args.bytes.now read) c.in-Ok.ensures.answer c.in-Ok.ensures.right
