use Rattle.rb_syntax.proofs.CutLemmas.{lexed-right}
use Rattle.rb_syntax.proofs.lex.lex.Goals as goal

pub returns-clause-right : goal.returns-clause-right
returns-clause-right c = lexed-right c.args.bytes.now
