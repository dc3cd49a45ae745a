use Rattle.rb_syntax.specs.Tokens.{tokens}
use Rattle.rb_read.proofs.OneAnswer.{answered}
use Rattle.rb_read.proofs.read.read_file.Goals as goal

pub returns-clause-only : goal.returns-clause-only
returns-clause-only c r h = answered (tokens c.args.placed.now) _ r c.read_limited.ensures h
