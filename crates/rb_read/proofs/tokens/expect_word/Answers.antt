use Rattle.std.proofs.Common.{sym}
use Rattle.rb_read.specs.inner.Starting.{is_word}
use Rattle.rb_read.proofs.Taking.{taken, not_taken}
use Rattle.rb_read.proofs.tokens.expect_word.Goals as goal

pub returns-then-begins_with_word : goal.returns-then-begins_with_word
returns-then-begins_with_word c = taken (λ t. is_word c.args.word t) c.args.placed.now (sym c.if-begins_with_word.ensures)

pub returns : goal.returns
returns c = not_taken (λ t. is_word c.args.word t) c.args.placed.now (sym c.if-begins_with_word.ensures)
