use Rattle.std.proofs.Common.{sym}
use Rattle.rb_read.specs.inner.Starting.{is_symbol}
use Rattle.rb_read.proofs.Taking.{taken, not_taken}
use Rattle.rb_read.proofs.tokens.expect.Goals as goal

pub returns-then-begins_with : goal.returns-then-begins_with
returns-then-begins_with c = taken (λ t. is_symbol c.args.symbol t) c.args.placed.now (sym c.if-begins_with.ensures)

pub returns : goal.returns
returns c = not_taken (λ t. is_symbol c.args.symbol t) c.args.placed.now (sym c.if-begins_with.ensures)
