use Rattle.std.proofs.Common.{◌∙◌}
use Rattle.rb_read.proofs.Sameness.{same_symbol}
use Rattle.rb_read.proofs.tokens.begins_with.Goals as goal

pub returns-in-Symbol : goal.returns-in-Symbol
returns-in-Symbol c = c.eq.ensures ∙ same_symbol _ _ _ _ c.in-len1-up.len_at_least c.first-item.is c.in-Symbol.is
