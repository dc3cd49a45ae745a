use Rattle.std.proofs.Common.{◌∙◌}
use Rattle.rb_read.proofs.Sameness.{same_word}
use Rattle.rb_read.proofs.tokens.begins_with_word.Goals as goal

pub returns-in-Reserved : goal.returns-in-Reserved
returns-in-Reserved c = c.eq.ensures ∙ same_word _ _ _ _ c.in-len1-up.len_at_least c.first-item.is c.in-Reserved.is
