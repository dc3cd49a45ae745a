use Rattle.std.proofs.Common.{rules}
use Rattle.rb_trim.proofs.Slots.{unread_behind}
use Rattle.rb_trim.proofs.steps.is_unread.Goals as goal

pub returns : goal.returns
returns c = λ t. record { by = unread_behind c.args.hints.now c.args.pc c.args.slot c.in-Some.behind c.is_read.result (search rules) c.is_read.ensures t }
