use Rattle.rb_trim.proofs.Facts.{told_more}
use Rattle.rb_trim.proofs.moving.move_told.Goals as goal

pub returns : goal.returns
returns c = (
  record { slot = c.in-Some.told.slot; content = c.remake-content.result },
  told_more c.args.facts.now c.args.instr.now c.in-Some.told c.remake-content.result c.in-Some.ensures c.remake-content.ensures,
  c.in_ok-new.ensures,
)
