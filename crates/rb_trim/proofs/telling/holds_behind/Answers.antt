use Rattle.std.proofs.Common.{rules}
use Rattle.rb_trim.proofs.Facts.{one_behind}
use Rattle.rb_trim.proofs.telling.holds_behind.Goals as goal

pub returns-then-stays : goal.returns-then-stays
returns-then-stays c = λ t. one_behind c.args.facts.now c.args.told c.args.instr.now c.args.fact.now (c.stays.ensures (search rules))

pub returns-then-is_made : goal.returns-then-is_made
returns-then-is_made c = λ t. one_behind c.args.facts.now c.args.told c.args.instr.now c.args.fact.now (c.is_made.ensures (search rules))
