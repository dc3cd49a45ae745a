use Rattle.std.proofs.Common.{rules}
use Rattle.rb_trim.proofs.Facts.{much_number}
use Rattle.rb_trim.proofs.knowing.part_of_number.Goals as goal

pub returns : goal.returns
returns c = much_number c.args.facts.now c.args.slot c.args.o c.args.l c.args.number _ c.requires (search rules)
