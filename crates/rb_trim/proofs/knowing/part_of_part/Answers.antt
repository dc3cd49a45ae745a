use Rattle.std.proofs.Common.{rules, arith}
use Rattle.rb_trim.proofs.Facts.{much_inner}
use Rattle.rb_trim.proofs.knowing.part_of_part.Goals as goal

pub returns : goal.returns
returns c =
    much_inner c.args.facts.now c.args.slot c.args.from c.args.begin c.args.bits c.args.o c.args.l c.in-Some.at
    c.requires (omega arith) (search rules)
