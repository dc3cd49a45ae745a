use Rattle.std.proofs.Common.{rules, arith}
use Rattle.rb_trim.proofs.Facts.{whole_from, part_from}
use Rattle.rb_trim.proofs.knowing.part.Goals as goal

pub returns-then-is_narrow : goal.returns-then-is_narrow
returns-then-is_narrow c =
    whole_from c.args.facts.now c.args.slot c.source-from.result c.args.o c.args.l (omega arith) c.source-from.ensures
    (c.is_narrow.ensures (search rules))

pub returns : goal.returns
returns c =
    part_from c.args.facts.now c.args.slot c.source-from.result c.args.o c.args.l c.part_of.result c.source-from.ensures c.part_of.ensures
