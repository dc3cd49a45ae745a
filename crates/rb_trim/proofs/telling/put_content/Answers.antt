use Rattle.std.proofs.Common.{rules, arith}
use Rattle.rb_trim.proofs.Facts.{laid_from}
use Rattle.rb_trim.proofs.telling.put_content.Goals as goal

pub returns : goal.returns
returns c =
    laid_from c.args.facts.now c.args.slot c.source-old.result c.args.from c.args.o c.args.l c.part-content.result
    (omega arith) c.source-old.ensures (c.is_narrow.ensures (search rules)) c.part-content.ensures
