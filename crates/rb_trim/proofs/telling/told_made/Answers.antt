use Rattle.std.proofs.Common.{sym}
use Rattle.rb_trim.proofs.Facts.{told_made}
use Rattle.rb_trim.proofs.telling.told_made.Goals as goal

pub returns : goal.returns
returns c =
    told_made c.args.facts.now c.args.instr.now c.in-Some.made c.resolve-content.result (sym c.in-Some.ensures) c.resolve-content.ensures
