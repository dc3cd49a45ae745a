use Rattle.rb_trim.proofs.Facts.{told_put}
use Rattle.rb_trim.proofs.telling.told_put.Goals as goal

pub returns : goal.returns
returns c = told_put c.args.facts.now c.args.slot c.args.from c.args.o c.args.l c.in-Some.content c.in-Some.ensures
