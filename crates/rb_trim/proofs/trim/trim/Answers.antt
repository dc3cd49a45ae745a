use Rattle.rb_trim.proofs.Fitting.{all_valid, all_trimmed}
use Rattle.rb_trim.proofs.trim.trim.Goals as goal

pub new-requires : goal.new-requires
new-requires c = all_valid c.args.code c.in-Ok.shorter c.funs.ensures.valid (rw c.funs.ensures.value at c.in-Ok.ensures)

pub returns-in-Ok : goal.returns-in-Ok
returns-in-Ok c =
    rw c.new.ensures.value (all_trimmed c.args.code c.in-Ok.shorter c.funs.ensures.valid (rw c.funs.ensures.value at c.in-Ok.ensures))
