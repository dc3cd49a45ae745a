use Rattle.rb_syntax.specs.Tokens.{tokens}
use Rattle.rb_read.proofs.FileLemmas.{given-file, given-stuck, given-deep}
use Rattle.rb_read.proofs.read.read_limited.Goals as goal

pub returns-in-Ok : goal.returns-in-Ok
returns-in-Ok c = c.limited_file.ensures (tokens c.args.placed.now) (given-file _ _ c.in-Ok.ensures)

pub returns-in-Err-Deep : goal.returns-in-Err-Deep
returns-in-Err-Deep c = rw c.place.ensures (given-deep _ c.in-Err-Deep.left (rw c.in-Err-Deep.field-0-is at c.in-Err-Deep.ensures))

pub returns-in-Err-Stuck : goal.returns-in-Err-Stuck
returns-in-Err-Stuck c = rw c.place-in-Err-Stuck.ensures (given-stuck _ c.in-Err-Stuck.left (rw c.in-Err-Stuck.field-0-is at c.in-Err-Stuck.ensures))
