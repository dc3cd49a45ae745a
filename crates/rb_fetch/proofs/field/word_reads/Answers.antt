use Rattle.rb_fetch.proofs.Fields.{words_more}
use Rattle.rb_fetch.proofs.field.word_reads.Goals as goal

pub loop-j-preserved : goal.loop-j-preserved
loop-j-preserved c =
    rw c.in_ok-push.ensures.ok
    (words_more c.args.leaf.now c.args.words.now c.args.path.now c.args.ty c.loop-j.j c.loop-j.reads c.in_ok-read.read c.loop-j.invariant c.in_ok-read.ensures)
