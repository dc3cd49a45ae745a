use Rattle.rb_fetch.proofs.Spans.{word_reads}
use Rattle.rb_fetch.proofs.field.word_read.Goals as goal

pub returns-in_ok-read-in-Some : goal.returns-in_ok-read-in-Some
returns-in_ok-read-in-Some c there =
    word_reads c.args.leaf.now c.args.words.now c.in_ok-read-in-Some.read c.args.ty c.args.j c.args.path.now c.in-Some.spot.part.now c.in-Some.ensures.is_it c.in_ok-read-in-Some.ensures
