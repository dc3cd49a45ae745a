use Rattle.std.proofs.Common.{sym, ◌∙◌}
use Rattle.rb_fetch.proofs.Slices.{slices_read, whole_reads}
use Rattle.rb_fetch.proofs.slice.int_read.Goals as goal

pub returns-then-is_whole : goal.returns-then-is_whole
returns-then-is_whole c narrow held =
    whole_reads c.args.leaf.now c.args.words.now c.in_ok-read.read c.args.width c.args.path.now c.in-Some.spot.part.now c.in-Some.ensures.is_it (sym c.is_whole.ensures ∙ c.if-is_whole.true) c.in_ok-read.ensures

pub returns : goal.returns
returns c narrow held = slices_read c.args.leaf.now c.args.words.now c.args.path.now c.args.width c.in_ok-shares.shares (c.in_ok-shares.ensures narrow held)
