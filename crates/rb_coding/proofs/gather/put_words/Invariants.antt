use Rattle.std.proofs.Common.{◌≡◌, drop}
use Rattle.rb_coding.specs.inner.Gathering.{put_words as all_words}
use Rattle.rb_coding.proofs.gather.put_words.Given as goal

abbrev pub invariant-loop-j : goal.invariant-loop-j
invariant-loop-j l = all_words l.wanted l.path l.flats l.words 0 l.fn.table ≡ all_words l.wanted l.path (drop l.j l.flats) l.words l.j l.table
