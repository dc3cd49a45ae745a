use Rattle.std.proofs.Common.{◌≡◌, ◌*◌, ◌≤◌, drop}
use Rattle.rb_layout.specs.Locations.{word_beginning}
use Rattle.rb_layout.proofs.locate.word_beginning.Given as goal

abbrev pub invariant-loop-word : goal.invariant-loop-word
invariant-loop-word l = record {
  same : word_beginning l.words 0 l.byte l.width 0 ≡ word_beginning (drop l.word-index l.words) l.start l.byte l.width l.j;
  few : l.start ≤ 8 * l.word-index;
  at : l.j ≡ l.word-index;
}
