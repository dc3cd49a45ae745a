use Rattle.std.proofs.Common.{◌≡◌, ◌*◌, ◌≤◌, take}
use Rattle.rb_layout.specs.Words.{bytes_taken}
use Rattle.rb_fetch.proofs.place.begins_at.Given as goal

abbrev pub invariant-loop-j : goal.invariant-loop-j
invariant-loop-j l = record {
  same : l.byte ≡ bytes_taken (take l.j l.words);
  few : l.byte ≤ 8 * l.j;
  near : l.j ≤ l.word;
}
