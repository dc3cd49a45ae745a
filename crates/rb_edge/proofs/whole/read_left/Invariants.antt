use Rattle.std.proofs.Common.{◌≡◌, ◌≤◌, ◌+◌, ◌++◌, IsTrue, vec_len}
use Rattle.rb_edge.specs.History.{longer_reading, on_last}
use Rattle.rb_edge.specs.Source.{HoldsTheSame}
use Rattle.rb_edge.proofs.whole.read_left.Given as goal

abbrev pub invariant-loop-turn : goal.invariant-loop-turn
invariant-loop-turn g l = record {
  room : vec_len l.bytes ≤ l.limit + 1;
  -- each turn takes a byte
  turns : l._turn ≤ vec_len l.bytes;
  later : g.S.Source.faults l.initial.source ≤ g.S.Source.faults l.source;
  same : HoldsTheSame g.S.Source.tells g.S.Source.held l.initial.source l.source;
  read : IsTrue (g.S.Source.tells l.initial.source) → g.S.Source.left l.initial.source ≡ l.bytes.items ++ g.S.Source.left l.source;
  on : g.S.Source.readings l.source ≡ on_last (longer_reading l.bytes.items) (g.S.Source.readings l.initial.source);
}
