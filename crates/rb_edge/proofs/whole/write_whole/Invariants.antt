use Rattle.std.proofs.Common.{◌≡◌, ◌≤◌, ◌++◌, IsTrue, length, take}
use Rattle.rb_edge.specs.History.{after_take}
use Rattle.rb_edge.proofs.whole.write_whole.Given as goal

abbrev pub invariant-loop-turn : goal.invariant-loop-turn
invariant-loop-turn g l = record {
  within : l.done ≤ length l.bytes;
  -- each turn writes a byte
  turns : l._turn ≤ l.done;
  later : g.K.Sink.faults l.initial.sink ≤ g.K.Sink.faults l.sink;
  tells : g.K.Sink.tells l.sink ≡ g.K.Sink.tells l.initial.sink;
  taken : IsTrue (g.K.Sink.tells l.initial.sink) → g.K.Sink.taken l.sink ≡ g.K.Sink.taken l.initial.sink ++ take l.done l.bytes;
  said : g.K.Sink.account l.sink ≡ after_take (take l.done l.bytes) (g.K.Sink.account l.initial.sink);
}
