use Rattle.std.proofs.Common.{ℕ, List, ◌++◌, take, drop, ap, ◌∙◌, IsTrue, arith, append_assoc}
use Rattle.rb_edge.specs.History.{after_take}
use Rattle.rb_edge.proofs.Histories.{took_twice}
use Rattle.rb_edge.proofs.Pieces.{take-more, rest_after}
use Rattle.rb_edge.proofs.whole.write_whole.Goals as goal

pub loop-turn-preserved : goal.loop-turn-preserved
loop-turn-preserved g c = record {
  within = omega (arith, c.in_ok-done.ensures.within);
  turns = omega (arith, c.in_ok-done.ensures.some);
  later = omega (arith, c.in_ok-done.ensures.later, c.loop-turn.invariant.later);
  tells = c.in_ok-done.ensures.same ∙ c.loop-turn.invariant.tells;
  taken = λ t.
      let told : IsTrue (g.K.Sink.tells c.loop-turn.sink) = rw c.loop-turn.invariant.tells t in
      let a = c.in_ok-done.ensures.taken told in
      let b = c.loop-turn.invariant.taken t in
      rw (a, b, append_assoc, rest_after) (ap (λ v. g.K.Sink.taken c.args.sink.now ++ v) (take-more c.loop-turn.done c.in_ok-done.field-0 c.args.bytes.now));
  said = rw (c.in_ok-done.ensures.said, c.loop-turn.invariant.said, rest_after) (
      took_twice (take c.loop-turn.done c.args.bytes.now) (take c.in_ok-done.field-0 (drop c.loop-turn.done c.args.bytes.now)) (g.K.Sink.account c.args.sink.now)
      ∙ ap (λ (v : List ℕ). after_take v (g.K.Sink.account c.args.sink.now)) (take-more c.loop-turn.done c.in_ok-done.field-0 c.args.bytes.now)
      );
}
