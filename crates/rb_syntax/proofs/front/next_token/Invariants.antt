use Rattle.std.proofs.Common.{length, ◌-◌, ◌≤◌, ◌≡◌}
use Rattle.rb_syntax.specs.Fronts.{front_at}
use Rattle.rb_syntax.proofs.front.next_token.Given as goal

abbrev pub invariant-loop-at : goal.invariant-loop-at
invariant-loop-at l = record {
  from : l.from ≤ l.at;
  within : l.at ≤ length l.text;
  same : front_at l.text l.fn.from ≡ front_at l.text l.at;
}

abbrev pub decreases-loop-at : goal.decreases-loop-at
decreases-loop-at l = length l.text - l.at
