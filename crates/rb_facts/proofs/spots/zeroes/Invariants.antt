use Rattle.std.proofs.Common.{◌≡◌}
use Rattle.rb_fragment.specs.Slots.{slots_from}
use Rattle.rb_facts.specs.Saving.{Zeroes}
use Rattle.rb_facts.proofs.spots.zeroes.Given as goal

abbrev pub invariant-loop-given : goal.invariant-loop-given
invariant-loop-given l = record {
  slots : l.slots ≡ slots_from l.fn.body.slots l._given;
  body : Zeroes l.fn.body l.body l._given;
}
