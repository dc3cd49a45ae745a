use Rattle.std.proofs.Common.{◌≡◌}
use Rattle.rb_fragment.specs.Slots.{slots_from, with_slots}
use Rattle.rb_fragment.proofs.slots.fresh_slots.Given as goal

abbrev pub invariant-loop-given : goal.invariant-loop-given
invariant-loop-given l = record {
  slots : l.slots ≡ slots_from l.fn.body.slots l._given;
  body : l.body ≡ with_slots l.fn.body l._given;
}
