use Rattle.std.proofs.Common.{subst}
use Rattle.std.proofs.lemmas.Option.{slice_get-get_or}
use Rattle.rb_fragment.specs.Slots.{SlotsAreApart}
use Rattle.rb_fragment.proofs.MakingAll.{take_all}
use Rattle.rb_facts.proofs.SavedParts.{apart_more}
use Rattle.rb_facts.proofs.saving.slots_are_apart.Goals as goal

pub loop-slot-preserved : goal.loop-slot-preserved
loop-slot-preserved c =
    apart_more c.args.slots.now c.args.others.now c.loop-slot.slot-index _ (slice_get-get_or c.args.slots.now c.loop-slot.slot-index 0 c.loop-slot-test.true) c.loop-slot.invariant (c.is_in.ensures c.if-is_in.false)

pub returns : goal.returns
returns c holds = subst (λ xs. SlotsAreApart xs c.args.others.now) (take_all c.args.slots.now c.loop-slot.slot-index c.loop-slot-test.false) c.loop-slot.invariant
