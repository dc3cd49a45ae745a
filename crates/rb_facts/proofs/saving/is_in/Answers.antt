use Rattle.std.proofs.lemmas.Option.{slice_get-get_or}
use Rattle.rb_facts.proofs.SavedParts.{none_of}
use Rattle.rb_facts.proofs.saving.is_in.Goals as goal

pub loop-other-preserved : goal.loop-other-preserved
loop-other-preserved c =
    none_of c.args.slots.now c.loop-other.other-index _ c.args.slot (slice_get-get_or c.args.slots.now c.loop-other.other-index 0 c.loop-other-test.true) c.loop-other.invariant c.if-other-slot.false
