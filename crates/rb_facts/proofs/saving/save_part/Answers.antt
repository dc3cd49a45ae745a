use Rattle.std.proofs.Common.{◌≡◌, true, arith}
use Rattle.rb_target.proofs.Growing.{Grows-append, Grows-trans}
use Rattle.rb_facts.proofs.SavedParts.{saves_part}
use Rattle.rb_facts.proofs.saving.save_part.Goals as goal

pub returns-clause-saves : goal.returns-clause-saves
returns-clause-saves c =
    let there : c.slots_are_apart.result ≡ true = grind (arith, c.if-not-slots_are_apart.false) in
    rw (c.in_ok-emit_copies.ensures, c.as_slice-into.ensures, c.as_slice.ensures) (saves_part c.args.agreed.now c.args.value.now.ty c.args.value.now.leaf c.args.path.now c.args.value.now.words.now c.args.spot.now c.args.body.now c.fetch_part.new.body c.in_ok-slots.slots
    (rw c.as_slice-into.ensures at (c.slots_are_apart.ensures there)) c.in_ok-slots.ensures.fetches)

pub returns-clause-grows : goal.returns-clause-grows
returns-clause-grows c = rw c.in_ok-emit_copies.ensures (Grows-trans _ _ _ c.in_ok-slots.ensures.grows (Grows-append _ _))
