use Rattle.std.proofs.Common.{refl}
use Rattle.std.proofs.lemmas.Result.{IfOk-weaker}
use Rattle.rb_match.specs.inner.Binding.{FieldStands, StandsInSpot}
use Rattle.rb_match.proofs.binding.field_slots.Goals as goal

pub returns-in-Leaf-clause-stands : goal.returns-in-Leaf-clause-stands
returns-in-Leaf-clause-stands c = rw c.in-Leaf.is c.fetch_part.ensures.fetches

pub returns-in-Leaf-clause-grows : goal.returns-in-Leaf-clause-grows
returns-in-Leaf-clause-grows c = c.fetch_part.ensures.grows

pub returns-in-Spots-clause-stands : goal.returns-in-Spots-clause-stands
returns-in-Spots-clause-stands c =
    let old = c.args.body.now in
    IfOk-weaker c.saved_slots.result (λ slots. StandsInSpot c.in-Spots.spots c.in-Spots.known c.args.i c.args.field slots) (λ slots. FieldStands c.args.agreed.now c.args.source.now c.args.field c.args.i old old slots)
    (λ slots stands. rw c.in-Spots.is (refl, stands)) (rw (c.as_slice-spots.ensures, c.as_slice-known.ensures) at c.saved_slots.ensures)
