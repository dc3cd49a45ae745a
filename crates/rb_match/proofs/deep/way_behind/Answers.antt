use Rattle.std.proofs.Common.{Some, refl}
use Rattle.rb_match.proofs.Opening.{opens_way}
use Rattle.rb_match.proofs.deep.way_behind.Goals as goal

pub returns : goal.returns
returns c = record {
  steps = λ edges.
      rw (c.in_ok-edge.ensures.jump, c.in_ok-edge.ensures.edge, c.as_slice.ensures)
      (opens_way c.args.agreed.now c.args.part.now.ty c.args.part.now.words.now c.args.part.now.spots.now c.args.part.now.position c.args.holes.now c.args.leaf (Some c.args.onward.now) c.args.body.now edges c.args.onward.now c.save_onward.new.body c.in_ok-known.known c.requires
      (rw c.in_ok-land_leaf.ensures at c.in_ok-known.ensures.grows) refl (rw c.in_ok-land_leaf.ensures at c.in_ok-known.ensures.saves));
}
