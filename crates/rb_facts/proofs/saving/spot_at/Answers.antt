use Rattle.std.proofs.Common.{Some, sym, ap, ◌∙◌, ◌≡◌, arith}
use Rattle.std.proofs.lemmas.Option.{slice_get-get_or}
use Rattle.rb_facts.proofs.SavedParts.{spot_is}
use Rattle.rb_facts.proofs.saving.spot_at.Goals as goal

pub returns-then-same_position : goal.returns-then-same_position
returns-then-same_position c =
    let spot = c.index-spots-k.result in
    let at = slice_get-get_or c.args.spots.now c.loop-k.k spot c.loop-k-test.true ∙ ap Some (sym c.index-spots-k.is) in
    let of : spot.ty ≡ c.args.ty = grind (arith, c.eq.ensures, c.if-eq.true) in
    spot_is c.args.spots.now c.args.position.now c.args.ty c.loop-k.k spot at (rw c.as_slice.ensures at (c.same_position.ensures c.if-same_position.true)) of
