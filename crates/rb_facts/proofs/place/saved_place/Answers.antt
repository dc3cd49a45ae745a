use Rattle.std.proofs.Common.{Some, sym, ap, ◌∙◌}
use Rattle.std.proofs.lemmas.Option.{slice_get-get_or}
use Rattle.rb_facts.proofs.Placing.{spot_place}
use Rattle.rb_facts.proofs.place.saved_place.Goals as goal

pub returns-then-saved_known : goal.returns-then-saved_known
returns-then-saved_known c =
    let spot = c.index-spots-k.result in
    let at = slice_get-get_or c.args.spots.now c.loop-k.k spot c.loop-k-test.true ∙ ap Some (sym c.index-spots-k.is) in
    rw (c.in_ok-reads.ensures, c.as_slice-then-saved_known.ensures)
    (spot_place c.args.agreed.now c.args.spots.now c.args.known.now c.args.position.now c.loop-k.k spot at (rw c.as_slice.ensures at (c.same_position.ensures c.if-same_position.true)) (c.saved_known.ensures c.if-saved_known.true))
