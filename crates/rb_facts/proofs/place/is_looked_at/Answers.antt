use Rattle.std.proofs.Common.{Some, ap, sym, ◌∙◌}
use Rattle.std.proofs.lemmas.Option.{slice_get-get_or}
use Rattle.rb_facts.specs.Looks.{places_in}
use Rattle.rb_facts.proofs.Placing.{in-flat}
use Rattle.rb_facts.proofs.place.is_looked_at.Goals as goal

pub returns-then-has_place : goal.returns-then-has_place
returns-then-has_place c is_there =
    let h = c.has_place.ensures c.if-has_place.true in
    in-flat (λ pat. places_in c.args.types.now pat c.args.ty) c.args.pats.now c.loop-pat.pat-index c.pat-item.result (record { path = c.args.position.now; ty = c.args.at })
    (slice_get-get_or c.args.pats.now c.loop-pat.pat-index c.pat-item.result c.loop-pat-test.true ∙ ap Some (sym c.pat-item.is)) h.0 h.1
