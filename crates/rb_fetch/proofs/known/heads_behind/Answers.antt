use Rattle.std.proofs.Common.{Some, sym, ap, ◌∙◌}
use Rattle.std.proofs.lemmas.Option.{slice_get-get_or}
use Rattle.rb_fetch.proofs.HeadForms.{behind_next}
use Rattle.rb_fetch.proofs.known.heads_behind.Goals as goal

pub loop-place-preserved : goal.loop-place-preserved
loop-place-preserved c =
    let i = c.loop-place.place-index in
    let item = slice_get-get_or c.args.known.now i c.place-item.result c.loop-place-test.true ∙ ap Some (sym c.place-item.is) in
    behind_next c.args.path.now c.args.known.now i c.place-item.result c.loop-place.found c.add_behind.new.out _ item c.loop-place.invariant c.in_ok-add_behind.ensures
