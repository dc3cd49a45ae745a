use Rattle.std.proofs.Common.{Some}
use Rattle.std.proofs.lemmas.Option.{slice_get-get_or}
use Rattle.rb_layout.proofs.Walks.{walk_stops}
use Rattle.rb_layout.proofs.positions.walk.Goals as goal

pub returns-in_default : goal.returns-in_default
returns-in_default c =
    walk_stops c.args.types.now (Some (c.args.prov.now, c.args.root)) c.loop-field.pat.now c.loop-field.ty c.args.path.now c.loop-field.field-index _ (slice_get-get_or c.args.path.now c.loop-field.field-index 0 c.loop-field-test.true) c.in_default.ensures c.loop-field.invariant
