use Rattle.std.proofs.Common.{Bool, ◌+◌, drop, length, refl, sym, ap, ◌∙◌}
use Rattle.std.specs.Prelude.{if◌then◌else◌}
use Rattle.std.proofs.lemmas.Option.{slice_get_read}
use Rattle.rb_image.specs.inner.Siting.{field_site as the_site, part_site}
use Rattle.rb_image.specs.Orders.{spot_part, spots_of}
use Rattle.rb_image.proofs.DropLemmas.{drop_item}
use Rattle.rb_image.proofs.fields.field_site.Goals as goal

pub loop-spot-preserved : goal.loop-spot-preserved
loop-spot-preserved c =
    let sites = c.args.sites.now in
    let ats = c.args.addresses.now in
    let path = c.args.path.now in
    let j = c.args.number in
    let items = c.args.order.now in
    let k = c.loop-spot.spot-index in
    let spot = c.spot-item.result in
    let is = slice_get_read items (length items) k spot refl c.loop-spot-test.true c.spot-item.is in
    let s = spot_part spot in
    let rest = the_site sites ats (spots_of (drop (k + 1) items)) path j in
    c.loop-spot.invariant ∙ ap (λ ss. the_site sites ats (spots_of ss) path j) (drop_item items k spot is)
    ∙ ap (λ (t : Bool). if t then part_site sites ats s.block s else rest) (sym c.holds.ensures ∙ c.if-holds.false)
