use Rattle.std.proofs.Common.{◌≡◌, drop}
use Rattle.rb_image.specs.inner.Siting.{field_site as the_site}
use Rattle.rb_image.specs.Orders.{spots_of}
use Rattle.rb_image.proofs.fields.field_site.Given as goal

abbrev pub invariant-loop-spot : goal.invariant-loop-spot
invariant-loop-spot l =
    the_site l.sites l.addresses (spots_of l.order) l.path l.number
    ≡ the_site l.sites l.addresses (spots_of (drop l.spot-index l.order)) l.path l.number
