use Rattle.std.proofs.Common.{◌≡◌, ◌++◌, ◌-◌}
use Rattle.rb_image.specs.inner.Siting.{field_site, sites_from}
use Rattle.rb_image.specs.Orders.{spots_of}
use Rattle.rb_image.proofs.fields.sites_of.Given as goal

abbrev pub invariant-loop-number : goal.invariant-loop-number
invariant-loop-number l =
    let site = field_site l.sites l.addresses (spots_of l.order) l.path in
    sites_from site 0 l.count ≡ l.found.items ++ sites_from site l.number (l.count - l.number)
