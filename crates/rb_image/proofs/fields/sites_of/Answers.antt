use Rattle.std.proofs.Common.{◌+◌, ◌-◌, ◌∷◌, [], ◌++◌, sym, ap, ◌∙◌, append_assoc}
use Rattle.rb_image.specs.inner.Siting.{field_site, sites_from}
use Rattle.rb_image.specs.Orders.{spots_of}
use Rattle.rb_image.proofs.SitingLemmas.{sites_more}
use Rattle.rb_image.proofs.fields.sites_of.Goals as goal

pub loop-number-preserved : goal.loop-number-preserved
loop-number-preserved c =
    let site = field_site c.args.sites.now c.args.addresses.now (spots_of c.args.order.now) c.args.path.now in
    let j = c.loop-number.number in
    let before = c.loop-number.found.items in
    let rest = sites_from site (j + 1) (c.args.count - (j + 1)) in
    c.loop-number.invariant ∙ ap (λ ys. before ++ ys) (sites_more site j c.args.count c.loop-number-test.true)
    ∙ sym (append_assoc before (site j ∷ []) rest)
    ∙ ap (λ zs. zs ++ rest) (ap (λ s. before ++ s ∷ []) (sym c.field_site.ensures) ∙ sym c.in_ok-push.ensures.items)
