use Rattle.std.proofs.Common.{ap, ◌∙◌}
use Rattle.std.proofs.lemmas.Result.{IfOk-weaker}
use Rattle.rb_image.specs.Orders.{spots_of}
use Rattle.rb_image.proofs.SitingLemmas.{are_narrow, are_sites}
use Rattle.rb_image.proofs.fields.field_sites.Goals as goal

pub returns-clause-words : goal.returns-clause-words
returns-clause-words c =
    IfOk-weaker c.sites_of.result _ _ (λ found is. are_sites c.args.leaf.now c.args.sites.now c.args.addresses.now c.args.path.now c.args.count (spots_of c.as_slice.result.now) found.items
    (ap spots_of c.as_slice.ensures.value ∙ c.in_ok-order.ensures) is) c.sites_of.ensures

pub returns-clause-narrow : goal.returns-clause-narrow
returns-clause-narrow c =
    IfOk-weaker c.sites_of.result _ _ (λ found is. are_narrow c.args.leaf.now c.args.sites.now c.args.addresses.now c.args.path.now c.args.count (spots_of c.as_slice.result.now) found.items c.requires.parts c.requires.narrow
    (ap spots_of c.as_slice.ensures.value ∙ c.in_ok-order.ensures) is) c.sites_of.ensures
