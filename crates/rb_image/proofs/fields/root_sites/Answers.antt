use Rattle.std.proofs.Common.{◌+◌, ◌-◌, ◌∷◌, [], ◌++◌, sym, ap, ◌∙◌, append_assoc}
use Rattle.rb_image.specs.inner.Siting.{sites_from, whole_root}
use Rattle.rb_image.proofs.RootSiteLemmas.{all_found, root_count, root_narrow, root_words}
use Rattle.rb_image.proofs.SitingLemmas.{sites_more}
use Rattle.rb_image.proofs.fields.root_sites.Goals as goal

pub loop-number-preserved : goal.loop-number-preserved
loop-number-preserved c =
    let j = c.loop-number.number in
    let before = c.loop-number.found.items in
    let rest = sites_from whole_root (j + 1) (c.args.count - (j + 1)) in
    c.loop-number.invariant ∙ ap (λ ys. before ++ ys) (sites_more whole_root j c.args.count c.loop-number-test.true)
    ∙ sym (append_assoc before (whole_root j ∷ []) rest)
    ∙ ap (λ zs. zs ++ rest) (sym c.in_ok-push.ensures.items)

pub returns-clause-words : goal.returns-clause-words
returns-clause-words c = root_words c.args.count c.loop-number.found.items (all_found c.args.count c.loop-number.number c.loop-number.found.items c.loop-number-test.false c.loop-number.invariant)

pub returns-clause-count : goal.returns-clause-count
returns-clause-count c = root_count c.args.count c.loop-number.found.items (all_found c.args.count c.loop-number.number c.loop-number.found.items c.loop-number-test.false c.loop-number.invariant)

pub returns-clause-narrow : goal.returns-clause-narrow
returns-clause-narrow c = root_narrow c.args.count c.loop-number.found.items (all_found c.args.count c.loop-number.number c.loop-number.found.items c.loop-number-test.false c.loop-number.invariant)
