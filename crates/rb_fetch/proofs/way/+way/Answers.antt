use Rattle.std.proofs.Common.{◌<◌, sym, subst, ap, ◌∙◌, arith}
use Rattle.rb_fetch.specs.inner.Placing.{outer_count}
use Rattle.rb_fetch.proofs.Placing.{some_pointer, above, further_out, root_leads, block_leads}
use Rattle.rb_fetch.proofs.way.+way.Goals as goal

pub returns-in_default : goal.returns-in_default
returns-in_default t c = rw c.new.ensures (root_leads c.args.leaf.now c.requires.leaf c.args.spot c.requires.spot c.in_default.is)

pub unreachable-requires-in-None-find_part : goal.unreachable-requires-in-None-find_part
unreachable-requires-in-None-find_part t c =
    let there = sym c.get.ensures.value ∙ ap Rattle.std.specs.Option.option_copied c.in-Some-get.is in
    some_pointer c.args.leaf.now c.requires.leaf c.in-Some.b c.in-Some-get.block.now there c.in-None-find_part.ensures

pub location-requires : goal.location-requires
location-requires t c =
    let there = sym c.get.ensures.value ∙ ap Rattle.std.specs.Option.option_copied c.in-Some-get.is in
    let out = above c.args.leaf.now c.requires.leaf c.in-Some.b c.in-Some-find_part.pointer c.in-Some-find_part.ensures in
    let less = further_out c.args.leaf.now c.requires.leaf c.in-Some-find_part.pointer.block c.in-Some.b c.in-Some-get.block.now there out in
    let fewer = subst (λ o. outer_count c.args.leaf.now c.in-Some-find_part.pointer.block < outer_count c.args.leaf.now o) (sym c.in-Some.is) less in
    (omega (arith, c.decreases, fewer), (c.requires.leaf, c.in-Some-find_part.ensures.spot))

pub returns : goal.returns
returns t c =
    let there = sym c.get.ensures.value ∙ ap Rattle.std.specs.Option.option_copied c.in-Some-get.is in
    rw (c.in_ok-push-in-Some-find_part.ensures.ok, c.step_to.ensures)
    (block_leads c.args.leaf.now c.requires.leaf c.args.spot c.in-Some.b c.in-Some-get.block.now c.requires.spot c.in-Some.is there c.in-Some-find_part.pointer c.in-Some-find_part.ensures c.in_ok-loc-in-Some-find_part.loc c.in_ok-loc-in-Some-find_part.ensures)
