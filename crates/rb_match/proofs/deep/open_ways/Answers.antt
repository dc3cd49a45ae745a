use Rattle.std.proofs.Common.{length, ◌≡◌, ◌<◌, Some, subst, sym, ap, ◌∙◌, arith, refl}
use Rattle.std.proofs.lemmas.Option.{same_Some, slice_get-get_or}
use Rattle.rb_match.specs.inner.Opening.{LeadsLeaf, LeadsSome, StandBehind}
use Rattle.rb_match.proofs.Groups.{above}
use Rattle.rb_match.proofs.Opening.{alone_at, ways_lead, ways_open, ways_part, ways_stand}
use Rattle.rb_match.proofs.deep.open_ways.Goals as goal

pub loop-leaf-init : goal.loop-leaf-init
loop-leaf-init c =
    let found = c.find_group.new.body in
    let holes = c.in_ok-holes.holes in
    let groups = c.in_ok-groups.groups in
    let bound = above groups in
    rw (c.new-edges.ensures, c.as_slice-holes.ensures) (record {
      leads = (
        groups,
        c.in_ok-groups.ensures,
        λ graph arms other. ways_lead c.args.agreed.now graph c.args.part.now.ty c.args.part.now.words.now c.args.part.now.spots.now c.args.part.now.known.now c.args.part.now.position arms other c.args.onward.now c.args.body.now found groups holes (rw c.as_slice.ensures at c.in_ok-holes.ensures.group),
      );
      stands = (
        length found.code,
        c.in_ok-holes.ensures.grows.longer,
        ways_stand c.args.body.now found bound.0 holes ((rw c.as_slice.ensures at c.in_ok-holes.ensures.holes) bound.0 bound.1) c.in_ok-holes.ensures.grows,
      );
    })

pub open_way-requires : goal.open_way-requires
open_way-requires c = λ h i. (c.loop-leaf.invariant.stands.2.are_holes h i).2

pub loop-leaf-preserved : goal.loop-leaf-preserved
loop-leaf-preserved c =
    let onward = c.args.onward.now in
    let i = c.loop-leaf.leaf in
    let inv = rw c.as_slice-holes.ensures at c.loop-leaf.invariant in
    let step = rw c.as_slice-holes.ensures at c.in_ok-edges.ensures.steps in
    let ways = c.in_ok-holes.ensures.ways in
    let st = inv.stands in
    let l = inv.leads in
    let found = c.index-onward-leaf.result in
    let lt : i < length onward = omega (arith, c.loop-leaf-test.true, c.loop-leaf.auto.leaf-end) in
    let at = slice_get-get_or onward i found lt ∙ ap Some (sym c.index-onward-leaf.is) in
    let alone = alone_at onward l.0 l.1 i found lt at in
    rw c.as_slice-holes.ensures (record {
      leads = (
        l.0,
        l.1,
        λ graph arms other plan n goes of are low count.
            let g = goes.each i (let z = goes.long in omega (arith, z, lt)) in
            let lead = subst (LeadsLeaf c.args.agreed.now graph c.args.part.now.ty c.args.part.now.known.now c.args.part.now.position arms other i) (same_Some g.0 found (sym g.1 ∙ at)) g.2 in
            step.leads c.args.part.now.known.now graph arms other l.0 plan n c.args.body.now st.0 lead alone of are low count ways st.2 (l.2 graph arms other plan n goes of are low count),
      );
      stands = (st.0, st.1, step.stands c.args.body.now st.0 st.2);
    })

pub returns-in-None-clause-leads : goal.returns-in-None-clause-leads
returns-in-None-clause-leads c =
    let onward = c.args.onward.now in
    let old = c.args.body.now in
    let new = c.loop-leaf.body in
    let holes = c.as_slice-holes.result.now in
    let edges = c.loop-leaf.edges in
    let end : c.loop-leaf.leaf ≡ length onward = omega (arith, c.loop-leaf-test.false, c.loop-leaf.auto.leaf-end) in
    let st = subst (λ i. StandBehind old holes i new edges) end c.loop-leaf.invariant.stands in
    let l = subst (λ i. LeadsSome c.args.agreed.now c.args.part.now.ty c.args.part.now.words.now c.args.part.now.spots.now c.args.part.now.known.now c.args.part.now.position onward i old holes new edges) end c.loop-leaf.invariant.leads in
    rw (c.in-None.ensures, c.in_ok-shared.ensures) (λ graph arms other plan n goes of are low count.
    ways_part c.args.part.now.nodes.now c.args.part.now.known.now holes (length onward) old new edges st.0 st.1 st.2 c.args.agreed.now graph c.args.part.now.ty c.args.part.now.words.now c.args.part.now.spots.now c.args.part.now.position arms other onward l.0 plan n refl l.1 goes of are
    (l.2 graph arms other plan n goes of are low count))

pub returns-in-None-clause-stands : goal.returns-in-None-clause-stands
returns-in-None-clause-stands c =
    let onward = c.args.onward.now in
    let old = c.args.body.now in
    let new = c.loop-leaf.body in
    let holes = c.as_slice-holes.result.now in
    let edges = c.loop-leaf.edges in
    let end : c.loop-leaf.leaf ≡ length onward = omega (arith, c.loop-leaf-test.false, c.loop-leaf.auto.leaf-end) in
    let st = subst (λ i. StandBehind old holes i new edges) end c.loop-leaf.invariant.stands in
    rw (c.in-None.ensures, c.in_ok-shared.ensures) (ways_open c.args.part.now.nodes.now c.args.part.now.known.now holes (length onward) old new edges st.0 st.1 st.2 (rw c.as_slice-holes.ensures c.in_ok-holes.ensures.ways) st.2.grows)

pub returns-in-None-clause-grows : goal.returns-in-None-clause-grows
returns-in-None-clause-grows c = c.loop-leaf.invariant.stands.2.grows
