use Rattle.rb_match.proofs.Groups.{above}
use Rattle.rb_match.proofs.LeafTests.{asks_leaf, leaf_stand}
use Rattle.rb_match.proofs.asking.ask_leaf.Goals as goal

pub returns-clause-asks : goal.returns-clause-asks
returns-clause-asks c =
    rw (c.in_ok-edges.ensures, c.as_slice-2.ensures)
    (asks_leaf c.args.agreed.now c.args.nodes.now c.args.ty c.args.test.now.position c.args.test.now.known.now c.args.test.now.arms.now c.args.test.now.other c.args.reads.now c.args.body.now c.find_group_of.new.body c.in_ok-groups.groups c.in_ok-holes.holes
    (rw c.as_slice.ensures at c.in_ok-holes.ensures.group) c.in_ok-groups.ensures)

pub returns-clause-stand : goal.returns-clause-stand
returns-clause-stand c =
    let bound = above c.in_ok-groups.groups in
    rw (c.in_ok-edges.ensures, c.as_slice-2.ensures)
    (leaf_stand c.args.agreed.now c.args.nodes.now c.args.ty c.args.test.now.position c.args.test.now.known.now c.args.test.now.arms.now c.args.test.now.other c.args.body.now c.find_group_of.new.body bound.0 c.in_ok-holes.holes
    ((rw c.as_slice.ensures at c.in_ok-holes.ensures.holes) bound.0 bound.1) c.in_ok-holes.ensures.ways)
