use Rattle.rb_layout.specs.declared.layout.Leaf.{Leaf}
use Rattle.rb_agree.specs.Pointing.{LeafPoints}
use Rattle.rb_agree.proofs.Lists.{at-item, before-more, before-all}
use Rattle.rb_agree.proofs.Marking.{none-of}
use Rattle.rb_agree.proofs.pointers.leaves_point.Goals as goal

pub returns-then-leaf_points : goal.returns-then-leaf_points
returns-then-leaf_points c =
    (c.loop-leaf.leaf-index, c.leaf-item.result, at-item c.args.leaves.now c.loop-leaf.leaf-index c.leaf-item.result c.loop-leaf-test.true c.leaf-item.is, c.if-leaf_points.ensures)

pub loop-leaf-preserved : goal.loop-leaf-preserved
loop-leaf-preserved c =
    before-more (λ (x : Leaf). LeafPoints x → ⊥) c.args.leaves.now c.loop-leaf.leaf-index c.leaf-item.result c.loop-leaf-test.true c.leaf-item.is c.if-leaf_points.ensures c.loop-leaf.invariant

pub returns : goal.returns
returns c =
    none-of LeafPoints c.args.leaves.now (before-all (λ (x : Leaf). LeafPoints x → ⊥) c.args.leaves.now c.loop-leaf.leaf-index c.loop-leaf-test.false c.loop-leaf.invariant)
