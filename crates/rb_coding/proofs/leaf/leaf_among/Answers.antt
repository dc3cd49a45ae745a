use Rattle.std.proofs.Common.{sym}
use Rattle.rb_coding.proofs.LeafLemmas.{leaf_found}
use Rattle.rb_coding.proofs.leaf.leaf_among.Goals as goal

pub returns-then-matches : goal.returns-then-matches
returns-then-matches c =
    leaf_found c.args.leaves.now _ c.loop-leaf.leaf-index c.leaf-item.result c.loop-leaf.invariant c.loop-leaf-test.true c.leaf-item.is (sym c.if-matches.ensures)
