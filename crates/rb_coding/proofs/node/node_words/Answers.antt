use Rattle.std.proofs.Common.{sym}
use Rattle.rb_coding.proofs.node.node_words.Goals as goal

pub returns-in-Some : goal.returns-in-Some
returns-in-Some g c = rw c.in-Named.is (c.in-Some.leaf.now, sym c.in-Some.ensures, c.leaf_words.ensures)
