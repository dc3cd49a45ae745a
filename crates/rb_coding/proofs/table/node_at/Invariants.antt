use Rattle.std.proofs.Common.{◌≡◌, drop}
use Rattle.rb_coding.specs.inner.Nodes.{node_at as the_node}
use Rattle.rb_coding.proofs.table.node_at.Given as goal

abbrev pub invariant-loop-field : goal.invariant-loop-field
invariant-loop-field l = the_node l.nodes l.sizes l.fn.root l.path ≡ the_node l.nodes l.sizes l.node (drop l.field-index l.path)
