use Rattle.std.proofs.Common.{◌≡◌, ◌++◌}
use Rattle.rb_values.specs.Nodes.{at}
use Rattle.rb_values.specs.Texts.{text_of}
use Rattle.rb_values.specs.inner.Printing.{text_to_write, work, AreFrames}
use Rattle.rb_values.proofs.print.print_node.Given as goal

abbrev pub invariant-loop-frame : goal.invariant-loop-frame
invariant-loop-frame l = record {
  frames : AreFrames l.nodes l.stack.items;
  text : l.out.items ++ text_to_write l.types l.nodes l.stack.items ≡ text_of l.types (at l.nodes l.root) l.fn.ty;
}

abbrev pub decreases-loop-frame : goal.decreases-loop-frame
decreases-loop-frame l = work l.nodes l.stack.items
