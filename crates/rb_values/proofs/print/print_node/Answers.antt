use Rattle.std.proofs.Common.{◌∙◌}
use Rattle.rb_values.proofs.PrintLemmas as print
use Rattle.rb_values.proofs.print.print_node.Goals as goal

pub turn-requires-clause-frame : goal.turn-requires-clause-frame
turn-requires-clause-frame c = (print.frames-pop c.args.nodes.now c.pop.new.self.items c.in-Some.frame (rw c.in-Some.ensures.items at c.loop-frame.invariant.frames)).1

pub turn-requires-clause-frames : goal.turn-requires-clause-frames
turn-requires-clause-frames c = (print.frames-pop c.args.nodes.now c.pop.new.self.items c.in-Some.frame (rw c.in-Some.ensures.items at c.loop-frame.invariant.frames)).0

pub loop-frame-preserved : goal.loop-frame-preserved
loop-frame-preserved c =
    let t = c.in_ok-turn.ensures in
    let p = print.pending-push c.args.types.now c.args.nodes.now c.pop.new.self.items c.in-Some.frame in
    record {
      frames = t.frames;
      text = t.text ∙ (rw (c.in-Some.ensures.items, p) at c.loop-frame.invariant.text);
    }
