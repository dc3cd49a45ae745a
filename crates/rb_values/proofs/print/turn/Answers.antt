use Rattle.std.proofs.Common.{◌<◌, length, arith}
use Rattle.rb_core.specs.Values.{subs}
use Rattle.rb_values.specs.Nodes.{at}
use Rattle.rb_values.proofs.PrintLemmas as print
use Rattle.rb_values.proofs.print.turn.Goals as goal

pub returns : goal.returns
returns c = let o = c.in_ok-open_value.ensures in
    let h : c.args.frame.next < length (subs (at c.args.nodes.now c.args.frame.node)) = omega arith in
    print.turned_field c.args.types.now c.args.nodes.now c.args.frame c.child-child.result c.args.stack.now.items c.open_value.new.stack.items
    c.args.out.now.items c.write_before.new.out.items c.open_value.new.out.items c.requires.frames c.requires.frame h c.child-child.ensures.value
    c.in_ok-write_before.ensures (rw (c.in_ok-push.ensures.items, c.field_of-ty.ensures) at o)
