use Rattle.rb_values.proofs.PrintLemmas as print
use Rattle.rb_values.proofs.print.open_value.Goals as goal

pub returns-in_ok-push_number-in-Num : goal.returns-in_ok-push_number-in-Num
returns-in_ok-push_number-in-Num c = print.opened_number c.args.types.now c.args.nodes.now c.args.node c.in-Num.n c.args.ty c.args.stack.now.items c.args.out.now.items c.push_number.new.text.items
    c.in-Num.ensures c.in_ok-push_number-in-Num.ensures.ok

pub returns-in_ok-push-in-Con : goal.returns-in_ok-push-in-Con
returns-in_ok-push-in-Con c = let t = c.con_ref-con.ensures in
    rw c.in_ok-push-in-Con.ensures.items (rw t (print.opened_con c.args.types.now c.args.nodes.now c.args.node c.in-Con.k c.args.ty c.args.stack.now.items c.args.out.now.items c.push_con.new.text.items
    c.requires c.in-Con.ensures.0 (rw t at c.in_ok-push_con-in-Con.ensures.ok)))
