use Rattle.rb_agree.proofs.Ruling.{ItemsPass}
use Rattle.rb_agree.proofs.rules.items_fault.Given as goal

abbrev pub invariant-loop-i : goal.invariant-loop-i
invariant-loop-i l = ItemsPass l.program l.leaf l.items l.i
