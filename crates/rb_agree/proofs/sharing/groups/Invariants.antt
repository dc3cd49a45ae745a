use Rattle.rb_agree.proofs.Grouping.{GroupsSoFar}
use Rattle.rb_agree.proofs.sharing.groups.Given as goal

abbrev pub invariant-loop-con : goal.invariant-loop-con
invariant-loop-con l = GroupsSoFar l.heads l.con l.groups
