use Rattle.rb_agree.specs.inner.Sharing.{HaveBefore}
use Rattle.rb_agree.proofs.sharing.members.Given as goal

abbrev pub invariant-loop-m : goal.invariant-loop-m
invariant-loop-m l = HaveBefore l.heads l.con l.m l.members
